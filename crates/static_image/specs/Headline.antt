-- The headline: what is promised of the image of a program, for every input, every number of units and of instructions
-- and every legal choice of register places. What the machine tells follows what is meant and keeps pace with it; the
-- machine ends in time, and ends only so; it never stops with a fault of the machine; and no word is executed that
-- isn't the image's, or that wasn't flushed after it was written.
use Rattle.std.specs.Prelude.{◌≢◌, ℕ, List, Some}
use Rattle.host_edge.specs.declared.ending.MachineKind.{MachineKind}
use Rattle.pace.specs.Pace.{Seen, FourParts, instructions_of_a_unit, instructions_besides, retold}
use Rattle.history.specs.Events.{End, Input, Fault}
use Rattle.image_file.specs.Image.{ImageParts}
use Rattle.mips_model.specs.Choices.{Choice}
use Rattle.staged_meaning.specs.Meaning.{Program, meant}
use Rattle.mips_model.specs.Run.{runs, IsDefined, IsClean}
use Rattle.mips_model.specs.Told.{Told, tells}
use Rattle.static_image.specs.Told.{told_of}

-- what is meant within so many units, as a machine tells it that does so
abbrev pub told_meaning : Program → ImageParts → Input → ℕ → Seen Told End
told_meaning program image input units = retold (told_of program image) (λ e. e) (meant program input units)

pub record Headline (program : Program) (image : ImageParts) : Type 0 where
  pub faithful : (input : Input) (choices : List Choice)
      → FourParts (IsDefined image input choices) (told_meaning program image input) (tells image input choices)
      instructions_of_a_unit instructions_besides
  pub clean : (input : Input) (choices : List Choice) (n : ℕ) → IsDefined image input choices n →
      IsClean image input choices n
  pub faultless : (input : Input) (choices : List Choice) (n : ℕ) → IsDefined image input choices n
      → (kind : MachineKind) (at : ℕ) → (runs image input choices n).ending ≢ Some (Fault kind at)
  -- each number of instructions has a row of choices for which the run is defined
  pub some : (input : Input) (n : ℕ) → (choices : List Choice) × IsDefined image input choices n
