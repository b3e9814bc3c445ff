-- What the outcome of `run` tells of the meaning of its text. Where the run ended, the meaning ends alike, and the
-- bytes that were read and put out are the meaning's; where it hadn't ended, neither has the meaning within what the
-- instructions allow; and no outcome is a fault of the machine.
use Rattle.std.specs.Prelude.{◌≡◌, ℕ, ◌+◌, ◌*◌, ◌≤◌, List, length, Some, None, Ok, nat_lt, false}
use Rattle.std.specs.Io.KnownBytes.{Appends}
use Rattle.host_edge.specs.Causes.{Rose}
use Rattle.host_edge.specs.Files.{Loads}
use Rattle.host_edge.specs.declared.ending.Ending.TheVariants as ending
use Rattle.history.specs.Events.{End, Input, output}
use Rattle.history.specs.Events as event
use Rattle.pace.specs.Pace.{IsPrefix, instructions_of_a_unit, instructions_besides}
use Rattle.staged_meaning.specs.Meaning.{Program, meant}
use Rattle.source_commands.specs.Texts.{IsProgramOf}
use Rattle.tick_outcome.specs.declared.outcome.Outcome.{Outcome}
use Rattle.tick_outcome.specs.declared.outcome.Outcome.TheVariants.{Done, Trap, OutOfSteps, ReadFault, WriteFault}
use Rattle.image_commands.specs.Answers.{longest_text}
use Rattle.image_commands.specs.Outside.{Outside, Failures}
use Rattle.image_commands.specs.Seen.{IsInput, Moves, PutsFront}

-- how many instructions so many units of work may take
abbrev pub allowed : (units : ℕ) → ℕ
allowed units = instructions_of_a_unit * units + instructions_besides

-- the meaning ends so within so many units, and all its bytes were read and put out
pub record MeaningEnds (program : Program) (input : Input) (units : ℕ) (old new : Outside) (end : End) : Type 0 where
  pub ending : (meant program input units).ending ≡ Some end
  pub moves : Moves old.left new.left old.taken new.taken (meant program input units).history

-- The meaning hasn't ended within what n instructions allow. What was put out is a front part of what it puts out, and
-- has all that it puts out within what n instructions allow.
pub record MeaningGoesOn (program : Program) (input : Input) (n : ℕ) (old new : Outside) : Type 0 where
  pub unended : (units : ℕ) → allowed units ≤ n → (meant program input units).ending ≡ None
  pub bytes : List ℕ
  pub put_out : Appends old.taken new.taken bytes
  pub follows : IsPrefix bytes (output (meant program input n).history)
  pub keeps_pace : (units : ℕ) → allowed units ≤ n → IsPrefix (output (meant program input units).history) bytes

-- by the outcome of a run of at most n instructions; the machine takes at least an instruction for a unit
abbrev pub TellsMeaning : (program : Program) (input : Input) (n : ℕ) (old new : Outside) → Outcome → Type 0
TellsMeaning program input n old new (Done status) =
    MeaningEnds program input n old new (event.Ended (ending.Done status))
TellsMeaning program input n old new (Trap kind) = MeaningEnds program input n old new (event.Ended (ending.Trap kind))
TellsMeaning program input n old new ReadFault = MeaningEnds program input n old new event.ReadFault
TellsMeaning program input n old new (OutOfSteps steps) = (steps ≡ n) × MeaningGoesOn program input n old new
TellsMeaning program input n old new WriteFault = PutsFront old.taken new.taken (meant program input n).history
TellsMeaning program input n old new other = ⊥

-- the text of the file, which is accepted, and what its run tells of its meaning
pub record RunIsMeant (file : List ℕ) (steps : ℕ) (old new : Outside) (outcome : Outcome) : Type 0 where
  pub text : List ℕ
  pub loads : Loads (old.file file) (longest_text + 1) text
  pub short : nat_lt longest_text (length text) ≡ false
  pub program : Program
  pub accepted : IsProgramOf text program
  pub input : Input
  pub is_input : IsInput old.left new.left outcome input
  pub tells : TellsMeaning program input steps old new outcome

-- nothing outside has failed
pub record Unfailed (before now : Failures) (err_before err_now : ℕ) : Type 0 where
  pub store : Rose before.store now.store → ⊥
  pub input : Rose before.input now.input → ⊥
  pub out : Rose before.out now.out → ⊥
  pub err : Rose err_before err_now → ⊥
