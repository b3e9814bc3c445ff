-- What an evaluation tells of the meaning of a program on an input, within so many units of work.
use Rattle.std.specs.Prelude.{◌≡◌, ℕ, List}
use Rattle.std.specs.Option.{option_map}
use Rattle.history.specs.Events.{output}
use Rattle.history.specs.Events as event
use Rattle.staged_meaning.specs.Meaning.{Program, meant}
use Rattle.image_commands.specs.Seen.{told}
use Rattle.source_commands.specs.declared.language.Evaluation.{Evaluation}

pub record IsEvaluated (units : ℕ) (program : Program) (input : List ℕ) (it : Evaluation) : Type 0 where
  pub ends : option_map event.Ended it.ending ≡ (meant program (told input) units).ending
  pub puts : it.output ≡ output (meant program (told input) units).history
