-- What `mean` was given: an accepted text and a whole input, or an input that is too long; and how the meaning of its
-- program ends on that input. The order (the text first, and then the input) is the product's own.
use Rattle.std.specs.Prelude.{◌≡◌, ℕ, ◌+◌, List, length, Option, Ok, nat_lt, true, false}
use Rattle.std.specs.Io.KnownBytes.{Appends, Consumes, IsAtEnd}
use Rattle.host_edge.specs.Files.{Loads}
use Rattle.history.specs.Events.{Item, End, output}
use Rattle.pace.specs.Pace.{Seen}
use Rattle.staged_meaning.specs.Meaning.{Program, meant}
use Rattle.wellformed.specs.declared.typed.Typed.{Typed}
use Rattle.source_commands.specs.Texts.{typed_tree, Means}
use Rattle.command_words.specs.Orders.{mean, of_file}
use Rattle.command_words.specs.Words.{order_of}
use Rattle.tick_outcome.specs.declared.outcome.Outcome.{Outcome}
use Rattle.tick_outcome.specs.declared.outcome.Outcome.TheVariants.{WriteFault}
use Rattle.image_commands.specs.Outside.{Files, Outside}
use Rattle.image_commands.specs.Answers.{longest_text}
use Rattle.image_commands.specs.Seen.{told, outcome_at, PutsFront}

-- the words ask for the meaning of a text, which was loaded and is accepted
pub record MeantText (words : List (List ℕ)) (files : Files) : Type 0 where
  pub file : List ℕ
  pub units : ℕ
  pub ordered : order_of words ≡ Ok (of_file (mean file units))
  pub text : List ℕ
  pub loads : Loads (files file) (longest_text + 1) text
  pub short : nat_lt longest_text (length text) ≡ false
  pub tree : Typed
  pub accepted : typed_tree text ≡ Ok tree
  pub program : Program
  pub means : Means tree program

-- and more bytes of input were read than may be
pub record InputTooLong (words : List (List ℕ)) (old new : Outside) : Type 0 where
  pub of : MeantText words old.file
  pub input : List ℕ
  pub read : Consumes old.left new.left input
  pub long : nat_lt longest_text (length input) ≡ true

-- or the whole input was read
pub record Evaluation (words : List (List ℕ)) (old new : Outside) : Type 0 where
  pub of : MeantText words old.file
  pub input : List ℕ
  pub read : Consumes old.left new.left input
  pub at_end : IsAtEnd new.left
  pub few : nat_lt longest_text (length input) ≡ false

-- what is seen of the meaning within the units that the words allow
abbrev pub seen_of : {words : List (List ℕ)} {old new : Outside} → Evaluation words old new → Seen Item End
seen_of v = meant v.of.program (told v.input) v.of.units

-- the meaning ends so within so many units, or hasn't ended
pub record EvaluationEnds (words : List (List ℕ)) (old new : Outside) (units : ℕ) (end : Option End) : Type 0 where
  pub evaluation : Evaluation words old new
  pub allowed : evaluation.of.units ≡ units
  pub ending : (seen_of evaluation).ending ≡ end

-- what an outcome tells of the meaning: its ending, and that all that it puts out was written; a failed write leaves a
-- front part
abbrev pub TellsOf : (units : ℕ) → (taken now : Option (List ℕ)) → Outcome → Seen Item End → Type 0
TellsOf units taken now WriteFault seen = PutsFront taken now seen.history
TellsOf units taken now outcome seen =
    (outcome ≡ outcome_at units seen.ending) × Appends taken now (output seen.history)

pub record MeanIsMeant (words : List (List ℕ)) (old new : Outside) (outcome : Outcome) : Type 0 where
  pub evaluation : Evaluation words old new
  pub tells : TellsOf evaluation.of.units old.taken new.taken outcome (seen_of evaluation)
