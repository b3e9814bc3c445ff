-- Laws of a whole call: what the outcome of `run` tells of the meaning of its text; that a run gives the ending that
-- its machine has, and the meaning's where it comes within what the instructions allow; and that every other command,
-- where its file isn't refused and nothing outside failed, is done.
use Rattle.std.specs.Prelude.{◌≡◌, ℕ, ◌≤◌, false, List, length, Option, Some, None, Ok, nat_lt}
use Rattle.std.specs.Io.KnownBytes.{Appends}
use Rattle.host_edge.specs.declared.ending.Ending.{Ending}
use Rattle.history.specs.Events.{Ended, output}
use Rattle.image_file.specs.Image.{ImageParts}
use Rattle.mips_model.specs.Choices.{Choice}
use Rattle.mips_model.specs.Run.{runs}
use Rattle.staged_meaning.specs.Meaning.{Program, meant}
use Rattle.wellformed.specs.declared.typed.Typed.{Typed}
use Rattle.source_commands.specs.Texts.{typed_tree, Means, IsProgramOf}
use Rattle.tick_gen.specs.Source.{source}
use Rattle.command_words.specs.Orders.{Order, run, mean, of_file, gen}
use Rattle.command_words.specs.Words.{order_of}
use Rattle.tick_outcome.specs.declared.outcome.Outcome.{Outcome}
use Rattle.tick_outcome.specs.declared.outcome.Outcome.TheVariants.{Done, Trap, MachineFault, OutOfSteps, ReadFault}
use Rattle.tick_outcome.specs.declared.outcome.Outcome.TheVariants.{WriteFault}
use Rattle.tick_outcome.specs.declared.ended.Ended as code
use Rattle.image_commands.specs.Outside.{Outside, Failures}
use Rattle.image_commands.specs.Answers.{longest_text}
use Rattle.source_commands.specs.Top.{Ticked}
use Rattle.image_commands.specs.Seen.{told, outcome_at, Moves, IsScannedRun, account_of, ShowsRun}
use Rattle.source_commands.specs.Rows.{file_of, refusal, most_steps, most_units}
use Rattle.source_commands.specs.Evaluations.{MeanIsMeant}
use Rattle.source_commands.specs.Meant.{allowed, RunIsMeant, Unfailed}

-- a call: what was told and counted before and after it, and what it answered
pub record Call : Type 0 where
  pub words : List (List ℕ)
  pub old : Outside
  pub new : Outside
  pub before : Failures
  pub now : Failures
  pub said_before : Option (List ℕ)
  pub said_now : Option (List ℕ)
  pub err_before : ℕ
  pub err_now : ℕ
  pub ended : code.Ended

abbrev pub Did : Call → Type 0
Did c = Ticked c.words c.old c.new c.before c.now c.said_before c.said_now c.err_before c.err_now c.ended

abbrev pub NothingFailed : Call → Type 0
NothingFailed c = Unfailed c.before c.now c.err_before c.err_now

-- an outcome of a run that began; the others come before it
abbrev pub IsOfRun : Outcome → Type 0
IsOfRun (Done status) = Unit {0}
IsOfRun (Trap kind) = Unit {0}
IsOfRun (MachineFault kind at) = Unit {0}
IsOfRun (OutOfSteps steps) = Unit {0}
IsOfRun ReadFault = Unit {0}
IsOfRun WriteFault = Unit {0}
IsOfRun other = ⊥

-- the outcome of `run` is that of the meaning of its text
abbrev pub RunMeans : Type 0
RunMeans =
    (c : Call) (file : List ℕ) (steps : ℕ) (outcome : Outcome) → Did c
    → order_of c.words ≡ Ok (of_file (run file steps))
    → c.ended.outcome ≡ outcome → IsOfRun outcome → RunIsMeant file steps c.old c.new outcome

-- Where the file and the input are told, the text is accepted, its meaning ends within what the instructions allow and
-- nothing outside fails, `run` gives that ending, and has read and put out what is meant.
abbrev pub RunCompletes : Type 0
RunCompletes =
    (c : Call) (file text : List ℕ) (steps : ℕ) (program : Program) (bytes : List ℕ) (units : ℕ) (end : Ending)
    → Did c → NothingFailed c → order_of c.words ≡ Ok (of_file (run file steps)) → c.old.file file ≡ Some (Some text)
    → nat_lt longest_text (length text) ≡ false → IsProgramOf text program → c.old.left ≡ Some bytes
    → (meant program (told bytes) units).ending ≡ Some (Ended end) → allowed units ≤ steps
    → (c.ended.outcome ≡ outcome_at steps (Some (Ended end)))
    × Moves c.old.left c.new.left c.old.taken c.new.taken (meant program (told bytes) units).history

-- what a call shows of the image that it hands back is the image's run under the choices of linear scan, and so are the
-- instructions, the counts and the places that it hands back
abbrev pub ShowsRuns : Type 0
ShowsRuns =
    (c : Call) (order : Order) (steps : ℕ) (image : ImageParts) → Did c → order_of c.words ≡ Ok (of_file order) →
    most_steps order ≡ Some steps
    → c.ended.image ≡ Some image
    → ShowsRun steps image (account_of c.ended) c.old.left c.new.left c.old.taken c.new.taken c.ended.outcome

-- an outcome of an evaluation whose input was read
abbrev pub IsOfEvaluation : Outcome → Type 0
IsOfEvaluation (Done status) = Unit {0}
IsOfEvaluation (Trap kind) = Unit {0}
IsOfEvaluation (OutOfSteps steps) = Unit {0}
IsOfEvaluation WriteFault = Unit {0}
IsOfEvaluation other = ⊥

-- the outcome of `mean` is that of the meaning of its text on the whole input, and so is what was written
abbrev pub MeanMeans : Type 0
MeanMeans =
    (c : Call) (file : List ℕ) (units : ℕ) (outcome : Outcome) → Did c
    → order_of c.words ≡ Ok (of_file (mean file units))
    → c.ended.outcome ≡ outcome → IsOfEvaluation outcome → MeanIsMeant c.words c.old c.new outcome

-- Where the file and the input are told and neither is too long, the text is accepted and nothing outside fails, `mean`
-- gives the ending that the meaning has within the units, or that it has none, and has written what is meant.
abbrev pub MeanCompletes : Type 0
MeanCompletes =
    (c : Call) (file text : List ℕ) (units : ℕ) (tree : Typed) (program : Program) (bytes : List ℕ)
    → Did c → NothingFailed c → order_of c.words ≡ Ok (of_file (mean file units)) → c.old.file file ≡ Some (Some text)
    → nat_lt longest_text (length text) ≡ false → typed_tree text ≡ Ok tree → Means tree program
    → c.old.left ≡ Some bytes → nat_lt longest_text (length bytes) ≡ false
    → (c.ended.outcome ≡ outcome_at units (meant program (told bytes) units).ending)
    × Appends c.old.taken c.new.taken (output (meant program (told bytes) units).history)

-- Where the file is told and isn't refused and nothing outside fails, a command that runs no machine and evaluates
-- nothing is done, and one that runs a machine hands the image back and, on told input, gives the ending that the run
-- has within the instructions, under the choices of linear scan.
abbrev pub CommandsComplete : Type 0
CommandsComplete =
    (c : Call) (order : Order) (file : List ℕ) → Did c → NothingFailed c → order_of c.words ≡ Ok (of_file order)
    → c.old.file (file_of order) ≡ Some (Some file) → refusal order file ≡ None
    → (most_steps order ≡ None → most_units order ≡ None → c.ended.outcome ≡ Done 0)
    × ((steps : ℕ) (bytes : List ℕ) → most_steps order ≡ Some steps → c.old.left ≡ Some bytes → (image : ImageParts)
    × (c.ended.image ≡ Some image) × ((row : List Choice) × IsScannedRun image (told bytes) row steps
    × (c.ended.outcome ≡ outcome_at steps (runs image (told bytes) row steps).ending)))

-- where nothing outside fails, `gen` is done, and has written the source
abbrev pub SourcesComplete : Type 0
SourcesComplete =
    (c : Call) (number : ℕ) → Did c → NothingFailed c → order_of c.words ≡ Ok (gen number)
    → (c.ended.outcome ≡ Done 0) × Appends c.old.taken c.new.taken (source number)
