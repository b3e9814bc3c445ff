-- When each outcome comes: a refusal exactly where the file's bytes are refused so, and an ending exactly where the
-- machine's run of the image ends so. The order of refusals (words, load, length, content) is the product's own.
use Rattle.std.specs.Prelude.{◌≡◌, ◌≢◌, ◌↔◌, ◌⊎◌, ℕ, ◌+◌, List, length, Option, Some, None, Result, Ok, Err}
use Rattle.std.specs.Prelude.{nat_lt, true, if◌then◌else◌}
use Rattle.host_edge.specs.Files.{Loads}
use Rattle.host_edge.specs.declared.ending.Ending.TheVariants as ending
use Rattle.host_edge.specs.declared.ending.MachineKind.{MachineKind}
use Rattle.host_edge.specs.declared.ending.TrapKind.{TrapKind}
use Rattle.history.specs.Events as event
use Rattle.history.specs.Events.{End, Input}
use Rattle.image_file.specs.Image.{ImageParts}
use Rattle.image_file.specs.Format.{parsed}
use Rattle.image_file.specs.declared.fault.ImageFault.{ImageFault}
use Rattle.mips_model.specs.Choices.{Choice}
use Rattle.mips_model.specs.Run.{runs}
use Rattle.mips_text.specs.Assembly.{assembled}
use Rattle.asm_passes.specs.declared.fault.AsmFault.{AsmFault}
use Rattle.staged_meaning.specs.Meaning.{Program}
use Rattle.tick_tree.specs.declared.fault.Fault.{Fault}
use Rattle.wellformed.specs.declared.typed.Typed.{Typed}
use Rattle.source_commands.specs.Texts.{typed_tree}
use Rattle.command_words.specs.Orders.{Order, run, build, exec, mean, asm, dis, of_file}
use Rattle.command_words.specs.Words.{order_of}
use Rattle.tick_outcome.specs.declared.outcome.Outcome.{Outcome}
use Rattle.tick_outcome.specs.declared.outcome.Outcome.TheVariants.{Refused, AsmRefused, LoadFault, TooLong, BadImage}
use Rattle.tick_outcome.specs.declared.outcome.Outcome.TheVariants.{Trap, MachineFault, OutOfSteps, ReadFault}
use Rattle.tick_outcome.specs.declared.outcome.Outcome.TheVariants.{WriteFault}
use Rattle.tick_outcome.specs.declared.ended.Ended.{Ended}
use Rattle.image_commands.specs.Outside.{Files, Outside}
use Rattle.image_commands.specs.Answers.{longest_text, longest_image}
use Rattle.image_commands.specs.Seen.{IsInput, IsScannedRun}
use Rattle.source_commands.specs.Evaluations.{InputTooLong, Evaluation, seen_of, EvaluationEnds}

-- ---- refusals

-- the file that an order loads, and the most bytes that it may have
abbrev pub file_of : Order → List ℕ
file_of (run file steps) = file
file_of (build file path) = file
file_of (exec file steps) = file
file_of (mean file units) = file
file_of (asm file path) = file
file_of (dis file) = file

abbrev pub longest_of : Order → ℕ
longest_of (run file steps) = longest_text
longest_of (build file path) = longest_text
longest_of (exec file steps) = longest_image
longest_of (mean file units) = longest_text
longest_of (asm file path) = longest_text
longest_of (dis file) = longest_image

abbrev pub text_refusal : Result Typed Fault → Option Outcome
text_refusal (Ok tree) = None
text_refusal (Err fault) = Some (Refused fault)

abbrev pub assembly_refusal : Result ImageParts AsmFault → Option Outcome
assembly_refusal (Ok image) = None
assembly_refusal (Err fault) = Some (AsmRefused fault)

abbrev pub image_refusal : Result ImageParts ImageFault → Option Outcome
image_refusal (Ok image) = None
image_refusal (Err fault) = Some (BadImage fault)

-- why the bytes of a file aren't what an order takes, if they aren't: `run`, `build` and `mean` take a text of the
-- language, `asm` an assembly text, `exec` and `dis` an image
abbrev pub content_refusal : Order → List ℕ → Option Outcome
content_refusal (run file steps) bytes = text_refusal (typed_tree bytes)
content_refusal (build file path) bytes = text_refusal (typed_tree bytes)
content_refusal (exec file steps) bytes = image_refusal (parsed bytes)
content_refusal (mean file units) bytes = text_refusal (typed_tree bytes)
content_refusal (asm file path) bytes = assembly_refusal (assembled bytes)
content_refusal (dis file) bytes = image_refusal (parsed bytes)

abbrev pub refusal : Order → List ℕ → Option Outcome
refusal order bytes = if nat_lt (longest_of order) (length bytes) then Some TooLong else content_refusal order bytes

-- the outcome is the refusal of the bytes that were loaded from the file of the words' order
pub record Refuses (words : List (List ℕ)) (files : Files) (outcome : Outcome) : Type 0 where
  pub order : Order
  pub ordered : order_of words ≡ Ok (of_file order)
  pub bytes : List ℕ
  pub loads : Loads (files (file_of order)) (longest_of order + 1) bytes
  pub refused : refusal order bytes ≡ Some outcome

-- An outcome is a refusal: it comes only of bytes that are refused so, and where the file is told and was loaded,
-- exactly then.
pub record IsRefusal (words : List (List ℕ)) (files : Files) (last outcome : Outcome) : Type 0 where
  pub only : last ≡ outcome → Refuses words files outcome
  pub exactly : (order : Order) (file : List ℕ) → order_of words ≡ Ok (of_file order)
      → files (file_of order) ≡ Some (Some file) → last ≢ LoadFault →
      (last ≡ outcome) ↔ (refusal order file ≡ Some outcome)

-- the most units of work of an order that evaluates the meaning
abbrev pub most_units : Order → Option ℕ
most_units (mean file units) = Some units
most_units other = None

-- A file is too long, or the input of `mean` is. Where the file is told and was loaded the outcome comes exactly where
-- the file is too long; and with `mean`, whose input is told and didn't fail, where the text is accepted and the input
-- is too long.
pub record IsTooLong (words : List (List ℕ)) (old new : Outside) (last : Outcome) : Type 0 where
  pub only : last ≡ TooLong → Refuses words old.file TooLong ⊎ InputTooLong words old new
  pub exactly : (order : Order) (file : List ℕ) → order_of words ≡ Ok (of_file order)
      → old.file (file_of order) ≡ Some (Some file) → last ≢ LoadFault → most_units order ≡ None →
      (last ≡ TooLong) ↔ (refusal order file ≡ Some TooLong)
  pub of_input : (name : List ℕ) (units : ℕ) (file bytes : List ℕ) → order_of words ≡ Ok (of_file (mean name units))
      → old.file name ≡ Some (Some file) → old.left ≡ Some bytes → last ≢ LoadFault → last ≢ ReadFault →
      (last ≡ TooLong)
      ↔ ((refusal (mean name units) file ≡ Some TooLong)
      ⊎ ((refusal (mean name units) file ≡ None) × (nat_lt longest_text (length bytes) ≡ true)))

-- ---- endings

-- the most instructions of an order that runs a machine
abbrev pub most_steps : Order → Option ℕ
most_steps (run file steps) = Some steps
most_steps (exec file steps) = Some steps
most_steps other = None

-- The words run a machine for at most so many instructions, and so its run of the image that is handed back ends within
-- them, on the call's input and under choices of places that are linear scan's; or hasn't ended.
pub record RunEnds (words : List (List ℕ)) (old new : Outside) (e : Ended) (steps : ℕ) (end : Option End) : Type 0 where
  pub order : Order
  pub ordered : order_of words ≡ Ok (of_file order)
  pub most : most_steps order ≡ Some steps
  pub image : ImageParts
  pub handed_back : e.image ≡ Some image
  pub input : Input
  pub is_input : IsInput old.left new.left e.outcome input
  pub row : List Choice
  pub scanned : IsScannedRun image input row steps
  pub ending : (runs image input row steps).ending ≡ end

-- An outcome, given by the most instructions, is that of an ending: it comes only of a run that ends so, and where the
-- input is told and no write failed, always.
pub record IsOfEnding (words : List (List ℕ)) (old new : Outside) (e : Ended) (outcome : ℕ → Outcome) (end : Option End)
    : Type 0 where
  pub only : (n : ℕ) → e.outcome ≡ outcome n →
      (steps : ℕ) × (outcome steps ≡ outcome n) × RunEnds words old new e steps end
  pub always : (steps : ℕ) (bytes : List ℕ) → old.left ≡ Some bytes → RunEnds words old new e steps end
      → e.outcome ≢ WriteFault → e.outcome ≡ outcome steps

-- The same of a run or of the meaning that `mean` evaluates: where its file and its input are told and nothing failed,
-- the outcome comes of it too.
pub record IsOfEither (words : List (List ℕ)) (old new : Outside) (e : Ended) (outcome : ℕ → Outcome) (end : Option End)
    : Type 0 where
  pub only : (n : ℕ) → e.outcome ≡ outcome n →
      (steps : ℕ) × (outcome steps ≡ outcome n) ×
      (RunEnds words old new e steps end ⊎ EvaluationEnds words old new steps end)
  pub always : (steps : ℕ) (bytes : List ℕ) → old.left ≡ Some bytes → RunEnds words old new e steps end
      → e.outcome ≢ WriteFault → e.outcome ≡ outcome steps
  pub evaluated : (v : Evaluation words old new) (file bytes : List ℕ) → old.file v.of.file ≡ Some (Some file)
      → old.left ≡ Some bytes → (seen_of v).ending ≡ end → e.outcome ≢ LoadFault → e.outcome ≢ ReadFault
      → e.outcome ≢ WriteFault → e.outcome ≡ outcome v.of.units

-- the words execute a saved image
abbrev pub Executes : List (List ℕ) → Type 0
Executes words = (file : List ℕ) × (steps : ℕ) × (order_of words ≡ Ok (of_file (exec file steps)))

-- ---- the rows, each of what a call answered

abbrev pub RefusedRow : List (List ℕ) → Outside → Ended → Type 0
RefusedRow words old e = (fault : Fault) → IsRefusal words old.file e.outcome (Refused fault)

abbrev pub AsmRefusedRow : List (List ℕ) → Outside → Ended → Type 0
AsmRefusedRow words old e = (fault : AsmFault) → IsRefusal words old.file e.outcome (AsmRefused fault)

abbrev pub TooLongRow : List (List ℕ) → Outside → Outside → Ended → Type 0
TooLongRow words old new e = IsTooLong words old new e.outcome

abbrev pub BadImageRow : List (List ℕ) → Outside → Ended → Type 0
BadImageRow words old e = (fault : ImageFault) → IsRefusal words old.file e.outcome (BadImage fault)

abbrev pub TrapRow : List (List ℕ) → Outside → Outside → Ended → Type 0
TrapRow words old new e = (kind : TrapKind) →
    IsOfEither words old new e (λ steps. Trap kind) (Some (event.Ended (ending.Trap kind)))

-- a fault of the machine comes of `exec` alone
abbrev pub MachineFaultRow : List (List ℕ) → Outside → Outside → Ended → Type 0
MachineFaultRow words old new e = (kind : MachineKind) (at : ℕ)
    → (e.outcome ≡ MachineFault kind at → Executes words)
    × IsOfEnding words old new e (λ steps. MachineFault kind at) (Some (event.Fault kind at))

abbrev pub OutOfStepsRow : List (List ℕ) → Outside → Outside → Ended → Type 0
OutOfStepsRow words old new e = IsOfEither words old new e OutOfSteps None
