-- What the commands on images and assembly texts read, write, save and answer, and the cause of each outcome. The order
-- of refusals (load, length, content, run or save) is in the definitions themselves; they are the product's own rules.
use Rattle.std.specs.Prelude.{◌≡◌, ◌⊎◌, ℕ, ◌+◌, List, length, Option, Ok, MatchResult, MatchBool, nat_lt, ⊤}
use Rattle.std.specs.Io.KnownBytes.{Keeps, Appends}
use Rattle.host_edge.specs.Files.{Loads, Saves, SavesFront}
use Rattle.host_edge.specs.Moves.{TakesFront}
use Rattle.host_edge.specs.Causes.{Rose}
use Rattle.image_file.specs.Image.{ImageParts}
use Rattle.image_file.specs.Format.{spelling, parsed}
use Rattle.asm_print.specs.Text.{text_of}
use Rattle.mips_text.specs.Assembly.{assembled}
use Rattle.tick_outcome.specs.declared.outcome.Outcome.{Outcome}
use Rattle.tick_outcome.specs.declared.outcome.Outcome.TheVariants.{Done, BadWords, Refused, AsmRefused, LoadFault}
use Rattle.tick_outcome.specs.declared.outcome.Outcome.TheVariants.{TooLong, BadImage, Trap, MachineFault, OutOfSteps}
use Rattle.tick_outcome.specs.declared.outcome.Outcome.TheVariants.{ReadFault, WriteFault, SaveFault}
use Rattle.tick_outcome.specs.declared.ended.Ended.{Ended}
use Rattle.image_commands.specs.Outside.{Files, Outside, Failures, SameFiles, SameOtherFiles, Silent}
use Rattle.image_commands.specs.Answers.{IsBare, RanImage, longest_text, longest_image}

-- The file is loaded, and isn't longer than it may be; `next` says what then is done with its bytes, and `answers` what
-- an answer in place of it is.
abbrev pub WithFile : Option (Option (List ℕ)) → (longest : ℕ) → (answers : Outcome → Type 0) →
    (next : List ℕ → Type 0) → Type 0
WithFile told longest answers next =
    answers LoadFault
    ⊎ ((bytes : List ℕ) × Loads told (longest + 1) bytes
    × MatchBool (nat_lt longest (length bytes)) (answers TooLong) (next bytes))

-- an assembly text is an image, or refused for its first fault
abbrev pub WithAssembled : (answers : Outcome → Type 0) → (next : ImageParts → Type 0) → List ℕ → Type 0
WithAssembled answers next text = MatchResult (assembled text) next (λ fault. answers (AsmRefused fault))

-- bytes are an image, or break a rule of the image format first
abbrev pub WithImage : (answers : Outcome → Type 0) → (next : ImageParts → Type 0) → List ℕ → Type 0
WithImage answers next bytes = MatchResult (parsed bytes) next (λ fault. answers (BadImage fault))

-- ---- runs, and `exec`

-- an answer without a machine: nothing was read, written or saved
abbrev pub Answered : Outside → Outside → Ended → Outcome → Type 0
Answered old new e outcome = IsBare e outcome × Silent old new

-- an image ran for at most so many instructions
abbrev pub Runs : (steps : ℕ) → Outside → Outside → Ended → ImageParts → Type 0
Runs steps old new e image = SameFiles old.file new.file × RanImage steps image old.left new.left old.taken new.taken e

abbrev pub ExecutesFile : List ℕ → (steps : ℕ) → Outside → Outside → Ended → Type 0
ExecutesFile file steps old new e =
    WithFile (old.file file) longest_image (Answered old new e) (WithImage (Answered old new e) (Runs steps old new e))

-- ---- saves, and `asm`

-- an answer without an image: no file is another than before
abbrev pub Unsaved : Files → Files → Ended → Outcome → Type 0
Unsaved old new e outcome = IsBare e outcome × SameFiles old new

-- the bytes were saved at a path, or the save failed and a told path holds a front part of them
abbrev pub SavedAt : List ℕ → List ℕ → Files → Files → Ended → Type 0
SavedAt path bytes old new e =
    (IsBare e (Done 0) × Saves (old path) (new path) bytes) ⊎
    (IsBare e SaveFault × SavesFront (old path) (new path) bytes)

-- the one spelling of an image was saved at a path, and reads back as the image; no other file is another than before
pub record SavesImage (path : List ℕ) (old new : Files) (e : Ended) (image : ImageParts) : Type 0 where
  pub bytes : List ℕ
  pub spelt : bytes ≡ spelling image
  pub read_back : parsed bytes ≡ Ok image
  pub saved : SavedAt path bytes old new e
  pub others : SameOtherFiles path old new

abbrev pub AssemblesFile : List ℕ → (path : List ℕ) → Files → Files → Ended → Type 0
AssemblesFile file path old new e =
    WithFile (old file) longest_text (Unsaved old new e) (WithAssembled (Unsaved old new e) (SavesImage path old new e))

-- ---- dis

-- an answer without an image: nothing was written
abbrev pub Unprinted : Option (List ℕ) → Option (List ℕ) → Ended → Outcome → Type 0
Unprinted taken told e outcome = IsBare e outcome × Keeps taken told

-- the text of the image was written, or the sink failed and has taken a front part of it
abbrev pub PrintsText : Option (List ℕ) → Option (List ℕ) → Ended → ImageParts → Type 0
PrintsText taken told e image =
    (IsBare e (Done 0) × Appends taken told (text_of image)) ⊎
    (IsBare e WriteFault × TakesFront taken told (text_of image))

abbrev pub PrintsFile : Option (Option (List ℕ)) → Option (List ℕ) → Option (List ℕ) → Ended → Type 0
PrintsFile file taken told e =
    WithFile file longest_image (Unprinted taken told e) (WithImage (Unprinted taken told e) (PrintsText taken told e))

-- ---- outcomes

-- what a command may answer: the words were good
abbrev pub IsOfCommand : Outcome → Type 0
IsOfCommand (BadWords place) = ⊥
IsOfCommand other = ⊤

-- The cause of each outcome: a fault comes only where its count rose, and nothing else comes where one did.
abbrev pub Cause : Outcome → Failures → Failures → Type 0
Cause LoadFault old new = Rose old.store new.store
Cause SaveFault old new = Rose old.store new.store
Cause ReadFault old new = Rose old.input new.input
Cause WriteFault old new = Rose old.out new.out
Cause (Done s) old new = new ≡ old
Cause (BadWords place) old new = new ≡ old
Cause (Refused fault) old new = new ≡ old
Cause (AsmRefused fault) old new = new ≡ old
Cause TooLong old new = new ≡ old
Cause (BadImage fault) old new = new ≡ old
Cause (Trap k) old new = new ≡ old
Cause (MachineFault k at) old new = new ≡ old
Cause (OutOfSteps n) old new = new ≡ old
