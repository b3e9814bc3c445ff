-- From what came of a file to what a command did with it.
use Rattle.std.proofs.Common.{◌≡◌, ℕ, ◌+◌, List, length, Option, Result, Ok, Err, IfOk, nat_lt, inr, false}
use Rattle.host_edge.specs.Files.{Loads}
use Rattle.image_file.specs.Image.{ImageParts}
use Rattle.mips_text.specs.Assembly.{assembled}
use Rattle.tick_outcome.specs.declared.outcome.Outcome.{Outcome}
use Rattle.tick_outcome.specs.declared.ended.Ended.{Ended}
use Rattle.image_commands.specs.declared.ended.Front.TheVariants.{Found}
use Rattle.image_commands.specs.Outside.{Files, SameFiles}
use Rattle.image_commands.specs.Answers.{IsFront, longest_text, IsAssembled, IsAsmRefused}
use Rattle.image_commands.specs.Does.{WithFile, WithAssembled, Unsaved, SavesImage, AssemblesFile}
use Rattle.image_commands.proofs.Saves.{saves_on}

pub if_ok : {T E : Type 0} {P Q : T → Type 0} (r : Result T E) → ((x : T) → P x → Q x) → IfOk r P → IfOk r Q
if_ok (Ok x) f p = f x p
if_ok (Err e) f p = p

module _ (answers : Outcome → Type 0) where
  pub in_file : (told : Option (Option (List ℕ))) (longest : ℕ) (next : List ℕ → Type 0) (bytes : List ℕ)
      → Loads told (longest + 1) bytes → nat_lt longest (length bytes) ≡ false → next bytes →
      WithFile told longest answers next
  in_file told longest next bytes loads short n = inr (bytes, loads, rw short n)

  pub found : (told : Option (Option (List ℕ))) (longest : ℕ) (good : List ℕ → ImageParts → Type 0)
      (bad : List ℕ → Outcome → Type 0) (next : List ℕ → Type 0) (image : ImageParts)
      → ((bytes : List ℕ) → good bytes image → next bytes)
      → (f : (bytes : List ℕ) × Loads told (longest + 1) bytes × (nat_lt longest (length bytes) ≡ false) ×
      good bytes image)
      → WithFile told longest answers next
  found told longest good bad next image then (bytes, loads, short, g) =
      in_file told longest next bytes loads short (then bytes g)

  pub assembled_to : (next : ImageParts → Type 0) (text : List ℕ) (i : ImageParts) → assembled text ≡ Ok i → next i →
      WithAssembled answers next text
  assembled_to next text i e n = rw e n

-- the whole of `asm`, for files before a load, behind it and behind a save
module _ (file path : List ℕ) (old mid new : Files) (e : Ended) (image : ImageParts) (same : SameFiles old mid)
    (s : SavesImage path mid new e image) where
  pub assembles : IsFront (old file) longest_text IsAssembled IsAsmRefused (Found image) →
      AssemblesFile file path old new e
  assembles f = found (Unsaved old new e) (old file) longest_text IsAssembled IsAsmRefused
      (WithAssembled (Unsaved old new e) (SavesImage path old new e)) image
      (λ text a. assembled_to (Unsaved old new e) (SavesImage path old new e) text image a
      (saves_on path old mid new e image same s)) f
