-- What is said of a save holds of the files before a load too, since a load changes no file.
use Rattle.std.proofs.Common.{◌≡◌, ◌∙◌, sym, ℕ, List}
use Rattle.image_file.specs.Image.{ImageParts}
use Rattle.tick_outcome.specs.declared.ended.Ended.{Ended}
use Rattle.image_commands.specs.Outside.{Files, SameFiles}
use Rattle.image_commands.specs.Does.{SavedAt, SavesImage}

saved_on : (path bytes : List ℕ) (old mid new : Files) (e : Ended) → mid path ≡ old path →
    SavedAt path bytes mid new e → SavedAt path bytes old new e
saved_on path bytes old mid new e same saved = rw (sym same) saved

pub saves_on : (path : List ℕ) (old mid new : Files) (e : Ended) (image : ImageParts)
    → SameFiles old mid → SavesImage path mid new e image → SavesImage path old new e image
saves_on path old mid new e image same s = record {
  bytes = s.bytes;
  spelt = s.spelt;
  read_back = s.read_back;
  saved = saved_on path s.bytes old mid new e (same path) s.saved;
  others = λ q differs. s.others q differs ∙ same q;
}
