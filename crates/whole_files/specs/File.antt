-- What a load of a whole file gives.
use Rattle.std.specs.Prelude.{◌≡◌, ℕ, ◌+◌, List, length, Option, nat_lt, false, true, ⊤}
use Rattle.host_edge.specs.Files.{Loads}
use Rattle.host_edge.specs.Causes.{Rose}
use Rattle.whole_files.specs.declared.file.Loaded.{Loaded}
use Rattle.whole_files.specs.declared.file.Loaded.TheVariants.{Whole, TooLongFile, FailedFile}

-- what came of a told or an untold file that may have so many bytes
abbrev pub IsLoaded : Option (Option (List ℕ)) → (longest : ℕ) → Loaded → Type 0
IsLoaded told longest (Whole v) = Loads told (longest + 1) v.items × (nat_lt longest (length v.items) ≡ false)
IsLoaded told longest TooLongFile =
    (bytes : List ℕ) × Loads told (longest + 1) bytes × (nat_lt longest (length bytes) ≡ true)
IsLoaded told longest FailedFile = ⊤

abbrev pub LoadCause : ℕ → ℕ → Loaded → Type 0
LoadCause old new (Whole v) = new ≡ old
LoadCause old new TooLongFile = new ≡ old
LoadCause old new FailedFile = Rose old new
