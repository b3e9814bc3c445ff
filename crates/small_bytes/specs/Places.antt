-- The bytes that stand in the places of the code.
use Rattle.std.specs.Prelude.{ℕ, ◌≤◌, List, take}
use Rattle.small_bytes.specs.declared.bytes.Places.{Places}
use Rattle.small_bytes.specs.declared.bytes.Places.TheVariants.{Here, Apart}

abbrev pub bytes_of : Places → List ℕ
bytes_of (Here here count) = take count here
bytes_of (Apart all) = all.items

-- there are no more than stand in place
abbrev pub IsSound : Places → Type 0
IsSound (Here here count) = count ≤ 16
IsSound (Apart all) = Unit {0}
