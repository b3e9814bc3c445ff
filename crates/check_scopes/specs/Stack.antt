-- Declarations by the numbers of their names, the innermost last: each hides those of its number before it.
use Rattle.std.specs.Prelude.{ℕ, zero, suc, ◌≡◌, nat_eq, if◌then◌else◌, List, [], ◌∷◌, map, take, slice_get}
use Rattle.std.specs.Prelude.{slice_index_or, Option, Some, None}
use Rattle.std.specs.Option.{option_map, option_or}
use Rattle.check_scopes.specs.declared.names.Declared.{Declared}
use Rattle.check_scopes.specs.declared.names.Meaning.{Meaning}

-- numbers, and what they are declared as
abbrev pub Numbered : Type 0
Numbered = List (ℕ × Meaning)

-- what the last declaration of a number says
abbrev pub last_of : Numbered → ℕ → Option Meaning
last_of [] n = None
last_of (e ∷ es) n = option_or (last_of es n) (if nat_eq e.0 n then Some e.1 else None)

-- the place of the last declaration of a number
abbrev pub last_place : Numbered → ℕ → Option ℕ
last_place [] n = None
last_place (e ∷ es) n = option_or (option_map suc (last_place es n)) (if nat_eq e.0 n then Some zero else None)

-- which numbers are declared, and as what
abbrev pub said : List Declared → Numbered
said ds = map (λ d. (d.number, d.what)) ds

-- the head of a number is the place of its last declaration, and a declaration hides the last of its number before it
abbrev pub Linked : List Declared → List (Option ℕ) → Type 0
Linked ds heads = record {
  heads : (n : ℕ) → slice_index_or heads n None ≡ last_place (said ds) n;
  hides :
      (place : ℕ) (d : Declared) → slice_get ds place ≡ Some d → d.hides ≡ last_place (said (take place ds)) d.number;
}
