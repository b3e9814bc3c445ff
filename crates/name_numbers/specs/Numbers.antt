-- The numbers of names: each is the place of its name among all names.
use Rattle.std.specs.Prelude.{ℕ, ◌+◌, ◌≡◌, ◌++◌, if◌then◌else◌, List, [], ◌∷◌, Option, Some, None}
use Rattle.std.specs.Str.{bytes_eq}

abbrev pub Name : Type 0
Name = List ℕ

abbrev pub number_from : ℕ → List Name → Name → Option ℕ
number_from n [] name = None
number_from n (each ∷ names) name = if bytes_eq name each then Some n else number_from (n + 1) names name

-- the place of a name; none where it isn't among them
abbrev pub number_of : List Name → Name → Option ℕ
number_of names name = number_from 0 names name

-- names are only added
abbrev pub Grows : List Name → List Name → Type 0
Grows names names' = (more : List Name) × (names' ≡ names ++ more)
