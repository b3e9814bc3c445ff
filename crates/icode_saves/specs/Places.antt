-- The places of registers that a function has to save for its caller. These are the project's own rules.
use Rattle.std.specs.Prelude.{ℕ, Bool, false, ◌||◌, nat_eq, List, [], ◌∷◌}
use Rattle.std.specs.List.{filter}

-- whether the place stands in a list of places
abbrev pub has : List ℕ → ℕ → Bool
has [] place = false
has (p ∷ ps) place = nat_eq p place || has ps place

-- the places of the registers of the machine, in rising order
abbrev pub register_places : List ℕ
register_places = 0 ∷ 1 ∷ 2 ∷ 3 ∷ 4 ∷ 5 ∷ 6 ∷ 7 ∷ 8 ∷ 9 ∷ 10 ∷ 11 ∷ []

-- the places below 12 that stand in the list, in rising order
unfoldable pub saved : List ℕ → List ℕ
saved ps = filter (has ps) register_places
