-- What callers need to know of the places that are saved, besides that they are.
use Rattle.std.specs.Prelude.{ℕ, suc, ◌≡◌, ◌<◌, ◌≤◌, true, List, [], ◌∷◌}
use Rattle.icode_saves.specs.Places.{has, saved}

-- each place is below 12
abbrev pub AllPlaces : List ℕ → Type 0
AllPlaces [] = Unit {0}
AllPlaces (p ∷ ps) = (p < 12) × AllPlaces ps

-- each place is below the next, and the first is at least n
abbrev pub Rising : ℕ → List ℕ → Type 0
Rising n [] = Unit {0}
Rising n (p ∷ ps) = (n ≤ p) × Rising (suc p) ps

-- the places that are saved are below 12, rise, and are all those below 12 that stand in the list
pub record AreSaved (ps kept : List ℕ) : Type 0 where
  pub low : AllPlaces kept
  pub rising : Rising 0 kept
  pub covers : (p : ℕ) → p < 12 → has ps p ≡ true → has kept p ≡ true

abbrev pub SavedPlacesAreAll : Type 0
SavedPlacesAreAll = (ps : List ℕ) → AreSaved ps (saved ps)
