-- Lists of places and registers, and what one list has more than another. These are the words in
-- which the search for live registers is stated.
use Rattle.std.specs.Prelude.{ℕ, ◌≡◌, ◌<◌, ◌++◌, ◌⊎◌, List, [], ◌∷◌}

abbrev pub In : ℕ → List ℕ → Type 0
In x [] = ⊥
In x (y ∷ ys) = (x ≡ y) ⊎ In x ys

abbrev pub Each : (ℕ → Type 0) → List ℕ → Type 0
Each P [] = Unit {0}
Each P (x ∷ xs) = P x × Each P xs

-- each number is below the one before it, and the first below m
abbrev pub Falls : ℕ → List ℕ → Type 0
Falls m [] = Unit {0}
Falls m (x ∷ xs) = (x < m) × Falls x xs

-- more was found, and each of it is P
pub record Extends (P : ℕ → Type 0) (old new : List ℕ) : Type 0 where
  pub more : List ℕ
  pub joined : new ≡ old ++ more
  pub each : Each P more
