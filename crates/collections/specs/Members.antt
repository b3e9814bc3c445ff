-- A set of numbers as callers see it: its members in the order in which they came, each once. That
-- the order is kept is this project's own choice: a search reads the members while it adds to them.
use Rattle.std.specs.Prelude.{ℕ, ◌==◌, ◌++◌, Bool, List, [], ◌∷◌, if◌then◌else◌}
use Rattle.std.specs.List.{list_any}

-- the numbers that there is room for are those below `room`
pub record Members : Type 0 where
  pub room : ℕ
  pub members : List ℕ

abbrev pub is_in : ℕ → List ℕ → Bool
is_in number members = list_any (λ m. number == m) members

-- the members with one more at the end, unless it is there
abbrev pub with_member : ℕ → List ℕ → List ℕ
with_member number members = if is_in number members then members else members ++ number ∷ []
