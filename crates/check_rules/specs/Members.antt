-- The values among which a switch finds that of a `case`.
use Rattle.std.specs.Prelude.{ℕ, ◌==◌, ◌≡◌, Bool, List}
use Rattle.std.specs.List.{list_any}

abbrev pub is_member : ℕ → List ℕ → Bool
is_member n xs = list_any (λ x. n == x) xs

-- those that are found are all of them
abbrev pub HasAll : List ℕ → List ℕ → Type 0
HasAll found all = (n : ℕ) → is_member n found ≡ is_member n all
