-- The lines of a text, without their line feeds. A line ends with a line feed, or where the text ends; behind the last
-- line feed there is no further line where nothing stands there.
use Rattle.std.specs.Prelude.{ℕ, ◌==◌, if◌then◌else◌, List, [], ◌∷◌}

-- A byte before the lines of what follows it.
abbrev pub front : ℕ → List (List ℕ) → List (List ℕ)
front b [] = (b ∷ []) ∷ []
front b (l ∷ ls) = (b ∷ l) ∷ ls

abbrev pub lines : List ℕ → List (List ℕ)
lines [] = []
lines (b ∷ z) = if b == 10 then [] ∷ lines z else front b (lines z)
