-- Ranges in units of 64 words: each range that is taken has so many whole units, and so each begins at a unit.
use Rattle.std.specs.Prelude.{◌≡◌, ℕ, ◌*◌, List, [], ◌∷◌, Option, Some, None}
use Rattle.free_ranges.specs.Ranges.{first_fit, with_range, without_range, range_at}

-- the ranges by their words
abbrev pub in_words : List (ℕ × ℕ) → List (ℕ × ℕ)
in_words [] = []
in_words (r ∷ rs) = (64 * r.0, 64 * r.1) ∷ in_words rs

abbrev pub words_of_unit : Option ℕ → Option ℕ
words_of_unit None = None
words_of_unit (Some n) = Some (64 * n)

-- what is so of units is so of words
abbrev pub UnitsAreWords : Type 0
UnitsAreWords =
    (taken : List (ℕ × ℕ)) (count from total first : ℕ) →
    (first_fit (64 * count) (64 * from) (64 * total) (in_words taken) ≡ words_of_unit
    (first_fit count from total taken))
    × (with_range (64 * first, 64 * count) (in_words taken) ≡ in_words (with_range (first, count) taken))
    × (without_range (64 * first) (in_words taken) ≡ in_words (without_range first taken))
    × (range_at (64 * first) (in_words taken) ≡ words_of_unit (range_at first taken))
