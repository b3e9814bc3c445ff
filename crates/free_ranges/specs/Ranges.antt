-- Ranges of words that are taken, and which words are free: a range has a first word and a count of words. Ranges stand
-- in a list by their first words. Where a range is to be taken, it is the first one, by its first word, that is free:
-- this is the textbook's first fit. That neighbouring free ranges are one is no rule of its own, since the free ranges
-- are what is left between those that are taken.
use Rattle.std.specs.Prelude.{◌≡◌, ◌⊎◌, ℕ, ◌+◌, ◌-◌, ◌<◌, ◌≤◌, nat_eq, nat_le, nat_lt, if◌then◌else◌}
use Rattle.std.specs.Prelude.{List, [], ◌∷◌, Option, Some, None}

-- the word is in one of the ranges
abbrev pub IsTaken : (word : ℕ) → List (ℕ × ℕ) → Type 0
IsTaken word [] = ⊥
IsTaken word (r ∷ rs) = ((r.0 ≤ word) × (word < r.0 + r.1)) ⊎ IsTaken word rs

-- ranges of at least one word each, from a word on up to a total, by rising first words, no two with a word in common
abbrev pub AreRanges : (from total : ℕ) → List (ℕ × ℕ) → Type 0
AreRanges from total [] = from ≤ total
AreRanges from total (r ∷ rs) = (from ≤ r.0) × (0 < r.1) × AreRanges (r.0 + r.1) total rs

-- so many words from a word on are none that are taken, and none behind the total
pub record IsFree (count word total : ℕ) (taken : List (ℕ × ℕ)) : Type 0 where
  pub within : word + count ≤ total
  pub free : (k : ℕ) → word ≤ k → k < word + count → IsTaken k taken → ⊥

-- ---- first fit

-- The first word of the first free range, from a word on, that has so many words.
abbrev pub first_fit : (count from total : ℕ) → List (ℕ × ℕ) → Option ℕ
first_fit count from total [] = if nat_le (from + count) total then Some from else None
first_fit count from total (r ∷ rs) =
    if nat_le (from + count) r.0 then Some from else first_fit count (r.0 + r.1) total rs

-- it is the least word where so many are free
abbrev pub IsLeast : (count from total : ℕ) → List (ℕ × ℕ) → Option ℕ → Type 0
IsLeast count from total taken None = (v : ℕ) → from ≤ v → IsFree count v total taken → ⊥
IsLeast count from total taken (Some w) =
    (from ≤ w) × IsFree count w total taken × ((v : ℕ) → from ≤ v → IsFree count v total taken → w ≤ v)

-- ---- what is taken and given

-- a range more
abbrev pub with_range : ℕ × ℕ → List (ℕ × ℕ) → List (ℕ × ℕ)
with_range p [] = p ∷ []
with_range p (r ∷ rs) = if nat_lt p.0 r.0 then p ∷ r ∷ rs else r ∷ with_range p rs

-- how many words the range has that begins at a word, or none where none does
abbrev pub range_at : (first : ℕ) → List (ℕ × ℕ) → Option ℕ
range_at first [] = None
range_at first (r ∷ rs) = if nat_eq r.0 first then Some r.1 else range_at first rs

-- all but the range that begins at a word
abbrev pub without_range : (first : ℕ) → List (ℕ × ℕ) → List (ℕ × ℕ)
without_range first [] = []
without_range first (r ∷ rs) = if nat_eq r.0 first then rs else r ∷ without_range first rs

-- ---- the free ranges

-- the range between two words, where it has any
abbrev pub gap : (from to : ℕ) → List (ℕ × ℕ) → List (ℕ × ℕ)
gap from to rest = if nat_lt from to then (from, to - from) ∷ rest else rest

-- all that is left, by rising first words; between any two of them something is taken
abbrev pub gaps : (from total : ℕ) → List (ℕ × ℕ) → List (ℕ × ℕ)
gaps from total [] = gap from total []
gaps from total (r ∷ rs) = gap from r.0 (gaps (r.0 + r.1) total rs)

-- the first of a list of ranges that has so many words
abbrev pub first_of_count : (count : ℕ) → List (ℕ × ℕ) → Option ℕ
first_of_count count [] = None
first_of_count count (r ∷ rs) = if nat_le count r.1 then Some r.0 else first_of_count count rs

-- ---- where none was given back

-- one range behind another
abbrev pub ArePacked : (from : ℕ) → List (ℕ × ℕ) → Type 0
ArePacked from [] = Unit {0}
ArePacked from (r ∷ rs) = (r.0 ≡ from) × ArePacked (r.0 + r.1) rs

-- all their words
abbrev pub words_of : List (ℕ × ℕ) → ℕ
words_of [] = 0
words_of (r ∷ rs) = r.1 + words_of rs
