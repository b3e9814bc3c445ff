-- The row of bodies that were compiled: of each the syntax that it was compiled from, and the range that it holds until
-- it is freed. The rule is this project's own: a compile takes the range of its count with the least first word, and
-- there is none where first fit finds none.
use Rattle.std.specs.Prelude.{◌≡◌, ◌≢◌, ℕ, zero, suc, ◌+◌, ◌<◌, Bool, true, false, if◌then◌else◌, nat_le}
use Rattle.std.specs.Prelude.{List, [], ◌∷◌, ◌++◌, slice_get, Option, Some, None}
use Rattle.history.specs.Syntax.{Syntax}
use Rattle.free_ranges.specs.Ranges.{AreRanges, first_fit, with_range, without_range, ArePacked, words_of}

-- what it was compiled from, the range's first word and its words, and whether the function wasn't freed
pub record Body : Type 0 where
  pub syntax : Syntax
  pub first : ℕ
  pub count : ℕ
  pub live : Bool

-- the ranges that live bodies hold, besides others
abbrev pub held_with : List (ℕ × ℕ) → List Body → List (ℕ × ℕ)
held_with others [] = others
held_with others (b ∷ bs) = held_with (if b.live then with_range (b.first, b.count) others else others) bs

-- by their first words
abbrev pub held : List Body → List (ℕ × ℕ)
held bodies = held_with [] bodies

-- where a body of so many words goes, in so many words of the arena
abbrev pub place_for : (count total : ℕ) → List Body → Option ℕ
place_for count total bodies = first_fit count 0 total (held bodies)

abbrev pub new_body : Syntax → (first count : ℕ) → Body
new_body syntax first count = record { syntax = syntax; first = first; count = count; live = true }

-- a body of the row is freed, by its place in the row from 0
abbrev pub freed : ℕ → List Body → List Body
freed i [] = []
freed zero (b ∷ bs) = record b { live = false } ∷ bs
freed (suc i) (b ∷ bs) = b ∷ freed i bs

-- ---- laws

-- no live body's range begins at a word
abbrev pub NoneBeginsAt : ℕ → List Body → Type 0
NoneBeginsAt first [] = Unit {0}
NoneBeginsAt first (b ∷ bs) = (b.live ≡ true → b.first ≢ first) × NoneBeginsAt first bs

-- no two begin at the same word
abbrev pub BeginApart : List Body → Type 0
BeginApart [] = Unit {0}
BeginApart (b ∷ bs) = (b.live ≡ true → NoneBeginsAt b.first bs) × BeginApart bs

-- A body that is made holds one range more, and one that is freed one less.
abbrev pub HeldByEach : Type 0
HeldByEach =
    (bodies : List Body) →
    ((syntax : Syntax) (first count : ℕ) →
    held (bodies ++ new_body syntax first count ∷ []) ≡ with_range (first, count) (held bodies))
    × ((i : ℕ) (b : Body) → BeginApart bodies → slice_get bodies i ≡ Some b → b.live ≡ true →
    held (freed i bodies) ≡ without_range b.first (held bodies))

-- the words of all bodies
abbrev pub charged : List Body → ℕ
charged [] = 0
charged (b ∷ bs) = b.count + charged bs

-- Where none was ever freed, the bodies are one behind another, with the sum of their words; and while that is so,
-- there is a place exactly where the sum and the count are within the total, and the next body goes there.
pub record IsSum (bodies : List Body) : Type 0 where
  pub packed : ArePacked 0 (held bodies)
  pub words : words_of (held bodies) ≡ charged bodies

abbrev pub NoneFreedIsASum : Type 0
NoneFreedIsASum =
    IsSum []
    × ((syntax : Syntax) (bodies : List Body) (count total : ℕ) → 0 < count → AreRanges 0 total (held bodies) →
    IsSum bodies →
    (place_for count total bodies
    ≡ (if nat_le (charged bodies + count) total then Some (charged bodies) else None))
    × IsSum (bodies ++ new_body syntax (charged bodies) count ∷ []))

-- what every step keeps: the bodies hold ranges that have no word in common, no two from one word on
pub record AreHeld (total : ℕ) (bodies : List Body) : Type 0 where
  pub ranges : AreRanges 0 total (held bodies)
  pub apart : BeginApart bodies

abbrev pub StepsKeepHeld : Type 0
StepsKeepHeld =
    (total : ℕ) (bodies : List Body) → AreHeld total bodies →
    ((syntax : Syntax) (count word : ℕ) → 0 < count → place_for count total bodies ≡ Some word →
    AreHeld total (bodies ++ new_body syntax word count ∷ []))
    × ((i : ℕ) (b : Body) → slice_get bodies i ≡ Some b → b.live ≡ true → AreHeld total (freed i bodies))

-- none was freed, so they stand one behind another, and within the total
pub record AreSummed (total : ℕ) (bodies : List Body) : Type 0 where
  pub held : AreHeld total bodies
  pub sum : IsSum bodies
