-- Words of functions as the first pass leaves them, and as the second writes what is left.
use Rattle.std.specs.Prelude.{◌≡◌, ℕ, Bool, true, false, List, [], ◌∷◌, ◌++◌, length, take, drop}
use Rattle.word32.specs.declared.map.TheConstants.{FUNCTIONS}
use Rattle.staged_meaning.specs.Program.{Tick}
use Rattle.tick_lower_spec.specs.Lower.{Addresses, listed}
use Rattle.static_image.specs.Layout.{Placed, words_of, length_of, behind, addresses_of}

-- Words, and room for words, of functions one behind another from an address on: as many as each has, and its words
-- where they are made, whose calls go to these addresses.
abbrev pub AreDrafted : Addresses → (at : ℕ) → List Placed → (made : List Bool) → List ℕ → Type 0
AreDrafted d at [] made words = words ≡ []
AreDrafted d at (x ∷ xs) [] words = ⊥
AreDrafted d at (x ∷ xs) (m ∷ made) words =
    (piece : List ℕ) × (rest : List ℕ) × (words ≡ piece ++ rest) × (length piece ≡ length_of x)
    × (m ≡ true → piece ≡ words_of d at x) × AreDrafted d (behind at x) xs made rest

-- So are those of the first functions of a program with these ticks, whatever functions follow.
abbrev pub IsDraft : List Tick → List Placed → (made : List Bool) → List ℕ → Type 0
IsDraft ticks placed made words =
    (more : List Placed) → AreDrafted (addresses_of ticks (placed ++ more)) FUNCTIONS placed made words

-- the addresses that the first pass knows
abbrev pub known_at : List Tick → List ℕ → Addresses
known_at ticks starts = listed starts [] ticks

-- What a function adds to words: its words, or as much room; its words where it calls no function whose address isn't
-- known yet.
pub record IsPiece (unknown : Bool) (words : List ℕ) (made : Bool) (old new : List ℕ) : Type 0 where
  pub piece : List ℕ
  pub added : new ≡ old ++ piece
  pub as_long : length piece ≡ length words
  pub same : made ≡ true → (unknown ≡ false) × (piece ≡ words)

-- Words are as they were where a function's own are made already; else its own are written over those from a place on.
abbrev pub Rewritten : (made : Bool) (first : ℕ) (own old new : List ℕ) → Type 0
Rewritten true first own old new = new ≡ old
Rewritten false first own old new = new ≡ take first old ++ (own ++ drop (length own) (drop first old))
