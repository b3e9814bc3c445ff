-- A space of words: a function from word numbers to words, where word n holds the bytes at the addresses 4 * n to
-- 4 * n + 3. It is how definitions see registers and the regions of memory; a list of words is seen as such a space
-- from the number of its first word on, and is 0 elsewhere.
use Rattle.std.specs.Prelude.{ℕ, zero, suc, ◌<◌, ◌+◌, ◌-◌, ◌*◌, ◌/◌, List, nat_eq, nat_lt, if◌then◌else◌, slice_index}
use Rattle.word32.specs.Bytes.{word_in}
use Rattle.word32.specs.Parts.{byte_of, loaded_part, stored_part}
use Rattle.word32.specs.declared.width.Width.{Width}

-- a function changed at one place
abbrev pub update : {A : Type 0} → ℕ → A → (ℕ → A) → ℕ → A
update k v f n = if nat_eq n k then v else f n

-- what an aligned access loads
abbrev pub load : (ℕ → ℕ) → ℕ → Width → ℕ
load space at width = loaded_part (space (at / 4)) at width

-- the space after an aligned access stored w
abbrev pub store : ℕ → Width → ℕ → (ℕ → ℕ) → ℕ → ℕ
store at width w space = update (at / 4) (stored_part (space (at / 4)) at width w) space

-- words from the word with this number on, and 0 elsewhere
abbrev pub words_from : ℕ → List ℕ → ℕ → ℕ
words_from first words n = if nat_lt n first then 0 else slice_index words (n - first)

-- bytes from the word with this number on, the most significant byte of a word first, and 0 elsewhere
abbrev pub bytes_from : ℕ → List ℕ → ℕ → ℕ
bytes_from first bytes n = if nat_lt n first then 0 else word_in bytes (4 * (n - first))

-- a space seen as bytes by address
abbrev pub byte_at : (ℕ → ℕ) → ℕ → ℕ
byte_at space at = byte_of (space (at / 4)) at

-- the number that a count of bytes make, the most significant first
abbrev pub number_at : (ℕ → ℕ) → ℕ → ℕ → ℕ
number_at space at zero = 0
number_at space at (suc n) = 256 * number_at space at n + byte_at space (at + n)

-- each word of a space is one
abbrev pub AreWords : (ℕ → ℕ) → Type 0
AreWords space = (n : ℕ) → space n < 4294967296
