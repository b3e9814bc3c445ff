-- A byte by its place in a word: what was written is read back, the other places stay, and the word fits.
use Rattle.std.proofs.Common.{◌≡◌, ◌≢◌, ℕ, zero, suc, ◌+◌, ◌*◌, ◌/◌, ◌%◌, ◌-◌, ◌<◌, ◌^◌, refl, arith}
use Rattle.std.specs.Prelude.{◌==◌, if◌then◌else◌}

-- a byte by its place in the word, and the word with it changed
abbrev pub at_place : ℕ → ℕ → ℕ
at_place word r = word / 2 ^ (24 - 8 * r) % 256

abbrev pub with_place : ℕ → ℕ → ℕ → ℕ
with_place word r w =
    word - word / 2 ^ (24 - 8 * r) % 256 * 2 ^ (24 - 8 * r) + w % 256 * 2 ^ (24 - 8 * r)

pub place_same : (word w r : ℕ) → r < 4 → at_place (with_place word r w) r ≡ w % 256
place_same word w zero h = omega arith
place_same word w (suc zero) h = omega arith
place_same word w (suc (suc zero)) h = omega arith
place_same word w (suc (suc (suc zero))) h = omega arith
place_same word w (suc (suc (suc (suc r)))) h = absurd (omega arith)

pub place_other : (word w r s : ℕ) → r < 4 → s < 4 → r ≢ s → at_place (with_place word r w) s ≡ at_place word s
place_other word w zero zero h k d = absurd (d refl)
place_other word w zero (suc zero) h k d = omega arith
place_other word w zero (suc (suc zero)) h k d = omega arith
place_other word w zero (suc (suc (suc zero))) h k d = omega arith
place_other word w zero (suc (suc (suc (suc s)))) h k d = absurd (omega arith)
place_other word w (suc zero) zero h k d = omega arith
place_other word w (suc zero) (suc zero) h k d = absurd (d refl)
place_other word w (suc zero) (suc (suc zero)) h k d = omega arith
place_other word w (suc zero) (suc (suc (suc zero))) h k d = omega arith
place_other word w (suc zero) (suc (suc (suc (suc s)))) h k d = absurd (omega arith)
place_other word w (suc (suc zero)) zero h k d = omega arith
place_other word w (suc (suc zero)) (suc zero) h k d = omega arith
place_other word w (suc (suc zero)) (suc (suc zero)) h k d = absurd (d refl)
place_other word w (suc (suc zero)) (suc (suc (suc zero))) h k d = omega arith
place_other word w (suc (suc zero)) (suc (suc (suc (suc s)))) h k d = absurd (omega arith)
place_other word w (suc (suc (suc zero))) zero h k d = omega arith
place_other word w (suc (suc (suc zero))) (suc zero) h k d = omega arith
place_other word w (suc (suc (suc zero))) (suc (suc zero)) h k d = omega arith
place_other word w (suc (suc (suc zero))) (suc (suc (suc zero))) h k d = absurd (d refl)
place_other word w (suc (suc (suc zero))) (suc (suc (suc (suc s)))) h k d = absurd (omega arith)
place_other word w (suc (suc (suc (suc r)))) s h k d = absurd (omega arith)

pub place_fits : (word w r : ℕ) → r < 4 → word < 4294967296 → with_place word r w < 4294967296
place_fits word w zero h l = omega arith
place_fits word w (suc zero) h l = omega arith
place_fits word w (suc (suc zero)) h l = omega arith
place_fits word w (suc (suc (suc zero))) h l = omega arith
place_fits word w (suc (suc (suc (suc r)))) h l = absurd (omega arith)

-- one of the two halves of a word changed, by its number
abbrev pub with_side : ℕ → ℕ → ℕ → ℕ
with_side word t w = if (t == 0) then (w % 65536 * 65536 + word % 65536) else (word / 65536 * 65536 + w % 65536)

abbrev pub at_side : ℕ → ℕ → ℕ
at_side word t = if (t == 0) then (word / 65536) else (word % 65536)

-- the bytes of the half that changed
pub side_same : (word w t r : ℕ) → t < 2 → r < 4 → r / 2 ≡ t →
    at_place (with_side word t w) r ≡ w / 256 ^ (1 - r % 2) % 256
side_same word w zero zero h k e = omega arith
side_same word w zero (suc zero) h k e = omega arith
side_same word w zero (suc (suc zero)) h k e = omega arith
side_same word w zero (suc (suc (suc zero))) h k e = omega arith
side_same word w zero (suc (suc (suc (suc r)))) h k e = absurd (omega arith)
side_same word w (suc zero) zero h k e = omega arith
side_same word w (suc zero) (suc zero) h k e = omega arith
side_same word w (suc zero) (suc (suc zero)) h k e = omega arith
side_same word w (suc zero) (suc (suc (suc zero))) h k e = omega arith
side_same word w (suc zero) (suc (suc (suc (suc r)))) h k e = absurd (omega arith)
side_same word w (suc (suc t)) r h k e = absurd (omega arith)

-- the bytes of the other half
pub side_other : (word w t r : ℕ) → word < 4294967296 → t < 2 → r < 4 → r / 2 ≢ t →
    at_place (with_side word t w) r ≡ at_place word r
side_other word w zero zero l h k d = absurd (d refl)
side_other word w zero (suc zero) l h k d = absurd (d refl)
side_other word w zero (suc (suc zero)) l h k d = omega arith
side_other word w zero (suc (suc (suc zero))) l h k d = omega arith
side_other word w zero (suc (suc (suc (suc r)))) l h k d = absurd (omega arith)
side_other word w (suc zero) zero l h k d = omega arith
side_other word w (suc zero) (suc zero) l h k d = omega arith
side_other word w (suc zero) (suc (suc zero)) l h k d = absurd (d refl)
side_other word w (suc zero) (suc (suc (suc zero))) l h k d = absurd (d refl)
side_other word w (suc zero) (suc (suc (suc (suc r)))) l h k d = absurd (omega arith)
side_other word w (suc (suc t)) r l h k d = absurd (omega arith)

-- a half is its two bytes
pub side_bytes : (word t : ℕ) → word < 4294967296 → t < 2 →
    at_side word t ≡ 256 * at_place word (2 * t) + at_place word (2 * t + 1)
side_bytes word zero l h = omega arith
side_bytes word (suc zero) l h = omega arith
side_bytes word (suc (suc t)) l h = absurd (omega arith)

-- a word is its four bytes
pub word_bytes :
    (word : ℕ) → word < 4294967296 →
    word ≡ 256 * (256 * (256 * at_place word 0 + at_place word 1) + at_place word 2) + at_place word 3
word_bytes word l = omega arith

-- the byte of a word, counted from the most significant
pub place_is : (word r : ℕ) → r < 4 → at_place word r ≡ word / 256 ^ (3 - r) % 256
place_is word zero h = omega arith
place_is word (suc zero) h = omega arith
place_is word (suc (suc zero)) h = omega arith
place_is word (suc (suc (suc zero))) h = omega arith
place_is word (suc (suc (suc (suc r)))) h = absurd (omega arith)
