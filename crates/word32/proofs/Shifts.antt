-- The four places of a byte in a word, for the code that shifts a byte there.
use Rattle.std.proofs.Common.{◌≡◌, ℕ, zero, suc, ◌+◌, ◌*◌, ◌/◌, ◌%◌, ◌-◌, ◌<◌, ◌^◌, arith, subst, sym}

-- what holds at the shifts 24, 16, 8 and 0 holds at each byte's
pub places : (P : ℕ → Type 0) → P 24 → P 16 → P 8 → P 0 → (r : ℕ) → r < 4 → P (24 - 8 * r)
places P a b c d zero h = a
places P a b c d (suc zero) h = b
places P a b c d (suc (suc zero)) h = c
places P a b c d (suc (suc (suc zero))) h = d
places P a b c d (suc (suc (suc (suc r)))) h = absurd (omega arith)

pub byte_fits :
    (word w : ℕ) → word < 4294967296 → (k r : ℕ) → r < 4 → k ≡ 24 - 8 * r →
    word - word / 2 ^ k % 256 * 2 ^ k % 4294967296 + w % 256 * 2 ^ k % 4294967296 < 4294967296
byte_fits word w l k r h e =
    let P : ℕ → Type 0 =
    λ k. word - word / 2 ^ k % 256 * 2 ^ k % 4294967296 + w % 256 * 2 ^ k % 4294967296 < 4294967296 in
    subst P (sym e) (places P (omega arith) (omega arith) (omega arith) (omega arith) r h)

pub byte_is :
    (word w : ℕ) → word < 4294967296 → (k r : ℕ) → r < 4 → k ≡ 24 - 8 * r →
    word - word / 2 ^ k % 256 * 2 ^ k % 4294967296 + w % 256 * 2 ^ k % 4294967296
    ≡ word - word / 2 ^ k % 256 * 2 ^ k + w % 256 * 2 ^ k
byte_is word w l k r h e =
    let P : ℕ → Type 0 =
    λ k. word - word / 2 ^ k % 256 * 2 ^ k % 4294967296 + w % 256 * 2 ^ k % 4294967296
    ≡ word - word / 2 ^ k % 256 * 2 ^ k + w % 256 * 2 ^ k in
    subst P (sym e) (places P (omega arith) (omega arith) (omega arith) (omega arith) r h)
