-- What loads and stores do, in terms of bytes by address: a load is the number that its bytes make, the most
-- significant first, widened as the width says; a store writes the low bytes of its word there, and no other byte.
-- So the definitions on words of memory are those of big-endian bytes with natural alignment.
use Rattle.std.specs.Prelude.{◌≡◌, ◌⊎◌, ℕ, ◌+◌, ◌-◌, ◌/◌, ◌%◌, ◌^◌, ◌<◌, ◌≤◌, true}
use Rattle.word32.specs.Parts.{is_aligned, narrowed, size}
use Rattle.word32.specs.Space.{load, store, byte_at, number_at, AreWords}
use Rattle.word32.specs.declared.width.Width.{Width}

abbrev pub LoadsBytes : Type 0
LoadsBytes =
    (space : ℕ → ℕ) (at : ℕ) (width : Width) → AreWords space → is_aligned at width ≡ true →
    load space at width ≡ narrowed width (number_at space at (size width))

abbrev pub StoresBytes : Type 0
StoresBytes =
    (space : ℕ → ℕ) (at : ℕ) (width : Width) (w i : ℕ) → is_aligned at width ≡ true → i < size width →
    byte_at (store at width w space) (at + i) ≡ w / 256 ^ (size width - 1 - i) % 256

abbrev pub KeepsOtherBytes : Type 0
KeepsOtherBytes =
    (space : ℕ → ℕ) (at : ℕ) (width : Width) (w b : ℕ) → AreWords space → is_aligned at width ≡ true →
    (b < at) ⊎ (at + size width ≤ b) → byte_at (store at width w space) b ≡ byte_at space b
