-- Laws of the parts of a word: what was stored is read back, the rest of the word stays, and what is loaded, or made
-- by a store, is a word.
use Rattle.std.proofs.Common.{◌≡◌, ◌≢◌, ℕ, ◌/◌, ◌%◌, ◌<◌, refl, ap, arith}
use Rattle.std.proofs.lemmas.Bool.Decides.{nat_tests}
use Rattle.word32.specs.Words.{widened_byte, widened_half}
use Rattle.word32.specs.Parts.{byte_of, half_of, with_byte, with_half, loaded_part, stored_part, narrowed}
use Rattle.word32.specs.declared.width.Width.{Width}
use Rattle.word32.specs.declared.width.Width.TheVariants.{SignedByte, Byte, SignedHalf, Half, Word}
use Rattle.word32.proofs.Places.{place_same, place_other, place_fits}

pub byte_range : (word at : ℕ) → byte_of word at < 256
unfolding byte_of
byte_range word at = omega arith

pub half_range : (word at : ℕ) → word < 4294967296 → half_of word at < 65536
unfolding half_of
half_range word at h = grind (arith, nat_tests)

pub with_byte_range : (word at w : ℕ) → word < 4294967296 → with_byte word at w < 4294967296
unfolding with_byte
with_byte_range word at w h = place_fits word w (at % 4) (omega arith) h

pub with_half_range : (word at w : ℕ) → word < 4294967296 → with_half word at w < 4294967296
unfolding with_half
with_half_range word at w h = grind (arith, nat_tests)

pub byte_same : (word at w b : ℕ) → b % 4 ≡ at % 4 → byte_of (with_byte word at w) b ≡ w % 256
unfolding byte_of with_byte
byte_same word at w b e = rw e (place_same word w (at % 4) (omega arith))

pub byte_other : (word at w b : ℕ) → at % 4 ≢ b % 4 → byte_of (with_byte word at w) b ≡ byte_of word b
unfolding byte_of with_byte
byte_other word at w b d = place_other word w (at % 4) (b % 4) (omega arith) (omega arith) d

pub half_same : (word at w b : ℕ) → b % 4 / 2 ≡ at % 4 / 2 → half_of (with_half word at w) b ≡ w % 65536
unfolding half_of with_half
half_same word at w b e = grind (arith, nat_tests)

pub half_other : (word at w b : ℕ) → word < 4294967296 → at % 4 / 2 ≢ b % 4 / 2 →
    half_of (with_half word at w) b ≡ half_of word b
unfolding half_of with_half
half_other word at w b h d = grind (arith, nat_tests)

pub widened_byte_range : (b : ℕ) → b < 256 → widened_byte b < 4294967296
widened_byte_range b h = grind (arith, nat_tests)

pub widened_half_range : (b : ℕ) → b < 65536 → widened_half b < 4294967296
widened_half_range b h = grind (arith, nat_tests)

pub loaded_range : (word at : ℕ) (width : Width) → word < 4294967296 → loaded_part word at width < 4294967296
loaded_range word at SignedByte h = widened_byte_range (byte_of word at) (byte_range word at)
loaded_range word at Byte h = omega (arith, byte_range word at)
loaded_range word at SignedHalf h = widened_half_range (half_of word at) (half_range word at h)
loaded_range word at Half h = omega (arith, half_range word at h)
loaded_range word at Word h = h

pub stored_range :
    (word at : ℕ) (width : Width) (w : ℕ) → word < 4294967296 → w < 4294967296 →
    stored_part word at width w < 4294967296
stored_range word at SignedByte w h k = with_byte_range word at w h
stored_range word at Byte w h k = with_byte_range word at w h
stored_range word at SignedHalf w h k = with_half_range word at w h
stored_range word at Half w h k = with_half_range word at w h
stored_range word at Word w h k = k

-- what was stored is read back, converted to the width
pub stored_loaded : (word at : ℕ) (width : Width) (w : ℕ) →
    loaded_part (stored_part word at width w) at width ≡ narrowed width w
stored_loaded word at SignedByte w = ap widened_byte (byte_same word at w at refl)
stored_loaded word at Byte w = byte_same word at w at refl
stored_loaded word at SignedHalf w = ap widened_half (half_same word at w at refl)
stored_loaded word at Half w = half_same word at w at refl
stored_loaded word at Word w = refl
