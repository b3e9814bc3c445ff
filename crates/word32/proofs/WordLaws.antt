-- Laws of words: the signed view and back, the order of signed views, and the range of what is computed.
use Rattle.std.proofs.Common.{◌≡◌, ℕ, ◌<◌, arith}
use Rattle.std.specs.Prelude.{ℤ, pos, negsuc, nat_lt}
use Rattle.std.proofs.lemmas.Bool.Decides.{nat_tests}
use Rattle.std.proofs.lemmas.Int.{ints}
use Rattle.word32.specs.Words.{signed, word_of, is_less_signed, sign_turned, sext8, sext16}

pub word_of-signed : (w : ℕ) → w < 4294967296 → word_of (signed w) ≡ w
word_of-signed w h = grind (arith, nat_tests)

pub word_of_range : (z : ℤ) → word_of z < 4294967296
word_of_range (pos n) = omega arith
word_of_range (negsuc n) = omega arith

-- the code compares the words with their sign bit turned
pub less_turned :
    (a b : ℕ) → a < 4294967296 → b < 4294967296 → is_less_signed a b ≡ nat_lt (sign_turned a) (sign_turned b)
less_turned a b h k = grind (arith, ints, nat_tests)

pub sext8_range : (w : ℕ) → sext8 w < 4294967296
sext8_range w = grind (arith, nat_tests)

pub sext16_range : (w : ℕ) → sext16 w < 4294967296
sext16_range w = grind (arith, nat_tests)
