-- The signed view against the casts that the code of a signed division makes.
use Rattle.std.proofs.Common.{◌≡◌, ◌≢◌, ◌⊎◌, inl, inr, ℕ, zero, suc, ◌/◌, ◌%◌, ◌-◌, ◌<◌, refl, ap, ◌∙◌, arith}
use Rattle.std.specs.Prelude.{ℤ, pos, negsuc, neg_ℤ, nat_abs, int_div, int_rem, Bool, true, false, ◌==◌, ◌&&◌, Ok}
use Rattle.std.specs.Int.{w32, cast_signed, cast_unsigned}
use Rattle.std.proofs.lemmas.Bool.{ne_eqb}
use Rattle.std.proofs.lemmas.Bool.Decides.{nat_tests}
use Rattle.std.proofs.lemmas.Int.{of_z-to_z}
use Rattle.word32.specs.Words.{signed, word_of}
use Rattle.word32.specs.Division.{quotient, remainder, div_s}

pub signed_is : (n : ℕ) → n < 4294967296 → cast_signed w32 n ≡ signed n
signed_is n h = grind (arith, nat_tests)

pub word_is : (z : ℤ) → nat_abs z < 4294967296 → cast_unsigned w32 (cast_signed w32 (cast_unsigned w32 z)) ≡ word_of z
word_is (pos n) h = of_z-to_z w32 n h ∙ omega arith
word_is (negsuc n) h = of_z-to_z w32 (4294967296 - suc n) (omega arith) ∙ omega arith

negated_abs : (n : ℕ) → nat_abs (neg_ℤ (pos n)) ≡ n
negated_abs zero = refl
negated_abs (suc n) = refl

quotient_under : (a b m : ℕ) → a < m → a / b < m
quotient_under a b m h = grind arith

signed_under : (n : ℕ) → n < 4294967296 → nat_abs (signed n) < 4294967296
signed_under n h = grind (arith, nat_tests)

quotient_fits : (x y : ℤ) → nat_abs x < 4294967296 → nat_abs (int_div x y) < 4294967296
quotient_fits (pos a) (pos b) h = quotient_under a b 4294967296 h
quotient_fits (pos a) (negsuc b) h = omega (arith, negated_abs (a / suc b), quotient_under a (suc b) 4294967296 h)
quotient_fits (negsuc a) (pos b) h = omega (arith, negated_abs (suc a / b), quotient_under (suc a) b 4294967296 h)
quotient_fits (negsuc a) (negsuc b) h = quotient_under (suc a) (suc b) 4294967296 h

remainder_under : (a m k : ℕ) → a < k → a % m < k
remainder_under a m k h = grind arith

remainder_fits : (x y : ℤ) → nat_abs x < 4294967296 → nat_abs (int_rem x y) < 4294967296
remainder_fits (pos a) y h = remainder_under a (nat_abs y) 4294967296 h
remainder_fits (negsuc a) y h =
    omega (arith, negated_abs (suc a % nat_abs y), remainder_under (suc a) (nat_abs y) 4294967296 h)

-- a word that was cast to its signed view, as an operand
operand_is : (n : ℕ) (x : ℤ) → n < 4294967296 → x ≡ cast_signed w32 n → cast_signed w32 (cast_unsigned w32 x) ≡ signed n
operand_is n x h e =
    ap (λ z. cast_signed w32 (cast_unsigned w32 z)) e ∙ (ap (cast_signed w32) (of_z-to_z w32 n h) ∙ signed_is n h)

-- what the code gives for an operation on two signed views
result_is :
    (f : ℤ → ℤ → ℤ) → ((x y : ℤ) → nat_abs x < 4294967296 → nat_abs (f x y) < 4294967296) →
    (a b q : ℕ) (x y : ℤ) → a < 4294967296 → b < 4294967296 → x ≡ cast_signed w32 a → y ≡ cast_signed w32 b →
    q ≡ cast_unsigned w32 (cast_signed w32 (cast_unsigned w32
    (f (cast_signed w32 (cast_unsigned w32 x)) (cast_signed w32 (cast_unsigned w32 y))))) →
    q ≡ word_of (f (signed a) (signed b))
result_is f fits a b q x y ha hb ex ey e =
    let given : ℤ → ℕ = λ z. cast_unsigned w32 (cast_signed w32 (cast_unsigned w32 z)) in
    e ∙ (ap (λ z. given (f z (cast_signed w32 (cast_unsigned w32 y)))) (operand_is a x ha ex)
    ∙ (ap (λ z. given (f (signed a) z)) (operand_is b y hb ey)
    ∙ word_is (f (signed a) (signed b)) (fits (signed a) (signed b) (signed_under a ha))))

pub quotient_is :
    (a b q : ℕ) (x y : ℤ) → a < 4294967296 → b < 4294967296 → x ≡ cast_signed w32 a → y ≡ cast_signed w32 b →
    q ≡ cast_unsigned w32 (cast_signed w32 (cast_unsigned w32
    (int_div (cast_signed w32 (cast_unsigned w32 x)) (cast_signed w32 (cast_unsigned w32 y))))) →
    q ≡ quotient a b
quotient_is = result_is int_div quotient_fits

pub remainder_is :
    (a b r : ℕ) (x y : ℤ) → a < 4294967296 → b < 4294967296 → x ≡ cast_signed w32 a → y ≡ cast_signed w32 b →
    r ≡ cast_unsigned w32 (cast_signed w32 (cast_unsigned w32
    (int_rem (cast_signed w32 (cast_unsigned w32 x)) (cast_signed w32 (cast_unsigned w32 y))))) →
    r ≡ remainder a b
remainder_is = result_is int_rem remainder_fits

with_false : (t : Bool) → (t && false) ≡ false
with_false true = refl
with_false false = refl

-- a pair that is no overflow
fits_test : (a b : ℕ) → (a ≢ 2147483648) ⊎ (b ≢ 4294967295) → ((a == 2147483648) && (b == 4294967295)) ≡ false
fits_test a b (inl h) = let e : (a == 2147483648) ≡ false = ne_eqb a 2147483648 h in rw e refl
fits_test a b (inr h) = let e : (b == 4294967295) ≡ false = ne_eqb b 4294967295 h in rw e (with_false (a == 2147483648))

-- the two, where neither fault comes
pub divides :
    (a b q r : ℕ) → b ≢ 0 → (a ≢ 2147483648) ⊎ (b ≢ 4294967295) → q ≡ quotient a b → r ≡ remainder a b →
    Ok (q, r) ≡ div_s a b
divides a b q r nonzero fits eq er =
    let z : (b == 0) ≡ false = ne_eqb b 0 nonzero in
    let o : ((a == 2147483648) && (b == 4294967295)) ≡ false = fits_test a b fits in
    rw (eq, er, z, o) refl
