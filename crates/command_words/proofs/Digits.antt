-- Words of decimal digits are what std's `parse` reads.
use Rattle.std.proofs.Common.{◌≡◌, ◌∙◌, sym, ℕ, ◌<◌, ◌≤◌, ◌^◌, Err, length, List, [], ◌∷◌, true, refl, arith}
use Rattle.std.proofs.lemmas.Grind.{common_steps}
use Rattle.std.specs.Char.{is_ascii_digit}
use Rattle.std.specs.List.{list_all}
use Rattle.std.specs.Str.{all_ascii_digits}
use Rattle.std.proofs.lemmas.Str.Parse.{IsDigitsTest, IsNumeralModel, tells_all_ascii_digits, numerals_by_value}
use Rattle.std.proofs.lemmas.Str.Parse.{parse_digits}
use Rattle.std.specs.Str.Parse.{digits_value, ParsesUnsigned}
use Rattle.std.proofs.lemmas.Int.Digits.{digits_value-lt}
use Rattle.std.proofs.Math.Nat.{pow-le-pow_right}
use Rattle.command_words.specs.Orders.{are_digits}

same : (cs : List ℕ) → all_ascii_digits cs ≡ list_all is_ascii_digit cs
same [] = refl
same (c ∷ cs) = rw (same cs) refl

pub tells_list_all : IsDigitsTest (λ ds. list_all is_ascii_digit ds ≡ true)
tells_list_all = record {
  empty = refl;
  parts = λ c cs p. let k = tells_all_ascii_digits.parts c cs (same (c ∷ cs) ∙ p) in (k.0, sym (same cs) ∙ k.1);
  more = λ c cs r p. sym (same (c ∷ cs)) ∙ tells_all_ascii_digits.more c cs r (same cs ∙ p);
}

numerals : IsNumeralModel (λ ds. list_all is_ascii_digit ds ≡ true) (digits_value 10)
numerals = numerals_by_value (λ ds. list_all is_ascii_digit ds ≡ true) tells_list_all

-- the number of such a word fits 64 bits, so it is read
value_is_small : (w : List ℕ) → list_all is_ascii_digit w ≡ true → length w ≤ 19 → digits_value 10 w < 2 ^ 64
value_is_small w digits short =
    let below : digits_value 10 w < 10 ^ length w = digits_value-lt 10 w (numerals.to w digits) in
    let few : 10 ^ length w ≤ 10 ^ 19 = pow-le-pow_right (omega arith) short in
    omega arith

pub always_read : {E : Type 0} (w : List ℕ) (e : E) → are_digits w ≡ true → ParsesUnsigned 64 10 w (Err e) → ⊥
always_read w e digits parsed =
    let each : list_all is_ascii_digit w ≡ true = grind (arith, common_steps) in
    parse_digits numerals 64 w (Err e) parsed each (grind arith, value_is_small w each (grind arith))
