-- Decimal numbers, as they are written and read.
use Rattle.std.proofs.Common.{◌≡◌, ℕ, ◌+◌, ◌*◌, ◌-◌, ◌<◌, ◌≤◌, ◌^◌, ◌==◌, Bool, true, false, ◌&&◌, nat_lt, cond, List}
use Rattle.std.proofs.Common.{[], ◌∷◌, length, drop, Option, Some, None, refl, ap, ◌∙◌, arith, lt-ltb}
use Rattle.std.specs.Prelude.{decimal, slice_index}
use Rattle.std.specs.Char.{is_ascii_digit}
use Rattle.std.specs.Char.{digit_value as std_value}
use Rattle.std.specs.List.{list_all}
use Rattle.std.specs.Str.Parse as parse
use Rattle.std.proofs.lemmas.Fmt.{decimal_is_IsNumeral}
use Rattle.std.proofs.lemmas.Str.{digit_value_digit}
use Rattle.std.proofs.lemmas.Str.Parse.{digit_from_value}
use Rattle.std.proofs.lemmas.Bool.{ne_eqb}
use Rattle.std.proofs.lemmas.Bool.Decides.{nat_tests}
use Rattle.asm_words.specs.declared.number.Number.{Number}
use Rattle.asm_words.specs.declared.number.Base.TheVariants.{Decimal, Hexadecimal}
use Rattle.asm_words.specs.Numbers.{number_of, number_in, are_digits, value_of, digit_value, fitting}

digit_test : (c : ℕ) → 48 ≤ c → c ≤ 57 → is_ascii_digit c ≡ true
digit_test c low high = grind (arith, nat_tests)

digit_is : (c : ℕ) → c ≤ 57 → digit_value c ≡ c - 48
digit_is c high = grind (arith, nat_tests)

both : (a b : Bool) → a ≡ true → b ≡ true → (a && b) ≡ true
both true b g h = h
both false b g h = g

all_digits : (ds : List ℕ) → parse.AllDigits 10 ds → list_all is_ascii_digit ds ≡ true
all_digits [] h = refl
all_digits (c ∷ cs) h =
    let r = digit_from_value c h.0 in
    both (is_ascii_digit c) (list_all is_ascii_digit cs) (digit_test c r.0 r.1) (all_digits cs h.1)

same_value : (n : ℕ) (ds : List ℕ) → parse.AllDigits 10 ds → value_of 10 n ds ≡ parse.digits_value_after 10 n ds
same_value n [] h = refl
same_value n (c ∷ cs) h =
    let r = digit_from_value c h.0 in
    let d = digit_value_digit c r in
    let high : c ≤ 57 = r.1 in
    let e : n * 10 + digit_value c ≡ n * 10 + std_value c = let m = digit_is c high in omega (arith, m, d) in
    ap (λ n. value_of 10 n cs) e ∙ same_value (n * 10 + std_value c) cs h.1

and_false : (t : Bool) → (t && false) ≡ false
and_false true = refl
and_false false = refl

no_prefix : (c : ℕ) (cs : List ℕ) → parse.AllDigits 10 cs → (c == 48 && slice_index (c ∷ cs) 1 == 120) ≡ false
no_prefix c [] h = grind (arith, nat_tests)
no_prefix c (d ∷ cs) h =
    let r = digit_from_value d h.0 in
    let high : d ≤ 57 = r.1 in
    let e : d == 120 ≡ false = ne_eqb d 120 (λ e. omega (arith, e, high)) in
    ap (λ t. c == 48 && t) e ∙ and_false (c == 48)

fits : (n : ℕ) → n ≤ 4294967295 → fitting n ≡ Some n
fits n h = grind (arith, nat_tests)

-- Digits are the number that they spell.
pub number_digits : (ds : List ℕ) → parse.IsNumeral 10 ds → parse.digits_value 10 ds ≤ 4294967295 →
    number_of ds ≡ Some (record { negative = false; magnitude = Some (parse.digits_value 10 ds) })
unfolding number_of
number_digits [] h small = absurd (omega (arith, h.0))
number_digits (c ∷ cs) h small =
    let r = digit_from_value c h.1.0 in
    let high : c ≤ 57 = r.1 in
    let low : 48 ≤ c = r.0 in
    let w : List ℕ = c ∷ cs in
    let no_minus : c == 45 ≡ false = ne_eqb c 45 (λ e. omega (arith, e, low)) in
    let digits : are_digits Decimal w ≡ true =
    both (nat_lt 0 (length w)) (list_all is_ascii_digit w) (lt-ltb 0 (length w) h.0) (all_digits w h.1) in
    let minus : Option Number = number_in true Decimal cs in
    let prefixed : Option Number = number_in false Hexadecimal (drop 2 w) in
    let plain : Option Number = number_in false Decimal w in
    ap (λ t. cond t minus (cond (c == 48 && slice_index w 1 == 120) prefixed plain)) no_minus
    ∙ ap (λ t. cond t prefixed plain) (no_prefix c cs h.1.1)
    ∙ ap (λ t. cond t (Some (record { negative = false; magnitude = fitting (value_of 10 0 w) })) None) digits
    ∙ ap (λ n. Some (record { negative = false; magnitude = fitting n })) (same_value 0 w h.1)
    ∙ ap (λ m. Some (record { negative = false; magnitude = m })) (fits (parse.digits_value 10 w) small)

pub number_decimal : (n : ℕ) → n < 4294967296 →
    number_of (decimal n) ≡ Some (record { negative = false; magnitude = Some n })
number_decimal n h =
    let wide : n < 2 ^ 64 = omega arith in
    let d = decimal_is_IsNumeral n wide in
    let small : parse.digits_value 10 (decimal n) ≤ 4294967295 = let e = d.1 in omega (arith, e, h) in
    number_digits (decimal n) d.0 small
    ∙ ap (λ m. Some (record { negative = false; magnitude = Some m })) d.1

-- Behind a minus they are a negative number.
pub negative_decimal : (n : ℕ) → n < 4294967296 →
    number_of (45 ∷ decimal n) ≡ Some (record { negative = true; magnitude = Some n })
unfolding number_of
negative_decimal n h =
    let wide : n < 2 ^ 64 = omega arith in
    let w : List ℕ = decimal n in
    let d = decimal_is_IsNumeral n wide in
    let digits : are_digits Decimal w ≡ true =
    both (nat_lt 0 (length w)) (list_all is_ascii_digit w) (lt-ltb 0 (length w) d.0.0) (all_digits w d.0.1) in
    let small : n ≤ 4294967295 = omega arith in
    ap (λ t. cond t (Some (record { negative = true; magnitude = fitting (value_of 10 0 w) })) None) digits
    ∙ ap (λ n. Some (record { negative = true; magnitude = fitting n })) (same_value 0 w d.0.1 ∙ d.1)
    ∙ ap (λ m. Some (record { negative = true; magnitude = m })) (fits n small)
