-- Words in hexadecimal, as they are written and read.
use Rattle.std.proofs.Common.{◌≡◌, ℕ, ◌+◌, ◌*◌, ◌/◌, ◌%◌, ◌<◌, Bool, true, false, ◌&&◌, cond, Some, None, refl, ap, ◌∙◌}
use Rattle.std.proofs.Common.{arith}
use Rattle.std.specs.Char.{is_ascii_hexdigit}
use Rattle.std.specs.List.{list_all}
use Rattle.std.proofs.lemmas.Bool.Decides.{nat_tests}
use Rattle.asm_print.specs.Numbers.{hex_digit, hex_word, prefixed_word}
use Rattle.asm_words.specs.Numbers.{number_of, value_of, digit_value, fitting}

pub hex_test : (d : ℕ) → d < 16 → is_ascii_hexdigit (hex_digit d) ≡ true
hex_test d h = grind (arith, nat_tests)

pub hex_value : (d : ℕ) → d < 16 → digit_value (hex_digit d) ≡ d
hex_value d h = grind (arith, nat_tests)

both : (a b : Bool) → a ≡ true → b ≡ true → (a && b) ≡ true
both true b g h = h
both false b g h = g

-- One digit more of a word, whose digits before are the word divided by 16 times as much.
next_digit : (n d q : ℕ) → d < 16 → n * 16 + d ≡ q → n * 16 + digit_value (hex_digit d) ≡ q
next_digit n d q h e = let v = hex_value d h in omega (arith, v, e)

fits : (n : ℕ) → n < 4294967296 → fitting n ≡ Some n
fits n h = grind (arith, nat_tests)

hex_all : (w : ℕ) → list_all is_ascii_hexdigit (hex_word w) ≡ true
hex_all w =
    let t1 = hex_test (w / 268435456 % 16) (omega arith) in
    let t2 = hex_test (w / 16777216 % 16) (omega arith) in
    let t3 = hex_test (w / 1048576 % 16) (omega arith) in
    let t4 = hex_test (w / 65536 % 16) (omega arith) in
    let t5 = hex_test (w / 4096 % 16) (omega arith) in
    let t6 = hex_test (w / 256 % 16) (omega arith) in
    let t7 = hex_test (w / 16 % 16) (omega arith) in
    let t8 = hex_test (w % 16) (omega arith) in
    both _ _ t1 (both _ _ t2 (both _ _ t3 (both _ _ t4 (both _ _ t5 (both _ _ t6 (both _ _ t7 (both _ _ t8 refl)))))))

hex_number : (w : ℕ) → w < 4294967296 → value_of 16 0 (hex_word w) ≡ w
hex_number w h =
    let e1 : 0 * 16 + digit_value (hex_digit (w / 268435456 % 16)) ≡ w / 268435456 =
    next_digit 0 (w / 268435456 % 16) (w / 268435456) (omega arith) (omega arith) in
    let e2 : w / 268435456 * 16 + digit_value (hex_digit (w / 16777216 % 16)) ≡ w / 16777216 =
    next_digit (w / 268435456) (w / 16777216 % 16) (w / 16777216) (omega arith) (omega arith) in
    let e3 : w / 16777216 * 16 + digit_value (hex_digit (w / 1048576 % 16)) ≡ w / 1048576 =
    next_digit (w / 16777216) (w / 1048576 % 16) (w / 1048576) (omega arith) (omega arith) in
    let e4 : w / 1048576 * 16 + digit_value (hex_digit (w / 65536 % 16)) ≡ w / 65536 =
    next_digit (w / 1048576) (w / 65536 % 16) (w / 65536) (omega arith) (omega arith) in
    let e5 : w / 65536 * 16 + digit_value (hex_digit (w / 4096 % 16)) ≡ w / 4096 =
    next_digit (w / 65536) (w / 4096 % 16) (w / 4096) (omega arith) (omega arith) in
    let e6 : w / 4096 * 16 + digit_value (hex_digit (w / 256 % 16)) ≡ w / 256 =
    next_digit (w / 4096) (w / 256 % 16) (w / 256) (omega arith) (omega arith) in
    let e7 : w / 256 * 16 + digit_value (hex_digit (w / 16 % 16)) ≡ w / 16 =
    next_digit (w / 256) (w / 16 % 16) (w / 16) (omega arith) (omega arith) in
    let e8 : w / 16 * 16 + digit_value (hex_digit (w % 16)) ≡ w =
    next_digit (w / 16) (w % 16) w (omega arith) (omega arith) in
    let d2 = digit_value (hex_digit (w / 16777216 % 16)) in
    let d3 = digit_value (hex_digit (w / 1048576 % 16)) in
    let d4 = digit_value (hex_digit (w / 65536 % 16)) in
    let d5 = digit_value (hex_digit (w / 4096 % 16)) in
    let d6 = digit_value (hex_digit (w / 256 % 16)) in
    let d7 = digit_value (hex_digit (w / 16 % 16)) in
    let d8 = digit_value (hex_digit (w % 16)) in
    ap (λ n. ((((((n * 16 + d2) * 16 + d3) * 16 + d4) * 16 + d5) * 16 + d6) * 16 + d7) * 16 + d8) e1
    ∙ ap (λ n. (((((n * 16 + d3) * 16 + d4) * 16 + d5) * 16 + d6) * 16 + d7) * 16 + d8) e2
    ∙ ap (λ n. ((((n * 16 + d4) * 16 + d5) * 16 + d6) * 16 + d7) * 16 + d8) e3
    ∙ ap (λ n. (((n * 16 + d5) * 16 + d6) * 16 + d7) * 16 + d8) e4
    ∙ ap (λ n. ((n * 16 + d6) * 16 + d7) * 16 + d8) e5
    ∙ ap (λ n. (n * 16 + d7) * 16 + d8) e6
    ∙ ap (λ n. n * 16 + d8) e7
    ∙ e8

pub number_word : (w : ℕ) → w < 4294967296 →
    number_of (prefixed_word w) ≡ Some (record { negative = false; magnitude = Some w })
unfolding number_of
number_word w h =
    ap (λ t. cond t (Some (record { negative = false; magnitude = fitting (value_of 16 0 (hex_word w)) })) None)
    (hex_all w)
    ∙ ap (λ n. Some (record { negative = false; magnitude = fitting n })) (hex_number w h)
    ∙ ap (λ m. Some (record { negative = false; magnitude = m })) (fits w h)
