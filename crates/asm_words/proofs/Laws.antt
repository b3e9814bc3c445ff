-- The numbers that digits spell.
use Rattle.std.proofs.Common.{◌≡◌, ℕ, ◌+◌, ◌*◌, ◌<◌, ◌≤◌, List, [], ◌∷◌, length, drop, get_or, add-one, refl, arith}
use Rattle.std.proofs.Common.{drop-cons}
use Rattle.std.proofs.Math.Nat.{mul-le-mul_left}
use Rattle.asm_words.specs.Numbers.{value_of, digit_value}

-- A number only grows.
pub value_of_grows : (base n : ℕ) (z : List ℕ) → 1 ≤ base → n ≤ value_of base n z
value_of_grows base n [] h = omega arith
value_of_grows base n (b ∷ z) h =
    let rest = value_of_grows base (n * base + digit_value b) z h in
    let m : n * 1 ≤ n * base = mul-le-mul_left n h in
    omega (arith, rest, m)

-- One digit on.
pub value_of_at : (base n i : ℕ) (z : List ℕ) → i < length z →
    value_of base n (drop i z) ≡ value_of base (n * base + digit_value (get_or z i 0)) (drop (i + 1) z)
value_of_at base n i z h = rw (add-one, drop-cons z i 0 h) refl
