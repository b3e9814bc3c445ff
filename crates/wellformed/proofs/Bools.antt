-- What tests of Booleans and of numbers tell of one another.
use Rattle.std.proofs.Common.{◌≡◌, ℕ, ◌≤◌, ◌==◌, Bool, true, false, ◌&&◌, ◌||◌, nat_le, refl, ap, ◌∙◌, arith}
use Rattle.std.proofs.lemmas.Bool.Decides.{nat_tests}

-- ---- both

pub and_true : (b c : Bool) → b ≡ true → c ≡ true → (b && c) ≡ true
and_true b c p q = ap (λ (x : Bool). x && c) p ∙ q

pub first_true : (b c : Bool) → (b && c) ≡ true → b ≡ true
first_true true c h = refl
first_true false c h = h

pub second_true : (b c : Bool) → (b && c) ≡ true → c ≡ true
second_true true c h = h
second_true false c h = cc

-- ---- one or the other

pub both_false : (b c : Bool) → b ≡ false → c ≡ false → (b || c) ≡ false
both_false b c p q = ap (λ (x : Bool). x || c) p ∙ q

pub first_false : (b c : Bool) → (b || c) ≡ false → b ≡ false
first_false true c h = h
first_false false c h = refl

pub second_false : (b c : Bool) → (b || c) ≡ false → c ≡ false
second_false true c h = cc
second_false false c h = h

pub front_by : (b c d : Bool) → (c ≡ true → d ≡ true) → (b || c) ≡ true → (b || d) ≡ true
front_by true c d f h = refl
front_by false c d f h = f h

pub back_by : (b c : Bool) → c ≡ true → (b || c) ≡ true
back_by true c h = refl
back_by false c h = h

-- ---- numbers

pub same_number : (n : ℕ) → (n == n) ≡ true
same_number n = grind (arith, nat_tests)

pub le_true : (m n : ℕ) → m ≤ n → nat_le m n ≡ true
le_true m n h = grind (arith, nat_tests)

pub le_less : (m n k : ℕ) → m ≤ n → nat_le n k ≡ true → nat_le m k ≡ true
le_less m n k p q = grind (arith, nat_tests)

pub le_more : (m n k : ℕ) → n ≤ k → nat_le m n ≡ true → nat_le m k ≡ true
le_more m n k p q = grind (arith, nat_tests)
