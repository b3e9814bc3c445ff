-- How many different local variables there are among keys, as a sum over all keys.
use Rattle.std.proofs.Common.{◌≡◌, ℕ, zero, suc, ◌+◌, ◌<◌, ◌≤◌, Bool, true, false, List, [], ◌∷◌, refl, sym}
use Rattle.std.proofs.Common.{ap, ◌∙◌, nat_eq, nat_lt, arith}
use Rattle.std.specs.Prelude.{max, if◌then◌else◌}
use Rattle.std.proofs.lemmas.Bool.Decides.{nat_tests}
use Rattle.limits.specs.declared.program.TheConstants.{MOST_ARGUMENTS}
use Rattle.meaning_state.specs.Rows.{is_among, count_locals}
use Rattle.generated_ops_proof.proofs.Goes.{one_if}
use Rattle.generated_ops_proof.proofs.Sums.{sum_to, sums_agree}

-- a local variable among keys counts one
abbrev counts : List ℕ → ℕ → ℕ
counts keys k = if nat_lt k MOST_ARGUMENTS then 0 else one_if (is_among k keys)

-- all keys are below it
abbrev pub top : List ℕ → ℕ
top [] = 0
top (key ∷ keys) = max (suc key) (top keys)

sum_less : (f g : ℕ → ℕ) (n : ℕ) → ((i : ℕ) → f i ≤ g i) → sum_to f n ≤ sum_to g n
sum_less f g zero le = omega arith
sum_less f g (suc n) le = omega (arith, sum_less f g n le, le n)

-- a sum that has one more at one place
pub sum_point : (f g : ℕ → ℕ) (at n : ℕ) → at < n → ((k : ℕ) → nat_eq k at ≡ false → f k ≡ g k) → f at ≡ 1 + g at
    → sum_to f n ≡ 1 + sum_to g n
sum_point f g at zero low other here = absurd (omega (arith, low))
sum_point f g at (suc n) low other here = by (nat_eq n at) refl (λ l. sum_point f g at n l other here)
  where
    by : (b : Bool) → nat_eq n at ≡ b → (at < n → sum_to f n ≡ 1 + sum_to g n)
        → sum_to f n + f n ≡ 1 + (sum_to g n + g n)
    by true e rest =
        let same : n ≡ at = grind (arith, nat_tests) in
        let before = sums_agree f g n (λ i l. other i
        (let apart : nat_eq i at ≡ false = grind (arith, nat_tests) in apart)) in
        omega (arith, before, ap f same, ap g same, here)
    by false e rest =
        let less : at < n = grind (arith, nat_tests) in omega (arith, rest less, other n e)

-- a parameter more, or one that is there, counts nothing
parameter_more : (key : ℕ) (keys : List ℕ) → nat_lt key MOST_ARGUMENTS ≡ true → (k : ℕ)
    → counts (key ∷ keys) k ≡ counts keys k
parameter_more key keys low k = by (nat_lt k MOST_ARGUMENTS) refl
  where
    by : (b : Bool) → nat_lt k MOST_ARGUMENTS ≡ b
        → (if b then 0 else one_if (if nat_eq k key then true else is_among k keys))
        ≡ (if b then 0 else one_if (is_among k keys))
    by true e = refl
    by false e =
        let apart : nat_eq k key ≡ false = grind (arith, nat_tests) in
        ap (λ z. one_if (if z then true else is_among k keys)) apart

old_more : (key : ℕ) (keys : List ℕ) → is_among key keys ≡ true → (k : ℕ) → counts (key ∷ keys) k ≡ counts keys k
old_more key keys there k = by (nat_eq k key) refl
  where
    by : (b : Bool) → nat_eq k key ≡ b
        → (if nat_lt k MOST_ARGUMENTS then 0 else one_if (if b then true else is_among k keys)) ≡ counts keys k
    by true e =
        let same : key ≡ k = grind (arith, nat_tests) in
        let among : true ≡ is_among k keys = sym there ∙ ap (λ z. is_among z keys) same in
        ap (λ z. if nat_lt k MOST_ARGUMENTS then 0 else one_if z) among
    by false e = refl

other_more : (key : ℕ) (keys : List ℕ) (k : ℕ) → nat_eq k key ≡ false → counts (key ∷ keys) k ≡ counts keys k
other_more key keys k e =
    ap (λ z. if nat_lt k MOST_ARGUMENTS then 0 else one_if (if z then true else is_among k keys)) e

new_here : (key : ℕ) (keys : List ℕ) → nat_lt key MOST_ARGUMENTS ≡ false → is_among key keys ≡ false
    → counts (key ∷ keys) key ≡ 1 + counts keys key
new_here key keys high none =
    let same : nat_eq key key ≡ true = grind (arith, nat_tests) in
    let one : counts (key ∷ keys) key ≡ 1 =
    ap (λ z. if z then 0 else one_if (if nat_eq key key then true else is_among key keys)) high
    ∙ ap (λ z. one_if (if z then true else is_among key keys)) same in
    let zero_there : counts keys key ≡ 0 =
    ap (λ z. if z then 0 else one_if (is_among key keys)) high ∙ ap one_if none in
    omega (arith, one, zero_there)

either : (b : Bool) (x : ℕ) → x ≡ 0 → (if b then 0 else x) ≡ 0
either true x e = refl
either false x e = e

no_sum : (n : ℕ) → sum_to (counts []) n ≡ 0
no_sum zero = refl
no_sum (suc n) = omega (arith, no_sum n, either (nat_lt n MOST_ARGUMENTS) (one_if false) refl)

locals_sum : (keys : List ℕ) (n : ℕ) → top keys ≤ n → count_locals keys ≡ sum_to (counts keys) n
locals_sum [] n low = sym (no_sum n)
locals_sum (key ∷ keys) n low =
    by (nat_lt key MOST_ARGUMENTS) (is_among key keys) refl refl (locals_sum keys n (omega (arith, low)))
  where
    by : (b c : Bool) → nat_lt key MOST_ARGUMENTS ≡ b → is_among key keys ≡ c
        → count_locals keys ≡ sum_to (counts keys) n
        → (if b then count_locals keys else (if c then count_locals keys else suc (count_locals keys)))
        ≡ sum_to (counts (key ∷ keys)) n
    by true c e f rest =
        rest ∙ sums_agree (counts keys) (counts (key ∷ keys)) n (λ i l. sym (parameter_more key keys e i))
    by false true e f rest =
        rest ∙ sums_agree (counts keys) (counts (key ∷ keys)) n (λ i l. sym (old_more key keys f i))
    by false false e f rest =
        let one = sum_point (counts (key ∷ keys)) (counts keys) key n (omega (arith, low)) (other_more key keys)
        (new_here key keys e f) in
        omega (arith, rest, one)

-- so where each key of a list is among others, these have as many local variables at least
pub locals_less : (xs ys : List ℕ) → ((key : ℕ) → is_among key xs ≡ true → is_among key ys ≡ true)
    → count_locals xs ≤ count_locals ys
locals_less xs ys all =
    let n : ℕ = top xs + top ys in
    let left = locals_sum xs n (omega arith) in
    let right = locals_sum ys n (omega arith) in
    let less = sum_less (counts xs) (counts ys) n (λ k. by k (nat_lt k MOST_ARGUMENTS) (is_among k xs) refl) in
    omega (arith, left, right, less)
  where
    by : (k : ℕ) (b c : Bool) → is_among k xs ≡ c
        → (if b then 0 else one_if c) ≤ (if b then 0 else one_if (is_among k ys))
    by k true c e = omega arith
    by k false false e = omega arith
    by k false true e = let there = ap one_if (all k e) in omega (arith, there)
