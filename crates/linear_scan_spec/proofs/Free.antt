-- The least number that is not taken.
use Rattle.std.proofs.Common.{ℕ, zero, suc, ◌+◌, ◌≡◌, ◌<◌, ◌≤◌, ◌⊎◌, inl, inr, Bool, true, false, cond, eqb, List, []}
use Rattle.std.proofs.Common.{◌∷◌, length, refl, ap, arith}
use Rattle.std.proofs.lemmas.Bool.Decides.{nat_tests}
use Rattle.std.proofs.lemmas.Map.Made.{length-le_from_is_member}
use Rattle.std.specs.Cmp.{nat_eq_equiv}
use Rattle.std.specs.List.{list_any, IsDistinct, AllByRecursion}
use Rattle.linear_scan_spec.specs.Scan.{least_free}

-- fuel numbers from n on
abbrev from : ℕ → ℕ → List ℕ
from zero n = []
from (suc fuel) n = n ∷ from fuel (suc n)

length-from : (fuel n : ℕ) → length (from fuel n) ≡ fuel
length-from zero n = refl
length-from (suc fuel) n = ap suc (length-from fuel (suc n))

from-above : (fuel n q : ℕ) → q < n → AllByRecursion (λ y. eqb q y ≡ false) (from fuel n)
from-above zero n q h = tt
from-above (suc fuel) n q h = (grind (arith, nat_tests), from-above fuel (suc n) q (omega arith))

from-distinct : (fuel n : ℕ) → IsDistinct eqb (from fuel n)
unfolding IsDistinct
from-distinct zero n = tt
from-distinct (suc fuel) n = (from-above fuel (suc n) n (omega arith), from-distinct fuel (suc n))

abbrev taken_any : List ℕ → ℕ → Bool
taken_any taken q = list_any (λ t. eqb q t) taken

-- either the number is free, or all were taken
least : (fuel n : ℕ) (taken : List ℕ)
    → ((taken_any taken (least_free fuel n taken) ≡ false) × (least_free fuel n taken < n + fuel))
    ⊎ ((q : ℕ) → list_any (λ y. eqb q y) (from fuel n) ≡ true → taken_any taken q ≡ true)
unfolding least_free
least zero n taken = inr (λ q h. absurd (cc))
least (suc fuel) n taken = by-case (taken_any taken n) refl (least fuel (suc n) taken)
  where
    by-case : (b : Bool) → taken_any taken n ≡ b
        → ((taken_any taken (least_free fuel (suc n) taken) ≡ false)
        × (least_free fuel (suc n) taken < suc n + fuel)) ⊎ ((q : ℕ)
        → list_any (λ y. eqb q y) (from fuel (suc n)) ≡ true → taken_any taken q ≡ true)
        → ((taken_any taken (cond b (least_free fuel (suc n) taken) n) ≡ false)
        × (cond b (least_free fuel (suc n) taken) n < n + suc fuel)) ⊎ ((q : ℕ)
        → list_any (λ y. eqb q y) (n ∷ from fuel (suc n)) ≡ true → taken_any taken q ≡ true)
    by-case true e (inl r) = inl (r.0, omega (arith, r.1))
    by-case true e (inr f) = inr (λ q h. inner q (eqb q n) refl e f h)
      where
        inner : (q : ℕ) (c : Bool) → eqb q n ≡ c → taken_any taken n ≡ true
            → ((p : ℕ) → list_any (λ y. eqb p y) (from fuel (suc n)) ≡ true → taken_any taken p
            ≡ true) → list_any (λ y. eqb q y) (n ∷ from fuel (suc n)) ≡ true → taken_any taken q
            ≡ true
        inner q true i t g k = let same : q ≡ n = grind (arith, nat_tests) in rw same t
        inner q false i t g k = g q (grind arith)
    by-case false e r = inl (e, omega arith)

pub least_free-free : (taken : List ℕ) → length taken < 12
    → (list_any (λ t. eqb (least_free 12 0 taken) t) taken ≡ false) × (least_free 12 0 taken < 12)
least_free-free taken h = by-case (least 12 0 taken)
  where
    by-case : ((taken_any taken (least_free 12 0 taken) ≡ false) × (least_free 12 0 taken < 0 + 12))
        ⊎ ((q : ℕ) → list_any (λ y. eqb q y) (from 12 0) ≡ true → taken_any taken q ≡ true)
        → (list_any (λ t. eqb (least_free 12 0 taken) t) taken ≡ false)
        × (least_free 12 0 taken < 12)
    by-case (inl r) = r
    by-case (inr f) =
        let l : length (from 12 0) ≤ length taken = length-le_from_is_member nat_eq_equiv
        (from 12 0) taken (from-distinct 12 0) f in absurd (omega (arith, l))

free-at : (fuel n : ℕ) (ts : List ℕ) → n + fuel ≡ 12 → least_free fuel n ts < 12
    → list_any (λ t. eqb (least_free fuel n ts) t) ts ≡ false
unfolding least_free
free-at zero n ts e l = absurd (omega arith)
free-at (suc fuel) n ts e l =
    by-case (taken_any ts n) refl l (free-at fuel (suc n) ts (omega arith))
  where
    by-case : (b : Bool) → taken_any ts n ≡ b → cond b (least_free fuel (suc n) ts) n < 12
        → (least_free fuel (suc n) ts < 12 → taken_any ts (least_free fuel (suc n) ts) ≡ false)
        → taken_any ts (cond b (least_free fuel (suc n) ts) n) ≡ false
    by-case true t m r = r m
    by-case false t m r = t

-- a number below 12 that the search gives is free
pub is-free : (taken : List ℕ) → least_free 12 0 taken < 12
    → list_any (λ t. eqb (least_free 12 0 taken) t) taken ≡ false
is-free taken h = free-at 12 0 taken (omega arith) h
