-- Members of two lists of one length, and of a list that has grown.
use Rattle.std.proofs.Common.{◌≡◌, ◌⊎◌, inl, inr, ℕ, zero, suc, ◌<◌, List, [], ◌∷◌, ◌++◌, length, Some}
use Rattle.std.proofs.Common.{None, refl, ◌∙◌, arith, slice_get}
use Rattle.std.proofs.lemmas.Option.{slice_get_within}
use Rattle.meaning_state.specs.Rows.{numbered}

-- the members of a number
pub record Members {A B : Type 0} (xs : List A) (ys : List B) (n : ℕ) : Type 0 where
  pub left : A
  pub right : B
  pub left_is : slice_get xs n ≡ Some left
  pub right_is : slice_get ys n ≡ Some right

-- both lists have a member of a number, or neither has one
pub members : {A B : Type 0} (xs : List A) (ys : List B) (n : ℕ) → length ys ≡ length xs →
    Members xs ys n ⊎ ((slice_get xs n ≡ None) × (slice_get ys n ≡ None))
members [] [] n same = inr (refl, refl)
members [] (y ∷ ys) n same = let z : ⊥ = omega (arith, same) in absurd z
members (x ∷ xs) [] n same = let z : ⊥ = omega (arith, same) in absurd z
members (x ∷ xs) (y ∷ ys) zero same = inl (record { left = x; right = y; left_is = refl; right_is = refl })
members (x ∷ xs) (y ∷ ys) (suc n) same = elim (members xs ys n (omega (arith, same))) [
  | inl m ↦ inl (record { left = m.left; right = m.right; left_is = m.left_is; right_is = m.right_is })
  | inr none ↦ inr none
]

pub get_before : {A : Type 0} (xs : List A) (y : A) (n : ℕ) → n < length xs →
    slice_get (xs ++ y ∷ []) n ≡ slice_get xs n
get_before [] y n l = let z : ⊥ = omega (arith, l) in absurd z
get_before (x ∷ xs) y zero l = refl
get_before (x ∷ xs) y (suc n) l = get_before xs y n (omega (arith, l))

pub get_last : {A : Type 0} (xs : List A) (y : A) → slice_get (xs ++ y ∷ []) (length xs) ≡ Some y
get_last [] y = refl
get_last (x ∷ xs) y = get_last xs y

-- a live number stays live
pub live_stays : {A : Type 0} (xs : List A) (y x : A) (n : ℕ) → numbered n xs ≡ Some x →
    numbered n (xs ++ y ∷ []) ≡ Some x
live_stays xs y x zero e = let z : ⊥ = cc in absurd z
live_stays xs y x (suc n) e = get_before xs y n (slice_get_within xs n x e) ∙ e

-- a member of a longer list is one of the shorter, or the last
pub in_longer : {A : Type 0} (xs : List A) (y x : A) (n : ℕ) → slice_get (xs ++ y ∷ []) n ≡ Some x →
    ((n < length xs) × (slice_get xs n ≡ Some x)) ⊎ ((n ≡ length xs) × (y ≡ x))
in_longer [] y x zero e = inr (refl, cc)
in_longer [] y x (suc n) e = let z : ⊥ = cc in absurd z
in_longer (w ∷ xs) y x zero e = inl (omega arith, e)
in_longer (w ∷ xs) y x (suc n) e = elim (in_longer xs y x n e) [
  | inl before ↦ inl (omega (arith, before.0), before.1)
  | inr last ↦ inr (omega (arith, last.0), last.1)
]
