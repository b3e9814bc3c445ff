-- A row with one member more.
use Rattle.std.proofs.Common.{◌≡◌, ◌≢◌, ◌⊎◌, inl, inr, ℕ, zero, suc, List, [], ◌∷◌, ◌++◌, length, Option, Some, None}
use Rattle.std.proofs.Common.{refl, sym, ap, ◌∙◌, slice_get}
use Rattle.meaning_state.specs.Rows.{numbered}

pub row_there : {A : Type 0} → (xs : List A) (y : A) → slice_get (xs ++ y ∷ []) (length xs) ≡ Some y
row_there [] y = refl
row_there (x ∷ xs) y = row_there xs y

pub row_on : {A : Type 0} → (xs : List A) (y z : A) (k : ℕ) → slice_get xs k ≡ Some z
    → slice_get (xs ++ y ∷ []) k ≡ Some z
row_on [] y z k e = absurd cc
row_on (x ∷ xs) y z zero e = e
row_on (x ∷ xs) y z (suc k) e = row_on xs y z k e

pub row_or_new : {A : Type 0} → (xs : List A) (y z : A) (k : ℕ) → slice_get (xs ++ y ∷ []) k ≡ Some z
    → (slice_get xs k ≡ Some z) ⊎ ((k ≡ length xs) × (y ≡ z))
row_or_new [] y z zero e = inr (refl, cc)
row_or_new [] y z (suc k) e = absurd cc
row_or_new (x ∷ xs) y z zero e = inl e
row_or_new (x ∷ xs) y z (suc k) e = by (row_or_new xs y z k e)
  where
    by : (slice_get xs k ≡ Some z) ⊎ ((k ≡ length xs) × (y ≡ z))
        → (slice_get xs k ≡ Some z) ⊎ ((suc k ≡ suc (length xs)) × (y ≡ z))
    by (inl h) = inl h
    by (inr h) = inr (ap suc h.0, h.1)

pub none_before : {A : Type 0} → (xs : List A) (y : A) (n : ℕ) → numbered n (xs ++ y ∷ []) ≡ None
    → (numbered n xs ≡ None) × (n ≢ suc (length xs))
none_before xs y zero e = (refl, λ q. absurd cc)
none_before xs y (suc k) e = (by (slice_get xs k) refl, λ q. other q)
  where
    by : (o : Option _) → slice_get xs k ≡ o → slice_get xs k ≡ None
    by None is = is
    by (Some z) is = absurd (let h = sym (row_on xs y z k is) ∙ e in cc)

    other : suc k ≡ suc (length xs) → ⊥
    other q =
        let same : k ≡ length xs = cc in
        absurd (let h = sym (row_there xs y) ∙ (sym (ap (slice_get (xs ++ y ∷ [])) same) ∙ e) in cc)
