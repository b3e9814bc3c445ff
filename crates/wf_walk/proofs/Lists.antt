-- Lists that grow: what stands in them still does.
use Rattle.std.proofs.Common.{◌≡◌, ℕ, zero, suc, Bool, true, false, ◌||◌, List, [], ◌∷◌, ◌++◌, length, refl, sym, ap}
use Rattle.std.proofs.Common.{subst, ◌∙◌, append_assoc, Some}
use Rattle.std.specs.Prelude.{◌==◌, ◌⊎◌, slice_get, slice_set, slice_index_or}
use Rattle.std.proofs.Common.{inl, inr}
use Rattle.typed_tree.specs.declared.expression.Stmt.{Stmt}
use Rattle.check_scopes.specs.declared.names.Meaning.{Meaning}
use Rattle.check_scopes.specs.Scopes.{Name, Scope, Scopes}
use Rattle.wellformed.specs.Places.{act}
use Rattle.wellformed.proofs.Bools.{front_by, back_by, same_number}
use Rattle.wf_walk.specs.Kept.{Starts}
use Rattle.wf_walk.specs.Known.{numbers, has, EachEntry, EachScope}

-- ---- places of a list

pub get_front : {A : Type 0} (xs ys : List A) (i : ℕ) (x : A) → slice_get xs i ≡ Some x →
    slice_get (xs ++ ys) i ≡ Some x
get_front [] ys i x is = cc
get_front (y ∷ xs) ys zero x is = is
get_front (y ∷ xs) ys (suc i) x is = get_front xs ys i x is

pub get_last : {A : Type 0} (xs : List A) (x : A) → slice_get (xs ++ x ∷ []) (length xs) ≡ Some x
get_last [] x = refl
get_last (y ∷ xs) x = get_last xs x

pub get_starts : {A : Type 0} {xs ys : List A} → Starts xs ys → (i : ℕ) (x : A) → slice_get xs i ≡ Some x →
    slice_get ys i ≡ Some x
get_starts {xs = xs} s i x e = ap (λ l. slice_get l i) s.is ∙ get_front xs s.rest i x e

-- ---- numbers

pub has_front : (i : ℕ) (xs ys : List ℕ) → has i xs ≡ true → has i (xs ++ ys) ≡ true
has_front i [] ys h = cc
has_front i (x ∷ xs) ys h = front_by (i == x) (has i xs) (has i (xs ++ ys)) (has_front i xs ys) h

pub has_back : (i : ℕ) (xs ys : List ℕ) → has i ys ≡ true → has i (xs ++ ys) ≡ true
has_back i [] ys h = h
has_back i (x ∷ xs) ys h = back_by (i == x) (has i (xs ++ ys)) (has_back i xs ys h)

either_by : {P : Type 0} (b c d : Bool) → (d ≡ true → (c ≡ true) ⊎ P) → (b || d) ≡ true → ((b || c) ≡ true) ⊎ P
either_by true c d f h = inl refl
either_by false c d f h = f h

pub has_either : (i : ℕ) (xs ys : List ℕ) → has i (xs ++ ys) ≡ true → (has i xs ≡ true) ⊎ (has i ys ≡ true)
has_either i [] ys h = inr h
has_either i (x ∷ xs) ys h = either_by (i == x) (has i xs) (has i (xs ++ ys)) (has_either i xs ys) h

pub has_self : (n : ℕ) → has n (n ∷ []) ≡ true
has_self n = ap (λ b. b || false) (same_number n)

pub has_none : (i : ℕ) {A : Type 0} → has i [] ≡ true → A
has_none i h = cc

pub numbers_append : (xs ys : List Stmt) → numbers (xs ++ ys) ≡ numbers xs ++ numbers ys
numbers_append [] ys = refl
numbers_append (x ∷ xs) ys =
    ap (λ l. (act x).number ++ l) (numbers_append xs ys) ∙ sym (append_assoc (act x).number (numbers xs) (numbers ys))

pub has_starts : {xs ys : List Stmt} → Starts xs ys → (i : ℕ) (ns : List ℕ) → has i (ns ++ numbers xs) ≡ true →
    has i (ns ++ numbers ys) ≡ true
has_starts {xs} {ys} s i ns h =
    subst (λ l. has i (ns ++ l) ≡ true) (sym (ap numbers s.is ∙ numbers_append xs s.rest))
    (subst (λ l. has i l ≡ true) (append_assoc ns (numbers xs) (numbers s.rest))
    (has_front i (ns ++ numbers xs) (numbers s.rest) h))

-- ---- scopes

pub scope_append : (P : Name → Meaning → Type 0) (xs ys : Scope) → EachEntry P xs → EachEntry P ys →
    EachEntry P (xs ++ ys)
scope_append P [] ys p q = q
scope_append P (x ∷ xs) ys p q = (p.0, scope_append P xs ys p.1 q)

pub scopes_append : (P : Name → Meaning → Type 0) (xs ys : Scopes) → EachScope P xs → EachScope P ys →
    EachScope P (xs ++ ys)
scopes_append P [] ys p q = q
scopes_append P (x ∷ xs) ys p q = (p.0, scopes_append P xs ys p.1 q)

pub scope_at : (P : Name → Meaning → Type 0) (ss : Scopes) (i : ℕ) → EachScope P ss →
    EachEntry P (slice_index_or ss i [])
scope_at P [] zero p = tt
scope_at P [] (suc i) p = tt
scope_at P (s ∷ ss) zero p = p.0
scope_at P (s ∷ ss) (suc i) p = scope_at P ss i p.1

pub scopes_set : (P : Name → Meaning → Type 0) (ss : Scopes) (i : ℕ) (s : Scope) → EachScope P ss → EachEntry P s →
    EachScope P (slice_set ss i s)
scopes_set P [] zero s p q = tt
scopes_set P [] (suc i) s p q = tt
scopes_set P (x ∷ ss) zero s p q = (q, p.1)
scopes_set P (x ∷ ss) (suc i) s p q = (p.0, scopes_set P ss i s p.1 q)
