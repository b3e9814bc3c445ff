-- Members of lists of numbers.
use Rattle.std.proofs.Common.{ℕ, suc, zero, ◌≡◌, ◌<◌, ◌++◌, inl, inr, List, [], ◌∷◌, length, get_or, refl, sym, ◌∙◌, ap}
use Rattle.std.proofs.Common.{subst, arith, append_assoc}
use Rattle.std.proofs.lemmas.List.{append-nil}
use Rattle.icode_ranges.specs.Lists.{In, Each, Extends}

pub Each-weaker : (P Q : ℕ → Type 0) → ((x : ℕ) → P x → Q x) → (xs : List ℕ) → Each P xs → Each Q xs
Each-weaker P Q f [] h = tt
Each-weaker P Q f (x ∷ xs) h = (f x h.0, Each-weaker P Q f xs h.1)

pub Each-In : (P : ℕ → Type 0) (xs : List ℕ) → Each P xs → (x : ℕ) → In x xs → P x
Each-In P [] h x i = absurd i
Each-In P (y ∷ ys) h x (inl e) = subst P (sym e) h.0
Each-In P (y ∷ ys) h x (inr i) = Each-In P ys h.1 x i

pub Each-append : (P : ℕ → Type 0) (xs ys : List ℕ) → Each P xs → Each P ys → Each P (xs ++ ys)
Each-append P [] ys g h = h
Each-append P (x ∷ xs) ys g h = (g.0, Each-append P xs ys g.1 h)

pub In-left : (x : ℕ) (xs ys : List ℕ) → In x xs → In x (xs ++ ys)
In-left x [] ys i = absurd i
In-left x (y ∷ xs) ys (inl e) = inl e
In-left x (y ∷ xs) ys (inr i) = inr (In-left x xs ys i)

pub In-right : (x : ℕ) (xs ys : List ℕ) → In x ys → In x (xs ++ ys)
In-right x [] ys i = i
In-right x (y ∷ xs) ys i = inr (In-right x xs ys i)

pub In-get_or : (xs : List ℕ) (i : ℕ) → i < length xs → In (get_or xs i 0) xs
In-get_or [] i h = absurd (omega arith)
In-get_or (x ∷ xs) zero h = inl refl
In-get_or (x ∷ xs) (suc i) h = inr (In-get_or xs i (omega arith))

pub position : (x : ℕ) (xs : List ℕ) → In x xs → (j : ℕ) × (j < length xs) × (get_or xs j 0 ≡ x)
position x [] i = absurd i
position x (y ∷ ys) (inl e) = (0, omega arith, sym e)
position x (y ∷ ys) (inr i) = let r = position x ys i in (suc r.0, omega (arith, r.1), r.2)

pub extends-nothing : (P : ℕ → Type 0) (xs : List ℕ) → Extends P xs xs
extends-nothing P xs = record { more = []; joined = sym (append-nil xs); each = tt }

pub extends-twice : (P Q R : ℕ → Type 0) (xs ys zs : List ℕ) → ((x : ℕ) → P x → R x)
    → ((x : ℕ) → Q x → R x) → Extends P xs ys → Extends Q ys zs → Extends R xs zs
extends-twice P Q R xs ys zs f g a b =
    record {
      more = a.more ++ b.more;
      joined = b.joined ∙ (ap (λ ws. ws ++ b.more) a.joined ∙ append_assoc xs a.more b.more);
      each = Each-append R a.more b.more (Each-weaker P R f a.more a.each)
          (Each-weaker Q R g b.more b.each);
    }

pub extends-In : (P : ℕ → Type 0) (xs ys : List ℕ) → Extends P xs ys → (x : ℕ) → In x xs → In x ys
extends-In P xs ys e x i = subst (λ zs. In x zs) (sym e.joined) (In-left x xs e.more i)

pub Each-each : (P : ℕ → Type 0) (xs : List ℕ) → ((x : ℕ) → In x xs → P x) → Each P xs
Each-each P [] f = tt
Each-each P (x ∷ xs) f = (f x (inl refl), Each-each P xs (λ p i. f p (inr i)))
