-- A list of ops has one list of live intervals.
use Rattle.std.proofs.Common.{◌≡◌, ℕ, inl, inr, List, [], ◌∷◌, refl, sym, ap, ◌∙◌, subst, arith}
use Rattle.icode_ops.specs.declared.op.Op.{Op}
use Rattle.icode_ops.specs.declared.interval.Interval.{Interval}
use Rattle.icode_ops.specs.Live.{IsInterval, In, Each, Before, Sorted, AreIntervals}

same_ends : (ops : List Op) (v s e t f : ℕ) → IsInterval ops v s e → IsInterval ops v t f → (s ≡ t) × (e ≡ f)
same_ends ops v s e t f a b =
    let p = (a.whole t b.first).0 in
    let q = (b.whole s a.first).0 in
    let r = (a.whole f b.last).1 in
    let u = (b.whole e a.last).1 in
    (omega (arith, p, q), omega (arith, r, u))

abbrev interval : (reg start end : ℕ) → Interval
interval r s e = record { reg = r; start = s; end = e }

same_interval : (x y : Interval) → x.reg ≡ y.reg → x.start ≡ y.start → x.end ≡ y.end → x ≡ y
same_interval x y r s e =
    ap (λ (v : ℕ). interval v x.start x.end) r ∙
    (ap (λ (v : ℕ). interval y.reg v x.end) s ∙ ap (λ (v : ℕ). interval y.reg y.start v) e)

each_in : (P : Interval → Type 0) (xs : List Interval) (x : Interval) → Each P xs → In x xs → P x
each_in P [] x all i = absurd i
each_in P (y ∷ ys) x all (inl same) = subst P (sym same) all.0
each_in P (y ∷ ys) x all (inr i) = each_in P ys x all.1 i

-- what one list has, any other has
found : (ops : List Op) (xs ys : List Interval) → AreIntervals ops xs → AreIntervals ops ys → (x : Interval) → In x xs →
    In x ys
found ops xs ys a b x i =
    let here = each_in (λ (x : Interval). IsInterval ops x.reg x.start x.end) xs x a.each i in
    let other = b.all x.reg x.start here.first in
    let there = each_in (λ (x : Interval). IsInterval ops x.reg x.start x.end) ys other.0 b.each other.1 in
    let ends = same_ends ops x.reg x.start x.end other.0.start other.0.end here
    (subst (λ (v : ℕ). IsInterval ops v other.0.start other.0.end) other.2 there) in
    subst (λ (z : Interval). In z ys) (same_interval other.0 x other.2 (sym ends.0) (sym ends.1)) other.1

not_both : (x y : Interval) → Before x y → Before y x → ⊥
not_both x y (inl a) (inl b) = omega (arith, a, b)
not_both x y (inl a) (inr b) = omega (arith, a, b.0)
not_both x y (inr a) (inl b) = omega (arith, a.0, b)
not_both x y (inr a) (inr b) = omega (arith, a.1, b.1)

same_head : (x y : Interval) (xs ys : List Interval) → Each (Before x) xs → Each (Before y) ys → In x (y ∷ ys) →
    In y (x ∷ xs) → x ≡ y
same_head x y xs ys s t (inl e) back = e
same_head x y xs ys s t (inr i) (inl e) = sym e
same_head x y xs ys s t (inr i) (inr j) =
    absurd (not_both x y (each_in (Before x) xs y s j) (each_in (Before y) ys x t i))

in_tail : (x y z : Interval) (xs ys : List Interval) → x ≡ y → Each (Before x) xs → In z xs → In z (y ∷ ys) → In z ys
in_tail x y z xs ys same s i (inl e) =
    let before : Before x x = subst (Before x) (e ∙ sym same) (each_in (Before x) xs z s i) in
    absurd (not_both x x before before)
in_tail x y z xs ys same s i (inr j) = j

sorted_once : (xs ys : List Interval) → Sorted xs → Sorted ys → ((x : Interval) → In x xs → In x ys) →
    ((x : Interval) → In x ys → In x xs) → xs ≡ ys
sorted_once [] [] s t to back = refl
sorted_once [] (y ∷ ys) s t to back = absurd (back y (inl refl))
sorted_once (x ∷ xs) [] s t to back = absurd (to x (inl refl))
sorted_once (x ∷ xs) (y ∷ ys) s t to back =
    let same = same_head x y xs ys s.0 t.0 (to x (inl refl)) (back y (inl refl)) in
    let tails = sorted_once xs ys s.1 t.1
    (λ z i. in_tail x y z xs ys same s.0 i (to z (inr i)))
    (λ z i. in_tail y x z ys xs (sym same) t.0 i (back z (inr i))) in
    ap (λ w. w ∷ xs) same ∙ ap (λ ws. y ∷ ws) tails

pub one_list : (ops : List Op) (xs ys : List Interval) → AreIntervals ops xs → AreIntervals ops ys → xs ≡ ys
one_list ops xs ys a b = sorted_once xs ys a.sorted b.sorted (found ops xs ys a b) (found ops ys xs b a)
