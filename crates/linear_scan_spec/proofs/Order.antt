-- The order of intervals that the proofs go by, and that intervals that can be scanned have it.
use Rattle.std.proofs.Common.{◌≢◌, ◌≤◌, inl, inr, List, [], ◌∷◌, sym, subst, arith}
use Rattle.icode_ops.specs.declared.interval.Interval.{Interval}
use Rattle.icode_ops.specs.declared.op.Op.{Op}
use Rattle.icode_ops.specs.Live.{Before, Sorted, IsInterval}
use Rattle.icode_ops.specs.Live.{In as InIntervals, Each as EachInterval}
use Rattle.linear_scan_spec.specs.Lists.{In, Each}
use Rattle.linear_scan_spec.specs.Laws.{Apart, AreScannable, IntervalsAreScannable}

pub in-any : (x : Interval) (xs : List Interval) → InIntervals x xs → In x xs
in-any x [] i = absurd i
in-any x (y ∷ ys) (inl e) = inl e
in-any x (y ∷ ys) (inr i) = inr (in-any x ys i)

pub in-intervals : (x : Interval) (xs : List Interval) → In x xs → InIntervals x xs
in-intervals x [] i = absurd i
in-intervals x (y ∷ ys) (inl e) = inl e
in-intervals x (y ∷ ys) (inr i) = inr (in-intervals x ys i)

pub each-any : (P Q : Interval → Type 0) → ((x : Interval) → P x → Q x) → (xs : List Interval) →
    EachInterval P xs → Each Q xs
each-any P Q f [] h = tt
each-any P Q f (x ∷ xs) h = (f x h.0, each-any P Q f xs h.1)

pub each-interval : (P Q : Interval → Type 0) → ((x : Interval) → P x → Q x)
    → (xs : List Interval) →
    Each P xs → EachInterval Q xs
each-interval P Q f [] h = tt
each-interval P Q f (x ∷ xs) h = (f x h.0, each-interval P Q f xs h.1)

-- none starts before an earlier one, each ends no earlier than it starts, and no two are of one register
abbrev pub InOrder : List Interval → Type 0
InOrder [] = Unit {0}
InOrder (x ∷ xs) =
    (x.start ≤ x.end) × Each (λ y. x.start ≤ y.start) xs × Each (λ y. y.reg ≢ x.reg) xs × InOrder xs

no-earlier : (x y : Interval) → Before x y → x.start ≤ y.start
no-earlier x y (inl h) = omega arith
no-earlier x y (inr h) = omega (arith, h.0)

in-order-from : (xs : List Interval) → Sorted xs → EachInterval (λ x. x.start ≤ x.end) xs → Apart xs
    → InOrder xs
in-order-from [] s w a = tt
in-order-from (x ∷ xs) s w a = (
  w.0,
  each-any (Before x) (λ y. x.start ≤ y.start) (no-earlier x) xs s.0,
  each-any (λ y. y.reg ≢ x.reg) (λ y. y.reg ≢ x.reg) (λ y h. h) xs a.0,
  in-order-from xs s.1 w.1 a.1,
)

pub in-order : (xs : List Interval) → AreScannable xs → InOrder xs
in-order xs s = in-order-from xs s.sorted s.whole s.apart

-- two intervals of one register are the same range, so the second does not come after the first
apart-from : (ops : List Op) (xs : List Interval) → Sorted xs →
    EachInterval (λ x. IsInterval ops x.reg x.start x.end) xs → Apart xs
apart-from ops [] s h = tt
apart-from ops (x ∷ xs) s h = (others xs s.0 h.1, apart-from ops xs s.1 h.1)
  where
    differ : (y : Interval) → Before x y → IsInterval ops y.reg y.start y.end → y.reg ≢ x.reg
    differ y b i e =
        let j : IsInterval ops y.reg x.start x.end = subst (λ r. IsInterval ops r x.start x.end)
        (sym e) h.0 in
        by-case b (i.whole x.start j.first) (j.whole y.start i.first)
      where
        by-case : Before x y → (y.start ≤ x.start) × (x.start ≤ y.end) → (x.start ≤ y.start)
            × (y.start ≤ x.end) → ⊥
        by-case (inl l) p q = omega (arith, p.0)
        by-case (inr l) p q = omega (arith, l.1)

    others : (ys : List Interval) → EachInterval (Before x) ys →
        EachInterval (λ y. IsInterval ops y.reg y.start y.end) ys → EachInterval
        (λ y. y.reg ≢ x.reg) ys
    others [] b i = tt
    others (y ∷ ys) b i = (differ y b.0 i.0, others ys b.1 i.1)

whole-from : (ops : List Op) (xs : List Interval) →
    EachInterval (λ x. IsInterval ops x.reg x.start x.end) xs → EachInterval (λ x. x.start ≤ x.end)
    xs
whole-from ops [] h = tt
whole-from ops (x ∷ xs) h = (omega (arith, (h.0.whole x.end h.0.last).0), whole-from ops xs h.1)

pub intervals-are-scannable : IntervalsAreScannable
intervals-are-scannable ops xs a =
    record {
      sorted = a.sorted;
      whole = whole-from ops xs a.each;
      apart = apart-from ops xs a.sorted
          a.each;
    }
