-- The places of the scan are legal.
use Rattle.std.proofs.Common.{ℕ, ◌≡◌, ◌≢◌, ◌<◌, ◌≤◌, ◌⊎◌, inl, inr, Bool, true, false, cond, eqb, List, [], ◌∷◌, Some}
use Rattle.std.proofs.Common.{sym, ◌∙◌, ap, subst, arith}
use Rattle.std.proofs.lemmas.Bool.{cases_lt}
use Rattle.std.proofs.lemmas.Bool.Decides.{nat_tests}
use Rattle.std.specs.List.{list_any}
use Rattle.icode_ops.specs.declared.interval.Interval.{Interval}
use Rattle.icode_ops.specs.declared.op.Op.{Op}
use Rattle.icode_ops.specs.Flow.{defined, defines, op_at}
use Rattle.icode_ops.specs.Live.{Passes, IsAt, IsInterval, AreIntervals}
use Rattle.icode_ops.specs.Places.{place_of}
use Rattle.linear_scan_spec.specs.Lists.{Each}
use Rattle.linear_scan_spec.specs.Scan.{Keeper, ScanState, scan, place, places_of, number_of}
use Rattle.linear_scan_spec.specs.Laws.{PlacesAreLegal}
use Rattle.linear_scan_spec.proofs.Order.{InOrder, in-order, in-any, each-any, intervals-are-scannable}
use Rattle.linear_scan_spec.proofs.Keepers.{Each-In}
use Rattle.linear_scan_spec.proofs.Places.{ordered-apart, scan-spread}
use Rattle.linear_scan_spec.proofs.Lists.{length-places_of, get-places_of, past-places_of}

-- an op defines one register at most
defines-it : (v : ℕ) (op : Op) → defined op ≡ Some v → defines v op ≡ true
defines-it v op e = rw e (grind (arith, nat_tests))

defines-other : (v w : ℕ) (op : Op) → defined op ≡ Some v → w ≢ v → defines w op ≡ false
defines-other v w op e n = rw e (grind (arith, nat_tests))

low-number : (v : ℕ) (ks : List Keeper) → Each (λ k. k.number < 12) ks → number_of v ks ≤ 12
low-number v [] h = omega arith
low-number v (k ∷ ks) h = by-case (eqb v k.interval.reg) (low-number v ks h.1)
  where
    by-case : (b : Bool) → number_of v ks ≤ 12 → cond b k.number (number_of v ks) ≤ 12
    by-case true r = omega (arith, h.0)
    by-case false r = r

low-place : (v : ℕ) (s : ScanState) → Each (λ k. k.number < 12) s.numbered → place v s ≤ 12
low-place v s h = by-case (list_any (λ x. eqb v x.reg) s.spilled)
  where
    by-case : (b : Bool) → cond b 12 (number_of v s.numbered) ≤ 12
    by-case true = omega arith
    by-case false = low-number v s.numbered h

-- two registers that are at one op have different places below 12
at-one : (ops : List Op) (xs : List Interval) → AreIntervals ops xs → (p v w : ℕ) → IsAt ops v p
    → IsAt ops w p →
    w ≢ v → place v (scan xs) < 12 → place w (scan xs) ≢ place v (scan xs)
at-one ops xs a p v w iv iw n lt e =
    let each = each-any (λ x. IsInterval ops x.reg x.start x.end)
    (λ x. IsInterval ops x.reg x.start x.end) (λ x i. i) xs
    a.each in
    let x = a.all v p iv in
    let y = a.all w p iw in
    let ix = in-any x.0 xs x.1 in
    let iy = in-any y.0 xs y.1 in
    let cx = (Each-In (λ x. IsInterval ops x.reg x.start x.end) xs each x.0 ix).whole p
    (subst (λ r. IsAt ops r p) (sym x.2) iv) in
    let cy = (Each-In (λ x. IsInterval ops x.reg x.start x.end) xs each y.0 iy).whole p
    (subst (λ r. IsAt ops r p) (sym y.2) iw) in
    let same : place x.0.reg (scan xs) ≡ place y.0.reg (scan xs) =
    ap (λ r. place r (scan xs)) x.2 ∙ (sym e ∙ sym (ap (λ r. place r (scan xs)) y.2)) in
    by-case x.0 y.0 cx cy
    (ordered-apart xs (in-order xs (intervals-are-scannable ops xs a)) x.0 y.0 ix iy
    (λ q. n (sym y.2 ∙ (sym q ∙ x.2))) same (subst (λ z. place z (scan xs) < 12) (sym x.2) lt))
  where
    by-case : (x y : Interval) → (x.start ≤ p) × (p ≤ x.end) → (y.start ≤ p) × (p ≤ y.end) →
        (x.end < y.start) ⊎ (y.end < x.start) → ⊥
    by-case x y cx cy (inl h) = omega (arith, cx.1, cy.0)
    by-case x y cx cy (inr h) = omega (arith, cy.1, cx.0)

-- the same of the list of places, in which a register past its end has a slot
listed-at-one : (ops : List Op) (n : ℕ) (xs : List Interval) → AreIntervals ops xs → (p v w : ℕ)
    → IsAt ops v p →
    IsAt ops w p → w ≢ v → place_of (places_of n xs) v < 12 →
    place_of (places_of n xs) w ≢ place_of (places_of n xs) v
listed-at-one ops n xs a p v w iv iw d lt e = by-cases (cases_lt v n) (cases_lt w n)
  where
    by-cases : (v < n) ⊎ (n ≤ v) → (w < n) ⊎ (n ≤ w) → ⊥
    by-cases (inr o) j = omega (arith, past-places_of n xs v 12 o)
    by-cases (inl i) (inr o) = omega (arith, past-places_of n xs w 12 o)
    by-cases (inl i) (inl j) =
        let pv = get-places_of n xs v 12 i in
        let pw = get-places_of n xs w 12 j in
        at-one ops xs a p v w iv iw d (subst (λ m. m < 12) pv lt) (sym pw ∙ (e ∙ pv))

low-listed : (n : ℕ) (xs : List Interval) → InOrder xs → (v : ℕ) → place_of (places_of n xs) v ≤ 12
low-listed n xs h v = by-case (cases_lt v n)
  where
    by-case : (v < n) ⊎ (n ≤ v) → place_of (places_of n xs) v ≤ 12
    by-case (inl i) =
        omega (arith, get-places_of n xs v 12 i, low-place v (scan xs) (scan-spread xs h).low)
    by-case (inr o) = omega (arith, past-places_of n xs v 12 o)

pub places-are-legal : PlacesAreLegal
places-are-legal ops n xs a =
    record {
      one_each = length-places_of n xs;
      low = low-listed n xs (in-order xs (intervals-are-scannable ops xs a));
      kept = λ p v w d lt m l.
          listed-at-one ops n xs a p v w (inr (defines-it v (op_at ops p) d))
          (inl (Passes p l.0 l.1 (defines-other v w (op_at ops p) d m) l.2)) m lt;
      entry = λ v w m lt lv lw. listed-at-one ops n xs a 0 v w (inl lv) (inl lw) m lt;
    }
