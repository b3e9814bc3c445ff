-- The loop over all intervals.
use Rattle.std.proofs.Common.{ℕ, ◌≡◌, ◌≢◌, ◌<◌, ◌≤◌, Bool, true, false, cond, not, eqb, ltb, List, [], ◌∷◌, length}
use Rattle.std.proofs.Common.{drop, get_or, Option, Some, None, refl, sym, ◌∙◌, ap, subst, arith}
use Rattle.std.proofs.lemmas.Bool.Decides.{nat_tests}
use Rattle.linked_row.specs.Sorted.{SortedList, without, first_of}
use Rattle.icode_ops.specs.declared.interval.Interval.{Interval}
use Rattle.linear_scan_spec.specs.Scan.{Keeper, ScanState, alive, last_of, but_last, keep, crowd, visit, visit_all}
use Rattle.linear_scan_spec.specs.Scan.{scan, place, places_of}
use Rattle.linear_scan_spec.specs.Lists.{Each}
use Rattle.linear_scan_spec.proofs.Keepers.{Each-In, Each-both, Each-insert}
use Rattle.linear_scan.specs.Held.{Holds, IsFresh}
use Rattle.linear_scan.proofs.Holding.{living, fresh-living, fresh-dropping, dropping}
use Rattle.linear_scan_spec.proofs.Order.{InOrder, in-any, each-any}
use Rattle.linear_scan_spec.proofs.Lists.{are-places_of, get-places_of}
use Rattle.linear_scan_spec.proofs.Legals.{places-are-legal}
use Rattle.linear_scan_spec.proofs.Crowding.{spills-are-crowded}
use Rattle.linear_scan_spec.specs.Laws.{AreScannable, IsCrowded}
use Rattle.icode_ops.specs.declared.op.Op.{Op}
use Rattle.icode_ops.specs.Live.{AreIntervals}
use Rattle.icode_ops.specs.Live.{In as InIntervals, Each as EachInterval}
use Rattle.icode_ops.specs.Places.{IsLegal}
use Rattle.std.proofs.Math.ListN.{drop_of_length-le}

fresh-keep : (y x : Interval) (s : ScanState) → IsFresh y s → x.reg ≢ y.reg
    → IsFresh y (keep x s.keepers s.numbered s.spilled)
fresh-keep y x s f n =
    record {
      keepers = Each-insert (λ k. k.interval.reg ≢ y.reg) _ s.keepers n f.keepers;
      spilled =
          f.spilled;
    }

pub fresh-visit : (y x : Interval) (s : ScanState) → IsFresh y s → x.reg ≢ y.reg
    → IsFresh y (visit s x)
fresh-visit y x s f n = by-few (ltb (length live) 12)
  where
    live : List Keeper
    live = alive x.start s.keepers

    g : IsFresh y (living x.start s)
    g = fresh-living y x.start s f

    by-crowd : (o : Option Keeper) → last_of live ≡ o → IsFresh y (crowd x live o s)
    by-crowd None e = fresh-keep y x (living x.start s) g n
    by-crowd (Some w) e = by-end (ltb x.end w.interval.end)
      where
        by-end : (b : Bool) → IsFresh y
            (cond b (keep x (but_last live) s.numbered (w.interval ∷ s.spilled))
            (record { keepers = live; numbered = s.numbered; spilled = x ∷ s.spilled }))
        by-end true = fresh-keep y x (dropping (living x.start s) w)
            (fresh-dropping y (living x.start s) w e g) n
        by-end false = let t : eqb y.reg x.reg ≡ false = grind (arith, nat_tests) in record
            { keepers = g.keepers; spilled = rw t f.spilled }

    by-few : (b : Bool) → IsFresh y (cond b (keep x live s.numbered s.spilled) (crowd x live (last_of live) s))
    by-few true = fresh-keep y x (living x.start s) g n
    by-few false = by-crowd (last_of live) refl

-- how far the visits have come
pub record Visiting (row : SortedList) (owners places : List ℕ) (rest : List Interval)
    (whole : ScanState) : Type 0 where
  pub s : ScanState
  pub holds : Holds s row owners places
  pub fresh : Each (λ y. IsFresh y s) rest
  pub sorted : InOrder rest
  pub regs : Each (λ y. y.reg < length places) rest
  pub same : visit_all s rest ≡ whole

abbrev pub begun : ScanState
begun = record { keepers = []; numbered = []; spilled = [] }

pub visiting-start : (row : SortedList) (owners places : List ℕ) (xs : List Interval)
    → 13 ≤ row.room → row.items ≡ [] → 13 ≤ length owners
    → ((r : ℕ) → r < length places → get_or places r 0 ≡ 12) → InOrder xs
    → Each (λ y. y.reg < length places) xs → Visiting row owners places xs (scan xs)
visiting-start row owners places xs a b c d e f =
    record {
      s = begun;
      holds =
          record {
            room = a;
            items = b;
            owners_length = c;
            owned = tt;
            placed = d;
            few = omega
                arith;
            ordered = tt;
            differ = tt;
            low = tt;
            regs = tt;
          };
      fresh = all xs;
      sorted = e;
      regs = f;
      same = refl;
    }
  where
    all : (ys : List Interval) → Each (λ y. IsFresh y begun) ys
    all [] = tt
    all (y ∷ ys) = (record { keepers = tt; spilled = refl }, all ys)

pub visiting-step : (row new : SortedList) (owners places owners' places' : List ℕ) (x : Interval)
    (rest : List Interval) (whole : ScanState) → length places' ≡ length places →
    (v : Visiting row owners places (x ∷ rest) whole) → Holds (visit v.s x) new owners' places' →
    Visiting new owners' places' rest whole
visiting-step row new owners places owners' places' x rest whole l v h =
    record {
      s = visit v.s x;
      holds = h;
      fresh =
          Each-both (λ y. IsFresh y v.s) (λ y. y.reg ≢ x.reg) (λ y. IsFresh y (visit v.s x))
          (λ y f n. fresh-visit y x v.s f (λ q. n (sym q))) rest v.fresh.1 v.sorted.2;
      sorted = v.sorted.3;
      regs = subst (λ n. Each (λ y. y.reg < n) rest) (sym l) v.regs.1;
      same = v.same;
    }

pub shorter : (items : List (ℕ × ℕ)) (p : ℕ × ℕ) → first_of items ≡ Some p
    → length (without p.0 items) < length items
shorter [] p e = absurd (cc)
shorter (q ∷ qs) p e =
    let qp : q ≡ p = cc in
    subst (λ (z : ℕ × ℕ). length (without z.0 (q ∷ qs)) < length (q ∷ qs)) qp
    (let t : eqb q.0 q.0 ≡ true = grind (arith, nat_tests) in rw t (omega (arith, le q.0 qs)))
  where
    le : (id : ℕ) (ps : List (ℕ × ℕ)) → length (without id ps) ≤ length ps
    le id [] = omega arith
    le id (r ∷ rs) = by-case (eqb id r.0) (le id rs)
      where
        by-case : (b : Bool) → length (without id rs) ≤ length rs
            → length (cond (not b) (r ∷ without id rs) (without id rs)) ≤ length (r ∷ rs)
        by-case true h = omega arith
        by-case false h = omega arith

-- what the scan owes once all intervals are visited
pub record Written (n : ℕ) (places : List ℕ) (xs : List Interval) : Type 0 where
  pub exact : places ≡ places_of n xs
  pub legal : (ops : List Op) → AreIntervals ops xs → IsLegal ops n places
  pub crowded : (x : Interval) → InIntervals x xs → get_or places x.reg 0 ≡ 12 → IsCrowded xs x

pub written : (n : ℕ) (row : SortedList) (owners places : List ℕ) (xs : List Interval) (i : ℕ) →
    Visiting row owners places (drop i xs) (scan xs) → length xs ≤ i → length places ≡ n →
    AreScannable xs →
    EachInterval (λ x. x.reg < n) xs → Written n places xs
written n row owners places xs i v h e s r =
    record { exact = exact; legal = legal; crowded = crowded }
  where
    state : v.s ≡ scan xs
    state = subst (λ rest. visit_all v.s rest ≡ scan xs) (drop_of_length-le xs h) v.same

    exact : places ≡ places_of n xs
    exact =
        subst (λ m. places ≡ places_of m xs) e
        (are-places_of places xs (λ q l. v.holds.placed q l ∙ ap (place q) state))

    legal : (ops : List Op) → AreIntervals ops xs → IsLegal ops n places
    legal ops a = subst (IsLegal ops n) (sym exact) (places-are-legal ops n xs a)

    low : Each (λ x. x.reg < n) xs
    low = each-any (λ x. x.reg < n) (λ x. x.reg < n) (λ x l. l) xs r

    crowded : (x : Interval) → InIntervals x xs → get_or places x.reg 0 ≡ 12 → IsCrowded xs x
    crowded x j q =
        let l = Each-In (λ x. x.reg < n) xs low x (in-any x xs j) in
        let p : get_or places x.reg 0 ≡ place x.reg (scan xs) =
        ap (λ zs. get_or zs x.reg 0) exact ∙ get-places_of n xs x.reg 0 l in
        spills-are-crowded xs s x j (sym p ∙ q)
