use Rattle.std.proofs.Common.{arith, sym, ◌∙◌, ap, subst, ℕ, ◌≡◌, ◌<◌, List, length, Option, Some}
use Rattle.linked_row.specs.Sorted.{SortedList}
use Rattle.linked_row.specs.Sorted.{last_of as last_pair}
use Rattle.linear_scan_spec.specs.Scan.{Keeper, ScanState, last_of, but_last}
use Rattle.linear_scan_spec.proofs.Keepers.{length-but_last}
use Rattle.linear_scan.specs.Held.{from_end, ApartIds, Holds}
use Rattle.linear_scan.proofs.Holding.{apart-pairs, alive-holds, living, dropping, few-keepers, twelve-keepers}
use Rattle.linear_scan.proofs.Holding.{fresh-living, fresh-dropping, last-pairs, last-none, visit-few, visit-last}
use Rattle.linear_scan.proofs.Holding.{visit-pass, pass-holds, freed}
use Rattle.linear_scan.proofs.visit.Goals as goal

-- after the row has let go of what ends early
after : (start : ℕ) (s : ScanState) (row new : SortedList) (owners places : List ℕ)
    → Holds s row owners places → new ≡ record { room = row.room; items = from_end start row.items }
    → Holds (living start s) new owners places
after start s row new owners places h e =
    subst (λ (v : SortedList). Holds (living start s) v owners places) (sym e)
    (alive-holds start s row owners places h)

-- the last keeper, as the row gives it
last-is : (s : ScanState) (row : SortedList) (owners places : List ℕ) (r : Option (ℕ × ℕ)) (p : ℕ
    × ℕ) → Holds s row owners places → r ≡ last_pair row.items → r ≡ Some p → (w : Keeper)
    × (last_of s.keepers ≡ Some w) × (w.number ≡ p.0) × (w.interval.end ≡ p.1)
last-is s row owners places r p h e q = last-pairs s.keepers p (sym (e ∙ ap last_pair h.items) ∙ q)

pub expire-requires : goal.expire-requires
expire-requires c =
    let r = c.requires.held in
    subst ApartIds (sym r.1.items) (apart-pairs r.0.keepers r.1.differ)

pub admit-requires-clause-held : goal.admit-requires-clause-held
admit-requires-clause-held c =
    let r = c.requires.held in
    let a = after c.args.x.start r.0 c.args.keepers.now c.expire.new.keepers c.args.owners.now
    c.args.places.now r.1 c.expire.ensures in (
      living c.args.x.start r.0,
      a,
      few-keepers (living c.args.x.start r.0) c.expire.new.keepers
          c.args.owners.now c.args.places.now c.free_number-number.result a c.free_number-number.ensures
          c.if-number-lt12.true,
    )

pub returns-then-number-lt12 : goal.returns-then-number-lt12
returns-then-number-lt12 c s h f =
    let x = c.args.x in
    let a = after x.start s c.args.keepers.now c.expire.new.keepers c.args.owners.now
    c.args.places.now h c.expire.ensures in
    let n = few-keepers (living x.start s) c.expire.new.keepers c.args.owners.now c.args.places.now
    c.free_number-number.result a c.free_number-number.ensures c.if-number-lt12.true in
    rw (visit-few s x n) (c.admit.ensures (living x.start s) a n (fresh-living x x.start s f))

pub spill_last-requires : goal.spill_last-requires
spill_last-requires c =
    let r = c.requires.held in
    let a = after c.args.x.start r.0 c.args.keepers.now c.expire.new.keepers c.args.owners.now
    c.args.places.now r.1 c.expire.ensures in
    let w = last-is (living c.args.x.start r.0) c.expire.new.keepers c.args.owners.now
    c.args.places.now c.last.result (c.in-Some.last, c.in-Some.end) a c.last.ensures
    c.in-Some.is in
    record { held = (living c.args.x.start r.0, w.0, a, w.1, w.2) }

pub admit-requires-then-x-end-clause-held : goal.admit-requires-then-x-end-clause-held
admit-requires-then-x-end-clause-held c =
    let r = c.requires.held in
    let l = living c.args.x.start r.0 in
    let a = after c.args.x.start r.0 c.args.keepers.now c.expire.new.keepers c.args.owners.now
    c.args.places.now r.1 c.expire.ensures in
    let w = last-is l c.expire.new.keepers c.args.owners.now c.args.places.now c.last.result
    (c.in-Some.last, c.in-Some.end) a c.last.ensures c.in-Some.is in
    let n = twelve-keepers l c.expire.new.keepers c.args.owners.now c.args.places.now
    c.free_number-number.result a c.free_number-number.ensures c.if-number-lt12.false in (
      dropping l w.0,
      c.spill_last.ensures l w.0 a w.1 w.2,
      omega
          (arith, n, length-but_last l.keepers w.0 w.1),
    )

pub admit-requires-then-x-end-clause-free : goal.admit-requires-then-x-end-clause-free
admit-requires-then-x-end-clause-free c =
    let r = c.requires.held in
    let l = living c.args.x.start r.0 in
    let a = after c.args.x.start r.0 c.args.keepers.now c.expire.new.keepers c.args.owners.now
    c.args.places.now r.1 c.expire.ensures in
    let w = last-is l c.expire.new.keepers c.args.owners.now c.args.places.now c.last.result
    (c.in-Some.last, c.in-Some.end) a c.last.ensures c.in-Some.is in
    let n = twelve-keepers l c.expire.new.keepers c.args.owners.now c.args.places.now
    c.free_number-number.result a c.free_number-number.ensures c.if-number-lt12.false in
    sym w.2 ∙ freed l w.0 c.spill_last.new.keepers c.args.owners.now c.spill_last.new.places n w.1 a.differ a.low
    (c.spill_last.ensures l w.0 a w.1 w.2)

pub returns-in-None : goal.returns-in-None
returns-in-None c s h f =
    let x = c.args.x in
    let l = living x.start s in
    let a = after x.start s c.args.keepers.now c.expire.new.keepers c.args.owners.now
    c.args.places.now h c.expire.ensures in
    let n = twelve-keepers l c.expire.new.keepers c.args.owners.now c.args.places.now
    c.free_number-number.result a c.free_number-number.ensures c.if-number-lt12.false in
    absurd (omega (
      arith,
      n,
      last-none l.keepers
          (sym (c.last.ensures ∙ ap last_pair a.items) ∙ c.in-None.is),
    ))

pub returns-then-x-end : goal.returns-then-x-end
returns-then-x-end c s h f =
    let x = c.args.x in
    let l = living x.start s in
    let a = after x.start s c.args.keepers.now c.expire.new.keepers c.args.owners.now
    c.args.places.now h c.expire.ensures in
    let n = twelve-keepers l c.expire.new.keepers c.args.owners.now c.args.places.now
    c.free_number-number.result a c.free_number-number.ensures c.if-number-lt12.false in
    let w = last-is l c.expire.new.keepers c.args.owners.now c.args.places.now c.last.result
    (c.in-Some.last, c.in-Some.end) a c.last.ensures c.in-Some.is in
    let d = c.spill_last.ensures l w.0 a w.1 w.2 in
    let m : length (but_last l.keepers) < 12 = omega (arith, n, length-but_last l.keepers w.0 w.1)
    in
    rw (visit-last s x w.0 n w.1 (omega (arith, w.3, c.if-x-end.true)))
    (c.admit-then-x-end.ensures (dropping l w.0) d m
    (fresh-dropping x l w.0 w.1 (fresh-living x x.start s f)))

pub returns-else-x-end : goal.returns-else-x-end
returns-else-x-end c s h f =
    let x = c.args.x in
    let l = living x.start s in
    let a = after x.start s c.args.keepers.now c.expire.new.keepers c.args.owners.now
    c.args.places.now h c.expire.ensures in
    let n = twelve-keepers l c.expire.new.keepers c.args.owners.now c.args.places.now
    c.free_number-number.result a c.free_number-number.ensures c.if-number-lt12.false in
    let w = last-is l c.expire.new.keepers c.args.owners.now c.args.places.now c.last.result
    (c.in-Some.last, c.in-Some.end) a c.last.ensures c.in-Some.is in
    let p = pass-holds x l c.expire.new.keepers c.args.owners.now c.args.places.now a in
    rw (visit-pass s x w.0 n w.1 (omega (arith, w.3, c.if-x-end.false))) p
