use Rattle.std.proofs.Common.{arith, sym, subst, set}
use Rattle.linked_row.specs.Sorted.{SortedList}
use Rattle.linear_scan_spec.specs.Scan.{keep}
use Rattle.linear_scan.specs.Held.{Holds}
use Rattle.linear_scan.proofs.Holding.{free-number, keep-holds}
use Rattle.linear_scan.proofs.admit.Goals as goal

pub insert_sorted-requires-clause-below : goal.insert_sorted-requires-clause-below
insert_sorted-requires-clause-below c =
    let r = c.requires.held in
    let g = free-number r.0 c.args.keepers.now c.args.owners.now c.args.places.now
    c.args.number r.1 r.2 c.requires.free in
    omega (arith, g.1, r.1.room)

pub insert_sorted-requires-clause-new : goal.insert_sorted-requires-clause-new
insert_sorted-requires-clause-new c =
    let r = c.requires.held in
    (free-number r.0 c.args.keepers.now c.args.owners.now c.args.places.now
    c.args.number r.1 r.2 c.requires.free).2

pub bounds-owners-number : goal.bounds-owners-number
bounds-owners-number c =
    let r = c.requires.held in
    let g = free-number r.0 c.args.keepers.now c.args.owners.now c.args.places.now
    c.args.number r.1 r.2 c.requires.free in
    omega (arith, g.1, r.1.owners_length)

pub overflow_cast-places : goal.overflow_cast-places
overflow_cast-places c =
    let r = c.requires.held in
    let g = free-number r.0 c.args.keepers.now c.args.owners.now c.args.places.now
    c.args.number r.1 r.2 c.requires.free in
    omega (arith, g.1)

pub returns : goal.returns
returns c s h few f =
    let n = c.args.number in
    let x = c.args.x in
    let k = keep-holds x s c.args.keepers.now c.args.owners.now c.args.places.now n h few f
    c.requires.reg c.requires.free in
    subst (λ (v : SortedList). Holds (keep x s.keepers s.numbered s.spilled) v
    (set c.args.owners.now n x.reg) (set c.args.places.now x.reg n)) (sym c.insert_sorted.ensures)
    k
