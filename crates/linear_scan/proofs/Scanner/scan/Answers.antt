use Rattle.std.proofs.Common.{ℕ, ◌+◌, ◌≡◌, ◌<◌, suc, List, ◌∷◌, length, drop, get_or, drop-cons, ◌∙◌, ap, subst, arith}
use Rattle.std.proofs.lemmas.Grind.{common_steps}
use Rattle.icode_ops.specs.declared.interval.Interval.{Interval}
use Rattle.linear_scan_spec.specs.Scan.{scan}
use Rattle.linear_scan_spec.proofs.Order.{in-order, each-any}
use Rattle.linear_scan.proofs.Visiting.{Visiting, visiting-start, visiting-step, written}
use Rattle.linear_scan.proofs.Scanner.scan.Goals as goal

rest-is : (xs : List Interval) (i : ℕ) (d : Interval) → i < length xs → drop i xs
    ≡ get_or xs i d ∷ drop (i + 1) xs
rest-is xs i d h =
    let e : i + 1 ≡ suc i = omega arith in
    rw e (drop-cons xs i d h)

pub loop-place-preserved : goal.loop-place-preserved
loop-place-preserved c = grind (arith, common_steps)

pub loop-x-init : goal.loop-x-init
loop-x-init c =
    let xs = c.args.intervals.now in
    let places = c.loop-place.places in
    let longer : (r : ℕ) → r < length c.args.places.now → r < length places = λ r h. omega
    (arith, c.loop-place.auto.places) in
    visiting-start c.empty.new.keepers c.self.inside.owners places xs
    (omega (arith, ap (λ v. v.room) c.empty.ensures, c.self.invariant))
    (ap (λ v. v.items) c.empty.ensures)
    (omega (arith, c.self.told))
    (λ r h. c.loop-place.invariant r
    (omega (arith, h, c.loop-place.auto.places, c.loop-place-test.false)))
    (in-order xs c.requires.scannable)
    (each-any (λ x. x.reg < length c.args.places.now) (λ x. x.reg < length places)
    (λ x h. longer x.reg h) xs
    c.requires.registers)

pub loop-x-preserved : goal.loop-x-preserved
loop-x-preserved c =
    let d : Interval = record { reg = 0; start = 0; end = 0 } in
    let xs = c.args.intervals.now in
    let i = c.loop-x.x-index in
    let x = get_or xs i d in
    let v = subst (λ zs. Visiting c.loop-x.self-inside.keepers c.loop-x.self-inside.owners
    c.loop-x.places zs (scan xs))
    (rest-is xs i d c.loop-x-test.true) c.loop-x.invariant in
    visiting-step c.loop-x.self-inside.keepers c.visit.new.keepers c.loop-x.self-inside.owners
    c.loop-x.places
    c.visit.new.owners c.visit.new.places x (drop (i + 1) xs) (scan xs) c.visit.auto.places v
    (c.visit.ensures v.s v.holds v.fresh.0)

pub returns : goal.returns
returns c =
    let w = written (length c.args.places.now) c.loop-x.self-inside.keepers
    c.loop-x.self-inside.owners
    c.loop-x.places c.args.intervals.now c.loop-x.x-index c.loop-x.invariant c.loop-x-test.false
    (c.loop-x.auto.places ∙ c.loop-place.auto.places) c.requires.scannable c.requires.registers in
    record { exact = w.exact; legal = w.legal; crowded = w.crowded }
