use Rattle.std.proofs.Common.{arith, sym, ◌∙◌, subst, ◌≡◌, ◌-◌}
use Rattle.linear_scan_spec.specs.Scan.{least_free}
use Rattle.linear_scan.specs.Held.{ids}
use Rattle.linear_scan.proofs.Pairs.{has-ids, free-here, free-more, free-end}
use Rattle.linear_scan.proofs.free_number.Goals as goal

pub returns-then-not-holds : goal.returns-then-not-holds
returns-then-not-holds c =
    let items = c.args.keepers.now.items in
    sym (c.loop-number.invariant ∙ free-here (12 - c.loop-number.number) c.loop-number.number
    (ids items) (sym (has-ids c.loop-number.number items) ∙
    (sym c.holds.ensures ∙ c.if-not-holds.true)))

pub loop-number-preserved : goal.loop-number-preserved
loop-number-preserved c =
    let items = c.args.keepers.now.items in
    c.loop-number.invariant ∙ free-more c.loop-number.number (ids items) c.loop-number-test.true
    (sym (has-ids c.loop-number.number items) ∙ (sym c.holds.ensures ∙ c.if-not-holds.false))

pub returns : goal.returns
returns c =
    let e : c.loop-number.number ≡ 12 = omega arith in
    sym (subst (λ n. least_free 12 0 (ids c.args.keepers.now.items) ≡ least_free (12 - n) n
    (ids c.args.keepers.now.items)) e c.loop-number.invariant ∙ free-end 12 (ids
    c.args.keepers.now.items))
