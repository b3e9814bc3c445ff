use Rattle.std.proofs.Common.{◌||◌, ◌+◌, drop, ap, sym, ◌∙◌}
use Rattle.std.proofs.lemmas.List.{drop_all}
use Rattle.check_operands.specs.Calls.{any_mismatches}
use Rattle.check_calls.proofs.Passed.{one_more, no_more, none_passed}
use Rattle.check_calls.proofs.calls.any_mismatches.Goals as goal

pub returns-then-mismatches : goal.returns-then-mismatches
returns-then-mismatches c =
    let as_ = c.args.list.now in
    let ts = c.args.types.now in
    let next = one_more as_ ts c.loop-i.i c.index-list-i.result c.in-Some.t c.loop-i-test.true c.index-list-i.is
    (sym c.get.ensures ∙ c.in-Some.is) in
    let found = sym c.mismatches.ensures ∙ c.if-mismatches.true in
    sym (ap (λ b. b || any_mismatches (drop (c.loop-i.i + 1) as_) (drop (c.loop-i.i + 1) ts)) found) ∙ sym next ∙
    c.loop-i.invariant

pub returns-in-None : goal.returns-in-None
returns-in-None c = sym (no_more c.args.list.now c.args.types.now c.loop-i.i (sym c.get.ensures ∙ c.in-None.is)) ∙
    c.loop-i.invariant

pub loop-i-preserved : goal.loop-i-preserved
loop-i-preserved c =
    let as_ = c.args.list.now in
    let ts = c.args.types.now in
    let next = one_more as_ ts c.loop-i.i c.index-list-i.result c.in-Some.t c.loop-i-test.true c.index-list-i.is
    (sym c.get.ensures ∙ c.in-Some.is) in
    let found = sym c.mismatches.ensures ∙ c.if-mismatches.false in
    sym (ap (λ b. b || any_mismatches (drop (c.loop-i.i + 1) as_) (drop (c.loop-i.i + 1) ts)) found) ∙ sym next ∙
    c.loop-i.invariant

pub returns : goal.returns
returns c =
    let end = drop_all c.loop-i.i c.args.list.now c.loop-i-test.false in
    sym (none_passed (drop c.loop-i.i c.args.types.now)) ∙
    sym (ap (λ as_. any_mismatches as_ (drop c.loop-i.i c.args.types.now)) end) ∙ c.loop-i.invariant
