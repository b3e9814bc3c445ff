use Rattle.std.proofs.Common.{subst, ap, sym, ◌∙◌, arith}
use Rattle.eval_state.specs.declared.state.Parts.{Parts}
use Rattle.meaning_state.specs.Rows.{numbered}
use Rattle.eval_state.specs.Kept.{rows_view}
use Rattle.eval_state.specs.Specified.{IsCode}
use Rattle.eval_state.proofs.Codes.{splice_begins, spliced_is_code, splices_nothing}
use Rattle.eval_state.proofs.Lightens.{splice_lighter, units_same}
use Rattle.eval_stages.proofs.calls.splice.Goals as goal

pub returns-in-None-clause-same : goal.returns-in-None-clause-same
returns-in-None-clause-same c = splices_nothing c.args.m.now c.args.answer c.args.capture c.keeps_law.ensures
    c.in-None.ensures

pub begin_splice-requires : goal.begin_splice-requires
begin_splice-requires c =
    (spliced_is_code c.args.m.now c.args.capture c.in-Some.number c.keeps_law.ensures c.in-Some.ensures).0

pub begin_tick-requires : goal.begin_tick-requires
begin_tick-requires c =
    let is = (spliced_is_code c.args.m.now c.args.capture c.in-Some.number c.keeps_law.ensures c.in-Some.ensures).1
    in
    subst (λ (q : Parts). IsCode (numbered q.body.row (rows_view q.rows))) (sym c.in_ok-begin_splice.ensures) is

pub returns-clause-same : goal.returns-clause-same
returns-clause-same c =
    c.begin_tick.ensures.same
    ∙ splice_begins c.args.m.now c.begin_splice.new.m c.args.answer c.args.capture c.in-Some.number
    c.keeps_law.ensures c.in-Some.ensures c.in_ok-begin_splice.ensures

pub returns-clause-units : goal.returns-clause-units
returns-clause-units c =
    let at_entry = units_same c.args.m.now c.begin_splice.new.m
    (ap (λ (q : Parts). q.units) c.in_ok-begin_splice.ensures) in
    omega (arith, at_entry)

pub returns-clause-less : goal.returns-clause-less
returns-clause-less c = λ same.
    let lighter = splice_lighter c.args.m.now c.begin_splice.new.m c.args.answer c.args.capture c.in-Some.number
    c.keeps_law.ensures c.in-Some.ensures c.in_ok-begin_splice.ensures in
    omega (arith, c.begin_tick.ensures.less, lighter)
