use Rattle.std.proofs.Common.{arith}
use Rattle.typed_tree.specs.View.{expr_view}
use Rattle.eval_state.specs.Run.{run_of}
use Rattle.eval_direct.proofs.Settling.{settled_leads, settled_lighten, settled_units, settles, value_leads}
use Rattle.eval_direct.proofs.Settling.{value_spends}
use Rattle.eval_direct.proofs.expressions.direct.Goals as goal

pub settled-requires : goal.settled-requires
settled-requires c =
    settles c.compound.new.late c.args.m.now c.compound.new.m _ _ c.keeps_law.ensures c.in-Later.ensures

pub returns-in-Value-clause-same : goal.returns-in-Value-clause-same
returns-in-Value-clause-same c =
    value_leads c.value_of.result c.compound.new.late (expr_view c.args.e.now) c.in-Value.v (run_of c.args.m.now)
    (run_of c.compound.new.m) _ c.value_of.ensures c.in-Value.ensures

pub returns-in-Value-clause-units : goal.returns-in-Value-clause-units
returns-in-Value-clause-units c =
    let fewer = value_spends c.compound.new.late c.in-Value.v (run_of c.args.m.now) (run_of c.compound.new.m) _ _
    c.in-Value.ensures in
    omega (arith, fewer)

pub returns-in-Value-clause-less : goal.returns-in-Value-clause-less
returns-in-Value-clause-less c = λ e.
    let fewer = value_spends c.compound.new.late c.in-Value.v (run_of c.args.m.now) (run_of c.compound.new.m) _ _
    c.in-Value.ensures in
    absurd (omega (arith, fewer, e))

pub returns-in-Later-clause-same : goal.returns-in-Later-clause-same
returns-in-Later-clause-same c =
    settled_leads c.settled.result c.compound.new.late (run_of c.args.m.now) (run_of c.compound.new.m)
    (run_of c.settled.new.m) _ _ c.in-Later.ensures c.settled.ensures

pub returns-in-Later-clause-units : goal.returns-in-Later-clause-units
returns-in-Later-clause-units c =
    settled_units c.settled.result c.compound.new.late (run_of c.args.m.now) (run_of c.compound.new.m)
    (run_of c.settled.new.m) _ _ c.in-Later.ensures c.settled.ensures

pub returns-in-Later-clause-less : goal.returns-in-Later-clause-less
returns-in-Later-clause-less c =
    settled_lighten c.settled.result c.compound.new.late (expr_view c.args.e.now) (run_of c.args.m.now)
    (run_of c.compound.new.m) (run_of c.settled.new.m) _ c.in-Later.ensures c.settled.ensures
