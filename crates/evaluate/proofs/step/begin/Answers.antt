use Rattle.std.proofs.Common.{◌≡◌, ◌<◌, ℕ, arith}
use Rattle.typed_tree.specs.Nodes.{Expr}
use Rattle.typed_tree.specs.View.{expr_view}
use Rattle.eval_state.specs.Pending as pending
use Rattle.eval_state.specs.Less.{heft}
use Rattle.eval_state.specs.Run.{Run, outcome, run_of}
use Rattle.eval_simple.proofs.Going as going
use Rattle.eval_simple.specs.Simple.{IsDone}
use Rattle.evaluate.proofs.step.begin.Goals as goal

-- an expression that is evaluated at once spends a unit, so where none was spent there is none
spends : (r t : Run) (e : Expr) (v x y : ℕ) → IsDone e v r t → t.state.units ≡ r.state.units → x < y
spends r t e v x y h same = omega (arith, going.spends r t e v h, same)

pub returns-in-Some-clause-same : goal.returns-in-Some-clause-same
returns-in-Some-clause-same c =
    going.value_is_there (run_of c.args.m.now) (run_of c.at_once.new.m) (expr_view c.args.e.now) c.in-Some.v
    (going.done c.in_ok-v.field-0 (expr_view c.args.e.now) c.args.m.now c.at_once.new.m c.in-Some.v c.in_ok-v.ensures
    c.in-Some.is)

pub returns-in-Some-clause-units : goal.returns-in-Some-clause-units
returns-in-Some-clause-units c =
    going.spends_most (run_of c.args.m.now) (run_of c.at_once.new.m) (expr_view c.args.e.now) c.in-Some.v
    (going.done c.in_ok-v.field-0 (expr_view c.args.e.now) c.args.m.now c.at_once.new.m c.in-Some.v c.in_ok-v.ensures
    c.in-Some.is)

pub returns-in-Some-clause-less : goal.returns-in-Some-clause-less
returns-in-Some-clause-less c =
    spends (run_of c.args.m.now) (run_of c.at_once.new.m) (expr_view c.args.e.now) c.in-Some.v _ _
    (going.done c.in_ok-v.field-0 (expr_view c.args.e.now) c.args.m.now c.at_once.new.m c.in-Some.v c.in_ok-v.ensures
    c.in-Some.is)

pub returns-in-None-clause-same : goal.returns-in-None-clause-same
returns-in-None-clause-same c =
    going.still c.goes.result c.args.m.now c.at_once.new.m (run_of c.goes.new.m)
    (outcome (pending.Eval (expr_view c.args.e.now)))
    (going.undone c.in_ok-v.field-0 (expr_view c.args.e.now) c.args.m.now c.at_once.new.m c.in_ok-v.ensures
    c.in-None.is)
    c.goes.ensures.same

pub returns-in-None-clause-less : goal.returns-in-None-clause-less
returns-in-None-clause-less c =
    going.still_less c.goes.result c.args.m.now c.at_once.new.m (run_of c.goes.new.m)
    (heft (pending.Eval (expr_view c.args.e.now)))
    (going.undone c.in_ok-v.field-0 (expr_view c.args.e.now) c.args.m.now c.at_once.new.m c.in_ok-v.ensures
    c.in-None.is)
    c.goes.ensures.less
