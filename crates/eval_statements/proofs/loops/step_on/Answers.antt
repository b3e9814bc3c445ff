use Rattle.std.proofs.Common.{ap}
use Rattle.typed_tree.specs.View.{expr_view, stmt_view}
use Rattle.eval_state.specs.Run.{run_of}
use Rattle.eval_state.specs.Views.{step_view}
use Rattle.eval_simple.proofs.Going as going
use Rattle.eval_statements.proofs.Turns.{step_taken, step_waits, turns_on}
use Rattle.eval_statements.proofs.loops.step_on.Goals as goal

pub returns-in-None : goal.returns-in-None
returns-in-None c =
    turns_on c.turned.result c.args.more (expr_view c.args.e.now) (step_view c.args.step) (stmt_view c.args.s.now)
    (run_of c.args.m.now) (run_of c.turned.new.m) (ap step_view c.in-None.is) c.turned.ensures

pub returns-in-Some-2 : goal.returns-in-Some-2
returns-in-Some-2 c =
    let step = expr_view c.in-Some.step.now in
    step_taken c.turned-in-Some-2.result c.args.more (expr_view c.args.e.now) (step_view c.args.step)
    (stmt_view c.args.s.now) step c.in-Some-2.field-0 (run_of c.args.m.now) (run_of c.at_once.new.m)
    (run_of c.turned-in-Some-2.new.m) (ap step_view c.in-Some.is)
    (going.done c.in_ok-at_once-in-Some.field-0 step c.args.m.now c.at_once.new.m c.in-Some-2.field-0
    c.in_ok-at_once-in-Some.ensures c.in-Some-2.is)
    c.turned-in-Some-2.ensures

pub returns-in-None-2 : goal.returns-in-None-2
returns-in-None-2 c =
    let step = expr_view c.in-Some.step.now in
    step_waits c.wait.result c.args.more (expr_view c.args.e.now) (step_view c.args.step) (stmt_view c.args.s.now) step
    c.args.m.now c.at_once.new.m (run_of c.wait.new.m) (ap step_view c.in-Some.is)
    (going.undone c.in_ok-at_once-in-Some.field-0 step c.args.m.now c.at_once.new.m c.in_ok-at_once-in-Some.ensures
    c.in-None-2.is)
    c.wait.ensures
