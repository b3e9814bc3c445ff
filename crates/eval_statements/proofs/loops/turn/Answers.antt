use Rattle.typed_tree.specs.View.{expr_view, stmt_view}
use Rattle.eval_state.specs.Run.{run_of}
use Rattle.eval_state.specs.Views.{step_view}
use Rattle.eval_simple.proofs.Going as going
use Rattle.eval_simple.proofs.Stepped.{steps_behind}
use Rattle.eval_statements.proofs.AtOnce.{turn_tested}
use Rattle.eval_statements.proofs.Turns.{turn_waits}
use Rattle.eval_statements.proofs.loops.turn.Goals as goal

pub returns-in-Some : goal.returns-in-Some
returns-in-Some c =
    let it = going.done c.in_ok-v.field-0 (expr_view c.args.e.now) c.args.m.now c.at_once.new.m c.in-Some.v
    c.in_ok-v.ensures c.in-Some.is in
    steps_behind c.test.result (expr_view c.args.e.now) c.in-Some.v _ _ _ _ (run_of c.args.m.now)
    (run_of c.at_once.new.m) (run_of c.test.new.m) it
    (turn_tested (run_of c.args.m.now) (run_of c.at_once.new.m) c.args.more (expr_view c.args.e.now)
    (step_view c.args.step) (stmt_view c.args.s.now) c.in-Some.v it)
    c.test.ensures

pub returns-in-None : goal.returns-in-None
returns-in-None c =
    turn_waits c.wait.result c.args.more (expr_view c.args.e.now) (step_view c.args.step) (stmt_view c.args.s.now)
    c.args.m.now c.at_once.new.m (run_of c.wait.new.m)
    (going.undone c.in_ok-v.field-0 (expr_view c.args.e.now) c.args.m.now c.at_once.new.m c.in_ok-v.ensures
    c.in-None.is)
    c.wait.ensures
