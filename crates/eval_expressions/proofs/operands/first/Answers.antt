use Rattle.typed_tree.specs.View.{expr_view}
use Rattle.eval_state.specs.Pending as pending
use Rattle.eval_state.specs.Run.{run_of}
use Rattle.eval_state.specs.Views.{now_view}
use Rattle.eval_simple.specs.Stepped.{IsTaken}
use Rattle.eval_simple.proofs.Going as going
use Rattle.eval_simple.proofs.Stepped.{step_behind, unmoved}
use Rattle.eval_expressions.proofs.AtOnce.{second_there}
use Rattle.eval_expressions.proofs.Frames as frame
use Rattle.eval_expressions.proofs.operands.first.Goals as goal

pub returns-in-Some : goal.returns-in-Some
returns-in-Some c =
    let it = going.done c.in_ok-y.field-0 (expr_view c.args.b.now) c.args.m.now c.at_once.new.m c.in-Some.y
    c.in_ok-y.ensures c.in-Some.is in
    step_behind _ (expr_view c.args.b.now) c.in-Some.y _ _ _ _ (run_of c.args.m.now) (run_of c.at_once.new.m)
    (run_of c.second.new.m) it (second_there _ _ _ _ _ _ it) c.second.ensures

pub returns-in-None : goal.returns-in-None
returns-in-None c =
    unmoved c.wait.result c.args.m.now c.at_once.new.m
    (λ n r. IsTaken (pending.First c.args.kind (expr_view c.args.b.now)) c.args.v (now_view n) r
    (run_of c.wait.new.m))
    (going.undone c.in_ok-y.field-0 (expr_view c.args.b.now) c.args.m.now c.at_once.new.m c.in_ok-y.ensures
    c.in-None.is)
    (frame.goes _ _ _ _ _ _ _ (frame.second _ _ _ _) c.wait.ensures)
