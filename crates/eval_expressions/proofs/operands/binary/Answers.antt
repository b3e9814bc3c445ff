use Rattle.std.proofs.Common.{refl}
use Rattle.typed_tree.specs.Nodes as node
use Rattle.typed_tree.specs.View.{expr_view}
use Rattle.eval_state.specs.Run.{run_of}
use Rattle.eval_state.specs.Views.{now_view}
use Rattle.eval_simple.specs.Stepped.{IsBegun}
use Rattle.eval_simple.proofs.Going as going
use Rattle.eval_simple.proofs.Stepped.{steps_behind, unmoved}
use Rattle.eval_expressions.proofs.AtOnce.{first_there}
use Rattle.eval_expressions.proofs.Nodes as opened
use Rattle.eval_expressions.proofs.Steps.{opens}
use Rattle.eval_expressions.proofs.operands.binary.Goals as goal

pub returns-in-Some : goal.returns-in-Some
returns-in-Some c =
    let it = going.done c.in_ok-x.field-0 (expr_view c.args.a.now) c.args.m.now c.at_once.new.m c.in-Some.x
    c.in_ok-x.ensures c.in-Some.is in
    steps_behind c.first.result (expr_view c.args.a.now) c.in-Some.x _ _ _ _ (run_of c.args.m.now)
    (run_of c.at_once.new.m) (run_of c.first.new.m) it (first_there _ _ _ _ _ _ it) c.first.ensures

pub returns-in-None : goal.returns-in-None
returns-in-None c =
    unmoved c.wait.result c.args.m.now c.at_once.new.m
    (λ n r. IsBegun (node.Bin c.args.kind (expr_view c.args.a.now) (expr_view c.args.b.now)) (now_view n) r
    (run_of c.wait.new.m))
    (going.undone c.in_ok-x.field-0 (expr_view c.args.a.now) c.args.m.now c.at_once.new.m c.in_ok-x.ensures
    c.in-None.is)
    (opens _ _ _ _ _ _ _ refl (opened.first _ _ _) c.wait.ensures)
