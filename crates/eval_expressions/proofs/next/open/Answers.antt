use Rattle.std.proofs.Common.{IfOk, subst}
use Rattle.typed_tree.specs.View.{expr_view}
use Rattle.eval_state.specs.Pending as pending
use Rattle.eval_state.specs.Run.{run_of}
use Rattle.eval_state.specs.Views.{expression_frame, now_view}
use Rattle.eval_simple.specs.Stepped.{IsPushed}
use Rattle.eval_expressions.proofs.next.open.Goals as goal

pub returns : goal.returns
returns c =
    subst (λ q. IfOk c.wait.result (λ n. IsPushed (expression_frame c.args.frame) (pending.Eval (expr_view q)) (now_view
    n) (run_of c.args.m.now) (run_of c.wait.new.m))) c.get.ensures c.wait.ensures
