use Rattle.typed_tree.specs.View.{expr_view}
use Rattle.eval_state.specs.Pending as pending
use Rattle.eval_state.specs.Run.{run_of}
use Rattle.eval_state.specs.Views.{statement_frame}
use Rattle.eval_simple.proofs.Stepped.{pushes}
use Rattle.eval_statements.proofs.next.wait.Goals as goal

pub returns : goal.returns
returns c =
    pushes c.push.result (statement_frame c.args.frame) (pending.Eval (expr_view c.args.part.now))
    (run_of c.args.m.now) (run_of c.push.new.self) c.push.ensures.same c.push.ensures.units c.push.ensures.less
