use Rattle.std.proofs.Common.{[], ℕ, List, subst, IfOk}
use Rattle.eval_state.specs.Run.{run_of}
use Rattle.eval_state.specs.Views.{args_view, now_view, target_view}
use Rattle.eval_simple.proofs.Stepped.{unmoved}
use Rattle.eval_expressions.specs.Arguments.{IsComing}
use Rattle.eval_expressions.proofs.arguments.first_argument.Goals as goal

pub returns : goal.returns
returns c =
    let target = target_view c.args.target in
    let list = args_view c.args.list.now in
    unmoved c.next_argument.result c.args.m.now c.list-done.new.self
    (λ n r. IsComing target list [] (now_view n) r (run_of c.next_argument.new.m)) c.list-done.ensures.still
    (subst (λ (done : List ℕ). IfOk c.next_argument.result (λ n. IsComing target list done (now_view n)
    (run_of c.list-done.new.self) (run_of c.next_argument.new.m))) c.list-done.ensures.empty c.next_argument.ensures)
