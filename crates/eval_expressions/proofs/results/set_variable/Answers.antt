use Rattle.std.proofs.Common.{refl, arith}
use Rattle.staged_meaning.specs.World.{with_variable}
use Rattle.eval_state.specs.Steps.{taken}
use Rattle.eval_state.specs.Run.{run_of, world}
use Rattle.eval_state.specs.Views.{now_view}
use Rattle.eval_expressions.proofs.Steps.{behind}
use Rattle.eval_expressions.proofs.results.set_variable.Goals as goal

pub returns : goal.returns
unfolding taken
returns c =
    behind (now_view c.give.result) c.args.v (with_variable c.args.i c.args.v (world (run_of c.args.m.now))) _ _
    (run_of c.args.m.now) (run_of c.set_variable.new.self) (run_of c.give.new.m) c.in_ok-set_variable.ensures
    (omega arith) refl (omega arith) c.give.ensures
