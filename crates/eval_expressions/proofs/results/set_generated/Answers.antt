use Rattle.std.proofs.Common.{refl, arith}
use Rattle.staged_meaning.specs.Expressions.{key_of}
use Rattle.staged_meaning.specs.World.{with_generated}
use Rattle.eval_state.specs.Steps.{taken}
use Rattle.eval_state.specs.Run.{here, run_of, world}
use Rattle.eval_state.specs.Views.{now_view}
use Rattle.eval_expressions.proofs.Steps.{behind}
use Rattle.eval_expressions.proofs.results.set_generated.Goals as goal

pub returns : goal.returns
unfolding taken
returns c =
    let r = run_of c.args.m.now in
    behind (now_view c.give.result) c.args.v (with_generated (key_of (here r).captures c.args.i) c.args.v (world r))
    _ _ r (run_of c.set_generated.new.self) (run_of c.give.new.m) c.in_ok-set_generated.ensures (omega arith) refl
    (omega arith) c.give.ensures
