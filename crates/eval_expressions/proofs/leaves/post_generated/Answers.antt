use Rattle.eval_state.specs.Run.{run_of}
use Rattle.eval_expressions.proofs.Begun as leaf
use Rattle.eval_expressions.proofs.leaves.post_generated.Goals as goal

pub returns : goal.returns
returns c =
    leaf.post_generated c.args.i c.args.step c.generated-old.result _ (run_of c.args.m.now)
    (run_of c.set_generated.new.self) (run_of c.give.new.m) c.generated-old.ensures c.in_ok-set_generated.ensures
    c.give.ensures
