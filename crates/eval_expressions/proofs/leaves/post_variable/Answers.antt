use Rattle.eval_state.specs.Run.{run_of}
use Rattle.eval_expressions.proofs.Begun as leaf
use Rattle.eval_expressions.proofs.leaves.post_variable.Goals as goal

pub returns : goal.returns
returns c =
    leaf.post_variable c.args.i c.args.width c.args.step c.variable-old.result c.narrowed.result _
    (run_of c.args.m.now) (run_of c.set_variable.new.self) (run_of c.give.new.m) c.variable-old.ensures
    c.narrowed.ensures c.in_ok-set_variable.ensures c.give.ensures
