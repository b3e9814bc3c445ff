use Rattle.eval_state.specs.Run.{run_of}
use Rattle.eval_expressions.proofs.Begun as leaf
use Rattle.eval_expressions.proofs.leaves.getchar.Goals as goal

pub returns : goal.returns
returns c =
    leaf.getchar c.in_ok-word.word _ (run_of c.args.m.now) (run_of c.get_byte.new.self) (run_of c.give.new.m)
    c.in_ok-word.ensures c.give.ensures
