use Rattle.eval_expressions.proofs.Begun as leaf
use Rattle.eval_expressions.proofs.leaves.object.Goals as goal

pub returns : goal.returns
returns c = leaf.object _ _ _ _ _ c.in_ok-at.ensures c.give.ensures
