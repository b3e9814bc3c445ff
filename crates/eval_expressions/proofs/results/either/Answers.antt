use Rattle.eval_expressions.proofs.Accesses as access
use Rattle.eval_expressions.proofs.Frames as frame
use Rattle.eval_expressions.proofs.results.either.Goals as goal

pub returns-then-v-ne0 : goal.returns-then-v-ne0
returns-then-v-ne0 c = access.or_some _ _ _ _ _ c.if-v-ne0.true c.give.ensures

pub returns : goal.returns
returns c = frame.goes _ _ _ _ _ _ _ (frame.or_second _ _ _ c.if-v-ne0.false) c.wait.ensures
