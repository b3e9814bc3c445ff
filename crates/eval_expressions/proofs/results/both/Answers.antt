use Rattle.eval_expressions.proofs.Accesses as access
use Rattle.eval_expressions.proofs.Frames as frame
use Rattle.eval_expressions.proofs.results.both.Goals as goal

pub returns-then-v-eq0 : goal.returns-then-v-eq0
returns-then-v-eq0 c = access.and_none _ _ _ _ _ c.if-v-eq0.true c.give.ensures

pub returns : goal.returns
returns c = frame.goes _ _ _ _ _ _ _ (frame.and_second _ _ _ c.if-v-eq0.false) c.wait.ensures
