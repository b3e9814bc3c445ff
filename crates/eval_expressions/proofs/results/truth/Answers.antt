use Rattle.eval_expressions.proofs.Accesses as access
use Rattle.eval_expressions.proofs.results.truth.Goals as goal

pub returns-then-v-eq0 : goal.returns-then-v-eq0
returns-then-v-eq0 c = access.truth_none _ _ _ _ c.if-v-eq0.true c.give.ensures

pub returns : goal.returns
returns c = access.truth_some _ _ _ _ c.if-v-eq0.false c.give-2.ensures
