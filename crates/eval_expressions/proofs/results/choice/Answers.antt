use Rattle.eval_expressions.proofs.Frames as frame
use Rattle.eval_expressions.proofs.results.choice.Goals as goal

pub returns : goal.returns
returns c = frame.goes _ _ _ _ _ _ _ (frame.chosen_first _ _ _ _ c.if-v-eq0.false) c.wait-2.ensures

pub returns-then-v-eq0 : goal.returns-then-v-eq0
returns-then-v-eq0 c = frame.goes _ _ _ _ _ _ _ (frame.chosen_second _ _ _ _ c.if-v-eq0.true) c.wait.ensures
