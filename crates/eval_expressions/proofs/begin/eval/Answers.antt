use Rattle.eval_state.specs.Steps.{begun}
use Rattle.eval_simple.proofs.Stepped.{less_of, same_of, units_of}
use Rattle.eval_expressions.proofs.begin.eval.Goals as goal

pub returns-clause-same : goal.returns-clause-same
unfolding begun
returns-clause-same c = same_of _ _ _ _ _ c.begin.ensures

pub returns-clause-units : goal.returns-clause-units
returns-clause-units c = units_of _ _ _ _ _ c.begin.ensures

pub returns-clause-less : goal.returns-clause-less
returns-clause-less c = less_of _ _ _ _ _ c.begin.ensures
