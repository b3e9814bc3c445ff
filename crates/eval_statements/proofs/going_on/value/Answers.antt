use Rattle.eval_state.specs.Steps.{taken}
use Rattle.eval_simple.proofs.Stepped.{less_of, same_of, units_of}
use Rattle.eval_statements.proofs.going_on.value.Goals as goal

pub returns-clause-same : goal.returns-clause-same
unfolding taken
returns-clause-same c = same_of _ _ _ _ _ c.take.ensures

pub returns-clause-units : goal.returns-clause-units
returns-clause-units c = units_of _ _ _ _ _ c.take.ensures

pub returns-clause-less : goal.returns-clause-less
returns-clause-less c = less_of _ _ _ _ _ c.take.ensures
