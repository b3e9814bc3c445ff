use Rattle.eval_state.specs.Steps.{ended}
use Rattle.eval_simple.proofs.Stepped.{less_of, same_of, units_of}
use Rattle.eval_statements.proofs.going_on.flow.Goals as goal

pub returns-clause-same : goal.returns-clause-same
unfolding ended
returns-clause-same c = same_of _ _ _ _ _ c.pass.ensures

pub returns-clause-units : goal.returns-clause-units
returns-clause-units c = units_of _ _ _ _ _ c.pass.ensures

pub returns-clause-less : goal.returns-clause-less
returns-clause-less c = less_of _ _ _ _ _ c.pass.ensures
