use Rattle.std.proofs.Common.{ap}
use Rattle.eval_state.specs.Views.{now_view}
use Rattle.eval_simple.proofs.Stepped.{units_of}
use Rattle.eval_statements.proofs.Executed.{less_than_next, same_as_next}
use Rattle.eval_statements.proofs.begin.further.Goals as goal

pub returns-in-Exec-clause-same : goal.returns-in-Exec-clause-same
returns-in-Exec-clause-same c = same_as_next _ _ _ _ _ (ap now_view c.in-Exec.is) c.begin.ensures

pub returns-in-Exec-clause-units : goal.returns-in-Exec-clause-units
returns-in-Exec-clause-units c = units_of _ _ _ _ _ c.begin.ensures

pub returns-in-Exec-clause-less : goal.returns-in-Exec-clause-less
returns-in-Exec-clause-less c = less_than_next _ _ _ _ _ (ap now_view c.in-Exec.is) c.begin.ensures
