use Rattle.routine_spec.proofs.Short.{routines_fill}
use Rattle.routine_spec.proofs.routines_fill_blocks.Goals as goal

pub returns : goal.returns
returns c = routines_fill
