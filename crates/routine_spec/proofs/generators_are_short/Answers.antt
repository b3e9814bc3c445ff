use Rattle.routine_spec.proofs.Short.{generators_short}
use Rattle.routine_spec.proofs.generators_are_short.Goals as goal

pub returns : goal.returns
returns c = generators_short
