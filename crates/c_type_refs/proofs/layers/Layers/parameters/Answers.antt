use Rattle.c_type_refs.proofs.layers.Layers.parameters.Goals as goal
use Rattle.std.proofs.Common.{arith}
use Rattle.std.proofs.lemmas.Grind.{common_steps}

pub coded-requires-in_default : goal.coded-requires-in_default
coded-requires-in_default c = grind (arith, common_steps)
