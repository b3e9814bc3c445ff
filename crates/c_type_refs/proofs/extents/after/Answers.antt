use Rattle.c_type_refs.proofs.extents.after.Goals as goal
use Rattle.std.proofs.Common.{arith}
use Rattle.std.proofs.lemmas.Grind.{common_steps}

pub loop-layer-preserved : goal.loop-layer-preserved
loop-layer-preserved c = grind (arith, common_steps)

pub returns : goal.returns
returns c = grind (arith, common_steps)
