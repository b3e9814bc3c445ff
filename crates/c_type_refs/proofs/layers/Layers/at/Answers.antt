use Rattle.c_type_refs.proofs.layers.Layers.at.Goals as goal
use Rattle.std.proofs.Common.{arith}
use Rattle.std.proofs.lemmas.Grind.{common_steps}
use Rattle.std.proofs.lemmas.Grind.{elements}

pub offset_bounds-self-inside-place-else-place-below : goal.offset_bounds-self-inside-place-else-place-below
offset_bounds-self-inside-place-else-place-below c = grind (arith, common_steps)

pub bounds-self-inside-place-else-place-below : goal.bounds-self-inside-place-else-place-below
bounds-self-inside-place-else-place-below c = grind (arith, common_steps)

pub returns-then-place-below : goal.returns-then-place-below
returns-then-place-below c = grind (arith, elements)

pub returns-else-place-below : goal.returns-else-place-below
returns-else-place-below c = grind (arith, elements)
