use Rattle.c_type_refs.proofs.shared.TypeRef.under.Goals as goal
use Rattle.std.proofs.Common.{arith}
use Rattle.std.proofs.lemmas.Grind.{common_steps}

pub returns-then-is_none : goal.returns-then-is_none
returns-then-is_none c = let h = c.if-is_none.ensures in grind (arith, common_steps)

pub returns-else-is_none : goal.returns-else-is_none
returns-else-is_none c = let h = c.if-is_none.ensures in grind (arith, common_steps)
