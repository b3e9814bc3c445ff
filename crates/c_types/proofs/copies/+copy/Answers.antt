use Rattle.c_types.proofs.copies.+copy.Goals as goal
use Rattle.std.proofs.Common.{arith}
use Rattle.std.proofs.lemmas.Grind.{common_steps}

pub copy_layers-returns : goal.copy_layers-returns
copy_layers-returns t c = grind (arith, common_steps)

pub copy_list-returns : goal.copy_list-returns
copy_list-returns t c = grind (arith, common_steps)
