use Rattle.std.proofs.Common.{length}
use Rattle.eval_state.proofs.spare.emptied.Given as goal

abbrev pub decreases-loop : goal.decreases-loop
decreases-loop l = length l.list
