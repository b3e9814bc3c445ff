use Rattle.std.proofs.Common.{length}
use Rattle.lowering_pieces.proofs.body.clear.Given as goal

abbrev pub decreases-loop : goal.decreases-loop
decreases-loop l = length l.list
