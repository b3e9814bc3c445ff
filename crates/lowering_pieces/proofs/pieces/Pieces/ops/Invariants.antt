use Rattle.std.proofs.Common.{◌≡◌}
use Rattle.lowering_pieces.proofs.Lists.{ops_left}
use Rattle.lowering_pieces.proofs.pieces.Pieces.ops.Given as goal

abbrev pub invariant-loop-op : goal.invariant-loop-op
invariant-loop-op l = ops_left l.op-index l.ops l.self ≡ ops_left 0 l.ops l.fn.self
