use Rattle.std.proofs.Common.{◌≡◌, drop}
use Rattle.tick_lower_spec.specs.Lower.{nipping}
use Rattle.tick_lower_spec.specs.TickPieces.{plain}
use Rattle.lowering_pieces.specs.Steps.{put}
use Rattle.tick_lower.proofs.Captures.{kinds}
use Rattle.tick_lower.proofs.making.nips.Given as goal

abbrev pub invariant-loop-taken : goal.invariant-loop-taken
invariant-loop-taken l =
    put (plain (nipping (drop l._taken (kinds l.captures)))) l.out ≡ put (plain (nipping (kinds l.captures))) l.fn.out
