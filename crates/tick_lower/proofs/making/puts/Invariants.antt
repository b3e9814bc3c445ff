use Rattle.std.proofs.Common.{◌≡◌, drop}
use Rattle.tick_lower_spec.specs.Lower.{putting}
use Rattle.tick_lower_spec.specs.TickPieces.{plain}
use Rattle.lowering_pieces.specs.Steps.{put}
use Rattle.tick_lower.proofs.Captures.{kinds}
use Rattle.tick_lower.proofs.making.puts.Given as goal

abbrev pub invariant-loop-i : goal.invariant-loop-i
invariant-loop-i l =
    put (plain (putting l.i (drop l.i (kinds l.captures)))) l.out ≡ put (plain (putting 0 (kinds l.captures))) l.fn.out
