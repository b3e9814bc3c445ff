use Rattle.std.proofs.Common.{◌≡◌, ◌+◌, drop, length}
use Rattle.tick_lower_spec.specs.Lower.{checking_all}
use Rattle.tick_lower_spec.specs.TickPieces.{plain}
use Rattle.lowering_pieces.specs.Steps.{put}
use Rattle.tick_lower.proofs.Captures.{kinds}
use Rattle.tick_lower.proofs.making.checks.Given as goal

abbrev pub invariant-loop-capture : goal.invariant-loop-capture
invariant-loop-capture l = record {
  above : l.above + l.capture-index ≡ length l.captures;
  checked :
      put (plain (checking_all (kinds (drop l.capture-index l.captures)))) l.out
      ≡ put (plain (checking_all (kinds (drop 0 l.captures)))) l.fn.out;
}
