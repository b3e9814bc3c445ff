use Rattle.std.proofs.Common.{◌≡◌, ◌+◌, ◌-◌, drop, length}
use Rattle.eval_state.specs.Kept.{place_of}
use Rattle.eval_state.proofs.state.Generated.place.Given as goal

abbrev pub invariant-loop-i : goal.invariant-loop-i
invariant-loop-i l = place_of l.values l.key ≡ l.i + place_of (drop l.i l.values) l.key

abbrev pub decreases-loop-i : goal.decreases-loop-i
decreases-loop-i l = length l.values - l.i
