use Rattle.std.proofs.Common.{◌≡◌, ◌≤◌, ◌-◌, length}
use Rattle.icode_ranges.specs.Search.{AreDefining}
use Rattle.icode_liveness.proofs.Reaching.{Reaching}
use Rattle.icode_liveness.proofs.search.live_range.Given as goal

abbrev pub invariant-loop-looked_at : goal.invariant-loop-looked_at
invariant-loop-looked_at l =
    record {
      room : l.found.room ≡ l.fn.found.room;
      same : l.defining.room ≡ l.fn.defining.room;
      within : l.looked_at ≤ length l.found.members;
      defining : AreDefining l.code.ops.now l.fn.range.reg l.defining.members;
      reaching : Reaching l.code.ops.now l.fn.range.reg l.defining.members l.found.members l.looked_at l.range;
    }

abbrev pub decreases-loop-looked_at : goal.decreases-loop-looked_at
decreases-loop-looked_at l = l.found.room - l.looked_at
