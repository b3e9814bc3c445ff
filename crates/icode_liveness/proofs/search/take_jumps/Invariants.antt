use Rattle.std.proofs.Common.{◌≡◌, ◌/◌, ◌<◌, [], slice_index_or, IfSome}
use Rattle.icode_ranges.specs.Search.{Taken, Grown, PlaceOf}
use Rattle.icode_ranges.proofs.Walking.{Walk, slots_left}
use Rattle.icode_liveness.proofs.search.take_jumps.Given as goal

abbrev pub invariant-loop-at : goal.invariant-loop-at
invariant-loop-at l =
    record {
      room : l.found.room ≡ l.fn.found.room;
      within : IfSome l.at (λ s. s < l.code.jumps.now.slot_room);
      walk :
          Walk (slice_index_or l.code.jumps.now.buckets l.label []) l.at
          (λ slot. Taken l.code.ops.now l.defining.members l.found.members l.range (slot / 3));
      grown :
          Grown (PlaceOf (slice_index_or l.code.jumps.now.buckets l.label [])) l.code.ops.now l.defining.members
          l.fn.range l.range l.fn.found.members l.found.members;
    }

abbrev pub decreases-loop-at : goal.decreases-loop-at
decreases-loop-at l = slots_left l.at
