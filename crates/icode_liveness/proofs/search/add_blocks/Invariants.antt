use Rattle.std.proofs.Common.{◌≡◌, ◌/◌, ◌<◌, [], slice_index_or, IfSome}
use Rattle.icode_ranges.specs.Blocks.{block_of}
use Rattle.icode_ranges.specs.Lists.{In, Extends}
use Rattle.icode_ranges.specs.Search.{BlockIn}
use Rattle.icode_ranges.proofs.Walking.{Walk, slots_left}
use Rattle.icode_liveness.proofs.search.add_blocks.Given as goal

abbrev pub invariant-loop-at : goal.invariant-loop-at
invariant-loop-at l =
    record {
      room : l.found.room ≡ l.fn.found.room;
      within : IfSome l.at (λ s. s < l.table.slot_room);
      walk :
          Walk (slice_index_or l.table.buckets l.bucket []) l.at
          (λ slot. In (block_of l.code.ops.now (slot / 3)) l.found.members);
      extends :
          Extends (BlockIn l.code.ops.now (slice_index_or l.table.buckets l.bucket [])) l.fn.found.members
          l.found.members;
    }

abbrev pub decreases-loop-at : goal.decreases-loop-at
decreases-loop-at l = slots_left l.at
