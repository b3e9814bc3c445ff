-- The room that is kept for the largest list of ops. A list has at most 196,609 ops, 393,216
-- registers and 196,608 labels, as a finished list keeps, and each op has three slots.
use Rattle.std.specs.Prelude.{ℕ, ◌*◌, ◌≤◌, List, length}
use Rattle.collections.specs.Contents.{Contents}
use Rattle.collections.specs.Members.{Members}
use Rattle.limits.specs.declared.ops.TheConstants.{MOST_LABELS, MOST_OPS, MOST_REGISTERS}

pub record HasRooms (jumps definitions exposed starts : Contents) (found defining : Members)
    (blocks lasts lows highs ends : List ℕ) : Type 0 where
  pub jump_buckets : MOST_LABELS ≤ jumps.bucket_room
  pub jump_slots : 3 * MOST_OPS ≤ jumps.slot_room
  pub definition_buckets : MOST_REGISTERS ≤ definitions.bucket_room
  pub definition_slots : 3 * MOST_OPS ≤ definitions.slot_room
  pub exposed_buckets : MOST_REGISTERS ≤ exposed.bucket_room
  pub exposed_slots : 3 * MOST_OPS ≤ exposed.slot_room
  pub start_buckets : MOST_OPS ≤ starts.bucket_room
  pub start_slots : MOST_REGISTERS ≤ starts.slot_room
  pub found_room : MOST_OPS ≤ found.room
  pub defining_room : MOST_OPS ≤ defining.room
  pub block_room : MOST_OPS ≤ length blocks
  pub last_room : MOST_REGISTERS ≤ length lasts
  pub low_room : MOST_REGISTERS ≤ length lows
  pub high_room : MOST_REGISTERS ≤ length highs
  pub end_room : MOST_REGISTERS ≤ length ends
