use Rattle.std.proofs.Common.{◌≡◌, ◌≤◌, ◌*◌, length}
use Rattle.icode_ranges.specs.Tables.{GoesFrom, IsTable, KnowsLabels}
use Rattle.icode_liveness.proofs.tables.list_jumps.Given as goal

abbrev pub invariant-loop-p : goal.invariant-loop-p
invariant-loop-p l =
    record {
      table : IsTable (GoesFrom l.ops l.p) l.buckets.buckets;
      labels : KnowsLabels l.ops (length l.buckets.buckets);
      least : l.buckets.least_slot ≤ 3 * l.p;
      bucket_room : l.buckets.bucket_room ≡ l.fn.buckets.bucket_room;
      slot_room : l.buckets.slot_room ≡ l.fn.buckets.slot_room;
    }
