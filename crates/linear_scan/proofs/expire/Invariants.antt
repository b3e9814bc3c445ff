use Rattle.std.proofs.Common.{◌≡◌, length}
use Rattle.linear_scan.specs.Held.{from_end, ApartIds}
use Rattle.linear_scan.proofs.expire.Given as goal

abbrev pub invariant-loop-number : goal.invariant-loop-number
invariant-loop-number l =
    record {
      room : l.keepers.room ≡ l.initial.keepers.room;
      same : from_end l.start l.keepers.items ≡ from_end l.start l.initial.keepers.items;
      apart : ApartIds l.keepers.items;
    }

abbrev pub decreases-loop-number : goal.decreases-loop-number
decreases-loop-number l = length l.keepers.items
