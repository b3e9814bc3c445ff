use Rattle.std.proofs.Common.{◌≡◌, length}
use Rattle.linear_scan.proofs.empty.Given as goal

abbrev pub invariant-loop-number : goal.invariant-loop-number
invariant-loop-number l = l.keepers.room ≡ l.initial.keepers.room

abbrev pub decreases-loop-number : goal.decreases-loop-number
decreases-loop-number l = length l.keepers.items
