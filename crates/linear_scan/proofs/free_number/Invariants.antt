use Rattle.std.proofs.Common.{◌≡◌, ◌-◌}
use Rattle.linear_scan_spec.specs.Scan.{least_free}
use Rattle.linear_scan.specs.Held.{ids}
use Rattle.linear_scan.proofs.free_number.Given as goal

abbrev pub invariant-loop-number : goal.invariant-loop-number
invariant-loop-number l =
    least_free 12 0 (ids l.keepers.items) ≡ least_free (12 - l.number) l.number
    (ids l.keepers.items)
