use Rattle.std.proofs.Common.{◌≡◌, ◌<◌, ℕ, drop, get_or}
use Rattle.linear_scan_spec.specs.Scan.{scan}
use Rattle.linear_scan.proofs.Visiting.{Visiting}
use Rattle.linear_scan.proofs.Scanner.scan.Given as goal

abbrev pub invariant-loop-place : goal.invariant-loop-place
invariant-loop-place l = (r : ℕ) → r < l.place-index → get_or l.places r 0 ≡ 12

abbrev pub invariant-loop-x : goal.invariant-loop-x
invariant-loop-x l =
    Visiting l.self-inside.keepers l.self-inside.owners l.places (drop l.x-index l.intervals)
    (scan l.intervals)
