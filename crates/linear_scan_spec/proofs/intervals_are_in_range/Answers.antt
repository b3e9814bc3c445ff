use Rattle.linear_scan_spec.proofs.Ranges.{intervals-are-in-range}
use Rattle.linear_scan_spec.proofs.intervals_are_in_range.Goals as goal

pub returns : goal.returns
returns c = intervals-are-in-range
