use Rattle.linear_scan_spec.proofs.Order.{intervals-are-scannable}
use Rattle.linear_scan_spec.proofs.intervals_are_scannable.Goals as goal

pub returns : goal.returns
returns c = intervals-are-scannable
