use Rattle.linear_scan_spec.proofs.Crowding.{spills-are-crowded}
use Rattle.linear_scan_spec.proofs.spills_are_crowded.Goals as goal

pub returns : goal.returns
returns c = spills-are-crowded
