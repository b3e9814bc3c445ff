use Rattle.linear_scan_spec.proofs.Ends.{keepers-are-by-end}
use Rattle.linear_scan_spec.proofs.keepers_are_by_end.Goals as goal

pub returns : goal.returns
returns c = keepers-are-by-end
