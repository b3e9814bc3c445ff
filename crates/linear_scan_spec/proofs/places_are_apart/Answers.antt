use Rattle.linear_scan_spec.proofs.Places.{places-are-apart}
use Rattle.linear_scan_spec.proofs.places_are_apart.Goals as goal

pub returns : goal.returns
returns c = places-are-apart
