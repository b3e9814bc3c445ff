use Rattle.linear_scan_spec.proofs.Legals.{places-are-legal}
use Rattle.linear_scan_spec.proofs.places_are_legal.Goals as goal

pub returns : goal.returns
returns c = places-are-legal
