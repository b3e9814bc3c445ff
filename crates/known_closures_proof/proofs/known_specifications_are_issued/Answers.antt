use Rattle.known_closures_proof.proofs.Rows.{known_issued}
use Rattle.known_closures_proof.proofs.known_specifications_are_issued.Goals as goal

pub returns : goal.returns
returns c = known_issued
