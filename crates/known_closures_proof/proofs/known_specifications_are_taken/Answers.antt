use Rattle.known_closures_proof.proofs.Rows.{known_taken}
use Rattle.known_closures_proof.proofs.known_specifications_are_taken.Goals as goal

pub returns : goal.returns
returns c = known_taken
