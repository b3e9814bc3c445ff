use Rattle.known_closures_proof.proofs.Rows.{known_finished}
use Rattle.known_closures_proof.proofs.known_functions_are_finished.Goals as goal

pub returns : goal.returns
returns c = known_finished
