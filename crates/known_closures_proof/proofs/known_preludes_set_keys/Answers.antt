use Rattle.known_closures_proof.proofs.Dear.{known_set}
use Rattle.known_closures_proof.proofs.known_preludes_set_keys.Goals as goal

pub returns : goal.returns
returns c = known_set
