use Rattle.known_closures_proof.proofs.Dear.{known_dear}
use Rattle.known_closures_proof.proofs.known_specifications_are_dear.Goals as goal

pub returns : goal.returns
returns c = known_dear
