use Rattle.known_closures_proof.proofs.Dear.{known_small}
use Rattle.known_closures_proof.proofs.known_rows_are_small.Goals as goal

pub returns : goal.returns
returns c = known_small
