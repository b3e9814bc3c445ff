use Rattle.known_closures_proof.proofs.Dear.{known_few}
use Rattle.known_closures_proof.proofs.known_one_pass_is_few.Goals as goal

pub returns : goal.returns
returns c = known_few
