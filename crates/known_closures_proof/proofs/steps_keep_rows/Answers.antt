use Rattle.known_closures_proof.proofs.Steps.{steps_keep}
use Rattle.known_closures_proof.proofs.steps_keep_rows.Goals as goal

pub returns : goal.returns
returns c = steps_keep
