use Rattle.known_closures_proof.proofs.Steps.{runs_keep}
use Rattle.known_closures_proof.proofs.runs_keep_rows.Goals as goal

pub returns : goal.returns
returns c = runs_keep
