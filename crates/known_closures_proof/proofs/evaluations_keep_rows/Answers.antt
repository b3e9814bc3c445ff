use Rattle.known_closures_proof.proofs.Rows.{evaluations_keep}
use Rattle.known_closures_proof.proofs.evaluations_keep_rows.Goals as goal

pub returns : goal.returns
returns c = evaluations_keep
