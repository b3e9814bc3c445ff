use Rattle.known_closures_proof.proofs.Rows.{executions_keep}
use Rattle.known_closures_proof.proofs.executions_keep_rows.Goals as goal

pub returns : goal.returns
returns c = executions_keep
