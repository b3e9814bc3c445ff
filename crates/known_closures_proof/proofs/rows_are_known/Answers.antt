use Rattle.known_closures_proof.proofs.Rows.{rows_known}
use Rattle.known_closures_proof.proofs.rows_are_known.Goals as goal

pub returns : goal.returns
returns c = rows_known
