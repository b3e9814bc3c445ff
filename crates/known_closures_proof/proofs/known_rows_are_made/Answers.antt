use Rattle.known_closures_proof.proofs.Rows.{rows_made}
use Rattle.known_closures_proof.proofs.known_rows_are_made.Goals as goal

pub returns : goal.returns
returns c = rows_made
