use Rattle.known_closures_proof.proofs.Rows.{calls_rows}
use Rattle.known_closures_proof.proofs.calls_keep_rows.Goals as goal

pub returns : goal.returns
returns c = calls_rows
