use Rattle.known_closures_proof.proofs.Functions.{rows_code}
use Rattle.known_closures_proof.proofs.known_rows_are_code.Goals as goal

pub returns : goal.returns
returns c = rows_code
