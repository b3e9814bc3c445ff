use Rattle.known_closures_proof.proofs.Functions.{has_function}
use Rattle.known_closures_proof.proofs.code_has_functions.Goals as goal

pub returns : goal.returns
returns c = has_function
