use Rattle.known_closures_proof.proofs.Functions.{code_whole}
use Rattle.known_closures_proof.proofs.code_is_whole.Goals as goal

pub returns : goal.returns
returns c = code_whole
