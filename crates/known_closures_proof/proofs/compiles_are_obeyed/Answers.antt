use Rattle.known_closures_proof.proofs.Obeyed.{compiles_obeyed}
use Rattle.known_closures_proof.proofs.compiles_are_obeyed.Goals as goal

pub returns : goal.returns
returns c = compiles_obeyed
