use Rattle.closures_proof.proofs.Variables as lemmas
use Rattle.closures_proof.proofs.locals_are_made.Goals as goal

pub returns : goal.returns
returns c = lemmas.locals_made
