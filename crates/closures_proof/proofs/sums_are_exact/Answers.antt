use Rattle.closures_proof.proofs.Sums as lemmas
use Rattle.closures_proof.proofs.sums_are_exact.Goals as goal

pub returns : goal.returns
returns c = lemmas.sums_exact
