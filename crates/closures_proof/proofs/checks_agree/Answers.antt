use Rattle.closures_proof.proofs.Checks as lemmas
use Rattle.closures_proof.proofs.checks_agree.Goals as goal

pub returns : goal.returns
returns c = lemmas.checks_agree
