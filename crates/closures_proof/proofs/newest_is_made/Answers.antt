use Rattle.closures_proof.proofs.Newest as lemmas
use Rattle.closures_proof.proofs.newest_is_made.Goals as goal

pub returns : goal.returns
returns c =
    lemmas.newest_made
