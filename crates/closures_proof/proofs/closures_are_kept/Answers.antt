use Rattle.closures_proof.proofs.Kept as lemmas
use Rattle.closures_proof.proofs.closures_are_kept.Goals as goal

pub returns : goal.returns
returns c =
    lemmas.closures_kept
