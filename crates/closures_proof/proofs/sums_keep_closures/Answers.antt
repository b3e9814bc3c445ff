use Rattle.closures_proof.proofs.Kept as lemmas
use Rattle.closures_proof.proofs.sums_keep_closures.Goals as goal

pub returns : goal.returns
returns c =
    lemmas.sums_keep
