use Rattle.closures_proof.proofs.Making as lemmas
use Rattle.closures_proof.proofs.specifications_stay_with_sums.Goals as goal

pub returns : goal.returns
returns c =
    lemmas.kept_by_sums
