use Rattle.closures_proof.proofs.Making as lemmas
use Rattle.closures_proof.proofs.specifications_are_kept.Goals as goal

pub returns : goal.returns
returns c =
    lemmas.kept
