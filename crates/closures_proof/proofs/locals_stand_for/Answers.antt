use Rattle.closures_proof.proofs.Making as lemmas
use Rattle.closures_proof.proofs.locals_stand_for.Goals as goal

pub returns : goal.returns
returns c =
    lemmas.local_made
