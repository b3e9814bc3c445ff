use Rattle.closures_proof.proofs.Making as lemmas
use Rattle.closures_proof.proofs.rows_are_there.Goals as goal

pub returns : goal.returns
returns c =
    lemmas.rows_there
