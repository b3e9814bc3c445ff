use Rattle.closures_proof.proofs.Puts as lemmas
use Rattle.closures_proof.proofs.put_is_done.Goals as goal

pub returns : goal.returns
returns c =
    λ code a bytes capture d v f u b has h. lemmas.put_done code a bytes capture d v f u b has h
