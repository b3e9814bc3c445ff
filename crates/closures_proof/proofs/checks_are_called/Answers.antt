use Rattle.closures_proof.proofs.OpChecks as lemmas
use Rattle.closures_proof.proofs.checks_are_called.Goals as goal

pub returns : goal.returns
returns c =
    λ named code a bytes ks k d w v low f u u2 b has live kind small stands h.
    lemmas.check_called named code a bytes ks d v low f u2 b has stands k w u live kind small h
