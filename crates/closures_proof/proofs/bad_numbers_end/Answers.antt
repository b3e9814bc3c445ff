use Rattle.closures_proof.proofs.OpChecks as lemmas
use Rattle.closures_proof.proofs.bad_numbers_end.Goals as goal

pub returns : goal.returns
returns c =
    λ named code a bytes ks d v rest kind low f u b has some stands h.
    lemmas.check_op_ends named code a bytes ks d v low f u b has stands rest kind some h
