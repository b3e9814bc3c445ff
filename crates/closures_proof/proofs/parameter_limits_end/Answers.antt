use Rattle.closures_proof.proofs.OpChecks as lemmas
use Rattle.closures_proof.proofs.parameter_limits_end.Goals as goal

pub returns : goal.returns
returns c =
    λ code a bytes shared d v rest kind low f u b has some stands h.
    lemmas.parameter_op_ends code a bytes shared d v rest kind low f u b has some stands h
