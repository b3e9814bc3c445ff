use Rattle.compile_routine.proofs.Ops as lemmas
use Rattle.compile_routine.proofs.compile_limits_end.Goals as goal

pub returns : goal.returns
returns c =
    λ text functions code a bytes shared d from rest kind low f u b hs ha some stands h.
    lemmas.compile_op_ends text functions code a bytes shared d from rest kind low f u b hs ha some stands h
