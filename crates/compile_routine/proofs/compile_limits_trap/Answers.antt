use Rattle.compile_routine.proofs.Traps as lemmas
use Rattle.compile_routine.proofs.compile_limits_trap.Goals as goal

pub returns : goal.returns
returns c =
    λ text functions code entry shared d kind low hs ha b some h.
    lemmas.compile_ends text functions shared d hs ha b code entry low h kind some
