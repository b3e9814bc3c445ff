use Rattle.closures_proof.proofs.TickMade as lemmas
use Rattle.closures_proof.proofs.ticks_trap.Goals as goal

pub returns : goal.returns
returns c =
    λ text shared tick r xs words layout address bytes code a d kind g some.
    lemmas.ticks_trap text shared tick r xs words layout address bytes code a d kind g some
