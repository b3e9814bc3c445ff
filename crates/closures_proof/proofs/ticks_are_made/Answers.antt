use Rattle.closures_proof.proofs.TickMade as lemmas
use Rattle.closures_proof.proofs.ticks_are_made.Goals as goal

pub returns : goal.returns
returns c =
    λ text shared tick r xs words layout address bytes code a d g none.
    lemmas.ticks_made text shared tick r xs words layout address bytes code a d g none
