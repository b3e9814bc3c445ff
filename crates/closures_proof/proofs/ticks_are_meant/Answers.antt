use Rattle.closures_proof.proofs.TickMade as lemmas
use Rattle.closures_proof.proofs.ticks_are_meant.Goals as goal

pub returns : goal.returns
returns c =
    lemmas.ticks_meant
