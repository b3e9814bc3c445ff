use Rattle.closures_proof.proofs.Making as lemmas
use Rattle.closures_proof.proofs.ticks_stand_for.Goals as goal

pub returns : goal.returns
returns c =
    λ text shared tick kinds words d h fit same b low small none.
    lemmas.tick_made text shared tick kinds words d h fit same b low small none
