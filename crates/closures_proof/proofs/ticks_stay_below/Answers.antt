use Rattle.closures_proof.proofs.Below as lemmas
use Rattle.closures_proof.proofs.ticks_stay_below.Goals as goal

pub returns : goal.returns
returns c = lemmas.ticks_below
