use Rattle.wf_walk.proofs.Walk.{walk_does}
use Rattle.wf_walk.proofs.laws.expressions_do.Goals as goal

pub returns : goal.returns
returns c = record { does = λ many x h g. walk_does many x h g }
