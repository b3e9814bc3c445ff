use Rattle.wf_walk.proofs.FixedWalks.{walks_fixed}
use Rattle.wf_walk.proofs.laws.walks_are_fixed.Goals as goal

pub returns : goal.returns
returns c = walks_fixed
