use Rattle.wf_walk.proofs.CapturedWalks.{walks_named}
use Rattle.wf_walk.proofs.laws.walks_name.Goals as goal

pub returns : goal.returns
returns c = walks_named
