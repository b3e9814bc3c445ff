use Rattle.wf_walk.proofs.Productions.{walk_keeps}
use Rattle.wf_walk.proofs.laws.expressions_keep.Goals as goal

pub returns : goal.returns
returns c = walk_keeps
