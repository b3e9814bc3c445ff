use Rattle.wf_walk.proofs.Assembly.{each_good}
use Rattle.wf_walk.proofs.laws.lists_are_good.Goals as goal

pub returns : goal.returns
returns c = each_good
