use Rattle.wf_walk.proofs.Constants.{constant_plain}
use Rattle.wf_walk.proofs.laws.constants_are_plain.Goals as goal

pub returns : goal.returns
returns c = constant_plain
