use Rattle.wf_walk.proofs.Types.{suffix_good}
use Rattle.wf_walk.proofs.laws.suffixes_are_good.Goals as goal

pub returns : goal.returns
returns c = suffix_good
