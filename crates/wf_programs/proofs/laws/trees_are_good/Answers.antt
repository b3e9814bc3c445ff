use Rattle.wf_programs.proofs.Trees.{small_are_good}
use Rattle.wf_programs.proofs.laws.trees_are_good.Goals as goal

pub returns : goal.returns
returns c = small_are_good
