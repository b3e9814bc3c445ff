use Rattle.wf_walk.proofs.Assembly.{block_good}
use Rattle.wf_walk.proofs.laws.blocks_are_good.Goals as goal

pub returns : goal.returns
returns c = λ many items a may direct h few. block_good items a may direct h few
