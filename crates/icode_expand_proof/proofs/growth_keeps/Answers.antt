use Rattle.icode_expand_proof.proofs.Growing.{growth_keeps}
use Rattle.icode_expand_proof.proofs.growth_keeps.Goals as goal

pub returns : goal.returns
returns c = growth_keeps
