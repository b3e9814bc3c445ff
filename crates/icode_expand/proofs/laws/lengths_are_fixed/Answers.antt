use Rattle.icode_expand.proofs.Lengths.{template_length}
use Rattle.icode_expand.proofs.laws.lengths_are_fixed.Goals as goal

pub returns : goal.returns
returns c = template_length
