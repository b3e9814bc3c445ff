use Rattle.icode_expand_proof.proofs.Whole.{main_begins}
use Rattle.icode_expand_proof.proofs.main_begins.Goals as goal

pub returns : goal.returns
returns c = main_begins
