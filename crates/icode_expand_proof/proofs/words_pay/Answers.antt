use Rattle.icode_expand_proof.proofs.Whole.{words_pay}
use Rattle.icode_expand_proof.proofs.words_pay.Goals as goal

pub returns : goal.returns
returns c = words_pay
