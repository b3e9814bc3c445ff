use Rattle.icode_expand_proof.proofs.Whole.{ops_pay}
use Rattle.icode_expand_proof.proofs.ops_pay.Goals as goal

pub returns : goal.returns
returns c = ops_pay
