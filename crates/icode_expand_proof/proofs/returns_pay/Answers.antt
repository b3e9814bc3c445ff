use Rattle.icode_expand_proof.proofs.Returns.{returns_pay}
use Rattle.icode_expand_proof.proofs.returns_pay.Goals as goal

pub returns : goal.returns
returns c = returns_pay
