use Rattle.icode_expand_proof.proofs.Calls.{calls_pay}
use Rattle.icode_expand_proof.proofs.calls_pay.Goals as goal

pub returns : goal.returns
returns c = calls_pay
