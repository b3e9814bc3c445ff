use Rattle.generated_ops_proof.proofs.Passes.{one_pass_few}
use Rattle.generated_ops_proof.proofs.one_pass_is_few.Goals as goal

pub returns : goal.returns
returns c = one_pass_few
