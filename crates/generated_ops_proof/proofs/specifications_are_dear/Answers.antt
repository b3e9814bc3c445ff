use Rattle.generated_ops_proof.proofs.DearTicks.{specifications_dear}
use Rattle.generated_ops_proof.proofs.specifications_are_dear.Goals as goal

pub returns : goal.returns
returns c = specifications_dear
