use Rattle.generated_ops_proof.proofs.Begun.{specifications_few}
use Rattle.generated_ops_proof.proofs.specifications_are_few.Goals as goal

pub returns : goal.returns
returns c = specifications_few
