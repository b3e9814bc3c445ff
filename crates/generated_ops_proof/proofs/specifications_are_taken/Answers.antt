use Rattle.generated_ops_proof.proofs.Taken.{specifications_taken}
use Rattle.generated_ops_proof.proofs.specifications_are_taken.Goals as goal

pub returns : goal.returns
returns c = specifications_taken
