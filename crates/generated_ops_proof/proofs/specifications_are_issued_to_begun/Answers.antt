use Rattle.generated_ops_proof.proofs.Begun.{issued_to_begun}
use Rattle.generated_ops_proof.proofs.specifications_are_issued_to_begun.Goals as goal

pub returns : goal.returns
returns c = issued_to_begun
