use Rattle.generated_ops_proof.proofs.Begun.{builders_finished}
use Rattle.generated_ops_proof.proofs.builders_are_finished.Goals as goal

pub returns : goal.returns
returns c = builders_finished
