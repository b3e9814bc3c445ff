use Rattle.generated_ops_proof.proofs.Preludes.{preludes_set}
use Rattle.generated_ops_proof.proofs.preludes_set_keys.Goals as goal

pub returns : goal.returns
returns c = preludes_set
