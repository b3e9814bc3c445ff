use Rattle.generated_ops_proof.proofs.Begun.{begun_take_all}
use Rattle.generated_ops_proof.proofs.begun_builders_take_all.Goals as goal

pub returns : goal.returns
returns c = begun_take_all
