use Rattle.generated_ops_proof.proofs.Passes.{keys_mentioned}
use Rattle.generated_ops_proof.proofs.keys_are_mentioned.Goals as goal

pub returns : goal.returns
returns c = keys_mentioned
