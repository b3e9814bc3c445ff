use Rattle.generated_ops_proof.proofs.Begun.{words_within}
use Rattle.generated_ops_proof.proofs.words_are_within.Goals as goal

pub returns : goal.returns
returns c = words_within
