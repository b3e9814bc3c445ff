use Rattle.icode_expand_proof.proofs.Fitting.{function_stands}
use Rattle.icode_expand_proof.proofs.words_suffice.Goals as goal

pub returns : goal.returns
returns c = function_stands
