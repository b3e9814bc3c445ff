use Rattle.icode_expand_proof.proofs.Beginning.{function_begins}
use Rattle.icode_expand_proof.proofs.functions_begin.Goals as goal

pub returns : goal.returns
returns c = function_begins
