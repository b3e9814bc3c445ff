use Rattle.icode_expand_proof.proofs.Leaving.{leaves_function}
use Rattle.icode_expand_proof.proofs.functions_leave.Goals as goal

pub returns : goal.returns
returns c = leaves_function
