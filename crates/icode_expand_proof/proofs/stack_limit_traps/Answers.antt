use Rattle.icode_expand_proof.proofs.Beginning.{stack_traps}
use Rattle.icode_expand_proof.proofs.stack_limit_traps.Goals as goal

pub returns : goal.returns
returns c = stack_traps
