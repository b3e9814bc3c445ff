use Rattle.icode_expand_proof.proofs.Beginning.{frame_traps}
use Rattle.icode_expand_proof.proofs.frame_limit_traps.Goals as goal

pub returns : goal.returns
returns c = frame_traps
