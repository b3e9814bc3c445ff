use Rattle.icode_run_proof.proofs.Whole.{unspoiled}
use Rattle.icode_run_proof.proofs.program_is_unspoiled.Goals as goal

pub returns : goal.returns
returns c = unspoiled
