use Rattle.icode_run_proof.proofs.Whole.{simulated}
use Rattle.icode_run_proof.proofs.program_is_simulated.Goals as goal

pub returns : goal.returns
returns c = simulated
