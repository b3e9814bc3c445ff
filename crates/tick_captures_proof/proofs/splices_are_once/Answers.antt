use Rattle.tick_captures_proof.proofs.Once.{splices_once}
use Rattle.tick_captures_proof.proofs.splices_are_once.Goals as goal

pub returns : goal.returns
returns c = splices_once
