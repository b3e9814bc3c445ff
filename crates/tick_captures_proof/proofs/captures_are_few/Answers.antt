use Rattle.tick_captures_proof.proofs.TickKinds.{are_few}
use Rattle.tick_captures_proof.proofs.captures_are_few.Goals as goal

pub returns : goal.returns
returns c = are_few
