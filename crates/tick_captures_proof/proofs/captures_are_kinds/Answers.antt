use Rattle.tick_captures_proof.proofs.TickKinds.{are_kinds}
use Rattle.tick_captures_proof.proofs.captures_are_kinds.Goals as goal

pub returns : goal.returns
returns c = are_kinds
