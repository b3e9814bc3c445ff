use Rattle.tick_captures_proof.proofs.Named.{captures_named}
use Rattle.tick_captures_proof.proofs.captures_are_named.Goals as goal

pub returns : goal.returns
returns c = captures_named
