use Rattle.generator_spec.proofs.Alike.{pieces_alike, ops_alike}
use Rattle.generator_spec.proofs.ticks_call_alone.Goals as goal

pub returns : goal.returns
returns c = record { pieces = pieces_alike; ops = ops_alike }
