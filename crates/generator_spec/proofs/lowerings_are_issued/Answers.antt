use Rattle.generator_spec.proofs.Issued.{lowerings_issued}
use Rattle.generator_spec.proofs.lowerings_are_issued.Goals as goal

pub returns : goal.returns
returns c = lowerings_issued
