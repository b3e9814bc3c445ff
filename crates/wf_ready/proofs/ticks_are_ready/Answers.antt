use Rattle.wf_ready.proofs.Readied.{ticks_ready}
use Rattle.wf_ready.proofs.ticks_are_ready.Goals as goal

pub returns : goal.returns
returns c = ticks_ready
