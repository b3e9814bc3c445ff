use Rattle.wf_ready.proofs.Ticks.{function_ticks}
use Rattle.wf_ready.proofs.ticks_are_captured.Goals as goal

pub returns : goal.returns
returns c = function_ticks
