use Rattle.wf_ready.proofs.Calls.{function_calls, tick_calls}
use Rattle.wf_ready.proofs.calls_are_counted.Goals as goal

pub returns : goal.returns
returns c = record { functions = function_calls; ticks = tick_calls }
