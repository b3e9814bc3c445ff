use Rattle.std.proofs.Common.{◌≡◌, take}
use Rattle.eval_state.proofs.Output.{said}
use Rattle.eval_state.proofs.state.Machine.output.Given as goal

abbrev pub invariant-loop-event : goal.invariant-loop-event
invariant-loop-event l = l.bytes ≡ said (take l.event-index l.event-items)
