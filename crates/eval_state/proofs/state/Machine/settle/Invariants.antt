use Rattle.std.proofs.Common.{length}
use Rattle.eval_state.proofs.Waits.{Settles}
use Rattle.eval_state.proofs.state.Machine.settle.Given as goal

abbrev pub invariant-loop-self : goal.invariant-loop-self
invariant-loop-self l = Settles l.fn.waiting l.rest l.fn.self l.self

abbrev pub decreases-loop-self : goal.decreases-loop-self
decreases-loop-self l = length l.rest
