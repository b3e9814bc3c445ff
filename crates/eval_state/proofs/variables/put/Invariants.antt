use Rattle.std.proofs.Common.{◌≡◌, ℕ, ◌+◌, ◌-◌, length, get_or}
use Rattle.eval_state.proofs.variables.put.Given as goal

abbrev pub invariant-loop-words : goal.invariant-loop-words
invariant-loop-words l = (k : ℕ) → get_or l.words k 0 ≡ get_or l.fn.words k 0

abbrev pub decreases-loop-words : goal.decreases-loop-words
decreases-loop-words l = l.i + 1 - length l.words
