use Rattle.std.proofs.Common.{◌≡◌, ℕ, ◌+◌, ◌-◌, None}
use Rattle.std.specs.Prelude.{slice_index_or, vec_len}
use Rattle.check_scopes.proofs.names.widen.Given as goal

abbrev pub invariant-loop-heads : goal.invariant-loop-heads
invariant-loop-heads l = (n : ℕ) → slice_index_or l.heads.items n None ≡ slice_index_or l.fn.heads.items n None

abbrev pub decreases-loop-heads : goal.decreases-loop-heads
decreases-loop-heads l = l.number + 1 - vec_len l.heads
