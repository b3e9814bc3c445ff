use Rattle.std.proofs.Common.{◌≤◌}
use Rattle.limits.specs.declared.ops.TheConstants.{MOST_LABELS}
use Rattle.icode_liveness.proofs.Filling.{KnowsBelow}
use Rattle.icode_liveness.proofs.tables.label_count.Given as goal

abbrev pub invariant-loop-p : goal.invariant-loop-p
invariant-loop-p l = record { labels : KnowsBelow l.ops l.p l.count; low : l.count ≤ MOST_LABELS }
