use Rattle.std.proofs.Common.{map}
use Rattle.eval_state.specs.KeptRows.{captures_kept}
use Rattle.eval_state.specs.Kept.{kept_view, rows_view}
use Rattle.eval_stages.proofs.Walks.{IsWalked, captures_weight}
use Rattle.eval_stages.proofs.specifications.locals_of.Given as goal

abbrev pub decreases-loop-kept : goal.decreases-loop-kept
decreases-loop-kept l = captures_weight (captures_kept (rows_view l.m.rows) (map kept_view l.pending))

abbrev pub invariant-loop-kept : goal.invariant-loop-kept
invariant-loop-kept l = IsWalked (rows_view l.m.rows) l.number l.pending l.seen.keys
