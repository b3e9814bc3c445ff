use Rattle.std.proofs.Common.{◌≡◌, drop, map, max}
use Rattle.eval_state.specs.KeptRows.{parameters_kept}
use Rattle.eval_state.specs.Kept.{kept_view, rows_view}
use Rattle.eval_stages.proofs.specifications.parameters_with.Given as goal

abbrev pub invariant-loop-k : goal.invariant-loop-k
invariant-loop-k l =
    max l.parameters (parameters_kept (rows_view l.m.rows) (map kept_view (drop l.k-index l.kept)))
    ≡ parameters_kept (rows_view l.m.rows) (map kept_view l.kept)
