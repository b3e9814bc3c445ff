use Rattle.std.proofs.Common.{◌≡◌, ◌+◌, ◌≤◌, drop, map, min, slice_get}
use Rattle.limits.specs.declared.program.TheConstants.{NODE_TOP}
use Rattle.eval_state.specs.KeptRows.{size_kept}
use Rattle.staged_meaning.specs.Program.{tick_size}
use Rattle.eval_state.specs.Kept.{kept_view, rows_view}
use Rattle.eval_state.specs.Run.{program_of}
use Rattle.eval_stages.proofs.specifications.size_with.Given as goal

abbrev pub invariant-loop-k : goal.invariant-loop-k
invariant-loop-k l = record {
  sum : min
      (l.size + size_kept (program_of l.m) (rows_view l.m.rows) (map kept_view (drop l.k-index l.kept)))
      NODE_TOP
      ≡ min
      (tick_size (slice_get (program_of l.m).ticks l.tick)
      + size_kept (program_of l.m) (rows_view l.m.rows) (map kept_view l.kept))
      NODE_TOP;
  within : l.size ≤ NODE_TOP;
}
