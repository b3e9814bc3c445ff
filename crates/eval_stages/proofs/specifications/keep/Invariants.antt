use Rattle.std.proofs.Common.{◌≡◌, ◌++◌, drop, length, map, None}
use Rattle.staged_meaning.specs.Specifications.{captures_trap, kinds_of}
use Rattle.eval_state.specs.KeptRows.{all_kept}
use Rattle.eval_state.specs.Kept.{kept_view, rows_view}
use Rattle.eval_state.specs.Specified.{AreEarlier}
use Rattle.eval_state.specs.Views.{args_view}
use Rattle.eval_stages.proofs.specifications.keep.Given as goal

abbrev pub invariant-loop-i : goal.invariant-loop-i
invariant-loop-i l = record {
  fit : captures_trap (rows_view l.m.rows) (kinds_of (args_view (drop l.i l.list))) (drop l.i l.words) ≡ None;
  kept : map kept_view l.kept
      ++ all_kept (rows_view l.m.rows) (kinds_of (args_view (drop l.i l.list))) (drop l.i l.words)
      ≡ all_kept (rows_view l.m.rows) (kinds_of (args_view l.list)) l.words;
  earlier : AreEarlier (rows_view l.m.rows) (length (rows_view l.m.rows)) l.kept;
}
