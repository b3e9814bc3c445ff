use Rattle.std.proofs.Common.{◌≡◌, drop}
use Rattle.staged_meaning.specs.Specifications.{captures_trap, kinds_of}
use Rattle.eval_state.specs.Kept.{rows_view}
use Rattle.eval_state.specs.Views.{args_view}
use Rattle.eval_stages.proofs.specifications.all_fit.Given as goal

abbrev pub invariant-loop-i : goal.invariant-loop-i
invariant-loop-i l =
    captures_trap (rows_view l.m.rows) (kinds_of (args_view (drop l.i l.list))) (drop l.i l.words)
    ≡ captures_trap (rows_view l.m.rows) (kinds_of (args_view l.list)) l.words
