use Rattle.std.proofs.Common.{length}
use Rattle.eval_state.specs.Run.{run_of}
use Rattle.eval_state.specs.Views.{items_view}
use Rattle.eval_statements.specs.Ran.{HasRun}
use Rattle.eval_statements.proofs.started.ran_all.Given as goal

abbrev pub invariant-loop-s : goal.invariant-loop-s
invariant-loop-s l = record {
  ran : HasRun (items_view l.list) (items_view l.rest) (run_of l.fn.m) (run_of l.m);
}

abbrev pub decreases-loop-s : goal.decreases-loop-s
decreases-loop-s l = length l.rest
