use Rattle.std.proofs.Common.{◌≡◌, suc, cond, IsTrue}
use Rattle.eval_state.specs.Run.{outcome, run_of}
use Rattle.eval_state.specs.Views.{now_view}
use Rattle.evaluate.specs.Seen.{IsOver}
use Rattle.evaluate.proofs.run.finish.Given as goal

abbrev pub invariant-loop-over : goal.invariant-loop-over
invariant-loop-over l = record {
  same : outcome (now_view l.now) (run_of l.m) ≡ outcome (now_view l.fn.first) (run_of l.fn.m);
  over : IsTrue l.over → IsOver l.now (run_of l.m);
}

abbrev pub decreases-loop-over : goal.decreases-loop-over
decreases-loop-over l = cond l.over 0 (suc (run_of l.m).state.units)
