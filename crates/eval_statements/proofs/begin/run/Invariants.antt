use Rattle.std.proofs.Common.{◌≡◌, ◌≤◌, length}
use Rattle.eval_state.specs.Pending as pending
use Rattle.eval_state.specs.Less.{heft}
use Rattle.eval_state.specs.Run.{outcome, run_of}
use Rattle.eval_state.specs.Views.{items_view}
use Rattle.eval_statements.proofs.begin.run.Given as goal

abbrev pub invariant-loop-s : goal.invariant-loop-s
invariant-loop-s l = record {
  same : outcome (pending.Run (items_view l.rest)) (run_of l.m)
      ≡ outcome (pending.Run (items_view l.list)) (run_of l.fn.m);
  units : (run_of l.m).state.units ≤ (run_of l.fn.m).state.units;
  less : (run_of l.m).state.units ≡ (run_of l.fn.m).state.units
      → heft (pending.Run (items_view l.rest)) (run_of l.m)
      ≤ heft (pending.Run (items_view l.list)) (run_of l.fn.m);
}

abbrev pub decreases-loop-s : goal.decreases-loop-s
decreases-loop-s l = length l.rest
