use Rattle.std.proofs.Common.{◌≡◌, ◌≤◌, length}
use Rattle.eval_state.specs.Rest.{left, switched}
use Rattle.eval_state.specs.Run.{here, leads, run_of, with_units, world}
use Rattle.eval_state.specs.Views.{items_view}
use Rattle.eval_statements.proofs.Labels.{comparing}
use Rattle.eval_statements.proofs.switches.choose.Given as goal

abbrev pub invariant-loop-s : goal.invariant-loop-s
invariant-loop-s l = record {
  same : leads (run_of l.m) (left (comparing (run_of l.m) l.v l.items l.rest))
      ≡ leads (run_of l.fn.m) (left (switched (here (run_of l.fn.m)) l.v (items_view l.items) (world (run_of l.fn.m))));
  units : (run_of l.m).state.units ≤ (run_of l.fn.m).state.units;
  still : run_of l.m ≡ with_units (run_of l.m).state.units (run_of l.fn.m);
}

abbrev pub decreases-loop-s : goal.decreases-loop-s
decreases-loop-s l = length l.rest
