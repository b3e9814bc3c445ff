use Rattle.std.proofs.Common.{◌≡◌, ◌≤◌, suc, cond, nat_eq}
use Rattle.eval_state.specs.Less.{heft}
use Rattle.eval_state.specs.Run.{outcome, run_of}
use Rattle.eval_state.specs.Views.{now_view}
use Rattle.evaluate.proofs.run.until_spent.Given as goal

abbrev pub invariant-loop-m : goal.invariant-loop-m
invariant-loop-m l = record {
  before : l.before ≡ (run_of l.fn.m).state.units;
  same : outcome (now_view l.now) (run_of l.m) ≡ outcome (now_view l.fn.first) (run_of l.fn.m);
  units : (run_of l.m).state.units ≤ (run_of l.fn.m).state.units;
}

abbrev pub decreases-loop-m : goal.decreases-loop-m
decreases-loop-m l = cond (nat_eq (run_of l.m).state.units l.before) (suc (heft (now_view l.now) (run_of l.m))) 0
