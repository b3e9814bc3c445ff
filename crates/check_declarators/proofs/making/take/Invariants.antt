use Rattle.std.proofs.Common.{◌≡◌, [], min, length}
use Rattle.check_declarators.specs.Making as spec
use Rattle.check_declarators.proofs.making.take.Given as goal

abbrev pub invariant-loop-step : goal.invariant-loop-step
invariant-loop-step l = record {
  layers : spec.made l.steps l.layers ≡ spec.made l.fn.steps [];
  worst : spec.lower l.worst (spec.worst l.steps l.base l.layers) ≡ spec.worst l.fn.steps l.base [];
  size : l.size ≡ min (spec.bytes l.base l.layers) 4194305;
}

abbrev pub decreases-loop-step : goal.decreases-loop-step
decreases-loop-step l = length l.steps
