use Rattle.std.proofs.Common.{◌≡◌, ◌≤◌, drop, length}
use Rattle.check_declarators.specs.Steps as spec
use Rattle.check_declarators.proofs.steps.push_prefixes.Given as goal

abbrev pub invariant-loop-at : goal.invariant-loop-at
invariant-loop-at l = record {
  known : l.steps ≡ spec.prefixed (drop l.at l.prefixes) l.fn.steps;
  within : l.at ≤ length l.prefixes;
}

abbrev pub decreases-loop-at : goal.decreases-loop-at
decreases-loop-at l = l.at
