use Rattle.std.proofs.Common.{◌≡◌, drop, map}
use Rattle.check_globals.specs.Functions as spec
use Rattle.check_globals.proofs.functions.parameters.Given as goal

abbrev pub invariant-loop-at : goal.invariant-loop-at
invariant-loop-at l = spec.parameters (drop l.at l.types) (map spec.given (drop l.at l.list)) l.state ≡ spec.parameters
    l.types (map spec.given l.list) l.initial.state
