use Rattle.std.proofs.Common.{◌≡◌, drop}
use Rattle.check_operands.specs.Calls as spec
use Rattle.check_calls.proofs.calls.any_mismatches.Given as goal

abbrev pub invariant-loop-i : goal.invariant-loop-i
invariant-loop-i l = spec.any_mismatches (drop l.i l.list) (drop l.i l.types) ≡ spec.any_mismatches l.list l.types
