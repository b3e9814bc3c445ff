use Rattle.std.proofs.Common.{◌≡◌, drop}
use Rattle.check_globals.specs.Programs as spec
use Rattle.check_globals.proofs.programs.functions_fit.Given as goal

abbrev pub invariant-loop-f : goal.invariant-loop-f
invariant-loop-f l = spec.functions_fit (drop l.f-index l.list) ≡ spec.functions_fit l.list
