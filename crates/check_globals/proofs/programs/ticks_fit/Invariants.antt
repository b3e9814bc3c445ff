use Rattle.std.proofs.Common.{◌≡◌, drop}
use Rattle.check_globals.specs.Programs as spec
use Rattle.check_globals.proofs.programs.ticks_fit.Given as goal

abbrev pub invariant-loop-t : goal.invariant-loop-t
invariant-loop-t l = spec.ticks_fit (drop l.t-index l.list) ≡ spec.ticks_fit l.list
