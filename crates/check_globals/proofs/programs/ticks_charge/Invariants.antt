use Rattle.std.proofs.Common.{◌≡◌, ◌+◌, take, min, sum_by}
use Rattle.check_globals.specs.Programs as spec
use Rattle.check_globals.proofs.programs.ticks_charge.Given as goal

abbrev pub invariant-loop-t : goal.invariant-loop-t
invariant-loop-t l = l.found ≡ min (l.from + sum_by (λ t. spec.charge t.size) (take l.t-index l.list)) 15728641
