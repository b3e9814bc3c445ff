use Rattle.std.proofs.Common.{◌≡◌, ◌+◌, take, min, sum_by}
use Rattle.check_globals.specs.Programs as spec
use Rattle.check_globals.proofs.programs.functions_charge.Given as goal

abbrev pub invariant-loop-f : goal.invariant-loop-f
invariant-loop-f l = l.found ≡ min (1024 + sum_by (λ f. spec.charge f.size) (take l.f-index l.list)) 15728641
