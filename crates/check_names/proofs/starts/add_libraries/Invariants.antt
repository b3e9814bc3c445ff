use Rattle.std.proofs.Common.{◌≡◌, drop}
use Rattle.check_rules.specs.Starts as spec
use Rattle.check_names.proofs.starts.add_libraries.Given as goal

-- the functions so far, and those to come
abbrev pub invariant-loop-f : goal.invariant-loop-f
invariant-loop-f l = spec.add_libraries (drop l.f-index l.list) l.state ≡ spec.add_libraries l.list l.initial.state
