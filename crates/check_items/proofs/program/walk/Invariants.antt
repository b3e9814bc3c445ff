use Rattle.std.proofs.Common.{◌≡◌, drop}
use Rattle.check_globals.specs.Program as spec
use Rattle.check_items.proofs.program.walk.Given as goal

-- the items so far, and those to come
abbrev pub invariant-loop-x : goal.invariant-loop-x
invariant-loop-x g l = spec.walk (drop l.x-index l.list) l.state ≡ spec.walk l.list l.fn.state
