use Rattle.std.proofs.Common.{◌≡◌, drop, map}
use Rattle.check_globals.specs.Program as spec
use Rattle.check_rules.specs.Walk as walks
use Rattle.check_items.proofs.program.globals.Given as goal

-- the declarators so far, and those to come
abbrev pub invariant-loop-init : goal.invariant-loop-init
invariant-loop-init g l =
    spec.globals l.line l.base (map walks.init (drop l.init-index l.list)) l.state ≡ spec.globals l.line l.base
    (map walks.init l.list) l.fn.state
