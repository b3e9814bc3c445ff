use Rattle.std.proofs.Common.{◌≡◌, drop, map}
use Rattle.check_globals.specs.Program as spec
use Rattle.check_rules.specs.Walk as walks
use Rattle.check_items.proofs.program.walked.Given as goal

-- the values so far, and those to come
abbrev pub invariant-loop-e : goal.invariant-loop-e
invariant-loop-e g l =
    spec.walked (map walks.node (drop l.e-index l.list)) l.state ≡ spec.walked (map walks.node l.list) l.fn.state
