use Rattle.std.proofs.Common.{◌≡◌, drop}
use Rattle.check_rules.specs.Functions as spec
use Rattle.check_names.proofs.functions.undefined.Given as goal

abbrev pub invariant-loop-prototype : goal.invariant-loop-prototype
invariant-loop-prototype l =
    spec.lacking (drop l.prototype-index l.functions.prototypes) l.functions
    ≡ spec.lacking l.functions.prototypes l.functions
