use Rattle.std.proofs.Common.{◌≡◌, drop}
use Rattle.check_forms.specs.Forms as spec
use Rattle.check_forms.proofs.any_staged_prefix.Given as goal

abbrev pub invariant-loop-prefix : goal.invariant-loop-prefix
invariant-loop-prefix l = spec.any_staged_prefix (drop l.prefix-index l.prefixes) ≡ spec.any_staged_prefix l.prefixes
