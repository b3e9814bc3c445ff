use Rattle.std.proofs.Common.{◌≡◌, drop}
use Rattle.check_forms.specs.Forms as spec
use Rattle.check_forms.proofs.+staged.Given as goal

abbrev pub invariant-any_staged_suffix-loop-suffix : goal.invariant-any_staged_suffix-loop-suffix
invariant-any_staged_suffix-loop-suffix l =
    spec.any_staged_suffix (drop l.suffix-index l.suffixes) ≡ spec.any_staged_suffix l.suffixes

abbrev pub invariant-any_staged_parameter-loop-parameter : goal.invariant-any_staged_parameter-loop-parameter
invariant-any_staged_parameter-loop-parameter l =
    spec.any_staged_parameter (drop l.parameter-index l.parameters) ≡ spec.any_staged_parameter l.parameters
