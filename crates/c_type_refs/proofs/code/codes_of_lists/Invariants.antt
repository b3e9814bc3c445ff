use Rattle.std.proofs.Common.{◌≡◌, ◌++◌, drop}
use Rattle.c_type_refs.specs.Codes as spec
use Rattle.c_type_refs.proofs.code.codes_of_lists.Given as goal

abbrev pub invariant-loop-layer : goal.invariant-loop-layer
invariant-loop-layer l = l.found ++ spec.codes_of_lists (drop l.layer-index l.layers) ≡ spec.codes_of_lists l.layers
