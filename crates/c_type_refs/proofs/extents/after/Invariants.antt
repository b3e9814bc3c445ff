use Rattle.std.proofs.Common.{◌≡◌, drop}
use Rattle.c_type_refs.specs.Extents as spec
use Rattle.c_type_refs.proofs.extents.after.Given as goal

abbrev pub invariant-loop-layer : goal.invariant-loop-layer
invariant-loop-layer l = spec.after l.at (drop l.layer-index l.layers) ≡ spec.after l.fn.extent l.layers
