use Rattle.std.proofs.Common.{◌≡◌, ◌++◌, drop}
use Rattle.c_type_refs.specs.Extents as spec
use Rattle.c_type_refs.proofs.extents.extents.Given as goal

abbrev pub invariant-loop-layer : goal.invariant-loop-layer
invariant-loop-layer l = l.found ++ spec.extents l.at (drop l.layer-index l.layers) ≡ spec.extents l.fn.first l.layers
