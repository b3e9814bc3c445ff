use Rattle.std.proofs.Common.{◌≡◌, drop}
use Rattle.c_types.specs.Types as spec
use Rattle.c_type_refs.proofs.layers.same_shared.Given as goal

abbrev pub invariant-loop-place : goal.invariant-loop-place
invariant-loop-place l = spec.same_layers (drop l.place l.a) (drop l.place l.b) ≡ spec.same_layers (drop l.both l.a)
    (drop l.both l.b)
