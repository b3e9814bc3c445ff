use Rattle.std.proofs.Common.{◌≡◌, drop}
use Rattle.c_types.specs.Types as spec
use Rattle.c_types.proofs.conversions.+same.Given as goal

abbrev pub invariant-same_layers-loop-i : goal.invariant-same_layers-loop-i
invariant-same_layers-loop-i l = spec.same_layers (drop l.i l.a) (drop l.i l.b) ≡ spec.same_layers l.a l.b

abbrev pub invariant-same_lists-loop-i : goal.invariant-same_lists-loop-i
invariant-same_lists-loop-i l = spec.same_lists (drop l.i l.a) (drop l.i l.b) ≡ spec.same_lists l.a l.b
