use Rattle.std.proofs.Common.{◌≡◌, [], ◌∷◌, ◌++◌, map, drop}
use Rattle.c_type_refs.specs.Codes.{joined, type_code, codes}
use Rattle.c_type_refs.proofs.code.+write.Given as goal

abbrev pub invariant-write_function-loop-t : goal.invariant-write_function-loop-t
invariant-write_function-loop-t l =
    l.code ++ joined (map type_code (drop l.t-index l.list)) ≡ (l.fn.code ++ 6 ∷ []) ++ joined (map type_code l.list)

abbrev pub invariant-write_layers-loop-layer : goal.invariant-write_layers-loop-layer
invariant-write_layers-loop-layer l = l.code ++ codes (drop l.layer-index l.layers) ≡ l.fn.code ++ codes l.layers
