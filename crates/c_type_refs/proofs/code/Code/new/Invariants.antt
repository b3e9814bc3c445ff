use Rattle.std.proofs.Common.{◌≡◌, ◌++◌, length, drop}
use Rattle.c_type_refs.specs.Codes as spec
use Rattle.c_type_refs.proofs.code.Code.new.Given as goal

abbrev pub invariant-loop-layer : goal.invariant-loop-layer
invariant-loop-layer l = record {
  symbols : l.symbols ++ spec.codes (drop l.layer-index l.layers) ≡ spec.codes l.layers;
  ends : l.ends ++ spec.ends (length l.symbols) (drop l.layer-index l.layers) ≡ spec.ends 0 l.layers;
}
