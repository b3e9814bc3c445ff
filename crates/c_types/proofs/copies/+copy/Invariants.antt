use Rattle.std.proofs.Common.{◌≡◌, take}
use Rattle.c_types.proofs.copies.+copy.Given as goal

abbrev pub invariant-copy_layers-loop-layer : goal.invariant-copy_layers-loop-layer
invariant-copy_layers-loop-layer l = l.found ≡ take l.layer-index l.layers

abbrev pub invariant-copy_list-loop-t : goal.invariant-copy_list-loop-t
invariant-copy_list-loop-t l = l.found ≡ take l.t-index l.list
