use Rattle.std.proofs.Common.{◌≡◌, min, take}
use Rattle.typed_tree.specs.Sizes as spec
use Rattle.typed_tree.proofs.sizes.+size.Given as goal

abbrev pub invariant-list_size-loop-e : goal.invariant-list_size-loop-e
invariant-list_size-loop-e l = l.found ≡ min (spec.size_list (take l.e-index l.list)) 65536
