use Rattle.std.proofs.Common.{◌≡◌, min, take}
use Rattle.typed_tree.specs.Sizes as spec
use Rattle.typed_tree.proofs.sizes.+statement_size.Given as goal

abbrev pub invariant-statements_size-loop-s : goal.invariant-statements_size-loop-s
invariant-statements_size-loop-s l = l.found ≡ min (spec.statements_size (take l.s-index l.list)) 65536
