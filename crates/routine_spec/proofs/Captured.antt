-- What stands behind the checks of a specification that is made, and how many captures a tick has.
use Rattle.std.proofs.Common.{◌≡◌, ℕ, List, ◌∷◌, ◌++◌, length, slice_get, refl, arith}
use Rattle.icode_ir.specs.declared.build_op.BuildOp.{BuildOp}
use Rattle.icode_ir.specs.declared.build_op.BuildOp.TheVariants.{New}
use Rattle.typed_tree.specs.declared.expression.CaptureKind.{CaptureKind}
use Rattle.typed_tree.specs.Nodes as node
use Rattle.typed_tree.specs.Nodes.{Args, count}
use Rattle.staged_meaning.specs.Program.{is_expression}
use Rattle.staged_meaning.specs.Specifications.{kinds_of}
use Rattle.tick_lower_spec.specs.Lower.{Addresses, putting, nipping, kind_of_tick}

-- what stands behind the checks
abbrev pub new_and_words : Addresses → (tick : ℕ) → List CaptureKind → List BuildOp
new_and_words addresses tick kinds =
    New (addresses.generator_at tick) (kind_of_tick (is_expression (slice_get addresses.ticks tick))) (length kinds)
    ∷ (putting 0 kinds ++ nipping kinds)

-- as many kinds as captures
pub kinds_count : (args : Args) → length (kinds_of args) ≡ count args
kinds_count node.NoArg = refl
kinds_count (node.Arg e args) = omega (arith, kinds_count args)
