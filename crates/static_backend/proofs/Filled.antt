-- What a builder makes of pieces: their ops, one after the other.
use Rattle.std.proofs.Common.{◌≡◌, ℕ, ◌+◌, ◌<◌, List, [], ◌∷◌, ◌++◌, length, drop, get_or, refl, sym, ap, ◌∙◌, add-one}
use Rattle.std.proofs.Math.Seq.{drop-cons}
use Rattle.icode_ir.specs.declared.build_op.BuildOp.{BuildOp}
use Rattle.tick_lower_spec.specs.declared.piece.Piece.{Piece}
use Rattle.tick_lower_spec.specs.TickPieces.{piece_with, pieces_with}
use Rattle.typed_tree.specs.Nodes.{Function}
use Rattle.staged_meaning.specs.Program.{OfStatement}
use Rattle.tick_lower_spec.specs.Lower.{Addresses, no_holes, function_ops}
use Rattle.tick_lower_spec.specs.TickPieces.{tick_pieces}
use Rattle.tick_lower_spec.proofs.Filled.{tick_same}

-- the ops of the pieces of a function's body are the function's
pub function_filled : (addresses : Addresses) (f : Function) →
    pieces_with no_holes (tick_pieces addresses (OfStatement f.body)) ≡ function_ops addresses f
function_filled addresses f = (tick_same addresses no_holes (OfStatement f.body)).same

-- the ops from one piece on are its own and those of the pieces behind it
pub one_more : (i : ℕ) (ps : List Piece) (p : Piece) → i < length ps → p ≡ get_or ps i p →
    pieces_with no_holes (drop i ps) ≡ piece_with no_holes p ++ pieces_with no_holes (drop (i + 1) ps)
one_more i ps p h at =
    ap (λ xs. pieces_with no_holes xs) (drop-cons ps i p h)
    ∙ ap (λ j. piece_with no_holes (get_or ps i p) ++ pieces_with no_holes (drop j ps)) (sym (add-one i))
    ∙ ap (λ x. piece_with no_holes x ++ pieces_with no_holes (drop (i + 1) ps)) (sym at)
