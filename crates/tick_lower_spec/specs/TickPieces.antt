-- The pieces of a tick: its lowering with holes for what it captures. A node that adds no op has the piece that adds
-- nothing, so that each node has a piece.
use Rattle.std.specs.Prelude.{ℕ, List, [], ◌∷◌, ◌++◌}
use Rattle.icode_ir.specs.declared.build_op.BuildOp.{BuildOp}
use Rattle.typed_tree.specs.Nodes.{Expr, Args, Stmt, Items}
use Rattle.staged_meaning.specs.Program.{Tick as TickOf}
use Rattle.tick_lower_spec.specs.Lower.{Holes, Sink, Addresses, Targets, expr_into, args_into, stmt_into, items_into}
use Rattle.tick_lower_spec.specs.Specifications.{tick_into}
use Rattle.tick_lower_spec.specs.declared.piece.Piece.{Piece}
use Rattle.tick_lower_spec.specs.declared.piece.Piece.TheVariants.{Plain, Captured, GetKey, SetKey, Splice, Nothing}

-- ops that no capture is named in
abbrev pub plain : List BuildOp → List Piece
plain [] = []
plain (op ∷ ops) = Plain op ∷ plain ops

-- those that a node adds, or that it adds nothing
abbrev pub own : List BuildOp → List Piece
own [] = Nothing ∷ []
own (op ∷ ops) = Plain op ∷ plain ops

-- what the lowering is made of, where what was captured isn't known
abbrev pub pieces_sink : Sink Piece
pieces_sink = record {
  op = λ op. Plain op;
  ops = plain;
  own = own;
  captured = λ i. Captured i ∷ [];
  get_key = λ i. GetKey i ∷ [];
  set_key = λ i. SetKey i ∷ [];
  splice = λ i. Splice i ∷ [];
}

abbrev pub expr_pieces : Addresses → Expr → (l t : ℕ) → List Piece
expr_pieces addresses e l t = expr_into pieces_sink addresses e l t

abbrev pub args_pieces : Addresses → Args → (l t : ℕ) → List Piece
args_pieces addresses args l t = args_into pieces_sink addresses args l t

abbrev pub stmt_pieces : Addresses → Stmt → Targets → (l t : ℕ) → List Piece
stmt_pieces addresses s to l t = stmt_into pieces_sink addresses s to l t

abbrev pub items_pieces : Addresses → Items → Targets → (l t : ℕ) → List Piece
items_pieces addresses items to l t = items_into pieces_sink addresses items to l t

-- a tick's: one body with its variables and labels
abbrev pub tick_pieces : Addresses → TickOf → List Piece
tick_pieces addresses tick = tick_into pieces_sink addresses tick

-- the ops of a piece, with this in the holes
abbrev pub piece_with : Holes → Piece → List BuildOp
piece_with holes (Plain op) = op ∷ []
piece_with holes (Captured i) = holes.captured i
piece_with holes (GetKey i) = holes.get_key i
piece_with holes (SetKey i) = holes.set_key i
piece_with holes (Splice i) = holes.splice i
piece_with holes Nothing = []

abbrev pub pieces_with : Holes → List Piece → List BuildOp
pieces_with holes [] = []
pieces_with holes (p ∷ ps) = piece_with holes p ++ pieces_with holes ps
