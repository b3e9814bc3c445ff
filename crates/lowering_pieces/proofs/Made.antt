-- The walk at a node with several parts, from what its steps make, one behind the other.
use Rattle.std.proofs.Common.{◌≡◌, ℕ, ◌+◌, Bool, [], ◌∷◌, refl}
use Rattle.word32.specs.declared.width.Width.{Width}
use Rattle.icode_ops.specs.declared.kind.BinKind.{BinKind}
use Rattle.icode_ir.specs.declared.build_op.BuildOp.TheVariants as build
use Rattle.typed_tree.specs.declared.expression.Answer.{Answer}
use Rattle.typed_tree.specs.Nodes as node
use Rattle.typed_tree.specs.Nodes.{Expr, Args, has_value, count}
use Rattle.tick_lower_spec.specs.Lower.{Addresses, narrowing, dropping_call, keeping, kept, step_ops, joins}
use Rattle.tick_lower_spec.specs.declared.piece.Piece.TheVariants.{Plain}
use Rattle.tick_lower_spec.specs.TickPieces.{plain}
use Rattle.lowering_pieces.specs.declared.pieces.Join.{Join}
use Rattle.lowering_pieces.specs.declared.pieces.Pieces.{Pieces}
use Rattle.lowering_pieces.specs.Steps.{op, put, labelled, with_variable, walk, walk_args}

-- the node begins where o ends
module _ (addresses : Addresses) (o : Pieces) where
  -- a part is p where the code takes it out of its box
  module _ (p a : Expr) (at : p ≡ a) where
    pub modify_made : (w : Width) (k : BinKind) (b : Expr) (first loaded second q : Pieces)
        → first ≡ walk addresses p o → loaded ≡ put (plain (build.Pick 0 ∷ build.Load w ∷ [])) first
        → second ≡ op (build.Bin k) (walk addresses b loaded)
        → q ≡ op (build.Store w) (put (plain (narrowing w)) second) → q ≡ walk addresses (node.Modify w k a b) o
    modify_made w k b first loaded second q h1 h2 h3 h4 = rw (h4, h3, h2, h1, at) refl

    pub post_made : (w : Width) (step : ℕ) (first q : Pieces) → first ≡ walk addresses p o
        → q ≡ put (plain (build.Store w ∷ build.Drop ∷ build.Nip ∷ [])) (put (plain (step_ops step w))
        (put (plain (build.Pick 0 ∷ build.Load w ∷ build.Pick 1 ∷ build.Pick 1 ∷ [])) first))
        → q ≡ walk addresses (node.Post w step a) o
    post_made w step first q h1 h2 = rw (h2, h1, at) refl

    pub number_made : (answer : Answer) (args : Args) (first all q : Pieces) → first ≡ walk addresses p o
        → all ≡ walk_args addresses args first
        → q ≡ put (plain (dropping_call answer)) (op (build.CallNumber (count args)) all)
        → q ≡ walk addresses (node.CallNumber answer a args) o
    number_made answer args first all q h1 h2 h3 = rw (h3, h2, h1, at) refl

  -- two ways: j has their labels, and t is the variable for the value
  module _ (j : Join) (t : ℕ) (m n : Pieces)
      (labels : j ≡ (let z : Join = record { other = o.label; end = o.label + 1 } in z)) (taken : m ≡ labelled 2 o)
      (variable : t ≡ m.variable) (own : n ≡ with_variable m) where
    pub both_made : (a b : Expr) (first second q : Pieces)
        → first ≡ op (build.BranchZero j.other) (walk addresses a n)
        → second ≡ op (build.BranchZero j.other) (walk addresses b first)
        → q ≡ put (plain (joins 1 0 j.other j.end t)) second → q ≡ walk addresses (node.And a b) o
    both_made a b first second q h1 h2 h3 = rw (h3, h2, h1, own, variable, taken, labels) refl

    pub either_made : (a b : Expr) (first second q : Pieces)
        → first ≡ op (build.BranchNonzero j.other) (walk addresses a n)
        → second ≡ op (build.BranchNonzero j.other) (walk addresses b first)
        → q ≡ put (plain (joins 0 1 j.other j.end t)) second → q ≡ walk addresses (node.Or a b) o
    either_made a b first second q h1 h2 h3 = rw (h3, h2, h1, own, variable, taken, labels) refl

    pub choice_made : (c a b : Expr) (left : Bool) (tested first turned second q : Pieces) → left ≡ has_value a
        → tested ≡ op (build.BranchZero j.other) (walk addresses c n)
        → first ≡ put (plain (keeping left t)) (walk addresses a tested)
        → turned ≡ put (Plain (build.Jump j.end) ∷ Plain (build.Label j.other) ∷ []) first
        → second ≡ put (plain (keeping left t)) (walk addresses b turned)
        → q ≡ put (plain (kept left t)) (op (build.Label j.end) second) → q ≡ walk addresses (node.Cond c a b) o
    choice_made c a b left tested first turned second q leaves h1 h2 h3 h4 h5 =
        rw (h5, h4, h3, h2, h1, leaves, own, variable, taken, labels) refl
