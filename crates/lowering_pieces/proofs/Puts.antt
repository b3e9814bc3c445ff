-- More pieces behind more.
use Rattle.std.proofs.Common.{◌≡◌, ℕ, List, [], ◌∷◌, ◌++◌, ap, append_assoc}
use Rattle.word32.specs.declared.width.Width.{Width}
use Rattle.icode_ops.specs.declared.kind.BinKind.TheVariants.{Add}
use Rattle.icode_ir.specs.declared.build_op.BuildOp.TheVariants as build
use Rattle.tick_lower_spec.specs.Lower.{narrowing, step_ops}
use Rattle.tick_lower_spec.specs.declared.piece.Piece.{Piece}
use Rattle.tick_lower_spec.specs.TickPieces.{plain}
use Rattle.lowering_pieces.specs.declared.pieces.Pieces.{Pieces}
use Rattle.lowering_pieces.specs.Steps.{put}

pub put_both : (xs ys : List Piece) (o : Pieces) → put ys (put xs o) ≡ put (xs ++ ys) o
put_both xs ys o = ap (λ zs. let p : Pieces = record o { list = zs } in p) (append_assoc o.list xs ys)

pub stepped : (step : ℕ) (w : Width) (o : Pieces)
    → put (plain (narrowing w)) (put (plain (build.Const step ∷ build.Bin Add ∷ [])) o)
    ≡ put (plain (step_ops step w)) o
stepped step w o = put_both (plain (build.Const step ∷ build.Bin Add ∷ [])) (plain (narrowing w)) o
