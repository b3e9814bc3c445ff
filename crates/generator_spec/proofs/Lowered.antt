-- The pieces of a tick are its lowering, with what was captured in the holes: both are one definition, and this is the
-- induction over it.
use Rattle.std.proofs.Common.{◌≡◌, ℕ, zero, suc, ◌+◌, List, [], ◌∷◌, ◌++◌, refl, sym, ap, ◌∙◌, append_assoc}
use Rattle.std.proofs.Common.{append-nil, Option, Some, None}
use Rattle.std.specs.Prelude.{slice_get}
use Rattle.history.specs.Syntax.{Syntax, Ticked, Captures, NoCapture, Word, Named, Spliced}
use Rattle.icode_ir.specs.declared.build_op.BuildOp.{BuildOp}
use Rattle.typed_tree.specs.declared.expression.Library.TheVariants.{Putchar, Putint, Exit, Malloc}
use Rattle.typed_tree.specs.Nodes as node
use Rattle.typed_tree.specs.Nodes.{Const, Var, SetVar, PostVar, VGet, VSet, VPost, Frame, Load, Store, Modify, Post}
use Rattle.typed_tree.specs.Nodes.{Bin, Un, And, Or, Cond, Comma, Void, Call, CallNumber, Getchar, Lib, Tick, Capture}
use Rattle.typed_tree.specs.Nodes.{Compile, Local, ParamOf, Expr, Args, NoArg, Arg, Stmt, Eval, Block, Variable}
use Rattle.typed_tree.specs.Nodes.{Object, Parameter, ParameterObject, If, IfElse, While, Do, For, ForStep, Switch}
use Rattle.typed_tree.specs.Nodes.{Case, Default, Break, Continue, Return, ReturnValue, Items, NoItem, Item}
use Rattle.typed_tree.specs.Nodes.{has_value}
use Rattle.staged_meaning.specs.Program.{Tick as TickOf, OfExpression, OfStatement}
use Rattle.staged_meaning.specs.Size.{variables_in}
use Rattle.tick_lower_spec.specs.Lower.{Holes, Addresses, Targets, narrowing, dropping, dropping_call, keeping, kept}
use Rattle.tick_lower_spec.specs.Lower.{step_ops, joins, test_ops, nowhere}
use Rattle.tick_lower_spec.specs.Lower.{expr_filled, args_filled, stmt_filled, items_filled}
use Rattle.tick_lower_spec.specs.Specifications.{filled, tick_ops, specification_ops, spliced_ops}
use Rattle.tick_lower_spec.specs.declared.piece.Piece.{Piece}
use Rattle.tick_lower_spec.specs.declared.piece.Piece.TheVariants.{Plain, Captured, GetKey, SetKey, Splice, Nothing}
use Rattle.generator_laws.specs.Pieces.{piece_ops, pieces_ops, syntax_ops}
use Rattle.tick_lower_spec.specs.TickPieces.{piece_with, pieces_with}
use Rattle.generator_laws.specs.Pieces as by_pieces
use Rattle.generator_spec.specs.Laws.{pieces_at}
use Rattle.tick_lower_spec.specs.TickPieces.{plain, own, expr_pieces, args_pieces, stmt_pieces, items_pieces}
use Rattle.tick_lower_spec.specs.TickPieces.{tick_pieces}
use Rattle.tick_lower_spec.proofs.Filled.{tick_same}

module _ (addresses : Addresses) (ticks : List TickOf) where
  abbrev pieces : ℕ → List Piece
  pieces number = pieces_at addresses (slice_get ticks number)

  pub tick_at : (captures : Captures) (go : ℕ → List BuildOp) (number : ℕ) (o : Option TickOf) → slice_get ticks number ≡ o
      → pieces_ops captures go (pieces_at addresses o) ≡ tick_ops (filled captures go) addresses o
  tick_at captures go number None e = refl
  tick_at captures go number (Some tick) e = (tick_same addresses (filled captures go) tick).same

  -- ops do not depend on which of two equal rows the splices come from
  pub spliced : (captures : Captures) (go by : ℕ → List BuildOp) (ps : List Piece) → ((i : ℕ) → go i ≡ by i) →
      pieces_ops captures go ps ≡ pieces_ops captures by ps
  spliced captures go by [] same = refl
  spliced captures go by (p ∷ ps) same =
      ap (λ (ops : List BuildOp). ops ++ pieces_ops captures go ps) (one p)
      ∙ ap (λ (ops : List BuildOp). piece_ops captures by p ++ ops) (spliced captures go by ps same)
    where
      one : (p : Piece) → piece_ops captures go p ≡ piece_ops captures by p
      one (Plain op) = refl
      one (Captured i) = refl
      one (GetKey i) = refl
      one (SetKey i) = refl
      one (Splice i) = same i
      one Nothing = refl

  mutual
    pub lowered : (syntax : Syntax) → syntax_ops pieces syntax ≡ specification_ops addresses ticks syntax
    lowered (Ticked tick captures) =
        spliced captures (by_pieces.spliced_ops pieces captures) (spliced_ops addresses ticks captures) (pieces tick)
        (captured captures)
        ∙ tick_at captures (spliced_ops addresses ticks captures) tick (slice_get ticks tick) refl

    captured : (captures : Captures) (i : ℕ) →
        by_pieces.spliced_ops pieces captures i ≡ spliced_ops addresses ticks captures i
    captured NoCapture i = refl
    captured (Spliced syntax captures) zero = lowered syntax
    captured (Spliced syntax captures) (suc i) = captured captures i
    captured (Word word captures) zero = refl
    captured (Word word captures) (suc i) = captured captures i
    captured (Named key captures) zero = refl
    captured (Named key captures) (suc i) = captured captures i
