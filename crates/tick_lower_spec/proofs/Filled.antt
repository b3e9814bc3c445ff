-- The pieces of a tick are its lowering, with what was captured in the holes: both are one definition, and this is the
-- induction over it.
use Rattle.std.proofs.Common.{◌≡◌, ℕ, zero, suc, ◌+◌, List, [], ◌∷◌, ◌++◌, refl, sym, ap, ◌∙◌, append_assoc}
use Rattle.std.proofs.Common.{append-nil, Option, Some, None}
use Rattle.std.specs.Prelude.{slice_get}
use Rattle.history.specs.Syntax.{Syntax, Ticked, Captures, NoCapture, Word, Named, Spliced}
use Rattle.icode_ir.specs.declared.build_op.BuildOp.{BuildOp}
use Rattle.typed_tree.specs.declared.expression.Library.TheVariants.{Putchar, Putint, Exit, Malloc}
use Rattle.typed_tree.specs.Nodes as node
use Rattle.typed_tree.specs.Nodes.{Const, Var, SetVar, PostVar, VGet, VSet, VPost, Frame, Load, Store, Modify, Post}
use Rattle.typed_tree.specs.Nodes.{Bin, Un, And, Or, Cond, Comma, Void, Call, CallNumber, Getchar, Lib, Tick, Capture}
use Rattle.typed_tree.specs.Nodes.{Compile, Local, ParamOf, Expr, Args, NoArg, Arg, Stmt, Eval, Block, Variable}
use Rattle.typed_tree.specs.Nodes.{Object, Parameter, ParameterObject, If, IfElse, While, Do, For, ForStep, Switch}
use Rattle.typed_tree.specs.Nodes.{Case, Default, Break, Continue, Return, ReturnValue, Items, NoItem, Item}
use Rattle.typed_tree.specs.Nodes.{has_value}
use Rattle.staged_meaning.specs.Program.{Tick as TickOf, OfExpression, OfStatement}
use Rattle.staged_meaning.specs.Size.{variables_in}
use Rattle.tick_lower_spec.specs.Lower.{Holes, Addresses, Targets, narrowing, dropping, dropping_call, keeping, kept}
use Rattle.tick_lower_spec.specs.Lower.{step_ops, joins, test_ops, nowhere, making_ops}
use Rattle.staged_meaning.specs.Specifications.{kinds_of}
use Rattle.tick_lower_spec.specs.Lower.{expr_filled, args_filled, stmt_filled, items_filled}
use Rattle.tick_lower_spec.specs.Specifications.{filled, tick_ops, specification_ops, spliced_ops}
use Rattle.tick_lower_spec.specs.declared.piece.Piece.{Piece}
use Rattle.tick_lower_spec.specs.declared.piece.Piece.TheVariants.{Plain, Captured, GetKey, SetKey, Splice, Nothing}
use Rattle.tick_lower_spec.specs.TickPieces.{piece_with, pieces_with}
use Rattle.tick_lower_spec.specs.TickPieces.{plain, own, expr_pieces, args_pieces, stmt_pieces, items_pieces}
use Rattle.tick_lower_spec.specs.TickPieces.{tick_pieces}

module _ (addresses : Addresses) (holes : Holes) where
  abbrev fill : List Piece → List BuildOp
  fill ps = pieces_with holes ps

  joined : (xs ys : List Piece) → fill (xs ++ ys) ≡ fill xs ++ fill ys
  joined [] ys = refl
  joined (x ∷ xs) ys =
      ap (λ (os : List BuildOp). piece_with holes x ++ os) (joined xs ys)
      ∙ sym (append_assoc (piece_with holes x) (fill xs) (fill ys))

  -- pieces, and the ops that they are
  pub record Fills (ps : List Piece) (os : List BuildOp) : Type 0 where
    pub same : fill ps ≡ os

  both : {xs ys : List Piece} {os ps : List BuildOp} → Fills xs os → Fills ys ps → Fills (xs ++ ys) (os ++ ps)
  both {xs} {ys} {os} {ps} p q = record {
    same = joined xs ys ∙ ap (λ (zs : List BuildOp). zs ++ fill ys) p.same ∙
        ap (λ (zs : List BuildOp). os ++ zs) q.same;
  }

  next : {op : BuildOp} {ps : List Piece} {os : List BuildOp} → Fills ps os → Fills (Plain op ∷ ps) (op ∷ os)
  next {op} p = record { same = ap (λ (zs : List BuildOp). op ∷ zs) p.same }

  none : {ps : List Piece} {os : List BuildOp} → Fills ps os → Fills (Nothing ∷ ps) os
  none p = record { same = p.same }

  done : {ps : List Piece} {os : List BuildOp} → fill ps ≡ os → Fills ps os
  done p = record { same = p }

  plain_same : (ops : List BuildOp) → Fills (plain ops) ops
  plain_same [] = done refl
  plain_same (op ∷ ops) = next (plain_same ops)

  own_same : (ops : List BuildOp) → Fills (own ops) ops
  own_same [] = done refl
  own_same (op ∷ ops) = next (plain_same ops)

  got : (i : ℕ) → Fills (GetKey i ∷ []) (holes.get_key i)
  got i = done (append-nil (holes.get_key i))

  changed : (i : ℕ) → Fills (SetKey i ∷ []) (holes.set_key i)
  changed i = done (append-nil (holes.set_key i))

  mutual
    pub expr_same : (e : Expr) (l t : ℕ) → Fills (expr_pieces addresses e l t) (expr_filled holes addresses e l t)
    expr_same (Const word) l t = done refl
    expr_same (Var i) l t = done refl
    expr_same (SetVar i a) l t = both (expr_same a l t) (done refl)
    expr_same (PostVar i width step) l t = next (next (both (plain_same (step_ops step width)) (done refl)))
    expr_same (Frame offset) l t = done refl
    expr_same (Load width a) l t = both (expr_same a l t) (done refl)
    expr_same (Store width a b) l t = both (expr_same a l t) (both (expr_same b _ _) (done refl))
    expr_same (Modify width kind a b) l t =
        both (expr_same a l t) (next
        (next (both (expr_same b _ _) (next (both (plain_same (narrowing width)) (done refl))))))
    expr_same (Post width step a) l t =
        both (expr_same a l t) (next (next (next (next (both (plain_same (step_ops step width)) (done refl))))))
    expr_same (Bin kind a b) l t = both (expr_same a l t) (both (expr_same b _ _) (done refl))
    expr_same (Un kind a) l t = both (expr_same a l t) (done refl)
    expr_same (And a b) l t = both (expr_same a _ _) (next (both (expr_same b _ _) (done refl)))
    expr_same (Or a b) l t = both (expr_same a _ _) (next (both (expr_same b _ _) (done refl)))
    expr_same (Cond c a b) l t =
        both (expr_same c _ _) (next (both (expr_same a _ _) (both (plain_same (keeping (has_value a) t))
        (next (next (both (expr_same b _ _) (both (plain_same (keeping (has_value a) t))
        (next (plain_same (kept (has_value a) t))))))))))
    expr_same (Comma a b) l t = both (expr_same a l t) (both (own_same (dropping (has_value a))) (expr_same b _ _))
    expr_same (Void a) l t = both (expr_same a l t) (own_same (dropping (has_value a)))
    expr_same (Call answer f args) l t = both (args_same args l t) (next (plain_same (dropping_call answer)))
    expr_same (CallNumber answer a args) l t =
        both (expr_same a l t) (both (args_same args _ _) (next (plain_same (dropping_call answer))))
    expr_same Getchar l t = done refl
    expr_same (Lib Putchar a) l t = both (expr_same a l t) (done refl)
    expr_same (Lib Putint a) l t = both (expr_same a l t) (done refl)
    expr_same (Lib Exit a) l t = both (expr_same a l t) (done refl)
    expr_same (Lib Malloc a) l t = both (expr_same a l t) (done refl)
    expr_same (Capture kind a) l t = none (expr_same a l t)
    expr_same (Compile a) l t = both (expr_same a l t) (done refl)
    expr_same Local l t = done refl
    expr_same (ParamOf a) l t = both (expr_same a l t) (done refl)
    expr_same (node.Captured w i) l t = done (append-nil (holes.captured i))
    expr_same (VGet i) l t = got i
    expr_same (VSet i a) l t = both (expr_same a l t) (changed i)
    expr_same (VPost i step) l t =
        both (got i) (next (next (next (both (changed i) (done refl)))))
    expr_same (node.Splice answer i) l t = done (append-nil (holes.splice i))
    expr_same (Tick tick args) l t =
        both (args_same args l t) (plain_same (making_ops addresses tick (kinds_of args)))

    pub args_same : (args : Args) (l t : ℕ) →
        Fills (args_pieces addresses args l t) (args_filled holes addresses args l t)
    args_same NoArg l t = done refl
    args_same (Arg a args) l t = both (expr_same a l t) (args_same args _ _)

  mutual
    pub stmt_same : (s : Stmt) (to : Targets) (l t : ℕ) →
        Fills (stmt_pieces addresses s to l t) (stmt_filled holes addresses s to l t)
    stmt_same (Eval e) to l t = both (expr_same e l t) (own_same (dropping (has_value e)))
    stmt_same (Block variables items) to l t = none (both (items_same variables to l t) (items_same items to _ _))
    stmt_same (Variable i) to l t = done refl
    stmt_same (Object offset words) to l t = done refl
    stmt_same (Parameter k width) to l t = next (both (plain_same (narrowing width)) (done refl))
    stmt_same (ParameterObject k width offset) to l t = next (next (both (plain_same (narrowing width)) (done refl)))
    stmt_same (If e s) to l t = both (expr_same e _ _) (next (both (stmt_same s to _ _) (done refl)))
    stmt_same (IfElse e s r) to l t =
        both (expr_same e _ _) (next (both (stmt_same s to _ _) (next (next (both (stmt_same r to _ _) (done refl))))))
    stmt_same (While e s) to l t = next (both (expr_same e _ _) (next (both (stmt_same s _ _ _) (done refl))))
    stmt_same (Do s e) to l t = next (both (stmt_same s _ _ _) (next (both (expr_same e _ _) (done refl))))
    stmt_same (For e s) to l t = next (both (expr_same e _ _) (next (both (stmt_same s _ _ _) (done refl))))
    stmt_same (ForStep e step s) to l t =
        next (both (expr_same e _ _) (next (both (stmt_same s _ _ _)
        (next (both (expr_same step _ _) (both (plain_same (dropping (has_value step))) (done refl)))))))
    stmt_same (Switch e variables items) to l t =
        both (expr_same e _ _) (next (next (both (none (items_same variables to _ _))
        (both (plain_same (test_ops items _ t)) (next (both (items_same items _ _ _) (done refl)))))))
    stmt_same (Case value) to l t = done refl
    stmt_same Default to l t = done refl
    stmt_same Break to l t = done refl
    stmt_same Continue to l t = done refl
    stmt_same Return to l t = done refl
    stmt_same (ReturnValue e) to l t = both (expr_same e l t) (done refl)

    pub items_same : (items : Items) (to : Targets) (l t : ℕ) →
        Fills (items_pieces addresses items to l t) (items_filled holes addresses items to l t)
    items_same NoItem to l t = done refl
    items_same (Item s items) to l t = both (stmt_same s to l t) (items_same items to _ _)

  pub tick_same : (tick : TickOf) → Fills (tick_pieces addresses tick) (tick_ops holes addresses (Some tick))
  tick_same (OfExpression e) = next (both (expr_same e 0 0) (done refl))
  tick_same (OfStatement s) = next (both (stmt_same s nowhere 0 (variables_in s)) (done refl))
