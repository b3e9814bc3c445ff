-- A tree of n nodes has pieces that take at most 98 instructions a node, besides those of what is spliced in.
use Rattle.std.proofs.Common.{ℕ, ◌+◌, ◌-◌, ◌*◌, ◌≤◌, List, arith}
use Rattle.typed_tree.specs.declared.expression.Library.TheVariants as library
use Rattle.typed_tree.specs.Nodes as node
use Rattle.typed_tree.specs.Nodes.{Expr, Args, Stmt, Items, has_value, count}
use Rattle.staged_meaning.specs.Size.{size_of_expr, size_of_args, labels_in}
use Rattle.staged_meaning.specs.Size.{temps_in}
use Rattle.staged_meaning.specs.Specifications.{kinds_of}
use Rattle.tick_lower_spec.specs.Lower.{Addresses}
use Rattle.tick_lower_spec.specs.declared.piece.Piece.{Piece}
use Rattle.tick_lower_spec.specs.declared.piece.Piece.TheVariants.{Plain, Captured, GetKey, SetKey, Splice, Nothing}
use Rattle.tick_lower_spec.specs.TickPieces.{expr_pieces, args_pieces}
use Rattle.routine_spec.proofs.Dear.{Few, none, put, pair, exactly, own_cost, cost_both, Small, narrow}
use Rattle.routine_spec.proofs.Dear.{Smaller, smaller, as_small, making_dear}
use Rattle.routine_spec.proofs.Dear.{own_drops, call_drops, keeps, back, meets}
use Rattle.routine_spec.proofs.Captured.{kinds_count}

-- captures, each of which a tick may take by six ops
record ArgsSmaller (args : Args) (ps : List Piece) : Type 0 where
  cost : own_cost ps + 42 * count args ≤ 98 * size_of_args args

of_args : {args : Args} {ps : List Piece} → ArgsSmaller args ps → Few (98 * size_of_args args) ps
of_args {args} {ps} f = record { cost = omega (arith, f.cost) }

of_smaller : {n : ℕ} {ps : List Piece} → Smaller n ps → Few (98 * n - 42) ps
of_smaller {n} {ps} f = record { cost = omega (arith, f.cost) }

module _ (addresses : Addresses) where
  abbrev IsSmall : Expr → (l t : ℕ) → Type 0
  IsSmall e l t = Smaller (size_of_expr e) (expr_pieces addresses e l t)

  mutual
    expr_smaller : (e : Expr) (l t : ℕ) → IsSmall e l t
    expr_smaller (node.Const w) l t =
        smaller _
        (put (Plain _) none)
        (omega arith)
    expr_smaller (node.Captured w j) l t =
        smaller _
        (put (Captured j) none)
        (omega arith)
    expr_smaller (node.Var j) l t =
        smaller _
        (put (Plain _) none)
        (omega arith)
    expr_smaller (node.SetVar j e) l t =
        smaller _
        (pair (of_smaller (expr_smaller e l t)) (put (Plain _) none))
        (omega arith)
    expr_smaller (node.PostVar j w step) l t =
        smaller _
        (put (Plain _) (put (Plain _) (put (Plain _) (put (Plain _) (pair (narrow w) (put (Plain _) (put
        (Plain _) none)))))))
        (omega arith)
    expr_smaller (node.VGet j) l t =
        smaller _
        (put (GetKey j) none)
        (omega arith)
    expr_smaller (node.VSet j e) l t =
        smaller _
        (pair (of_smaller (expr_smaller e l t)) (put (SetKey j) none))
        (omega arith)
    expr_smaller (node.VPost j step) l t =
        smaller _
        (put (GetKey j) (put (Plain _) (put (Plain _) (put (Plain _) (put (SetKey j) (put (Plain _) none))))))
        (omega arith)
    expr_smaller (node.Frame offset) l t =
        smaller _
        (put (Plain _) none)
        (omega arith)
    expr_smaller (node.Load w e) l t =
        smaller _
        (pair (of_smaller (expr_smaller e l t)) (put (Plain _) none))
        (omega arith)
    expr_smaller (node.Store w e f) l t =
        smaller _
        (pair (of_smaller (expr_smaller e l t))
        (pair (of_smaller (expr_smaller f (l + labels_in e) (t + temps_in e))) (put
        (Plain _) none)))
        (omega arith)
    expr_smaller (node.Modify w op e f) l t =
        smaller _
        (pair (of_smaller (expr_smaller e l t))
        (put (Plain _) (put (Plain _) (pair (of_smaller (expr_smaller f (l + labels_in e)
        (t + temps_in e)))
        (put (Plain _) (pair (narrow w) (put (Plain _) none)))))))
        (omega arith)
    expr_smaller (node.Post w step e) l t =
        smaller _
        (pair (of_smaller (expr_smaller e l t))
        (put (Plain _) (put (Plain _) (put (Plain _) (put (Plain _) (put (Plain _)
        (put (Plain _)
        (pair (narrow w) (put (Plain _) (put (Plain _) (put (Plain _) none)))))))))))
        (omega (arith, (expr_smaller e l t).cost))
    expr_smaller (node.Bin op e f) l t =
        smaller _
        (pair (of_smaller (expr_smaller e l t))
        (pair (of_smaller (expr_smaller f (l + labels_in e) (t + temps_in e))) (put
        (Plain _) none)))
        (omega arith)
    expr_smaller (node.Un op e) l t =
        smaller _
        (pair (of_smaller (expr_smaller e l t)) (put (Plain _) none))
        (omega arith)
    expr_smaller (node.And e f) l t =
        smaller _
        (pair (of_smaller (expr_smaller e (l + 2) (t + 1))) (put (Plain _)
        (pair (of_smaller (expr_smaller f (l + 2 + labels_in e) (t + 1 + temps_in e)))
        (put (Plain _) (meets 1 0 l (l + 1) t)))))
        (omega (
          arith,
          (expr_smaller e (l + 2) (t + 1)).cost,
          (expr_smaller f (l + 2 + labels_in e) (t + 1 + temps_in e)).cost,
        ))
    expr_smaller (node.Or e f) l t =
        smaller _
        (pair (of_smaller (expr_smaller e (l + 2) (t + 1))) (put (Plain _)
        (pair (of_smaller (expr_smaller f (l + 2 + labels_in e) (t + 1 + temps_in e)))
        (put (Plain _) (meets 0 1 l (l + 1) t)))))
        (omega (
          arith,
          (expr_smaller e (l + 2) (t + 1)).cost,
          (expr_smaller f (l + 2 + labels_in e) (t + 1 + temps_in e)).cost,
        ))
    expr_smaller (node.Cond c e f) l t =
        smaller _
        (pair (of_smaller (expr_smaller c (l + 2) (t + 1))) (put (Plain _)
        (pair (of_smaller (expr_smaller e (l + 2 + labels_in c) (t + 1 + temps_in c)))
        (pair (keeps (has_value e) t) (put
        (Plain _) (put (Plain _)
        (pair (of_smaller (expr_smaller f (l + 2 + labels_in c + labels_in e) (t + 1 + temps_in c + temps_in e)))
        (pair (keeps (has_value e) t) (put (Plain _) (back (has_value e) t))))))))))
        (omega (
          arith,
          (expr_smaller c (l + 2) (t + 1)).cost,
          (expr_smaller e (l + 2 + labels_in c) (t + 1 + temps_in c)).cost,
          (expr_smaller f (l + 2 + labels_in c + labels_in e) (t + 1 + temps_in c + temps_in e)).cost,
        ))
    expr_smaller (node.Comma e f) l t =
        smaller _
        (pair (of_smaller (expr_smaller e l t))
        (pair (own_drops (has_value e)) (of_smaller (expr_smaller f (l + labels_in e)
        (t + temps_in e)))))
        (omega arith)
    expr_smaller (node.Void e) l t =
        smaller _
        (pair (of_smaller (expr_smaller e l t)) (own_drops (has_value e)))
        (omega arith)
    expr_smaller (node.Call r f args) l t =
        let a = args_smaller args l t in
        smaller _ (pair (of_args a) (put (Plain _) (call_drops r))) (omega arith)
    expr_smaller (node.CallNumber r e args) l t =
        let a = args_smaller args (l + labels_in e) (t + temps_in e) in
        smaller _ (pair (of_smaller (expr_smaller e l t)) (pair (of_args a) (put (Plain _) (call_drops r))))
        (omega arith)
    expr_smaller node.Getchar l t =
        smaller _
        (put (Plain _) (put (Plain _) none))
        (omega arith)
    expr_smaller (node.Lib library.Putchar e) l t =
        smaller _
        (pair (of_smaller (expr_smaller e l t)) (put (Plain _) none))
        (omega arith)
    expr_smaller (node.Lib library.Putint e) l t =
        smaller _
        (pair (of_smaller (expr_smaller e l t)) (put (Plain _) (put (Plain _) none)))
        (omega arith)
    expr_smaller (node.Lib library.Exit e) l t =
        smaller _
        (pair (of_smaller (expr_smaller e l t)) (put (Plain _) (put (Plain _) none)))
        (omega arith)
    expr_smaller (node.Lib library.Malloc e) l t =
        smaller _
        (pair (of_smaller (expr_smaller e l t)) (put (Plain _) none))
        (omega arith)
    expr_smaller (node.Tick j args) l t =
        let a = args_smaller args l t in
        smaller _ (pair (exactly (args_pieces addresses args l t)) (making_dear addresses j (kinds_of args)))
        (omega (arith, a.cost, kinds_count args))
    expr_smaller (node.Capture kind e) l t =
        smaller _
        (put Nothing (of_smaller (expr_smaller e l t)))
        (omega arith)
    expr_smaller (node.Splice r j) l t =
        smaller _
        (put (Splice j) none)
        (omega arith)
    expr_smaller (node.Compile e) l t =
        smaller _
        (pair (of_smaller (expr_smaller e l t)) (put (Plain _) none))
        (omega arith)
    expr_smaller node.Local l t =
        smaller _
        (put (Plain _) (put (Plain _) none))
        (omega arith)
    expr_smaller (node.ParamOf e) l t =
        smaller _
        (pair (of_smaller (expr_smaller e l t)) (put (Plain _) none))
        (omega arith)

    args_smaller : (args : Args) (l t : ℕ) → ArgsSmaller args (args_pieces addresses args l t)
    args_smaller node.NoArg l t = record { cost = omega arith }
    args_smaller (node.Arg e args) l t =
        let f = expr_smaller e l t in
        let a = args_smaller args (l + labels_in e) (t + temps_in e) in
        record {
          cost = omega (
            arith,
            f.cost,
            a.cost,
            cost_both (expr_pieces addresses e l t)
                (args_pieces addresses args (l + labels_in e) (t + temps_in e)),
          );
        }

  pub expr_small : (e : Expr) (l t : ℕ) → Small (size_of_expr e) (expr_pieces addresses e l t)
  expr_small e l t = as_small (expr_smaller e l t)
