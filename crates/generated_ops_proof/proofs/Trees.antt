-- A tree of n nodes has pieces that add at most twelve ops and operands a node, and no more labels and variables of
-- its own; its splices are those that its nodes are.
use Rattle.std.proofs.Common.{◌≡◌, ℕ, ◌+◌, ◌-◌, ◌*◌, ◌≤◌, List, refl, arith}
use Rattle.typed_tree.specs.declared.expression.Library.TheVariants as library
use Rattle.typed_tree.specs.Nodes as node
use Rattle.typed_tree.specs.Nodes.{Expr, Args, Stmt, Items, has_value, count}
use Rattle.staged_meaning.specs.Size.{size_of_expr, size_of_args, labels_in}
use Rattle.staged_meaning.specs.Size.{temps_in}
use Rattle.staged_meaning.specs.Specifications.{kinds_of}
use Rattle.tick_lower_spec.specs.Lower.{Addresses}
use Rattle.tick_lower_spec.specs.declared.piece.Piece.{Piece}
use Rattle.tick_lower_spec.specs.declared.piece.Piece.TheVariants.{Plain, Captured, GetKey, SetKey, Splice, Nothing}
use Rattle.tick_lower_spec.specs.TickPieces.{expr_pieces, args_pieces}
use Rattle.generated_ops_proof.specs.Room.{more_ops, more_operands}
use Rattle.tick_captures_proof.specs.Splices.{splices_in, splices_in_args}
use Rattle.generated_ops_proof.proofs.Costs.{adds, splices, Few, none, put, pair, Small, small, of, narrow}
use Rattle.routine_spec.proofs.Captured.{kinds_count}
use Rattle.generated_ops_proof.proofs.Costs.{own_drops, call_drops, keeps, back, meets, making_few}

-- arguments, where a call adds an op for each more, and a tick two of each
record ArgsSmall (args : Args) (ps : List Piece) : Type 0 where
  ops : adds more_ops ps + 2 * count args ≤ 12 * size_of_args args
  operands : adds more_operands ps + 2 * count args ≤ 12 * size_of_args args
  splices : (i : ℕ) → splices i ps ≡ splices_in_args i args

of_args : {ps : List Piece} (args : Args) → ArgsSmall args ps
    → Few (12 * size_of_args args - 2 * count args) (12 * size_of_args args - 2 * count args)
    (λ i. splices_in_args i args) ps
of_args {ps} args f = record { ops = omega (arith, f.ops); operands = omega (arith, f.operands); splices = f.splices }

pub exactly : (ps : List Piece) → Few (adds more_ops ps) (adds more_operands ps) (λ i. splices i ps) ps
exactly ps = record { ops = omega arith; operands = omega arith; splices = λ i. refl }

module _ (addresses : Addresses) where
  abbrev IsSmall : Expr → (l t : ℕ) → Type 0
  IsSmall e l t = Small (size_of_expr e) (λ i. splices_in i e) (expr_pieces addresses e l t)

  mutual
    pub expr_small : (e : Expr) (l t : ℕ) → IsSmall e l t
    expr_small (node.Const w) l t =
        small _ _
        (put (Plain _) none)
        (omega arith) (omega arith) (λ i. omega arith)
    expr_small (node.Captured w j) l t =
        small _ _
        (put (Captured j) none)
        (omega arith) (omega arith) (λ i. omega arith)
    expr_small (node.Var j) l t =
        small _ _
        (put (Plain _) none)
        (omega arith) (omega arith) (λ i. omega arith)
    expr_small (node.SetVar j e) l t =
        small _ _
        (pair (of (expr_small e l t)) (put (Plain _) none))
        (omega arith) (omega arith) (λ i. omega arith)
    expr_small (node.PostVar j w step) l t =
        small _ _
        (put (Plain _) (put (Plain _) (put (Plain _) (put (Plain _) (pair (narrow w) (put (Plain _) (put
        (Plain _) none)))))))
        (omega arith) (omega arith) (λ i. omega arith)
    expr_small (node.VGet j) l t =
        small _ _
        (put (GetKey j) none)
        (omega arith) (omega arith) (λ i. omega arith)
    expr_small (node.VSet j e) l t =
        small _ _
        (pair (of (expr_small e l t)) (put (SetKey j) none))
        (omega arith) (omega arith) (λ i. omega arith)
    expr_small (node.VPost j step) l t =
        small _ _
        (put (GetKey j) (put (Plain _) (put (Plain _) (put (Plain _) (put (SetKey j) (put (Plain _) none))))))
        (omega arith) (omega arith) (λ i. omega arith)
    expr_small (node.Frame offset) l t =
        small _ _
        (put (Plain _) none)
        (omega arith) (omega arith) (λ i. omega arith)
    expr_small (node.Load w e) l t =
        small _ _
        (pair (of (expr_small e l t)) (put (Plain _) none))
        (omega arith) (omega arith) (λ i. omega arith)
    expr_small (node.Store w e f) l t =
        small _ _
        (pair (of (expr_small e l t)) (pair (of (expr_small f (l + labels_in e) (t + temps_in e))) (put
        (Plain _) none)))
        (omega arith) (omega arith) (λ i. omega arith)
    expr_small (node.Modify w op e f) l t =
        small _ _
        (pair (of (expr_small e l t)) (put (Plain _) (put (Plain _) (pair (of (expr_small f (l + labels_in e)
        (t + temps_in e)))
        (put (Plain _) (pair (narrow w) (put (Plain _) none)))))))
        (omega arith) (omega arith) (λ i. omega arith)
    expr_small (node.Post w step e) l t =
        small _ _
        (pair (of (expr_small e l t)) (put (Plain _) (put (Plain _) (put (Plain _) (put (Plain _) (put (Plain _)
        (put (Plain _)
        (pair (narrow w) (put (Plain _) (put (Plain _) (put (Plain _) none)))))))))))
        (omega arith) (omega arith) (λ i. omega arith)
    expr_small (node.Bin op e f) l t =
        small _ _
        (pair (of (expr_small e l t)) (pair (of (expr_small f (l + labels_in e) (t + temps_in e))) (put
        (Plain _) none)))
        (omega arith) (omega arith) (λ i. omega arith)
    expr_small (node.Un op e) l t =
        small _ _
        (pair (of (expr_small e l t)) (put (Plain _) none))
        (omega arith) (omega arith) (λ i. omega arith)
    expr_small (node.And e f) l t =
        small _ _
        (pair (of (expr_small e (l + 2) (t + 1))) (put (Plain _)
        (pair (of (expr_small f (l + 2 + labels_in e) (t + 1 + temps_in e))) (put (Plain _) (meets 1 0 l (l + 1) t)))))
        (omega arith) (omega arith) (λ i. omega arith)
    expr_small (node.Or e f) l t =
        small _ _
        (pair (of (expr_small e (l + 2) (t + 1))) (put (Plain _)
        (pair (of (expr_small f (l + 2 + labels_in e) (t + 1 + temps_in e))) (put (Plain _) (meets 0 1 l (l + 1) t)))))
        (omega arith) (omega arith) (λ i. omega arith)
    expr_small (node.Cond c e f) l t =
        small _ _
        (pair (of (expr_small c (l + 2) (t + 1))) (put (Plain _)
        (pair (of (expr_small e (l + 2 + labels_in c) (t + 1 + temps_in c))) (pair (keeps (has_value e) t) (put
        (Plain _) (put (Plain _)
        (pair (of (expr_small f (l + 2 + labels_in c + labels_in e) (t + 1 + temps_in c + temps_in e)))
        (pair (keeps (has_value e) t) (put (Plain _) (back (has_value e) t))))))))))
        (omega arith) (omega arith) (λ i. omega arith)
    expr_small (node.Comma e f) l t =
        small _ _
        (pair (of (expr_small e l t)) (pair (own_drops (has_value e)) (of (expr_small f (l + labels_in e)
        (t + temps_in e)))))
        (omega arith) (omega arith) (λ i. omega arith)
    expr_small (node.Void e) l t =
        small _ _
        (pair (of (expr_small e l t)) (own_drops (has_value e)))
        (omega arith) (omega arith) (λ i. omega arith)
    expr_small (node.Call r f args) l t =
        let a = args_small args l t in
        small _ _ (pair (of_args args a) (put (Plain _) (call_drops r))) (omega (arith, a.ops)) (omega arith)
        (λ i. omega arith)
    expr_small (node.CallNumber r e args) l t =
        let a = args_small args (l + labels_in e) (t + temps_in e) in
        small _ _ (pair (of (expr_small e l t)) (pair (of_args args a) (put (Plain _) (call_drops r))))
        (omega (arith, a.ops)) (omega arith) (λ i. omega arith)
    expr_small node.Getchar l t =
        small _ _
        (put (Plain _) (put (Plain _) none))
        (omega arith) (omega arith) (λ i. omega arith)
    expr_small (node.Lib library.Putchar e) l t =
        small _ _
        (pair (of (expr_small e l t)) (put (Plain _) none))
        (omega arith) (omega arith) (λ i. omega arith)
    expr_small (node.Lib library.Putint e) l t =
        small _ _
        (pair (of (expr_small e l t)) (put (Plain _) (put (Plain _) none)))
        (omega arith) (omega arith) (λ i. omega arith)
    expr_small (node.Lib library.Exit e) l t =
        small _ _
        (pair (of (expr_small e l t)) (put (Plain _) (put (Plain _) none)))
        (omega arith) (omega arith) (λ i. omega arith)
    expr_small (node.Lib library.Malloc e) l t =
        small _ _
        (pair (of (expr_small e l t)) (put (Plain _) none))
        (omega arith) (omega arith) (λ i. omega arith)
    expr_small (node.Tick j args) l t =
        let a = args_small args l t in
        let many = kinds_count args in
        small _ _ (pair (of_args args a) (making_few addresses j (kinds_of args))) (omega (arith, a.ops, many))
        (omega (arith, a.operands, many)) (λ i. omega arith)
    expr_small (node.Capture kind e) l t =
        small _ _
        (put Nothing (of (expr_small e l t)))
        (omega arith) (omega arith) (λ i. omega arith)
    expr_small (node.Splice r j) l t =
        small _ _
        (put (Splice j) none)
        (omega arith) (omega arith) (λ i. omega arith)
    expr_small (node.Compile e) l t =
        small _ _
        (pair (of (expr_small e l t)) (put (Plain _) none))
        (omega arith) (omega arith) (λ i. omega arith)
    expr_small node.Local l t =
        small _ _
        (put (Plain _) (put (Plain _) none))
        (omega arith) (omega arith) (λ i. omega arith)
    expr_small (node.ParamOf e) l t =
        small _ _
        (pair (of (expr_small e l t)) (put (Plain _) none))
        (omega arith) (omega arith) (λ i. omega arith)

    args_small : (args : Args) (l t : ℕ) → ArgsSmall args (args_pieces addresses args l t)
    args_small node.NoArg l t = record { ops = omega arith; operands = omega arith; splices = λ i. refl }
    args_small (node.Arg e args) l t =
        let f = expr_small e l t in
        let a = args_small args (l + labels_in e) (t + temps_in e) in
        let both = pair (of f) (of_args args a) in
        let whole = pair (exactly (expr_pieces addresses e l t)) (of_args args a) in record {
          ops = omega (arith, f.ops, a.ops, whole.ops);
          operands = omega (arith, f.operands, a.operands, whole.operands);
          splices = λ i. both.splices i;
        }
