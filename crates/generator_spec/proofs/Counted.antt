-- Each node of a tick has a piece: a case for each node.
use Rattle.std.proofs.Common.{ℕ, ◌+◌, ◌≤◌, List, [], ◌∷◌, ◌++◌, length, Some, arith}
use Rattle.std.proofs.lemmas.List.{length-append}
use Rattle.icode_ops.specs.declared.kind.SysKind.TheVariants as sys
use Rattle.icode_ops.specs.declared.kind.RunKind.TheVariants as run
use Rattle.icode_ir.specs.declared.build_op.BuildOp.{BuildOp}
use Rattle.icode_ir.specs.declared.build_op.BuildOp.TheVariants as build
use Rattle.typed_tree.specs.declared.expression.Library.TheVariants.{Putchar, Putint, Exit, Malloc}
use Rattle.typed_tree.specs.Nodes as node
use Rattle.typed_tree.specs.Nodes.{Const, Var, SetVar, PostVar, VGet, VSet, VPost, Frame, Load, Store, Modify, Post}
use Rattle.typed_tree.specs.Nodes.{Bin, Un, And, Or, Cond, Comma, Void, Call, CallNumber, Getchar, Lib, Tick, Capture}
use Rattle.typed_tree.specs.Nodes.{Compile, Local, ParamOf, Expr, Args, NoArg, Arg, Stmt, Eval, Block, Variable}
use Rattle.typed_tree.specs.Nodes.{Object, Parameter, ParameterObject, If, IfElse, While, Do, For, ForStep, Switch}
use Rattle.typed_tree.specs.Nodes.{Case, Default, Break, Continue, Return, ReturnValue, Items, NoItem, Item}
use Rattle.typed_tree.specs.Nodes.{has_value, count}
use Rattle.staged_meaning.specs.Program.{Tick as TickOf, OfExpression, OfStatement, tick_size}
use Rattle.staged_meaning.specs.Size.{size_of_expr, size_of_args, size_of_stmt, size_of_items, labels_in, labels}
use Rattle.staged_meaning.specs.Size.{labels_of}
use Rattle.staged_meaning.specs.Size.{temps_in, temps, temps_of, variables_in}
use Rattle.staged_meaning.specs.Specifications.{kinds_of}
use Rattle.tick_lower_spec.specs.Lower.{making_ops}
use Rattle.tick_lower_spec.specs.Lower.{Addresses, Targets, narrowing, dropping, dropping_call, keeping, kept}
use Rattle.tick_lower_spec.specs.Lower.{step_ops}
use Rattle.tick_lower_spec.specs.Lower.{joins, test_ops, default_label, nowhere}
use Rattle.tick_lower_spec.specs.declared.piece.Piece.{Piece}
use Rattle.tick_lower_spec.specs.declared.piece.Piece.TheVariants.{Plain, SetKey, Nothing}
use Rattle.tick_lower_spec.specs.TickPieces.{plain, own, expr_pieces as pieces_of_expr, args_pieces as pieces_of_args}
use Rattle.tick_lower_spec.specs.TickPieces.{stmt_pieces as pieces_of_stmt, items_pieces as pieces_of_items}
use Rattle.tick_lower_spec.specs.TickPieces.{tick_pieces}

more : (xs ys : List Piece) (m n : ℕ) → m ≤ length xs → n ≤ length ys → m + n ≤ length (xs ++ ys)
more xs ys m n p q = let long = length-append xs ys in omega (arith, long, p, q)

cons : (x : Piece) (xs : List Piece) (n : ℕ) → n ≤ length xs → 1 + n ≤ length (x ∷ xs)
cons x xs n p = omega (arith, p)

own_few : (ops : List BuildOp) → 1 ≤ length (own ops)
own_few [] = omega arith
own_few (op ∷ ops) = omega arith

module _ (addresses : Addresses) where
  abbrev expr_pieces : Expr → (l t : ℕ) → List Piece
  expr_pieces e l t = pieces_of_expr addresses e l t

  abbrev args_pieces : Args → (l t : ℕ) → List Piece
  args_pieces args l t = pieces_of_args addresses args l t

  abbrev stmt_pieces : Stmt → Targets → (l t : ℕ) → List Piece
  stmt_pieces s to l t = pieces_of_stmt addresses s to l t

  abbrev items_pieces : Items → Targets → (l t : ℕ) → List Piece
  items_pieces items to l t = pieces_of_items addresses items to l t

  mutual
    pub expr_few : (e : Expr) → (l t : ℕ) → size_of_expr e ≤ length (expr_pieces e l t)
    expr_few (Const word) l t = let h = cons (Plain (build.Const word)) ([]) (0) (omega arith) in omega (arith, h)
    expr_few (Var i) l t = let h = cons (Plain (build.GetVariable i)) ([]) (0) (omega arith) in omega (arith, h)
    expr_few (SetVar i a) l t =
        let h = more (expr_pieces a l t) (Plain (build.SetVariable i)
        ∷ []) (size_of_expr a) (1 + (0)) (expr_few a l t) (cons (Plain (build.SetVariable i)) ([]) (0) (omega arith))
        in omega (arith, h)
    expr_few (PostVar i width step) l t =
        let h = cons (Plain (build.GetVariable i)) (Plain (build.Pick 0) ∷ (plain (step_ops step width)
        ++ Plain (build.SetVariable i) ∷ Plain build.Drop
        ∷ [])) (1 + ((0) + (1 + (1 + (0))))) (cons (Plain (build.Pick 0)) (plain (step_ops step width)
        ++ Plain (build.SetVariable i) ∷ Plain build.Drop
        ∷ []) ((0) + (1 + (1 + (0)))) (more (plain (step_ops step width)) (Plain (build.SetVariable i)
        ∷ Plain build.Drop
        ∷ []) (0) (1 + (1 + (0))) (omega arith) (cons (Plain (build.SetVariable i)) (Plain build.Drop
        ∷ []) (1 + (0)) (cons (Plain build.Drop) ([]) (0) (omega arith))))) in omega (arith, h)
    expr_few (Frame offset) l t =
        let h = cons (Plain (build.FrameAddress offset)) ([]) (0) (omega arith) in omega (arith, h)
    expr_few (Load width a) l t =
        let h = more (expr_pieces a l t) (Plain (build.Load width)
        ∷ []) (size_of_expr a) (1 + (0)) (expr_few a l t) (cons (Plain (build.Load width)) ([]) (0) (omega arith)) in
        omega (arith, h)
    expr_few (Store width a b) l t =
        let h = more (expr_pieces a l t) (expr_pieces b (l + labels_in a) (t + temps_in a)
        ++ Plain (build.Store width)
        ∷ []) (size_of_expr a) ((size_of_expr b) + (1 + (0))) (expr_few a l t) (more (expr_pieces b (l + labels_in a)
        (t + temps_in a)) (Plain (build.Store width)
        ∷ []) (size_of_expr b) (1 + (0)) (expr_few b (l + labels_in a) (t + temps_in a)) (cons (Plain (build.Store
        width)) ([]) (0) (omega arith))) in omega (arith, h)
    expr_few (Modify width kind a b) l t =
        let h = more (expr_pieces a l t) (Plain (build.Pick 0) ∷ Plain (build.Load width)
        ∷ (expr_pieces b (l + labels_in a) (t + temps_in a) ++ Plain (build.Bin kind) ∷ (plain (narrowing width)
        ++ Plain (build.Store width)
        ∷ []))) (size_of_expr a) (1 + (1 + ((size_of_expr b) + (1 + ((0) + (1 + (0))))))) (expr_few a l t) (cons (Plain
        (build.Pick 0)) (Plain (build.Load width) ∷ (expr_pieces b (l + labels_in a) (t + temps_in a)
        ++ Plain (build.Bin kind) ∷ (plain (narrowing width) ++ Plain (build.Store width)
        ∷ []))) (1 + ((size_of_expr b) + (1 + ((0) + (1 + (0)))))) (cons (Plain (build.Load width)) (expr_pieces b (l +
        labels_in a) (t + temps_in a) ++ Plain (build.Bin kind) ∷ (plain (narrowing width)
        ++ Plain (build.Store width)
        ∷ [])) ((size_of_expr b) + (1 + ((0) + (1 + (0))))) (more (expr_pieces b (l + labels_in a) (t + temps_in a))
        (Plain (build.Bin kind) ∷ (plain (narrowing width) ++ Plain (build.Store width)
        ∷ [])) (size_of_expr b) (1 + ((0) + (1 + (0)))) (expr_few b (l + labels_in a) (t + temps_in a)) (cons (Plain
        (build.Bin kind)) (plain (narrowing width) ++ Plain (build.Store width)
        ∷ []) ((0) + (1 + (0))) (more (plain (narrowing width)) (Plain (build.Store width)
        ∷ []) (0) (1 + (0)) (omega arith) (cons (Plain (build.Store width)) ([]) (0) (omega arith))))))) in omega
        (arith, h)
    expr_few (Post width step a) l t =
        let h = more (expr_pieces a l t) (Plain (build.Pick 0) ∷ Plain (build.Load width) ∷ Plain (build.Pick 1)
        ∷ Plain (build.Pick 1) ∷ (plain (step_ops step width) ++ Plain (build.Store width) ∷ Plain build.Drop
        ∷ Plain build.Nip
        ∷ [])) (size_of_expr a) (1 + (1 + (1 + (1 + ((0) + (1 + (1 + (1 + (0))))))))) (expr_few a l t) (cons (Plain
        (build.Pick 0)) (Plain (build.Load width) ∷ Plain (build.Pick 1) ∷ Plain (build.Pick 1)
        ∷ (plain (step_ops step width) ++ Plain (build.Store width) ∷ Plain build.Drop ∷ Plain build.Nip
        ∷ [])) (1 + (1 + (1 + ((0) + (1 + (1 + (1 + (0)))))))) (cons (Plain (build.Load width)) (Plain (build.Pick 1)
        ∷ Plain (build.Pick 1) ∷ (plain (step_ops step width) ++ Plain (build.Store width) ∷ Plain build.Drop
        ∷ Plain build.Nip
        ∷ [])) (1 + (1 + ((0) + (1 + (1 + (1 + (0))))))) (cons (Plain (build.Pick 1)) (Plain (build.Pick 1)
        ∷ (plain (step_ops step width) ++ Plain (build.Store width) ∷ Plain build.Drop ∷ Plain build.Nip
        ∷ [])) (1 + ((0) + (1 + (1 + (1 + (0)))))) (cons (Plain (build.Pick 1)) (plain (step_ops step width)
        ++ Plain (build.Store width) ∷ Plain build.Drop ∷ Plain build.Nip
        ∷ []) ((0) + (1 + (1 + (1 + (0))))) (more (plain (step_ops step width)) (Plain (build.Store width)
        ∷ Plain build.Drop ∷ Plain build.Nip
        ∷ []) (0) (1 + (1 + (1 + (0)))) (omega arith) (cons (Plain (build.Store width)) (Plain build.Drop
        ∷ Plain build.Nip ∷ []) (1 + (1 + (0))) (cons (Plain build.Drop) (Plain build.Nip
        ∷ []) (1 + (0)) (cons (Plain build.Nip) ([]) (0) (omega arith))))))))) in omega (arith, h)
    expr_few (Bin kind a b) l t =
        let h = more (expr_pieces a l t) (expr_pieces b (l + labels_in a) (t + temps_in a) ++ Plain (build.Bin kind)
        ∷ []) (size_of_expr a) ((size_of_expr b) + (1 + (0))) (expr_few a l t) (more (expr_pieces b (l + labels_in a)
        (t + temps_in a)) (Plain (build.Bin kind)
        ∷ []) (size_of_expr b) (1 + (0)) (expr_few b (l + labels_in a) (t + temps_in a)) (cons (Plain (build.Bin kind))
        ([]) (0) (omega arith))) in omega (arith, h)
    expr_few (Un kind a) l t =
        let h = more (expr_pieces a l t) (Plain (build.Un kind)
        ∷ []) (size_of_expr a) (1 + (0)) (expr_few a l t) (cons (Plain (build.Un kind)) ([]) (0) (omega arith)) in
        omega (arith, h)
    expr_few (And a b) l t =
        let h = more (expr_pieces a (l + 2) (t + 1)) (Plain (build.BranchZero l)
        ∷ (expr_pieces b (l + 2 + labels_in a) (t + 1 + temps_in a) ++ Plain (build.BranchZero l)
        ∷ plain (joins 1 0 l (l + 1) t))) (size_of_expr a) (1 + ((size_of_expr b) + (1 + (0)))) (expr_few a (l + 2) (t
        + 1)) (cons (Plain (build.BranchZero l)) (expr_pieces b (l + 2 + labels_in a) (t + 1 + temps_in a)
        ++ Plain (build.BranchZero l)
        ∷ plain (joins 1 0 l (l + 1) t)) ((size_of_expr b) + (1 + (0))) (more (expr_pieces b (l + 2 + labels_in a) (t +
        1 + temps_in a)) (Plain (build.BranchZero l)
        ∷ plain (joins 1 0 l (l + 1) t)) (size_of_expr b) (1 + (0)) (expr_few b (l + 2 + labels_in a) (t + 1 + temps_in
        a)) (cons (Plain (build.BranchZero l)) (plain (joins 1 0 l (l + 1) t)) (0) (omega arith)))) in omega (arith, h)
    expr_few (Or a b) l t =
        let h = more (expr_pieces a (l + 2) (t + 1)) (Plain (build.BranchNonzero l)
        ∷ (expr_pieces b (l + 2 + labels_in a) (t + 1 + temps_in a) ++ Plain (build.BranchNonzero l)
        ∷ plain (joins 0 1 l (l + 1) t))) (size_of_expr a) (1 + ((size_of_expr b) + (1 + (0)))) (expr_few a (l + 2) (t
        + 1)) (cons (Plain (build.BranchNonzero l)) (expr_pieces b (l + 2 + labels_in a) (t + 1 + temps_in a)
        ++ Plain (build.BranchNonzero l)
        ∷ plain (joins 0 1 l (l + 1) t)) ((size_of_expr b) + (1 + (0))) (more (expr_pieces b (l + 2 + labels_in a) (t +
        1 + temps_in a)) (Plain (build.BranchNonzero l)
        ∷ plain (joins 0 1 l (l + 1) t)) (size_of_expr b) (1 + (0)) (expr_few b (l + 2 + labels_in a) (t + 1 + temps_in
        a)) (cons (Plain (build.BranchNonzero l)) (plain (joins 0 1 l (l + 1) t)) (0) (omega arith)))) in omega (
          arith,
          h,
        )
    expr_few (Cond c a b) l t =
        let h = more (expr_pieces c (l + 2) (t + 1)) (Plain (build.BranchZero l)
        ∷ (expr_pieces a (l + 2 + labels_in c) (t + 1 + temps_in c) ++ (plain (keeping (has_value a) t)
        ++ Plain (build.Jump (l + 1)) ∷ Plain (build.Label l)
        ∷ (expr_pieces b (l + 2 + labels_in c + labels_in a) (t + 1 + temps_in c + temps_in a)
        ++ (plain (keeping (has_value a) t) ++ Plain (build.Label (l + 1))
        ∷ plain (kept (has_value a) t)))))) (size_of_expr c) (1 + ((size_of_expr a) + ((0) + (1 + (1 + ((size_of_expr
        b) + ((0) + (1 + (0))))))))) (expr_few c (l + 2) (t + 1)) (cons (Plain (build.BranchZero l)) (expr_pieces a (l
        + 2 + labels_in c) (t + 1 + temps_in c) ++ (plain (keeping (has_value a) t) ++ Plain (build.Jump (l + 1))
        ∷ Plain (build.Label l)
        ∷ (expr_pieces b (l + 2 + labels_in c + labels_in a) (t + 1 + temps_in c + temps_in a)
        ++ (plain (keeping (has_value a) t) ++ Plain (build.Label (l + 1))
        ∷ plain (kept (has_value a) t))))) ((size_of_expr a) + ((0) + (1 + (1 + ((size_of_expr b) + ((0) + (1 +
        (0)))))))) (more (expr_pieces a (l + 2 + labels_in c) (t + 1 + temps_in c)) (plain (keeping (has_value a) t)
        ++ Plain (build.Jump (l + 1)) ∷ Plain (build.Label l)
        ∷ (expr_pieces b (l + 2 + labels_in c + labels_in a) (t + 1 + temps_in c + temps_in a)
        ++ (plain (keeping (has_value a) t) ++ Plain (build.Label (l + 1))
        ∷ plain (kept (has_value a) t)))) (size_of_expr a) ((0) + (1 + (1 + ((size_of_expr b) + ((0) + (1 + (0)))))))
        (expr_few a (l + 2 + labels_in c) (t + 1 + temps_in c)) (more (plain (keeping (has_value a) t)) (Plain
        (build.Jump (l + 1)) ∷ Plain (build.Label l)
        ∷ (expr_pieces b (l + 2 + labels_in c + labels_in a) (t + 1 + temps_in c + temps_in a)
        ++ (plain (keeping (has_value a) t) ++ Plain (build.Label (l + 1))
        ∷ plain (kept (has_value a) t)))) (0) (1 + (1 + ((size_of_expr b) + ((0) + (1 + (0)))))) (omega arith) (cons
        (Plain (build.Jump (l + 1))) (Plain (build.Label l)
        ∷ (expr_pieces b (l + 2 + labels_in c + labels_in a) (t + 1 + temps_in c + temps_in a)
        ++ (plain (keeping (has_value a) t) ++ Plain (build.Label (l + 1))
        ∷ plain (kept (has_value a) t)))) (1 + ((size_of_expr b) + ((0) + (1 + (0))))) (cons (Plain (build.Label l))
        (expr_pieces b (l + 2 + labels_in c + labels_in a) (t + 1 + temps_in c + temps_in a)
        ++ (plain (keeping (has_value a) t) ++ Plain (build.Label (l + 1))
        ∷ plain (kept (has_value a) t))) ((size_of_expr b) + ((0) + (1 + (0)))) (more (expr_pieces b (l + 2 + labels_in
        c + labels_in a) (t + 1 + temps_in c + temps_in a)) (plain (keeping (has_value a) t)
        ++ Plain (build.Label (l + 1))
        ∷ plain (kept (has_value a) t)) (size_of_expr b) ((0) + (1 + (0))) (expr_few b (l + 2 + labels_in c + labels_in
        a) (t + 1 + temps_in c + temps_in a)) (more (plain (keeping (has_value a) t)) (Plain (build.Label (l + 1))
        ∷ plain (kept (has_value a) t)) (0) (1 + (0)) (omega arith) (cons (Plain (build.Label (l + 1))) (plain (kept
        (has_value a) t)) (0) (omega arith))))))))) in omega (arith, h)
    expr_few (Comma a b) l t =
        let h = more (expr_pieces a l t) (own (dropping (has_value a))
        ++ expr_pieces b (l + labels_in a) (t + temps_in a)) (size_of_expr a) ((1) + (size_of_expr b)) (expr_few a l t)
        (more (own (dropping (has_value a))) (expr_pieces b (l + labels_in a) (t + temps_in a)) (1) (size_of_expr b)
        (own_few (dropping (has_value a))) (expr_few b (l + labels_in a) (t + temps_in a))) in omega (arith, h)
    expr_few (Void a) l t =
        let h = more (expr_pieces a l t) (own (dropping (has_value a))) (size_of_expr a) (1) (expr_few a l t) (own_few
        (dropping (has_value a))) in omega (arith, h)
    expr_few (Call answer f args) l t =
        let h = more (args_pieces args l t) (Plain (build.Call (addresses.function_at f) (count args))
        ∷ plain (dropping_call answer)) (size_of_args args) (1 + (0)) (args_few args l t) (cons (Plain (build.Call
        (addresses.function_at f) (count args))) (plain (dropping_call answer)) (0) (omega arith)) in omega (arith, h)
    expr_few (CallNumber answer a args) l t =
        let h = more (expr_pieces a l t) (args_pieces args (l + labels_in a) (t + temps_in a)
        ++ Plain (build.CallNumber (count args))
        ∷ plain (dropping_call answer)) (size_of_expr a) ((size_of_args args) + (1 + (0))) (expr_few a l t) (more
        (args_pieces args (l + labels_in a) (t + temps_in a)) (Plain (build.CallNumber (count args))
        ∷ plain (dropping_call answer)) (size_of_args args) (1 + (0)) (args_few args (l + labels_in a) (t + temps_in
        a)) (cons (Plain (build.CallNumber (count args))) (plain (dropping_call answer)) (0) (omega arith))) in omega
        (arith, h)
    expr_few Getchar l t =
        let h = cons (Plain (build.Const 0)) (Plain (build.Sys sys.GetByte)
        ∷ []) (1 + (0)) (cons (Plain (build.Sys sys.GetByte)) ([]) (0) (omega arith)) in omega (arith, h)
    expr_few (Lib Putchar a) l t =
        let h = more (expr_pieces a l t) (Plain (build.Sys sys.PutByte)
        ∷ []) (size_of_expr a) (1 + (0)) (expr_few a l t) (cons (Plain (build.Sys sys.PutByte)) ([]) (0) (omega arith))
        in omega (arith, h)
    expr_few (Lib Putint a) l t =
        let h = more (expr_pieces a l t) (Plain (build.Sys sys.PutInteger) ∷ Plain build.Drop
        ∷ []) (size_of_expr a) (1 + (1 + (0))) (expr_few a l t) (cons (Plain (build.Sys sys.PutInteger)) (Plain
        build.Drop ∷ []) (1 + (0)) (cons (Plain build.Drop) ([]) (0) (omega arith))) in omega (arith, h)
    expr_few (Lib Exit a) l t =
        let h = more (expr_pieces a l t) (Plain (build.Sys sys.Exit) ∷ Plain build.Drop
        ∷ []) (size_of_expr a) (1 + (1 + (0))) (expr_few a l t) (cons (Plain (build.Sys sys.Exit)) (Plain build.Drop
        ∷ []) (1 + (0)) (cons (Plain build.Drop) ([]) (0) (omega arith))) in omega (arith, h)
    expr_few (Lib Malloc a) l t =
        let h = more (expr_pieces a l t) (Plain (build.Run run.Malloc)
        ∷ []) (size_of_expr a) (1 + (0)) (expr_few a l t) (cons (Plain (build.Run run.Malloc)) ([]) (0) (omega arith))
        in omega (arith, h)
    expr_few (Capture kind a) l t = let h = expr_few a l t in omega (arith, h)
    expr_few (Compile a) l t =
        let h = more (expr_pieces a l t) (Plain (build.Run run.Compile)
        ∷ []) (size_of_expr a) (1 + (0)) (expr_few a l t) (cons (Plain (build.Run run.Compile)) ([]) (0) (omega arith))
        in omega (arith, h)
    expr_few Local l t =
        let h = cons (Plain (build.Const 0)) (Plain (build.Run run.Local)
        ∷ []) (1 + (0)) (cons (Plain (build.Run run.Local)) ([]) (0) (omega arith)) in omega (arith, h)
    expr_few (ParamOf a) l t =
        let h = more (expr_pieces a l t) (Plain (build.Run run.Parameter)
        ∷ []) (size_of_expr a) (1 + (0)) (expr_few a l t) (cons (Plain (build.Run run.Parameter)) ([]) (0) (omega
        arith)) in omega (arith, h)
    expr_few (node.Captured k i) l t = omega arith
    expr_few (VGet i) l t = omega arith
    expr_few (VSet i a) l t =
        let h = more (expr_pieces a l t) (SetKey i ∷ []) (size_of_expr a) 1 (expr_few a l t) (omega arith) in
        omega (arith, h)
    expr_few (VPost i step) l t = omega arith
    expr_few (node.Splice answer i) l t = omega arith
    expr_few (Tick tick args) l t =
        let h = more (args_pieces args l t) (plain (making_ops addresses tick (kinds_of args))) (size_of_args args) 1
        (args_few args l t) (omega arith) in omega (arith, h)

    pub args_few : (args : Args) → (l t : ℕ) → size_of_args args ≤ length (args_pieces args l t)
    args_few NoArg l t = omega arith
    args_few (Arg a args) l t =
        let h = more (expr_pieces a l t) (args_pieces args (l + labels_in a) (t + temps_in a)) (size_of_expr a)
        (size_of_args args) (expr_few a l t) (args_few args (l + labels_in a) (t + temps_in a)) in omega (arith, h)

  mutual
    pub stmt_few : (s : Stmt) → (to : Targets) (l t : ℕ) → size_of_stmt s ≤ length (stmt_pieces s to l t)
    stmt_few (Eval e) to l t =
        let h = more (expr_pieces e l t) (own (dropping (has_value e))) (size_of_expr e) (1) (expr_few e l t) (own_few
        (dropping (has_value e))) in omega (arith, h)
    stmt_few (Block variables items) to l t =
        let h = more (items_pieces variables to l t) (items_pieces items to (l + labels_of variables) (t + temps_of
        variables)) (size_of_items variables) (size_of_items items) (items_few variables to l t) (items_few items to (l
        + labels_of variables) (t + temps_of variables)) in omega (arith, h)
    stmt_few (Variable i) to l t =
        let h = cons (Plain (build.Const 0)) (Plain (build.SetVariable i) ∷ Plain build.Drop
        ∷ []) (1 + (1 + (0))) (cons (Plain (build.SetVariable i)) (Plain build.Drop
        ∷ []) (1 + (0)) (cons (Plain build.Drop) ([]) (0) (omega arith))) in omega (arith, h)
    stmt_few (Object offset words) to l t =
        let h = cons (Plain (build.Clear offset words)) ([]) (0) (omega arith) in omega (arith, h)
    stmt_few (Parameter k width) to l t =
        let h = cons (Plain (build.Parameter k)) (plain (narrowing width) ++ Plain (build.SetVariable k)
        ∷ Plain build.Drop ∷ []) ((0) + (1 + (1 + (0)))) (more (plain (narrowing width)) (Plain (build.SetVariable k)
        ∷ Plain build.Drop
        ∷ []) (0) (1 + (1 + (0))) (omega arith) (cons (Plain (build.SetVariable k)) (Plain build.Drop
        ∷ []) (1 + (0)) (cons (Plain build.Drop) ([]) (0) (omega arith)))) in omega (arith, h)
    stmt_few (ParameterObject k width offset) to l t =
        let h = cons (Plain (build.FrameAddress offset)) (Plain (build.Parameter k) ∷ (plain (narrowing width)
        ++ Plain (build.Store width) ∷ Plain build.Drop
        ∷ [])) (1 + ((0) + (1 + (1 + (0))))) (cons (Plain (build.Parameter k)) (plain (narrowing width)
        ++ Plain (build.Store width) ∷ Plain build.Drop
        ∷ []) ((0) + (1 + (1 + (0)))) (more (plain (narrowing width)) (Plain (build.Store width) ∷ Plain build.Drop
        ∷ []) (0) (1 + (1 + (0))) (omega arith) (cons (Plain (build.Store width)) (Plain build.Drop
        ∷ []) (1 + (0)) (cons (Plain build.Drop) ([]) (0) (omega arith))))) in omega (arith, h)
    stmt_few (If e s) to l t =
        let h = more (expr_pieces e (l + 1) t) (Plain (build.BranchZero l)
        ∷ (stmt_pieces s to (l + 1 + labels_in e) (t + temps_in e) ++ Plain (build.Label l)
        ∷ [])) (size_of_expr e) (1 + ((size_of_stmt s) + (1 + (0)))) (expr_few e (l + 1) t) (cons (Plain
        (build.BranchZero l)) (stmt_pieces s to (l + 1 + labels_in e) (t + temps_in e) ++ Plain (build.Label l)
        ∷ []) ((size_of_stmt s) + (1 + (0))) (more (stmt_pieces s to (l + 1 + labels_in e) (t + temps_in e)) (Plain
        (build.Label l)
        ∷ []) (size_of_stmt s) (1 + (0)) (stmt_few s to (l + 1 + labels_in e) (t + temps_in e)) (cons (Plain
        (build.Label l)) ([]) (0) (omega arith)))) in omega (arith, h)
    stmt_few (IfElse e s r) to l t =
        let h = more (expr_pieces e (l + 2) t) (Plain (build.BranchZero l)
        ∷ (stmt_pieces s to (l + 2 + labels_in e) (t + temps_in e) ++ Plain (build.Jump (l + 1))
        ∷ Plain (build.Label l) ∷ (stmt_pieces r to (l + 2 + labels_in e + labels s) (t + temps_in e + temps s)
        ++ Plain (build.Label (l + 1))
        ∷ []))) (size_of_expr e) (1 + ((size_of_stmt s) + (1 + (1 + ((size_of_stmt r) + (1 + (0))))))) (expr_few e (l +
        2) t) (cons (Plain (build.BranchZero l)) (stmt_pieces s to (l + 2 + labels_in e) (t + temps_in e)
        ++ Plain (build.Jump (l + 1)) ∷ Plain (build.Label l)
        ∷ (stmt_pieces r to (l + 2 + labels_in e + labels s) (t + temps_in e + temps s)
        ++ Plain (build.Label (l + 1))
        ∷ [])) ((size_of_stmt s) + (1 + (1 + ((size_of_stmt r) + (1 + (0)))))) (more (stmt_pieces s to (l + 2 +
        labels_in e) (t + temps_in e)) (Plain (build.Jump (l + 1)) ∷ Plain (build.Label l)
        ∷ (stmt_pieces r to (l + 2 + labels_in e + labels s) (t + temps_in e + temps s)
        ++ Plain (build.Label (l + 1))
        ∷ [])) (size_of_stmt s) (1 + (1 + ((size_of_stmt r) + (1 + (0))))) (stmt_few s to (l + 2 + labels_in e) (t +
        temps_in e)) (cons (Plain (build.Jump (l + 1))) (Plain (build.Label l)
        ∷ (stmt_pieces r to (l + 2 + labels_in e + labels s) (t + temps_in e + temps s)
        ++ Plain (build.Label (l + 1))
        ∷ [])) (1 + ((size_of_stmt r) + (1 + (0)))) (cons (Plain (build.Label l)) (stmt_pieces r to (l + 2 + labels_in
        e + labels s) (t + temps_in e + temps s) ++ Plain (build.Label (l + 1))
        ∷ []) ((size_of_stmt r) + (1 + (0))) (more (stmt_pieces r to (l + 2 + labels_in e + labels s) (t + temps_in e +
        temps s)) (Plain (build.Label (l + 1))
        ∷ []) (size_of_stmt r) (1 + (0)) (stmt_few r to (l + 2 + labels_in e + labels s) (t + temps_in e + temps s))
        (cons (Plain (build.Label (l + 1))) ([]) (0) (omega arith))))))) in omega (arith, h)
    stmt_few (While e s) to l t =
        let h = cons (Plain (build.Label (l + 1))) (expr_pieces e (l + 2) t ++ Plain (build.BranchZero l)
        ∷ (stmt_pieces s (record { on_break = l; on_continue = l + 1 }) (l + 2 + labels_in e) (t + temps_in e)
        ++ Plain (build.Jump (l + 1)) ∷ Plain (build.Label l)
        ∷ [])) ((size_of_expr e) + (1 + ((size_of_stmt s) + (1 + (1 + (0)))))) (more (expr_pieces e (l + 2) t) (Plain
        (build.BranchZero l)
        ∷ (stmt_pieces s (record { on_break = l; on_continue = l + 1 }) (l + 2 + labels_in e) (t + temps_in e)
        ++ Plain (build.Jump (l + 1)) ∷ Plain (build.Label l)
        ∷ [])) (size_of_expr e) (1 + ((size_of_stmt s) + (1 + (1 + (0))))) (expr_few e (l + 2) t) (cons (Plain
        (build.BranchZero l)) (stmt_pieces s (record { on_break = l; on_continue = l + 1 }) (l + 2 + labels_in e) (t +
        temps_in e) ++ Plain (build.Jump (l + 1)) ∷ Plain (build.Label l)
        ∷ []) ((size_of_stmt s) + (1 + (1 + (0)))) (more (stmt_pieces s (record { on_break = l; on_continue = l + 1 })
        (l + 2 + labels_in e) (t + temps_in e)) (Plain (build.Jump (l + 1)) ∷ Plain (build.Label l)
        ∷ []) (size_of_stmt s) (1 + (1 + (0))) (stmt_few s (record { on_break = l; on_continue = l + 1 }) (l + 2 +
        labels_in e) (t + temps_in e)) (cons (Plain (build.Jump (l + 1))) (Plain (build.Label l)
        ∷ []) (1 + (0)) (cons (Plain (build.Label l)) ([]) (0) (omega arith)))))) in omega (arith, h)
    stmt_few (Do s e) to l t =
        let h = cons (Plain (build.Label (l + 1))) (stmt_pieces s (record { on_break = l; on_continue = l + 2 }) (l +
        3) t ++ Plain (build.Label (l + 2)) ∷ (expr_pieces e (l + 3 + labels s) (t + temps s)
        ++ Plain (build.BranchNonzero (l + 1)) ∷ Plain (build.Label l)
        ∷ [])) ((size_of_stmt s) + (1 + ((size_of_expr e) + (1 + (1 + (0)))))) (more (stmt_pieces s (record {
          on_break
              = l;
          on_continue = l + 2;
        }) (l + 3) t) (Plain (build.Label (l + 2))
        ∷ (expr_pieces e (l + 3 + labels s) (t + temps s) ++ Plain (build.BranchNonzero (l + 1))
        ∷ Plain (build.Label l)
        ∷ [])) (size_of_stmt s) (1 + ((size_of_expr e) + (1 + (1 + (0))))) (stmt_few s (record {
          on_break = l;
          on_continue = l + 2;
        }) (l + 3) t) (cons (Plain (build.Label (l + 2))) (expr_pieces e (l + 3 + labels s) (t +
        temps s) ++ Plain (build.BranchNonzero (l + 1)) ∷ Plain (build.Label l)
        ∷ []) ((size_of_expr e) + (1 + (1 + (0)))) (more (expr_pieces e (l + 3 + labels s) (t + temps s)) (Plain
        (build.BranchNonzero (l + 1)) ∷ Plain (build.Label l)
        ∷ []) (size_of_expr e) (1 + (1 + (0))) (expr_few e (l + 3 + labels s) (t + temps s)) (cons (Plain
        (build.BranchNonzero (l + 1))) (Plain (build.Label l)
        ∷ []) (1 + (0)) (cons (Plain (build.Label l)) ([]) (0) (omega arith)))))) in omega (arith, h)
    stmt_few (For e s) to l t =
        let h = cons (Plain (build.Label (l + 1))) (expr_pieces e (l + 3) t ++ Plain (build.BranchZero l)
        ∷ (stmt_pieces s (record { on_break = l; on_continue = l + 2 }) (l + 3 + labels_in e) (t + temps_in e)
        ++ Plain (build.Label (l + 2)) ∷ Plain (build.Jump (l + 1)) ∷ Plain (build.Label l)
        ∷ [])) ((size_of_expr e) + (1 + ((size_of_stmt s) + (1 + (1 + (1 + (0))))))) (more (expr_pieces e (l + 3) t)
        (Plain (build.BranchZero l)
        ∷ (stmt_pieces s (record { on_break = l; on_continue = l + 2 }) (l + 3 + labels_in e) (t + temps_in e)
        ++ Plain (build.Label (l + 2)) ∷ Plain (build.Jump (l + 1)) ∷ Plain (build.Label l)
        ∷ [])) (size_of_expr e) (1 + ((size_of_stmt s) + (1 + (1 + (1 + (0)))))) (expr_few e (l + 3) t) (cons (Plain
        (build.BranchZero l)) (stmt_pieces s (record { on_break = l; on_continue = l + 2 }) (l + 3 + labels_in e) (t +
        temps_in e) ++ Plain (build.Label (l + 2)) ∷ Plain (build.Jump (l + 1)) ∷ Plain (build.Label l)
        ∷ []) ((size_of_stmt s) + (1 + (1 + (1 + (0))))) (more (stmt_pieces s (record {
          on_break = l;
          on_continue = l +
              2;
        }) (l + 3 + labels_in e) (t + temps_in e)) (Plain (build.Label (l + 2)) ∷ Plain (build.Jump (l + 1))
        ∷ Plain (build.Label l)
        ∷ []) (size_of_stmt s) (1 + (1 + (1 + (0)))) (stmt_few s (record { on_break = l; on_continue = l + 2 }) (l + 3
        + labels_in e) (t + temps_in e)) (cons (Plain (build.Label (l + 2))) (Plain (build.Jump (l + 1))
        ∷ Plain (build.Label l) ∷ []) (1 + (1 + (0))) (cons (Plain (build.Jump (l + 1))) (Plain (build.Label l)
        ∷ []) (1 + (0)) (cons (Plain (build.Label l)) ([]) (0) (omega arith))))))) in omega (arith, h)
    stmt_few (ForStep e step s) to l t =
        let h = cons (Plain (build.Label (l + 1))) (expr_pieces e (l + 3) t ++ Plain (build.BranchZero l)
        ∷ (stmt_pieces s (record { on_break = l; on_continue = l + 2 }) (l + 3 + labels_in e) (t + temps_in e)
        ++ Plain (build.Label (l + 2))
        ∷ (expr_pieces step (l + 3 + labels_in e + labels s) (t + temps_in e + temps s)
        ++ (plain (dropping (has_value step)) ++ Plain (build.Jump (l + 1)) ∷ Plain (build.Label l)
        ∷ [])))) ((size_of_expr e) + (1 + ((size_of_stmt s) + (1 + ((size_of_expr step) + ((0) + (1 + (1 + (0)))))))))
        (more (expr_pieces e (l + 3) t) (Plain (build.BranchZero l)
        ∷ (stmt_pieces s (record { on_break = l; on_continue = l + 2 }) (l + 3 + labels_in e) (t + temps_in e)
        ++ Plain (build.Label (l + 2))
        ∷ (expr_pieces step (l + 3 + labels_in e + labels s) (t + temps_in e + temps s)
        ++ (plain (dropping (has_value step)) ++ Plain (build.Jump (l + 1)) ∷ Plain (build.Label l)
        ∷ [])))) (size_of_expr e) (1 + ((size_of_stmt s) + (1 + ((size_of_expr step) + ((0) + (1 + (1 + (0))))))))
        (expr_few e (l + 3) t) (cons (Plain (build.BranchZero l)) (stmt_pieces s (record {
          on_break = l;
          on_continue =
              l + 2;
        }) (l + 3 + labels_in e) (t + temps_in e) ++ Plain (build.Label (l + 2))
        ∷ (expr_pieces step (l + 3 + labels_in e + labels s) (t + temps_in e + temps s)
        ++ (plain (dropping (has_value step)) ++ Plain (build.Jump (l + 1)) ∷ Plain (build.Label l)
        ∷ []))) ((size_of_stmt s) + (1 + ((size_of_expr step) + ((0) + (1 + (1 + (0))))))) (more (stmt_pieces s (record
        { on_break = l; on_continue = l + 2 }) (l + 3 + labels_in e) (t + temps_in e)) (Plain (build.Label (l + 2))
        ∷ (expr_pieces step (l + 3 + labels_in e + labels s) (t + temps_in e + temps s)
        ++ (plain (dropping (has_value step)) ++ Plain (build.Jump (l + 1)) ∷ Plain (build.Label l)
        ∷ []))) (size_of_stmt s) (1 + ((size_of_expr step) + ((0) + (1 + (1 + (0)))))) (stmt_few s (record {
          on_break =
              l;
          on_continue = l + 2;
        }) (l + 3 + labels_in e) (t + temps_in e)) (cons (Plain (build.Label (l + 2)))
        (expr_pieces step (l + 3 + labels_in e + labels s) (t + temps_in e + temps s)
        ++ (plain (dropping (has_value step)) ++ Plain (build.Jump (l + 1)) ∷ Plain (build.Label l)
        ∷ [])) ((size_of_expr step) + ((0) + (1 + (1 + (0))))) (more (expr_pieces step (l + 3 + labels_in e + labels s)
        (t + temps_in e + temps s)) (plain (dropping (has_value step)) ++ Plain (build.Jump (l + 1))
        ∷ Plain (build.Label l)
        ∷ []) (size_of_expr step) ((0) + (1 + (1 + (0)))) (expr_few step (l + 3 + labels_in e + labels s) (t + temps_in
        e + temps s)) (more (plain (dropping (has_value step))) (Plain (build.Jump (l + 1)) ∷ Plain (build.Label l)
        ∷ []) (0) (1 + (1 + (0))) (omega arith) (cons (Plain (build.Jump (l + 1))) (Plain (build.Label l)
        ∷ []) (1 + (0)) (cons (Plain (build.Label l)) ([]) (0) (omega arith))))))))) in omega (arith, h)
    stmt_few (Switch e variables items) to l t =
        let h = more (expr_pieces e (l + 1) (t + 1)) (Plain (build.SetVariable t) ∷ Plain build.Drop ∷ ((Nothing
        ∷ items_pieces variables to (l + 1 + labels_in e) (t + 1 + temps_in e))
        ++ (plain (test_ops items (l + 1 + labels_in e + labels_of variables) t)
        ++ Plain (build.Jump (default_label items (l + 1 + labels_in e + labels_of variables) l))
        ∷ (items_pieces items (record { on_break = l; on_continue = to.on_continue }) (l + 1 + labels_in e + labels_of
        variables) (t + 1 + temps_in e + temps_of variables) ++ Plain (build.Label l)
        ∷ [])))) (size_of_expr e) (1 + (1 + ((1 + size_of_items variables) + ((0) + (1 + ((size_of_items items) + (1 +
        (0)))))))) (expr_few e (l + 1) (t + 1)) (cons (Plain (build.SetVariable t)) (Plain build.Drop ∷ ((Nothing
        ∷ items_pieces variables to (l + 1 + labels_in e) (t + 1 + temps_in e))
        ++ (plain (test_ops items (l + 1 + labels_in e + labels_of variables) t)
        ++ Plain (build.Jump (default_label items (l + 1 + labels_in e + labels_of variables) l))
        ∷ (items_pieces items (record { on_break = l; on_continue = to.on_continue }) (l + 1 + labels_in e + labels_of
        variables) (t + 1 + temps_in e + temps_of variables) ++ Plain (build.Label l)
        ∷ [])))) (1 + ((1 + size_of_items variables) + ((0) + (1 + ((size_of_items items) + (1 + (0))))))) (cons (Plain
        build.Drop) ((Nothing ∷ items_pieces variables to (l + 1 + labels_in e) (t + 1 + temps_in e))
        ++ (plain (test_ops items (l + 1 + labels_in e + labels_of variables) t)
        ++ Plain (build.Jump (default_label items (l + 1 + labels_in e + labels_of variables) l))
        ∷ (items_pieces items (record { on_break = l; on_continue = to.on_continue }) (l + 1 + labels_in e + labels_of
        variables) (t + 1 + temps_in e + temps_of variables) ++ Plain (build.Label l)
        ∷ []))) ((1 + size_of_items variables) + ((0) + (1 + ((size_of_items items) + (1 + (0)))))) (more ((Nothing
        ∷ items_pieces variables to (l + 1 + labels_in e) (t + 1 + temps_in e))) (plain (test_ops items (l + 1 +
        labels_in e + labels_of variables) t)
        ++ Plain (build.Jump (default_label items (l + 1 + labels_in e + labels_of variables) l))
        ∷ (items_pieces items (record { on_break = l; on_continue = to.on_continue }) (l + 1 + labels_in e + labels_of
        variables) (t + 1 + temps_in e + temps_of variables) ++ Plain (build.Label l)
        ∷ [])) (1 + size_of_items variables) ((0) + (1 + ((size_of_items items) + (1 + (0))))) (cons Nothing
        (items_pieces variables to (l + 1 + labels_in e) (t + 1 + temps_in e)) (size_of_items variables) (items_few
        variables to (l + 1 + labels_in e) (t + 1 + temps_in e))) (more (plain (test_ops items (l + 1 + labels_in e +
        labels_of variables) t)) (Plain (build.Jump (default_label items (l + 1 + labels_in e + labels_of variables)
        l)) ∷ (items_pieces items (record { on_break = l; on_continue = to.on_continue }) (l + 1 + labels_in e +
        labels_of variables) (t + 1 + temps_in e + temps_of variables) ++ Plain (build.Label l)
        ∷ [])) (0) (1 + ((size_of_items items) + (1 + (0)))) (omega arith) (cons (Plain (build.Jump (default_label
        items (l + 1 + labels_in e + labels_of variables) l))) (items_pieces items (record {
          on_break = l;
          on_continue
              = to.on_continue;
        }) (l + 1 + labels_in e + labels_of variables) (t + 1 + temps_in e + temps_of variables)
        ++ Plain (build.Label l)
        ∷ []) ((size_of_items items) + (1 + (0))) (more (items_pieces items (record {
          on_break = l;
          on_continue =
              to.on_continue;
        }) (l + 1 + labels_in e + labels_of variables) (t + 1 + temps_in e + temps_of variables)) (Plain
        (build.Label l)
        ∷ []) (size_of_items items) (1 + (0)) (items_few items (record { on_break = l; on_continue = to.on_continue })
        (l + 1 + labels_in e + labels_of variables) (t + 1 + temps_in e + temps_of variables)) (cons (Plain
        (build.Label l)) ([]) (0) (omega arith)))))))) in omega (arith, h)
    stmt_few (Case value) to l t = let h = cons (Plain (build.Label l)) ([]) (0) (omega arith) in omega (arith, h)
    stmt_few Default to l t = let h = cons (Plain (build.Label l)) ([]) (0) (omega arith) in omega (arith, h)
    stmt_few Break to l t = let h = cons (Plain (build.Jump to.on_break)) ([]) (0) (omega arith) in omega (arith, h)
    stmt_few Continue to l t =
        let h = cons (Plain (build.Jump to.on_continue)) ([]) (0) (omega arith) in omega (arith, h)
    stmt_few Return to l t = let h = cons (Plain build.ReturnZero) ([]) (0) (omega arith) in omega (arith, h)
    stmt_few (ReturnValue e) to l t =
        let h = more (expr_pieces e l t) (Plain build.Return
        ∷ []) (size_of_expr e) (1 + (0)) (expr_few e l t) (cons (Plain build.Return) ([]) (0) (omega arith)) in omega
        (arith, h)

    pub items_few : (items : Items) → (to : Targets) (l t : ℕ) →
        size_of_items items ≤ length (items_pieces items to l t)
    items_few NoItem to l t = omega arith
    items_few (Item s items) to l t =
        let h = more (stmt_pieces s to l t) (items_pieces items to (l + labels s) (t + temps s)) (size_of_stmt s)
        (size_of_items items) (stmt_few s to l t) (items_few items to (l + labels s) (t + temps s)) in omega (arith, h)

  pub tick_few : (tick : TickOf) → tick_size (Some tick) ≤ length (tick_pieces addresses tick)
  tick_few (OfExpression e) =
      let h = more (expr_pieces e 0 0) (Plain build.Leave ∷ []) (size_of_expr e) 1 (expr_few e 0 0) (omega arith) in
      omega (arith, h)
  tick_few (OfStatement s) =
      let h = more (stmt_pieces s nowhere 0 (variables_in s)) (Plain build.Leave ∷ []) (size_of_stmt s) 1
      (stmt_few s nowhere 0 (variables_in s)) (omega arith) in
      omega (arith, h)
