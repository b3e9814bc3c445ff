-- What the walk adds, part by part, are the pieces of the tree.
use Rattle.std.proofs.Common.{◌≡◌, ℕ, ◌+◌, List, [], ◌∷◌, ◌++◌, refl, ap, sym, ◌∙◌}
use Rattle.std.proofs.Common.{append_assoc, arith}
use Rattle.std.proofs.lemmas.List.{append-nil}
use Rattle.word32.specs.declared.width.Width.{Width}
use Rattle.icode_ops.specs.declared.kind.BinKind.{BinKind}
use Rattle.icode_ops.specs.declared.kind.BinKind.TheVariants.{Add}
use Rattle.icode_ops.specs.declared.kind.RunKind.TheVariants as run
use Rattle.icode_ir.specs.declared.build_op.BuildOp.{BuildOp}
use Rattle.icode_ir.specs.declared.build_op.BuildOp.TheVariants as build
use Rattle.typed_tree.specs.declared.expression.Answer.{Answer}
use Rattle.typed_tree.specs.declared.expression.Library.{Library}
use Rattle.typed_tree.specs.declared.expression.Library.TheVariants as library
use Rattle.typed_tree.specs.Nodes as node
use Rattle.typed_tree.specs.Nodes.{Expr, Args, has_value, count}
use Rattle.staged_meaning.specs.Size.{labels_in, labels_in_args, temps_in, temps_in_args}
use Rattle.staged_meaning.specs.Specifications.{kinds_of}
use Rattle.tick_lower_spec.specs.Lower.{making_ops}
use Rattle.tick_lower_spec.specs.Lower.{Addresses, narrowing, dropping, dropping_call, keeping, kept, step_ops, joins}
use Rattle.tick_lower_spec.specs.declared.piece.Piece.{Piece}
use Rattle.tick_lower_spec.specs.declared.piece.Piece.TheVariants.{Plain, GetKey, SetKey, Nothing}
use Rattle.tick_lower_spec.specs.TickPieces.{plain, own, expr_pieces, args_pieces}
use Rattle.lowering_pieces.specs.declared.pieces.Pieces.{Pieces}
use Rattle.lowering_pieces.specs.Steps.{put, op, labelled, with_variable, library_pieces, walk, walk_args}

pub same : (o : Pieces) (l m : List Piece) (i j t u : ℕ) → l ≡ m → i ≡ j → t ≡ u
    → (let p : Pieces = record o { list = l; label = i; variable = t } in p)
    ≡ (let q : Pieces = record o { list = m; label = j; variable = u } in q)
same o l m i j t u p q r = cc

module _ (addresses : Addresses) where
  -- the pieces of an expression, and of arguments, behind those of the nodes so far
  unfoldable pub behind : Expr → Pieces → Pieces
  behind e o = record o {
    list = o.list ++ expr_pieces addresses e o.label o.variable;
    label = o.label + labels_in e;
    variable = o.variable + temps_in e;
  }

  unfoldable pub behind_args : Args → Pieces → Pieces
  behind_args args o = record o {
    list = o.list ++ args_pieces addresses args o.label o.variable;
    label = o.label + labels_in_args args;
    variable = o.variable + temps_in_args args;
  }

  -- one piece, or some that name no part
  alone : (e : Expr) (more : List Piece) (o : Pieces) → expr_pieces addresses e o.label o.variable ≡ more
      → labels_in e ≡ 0 → temps_in e ≡ 0 → put more o ≡ behind e o
  unfolding behind
  alone e more o pieces none own =
      same o _ _ _ _ _ _ (ap (λ z. o.list ++ z) (sym pieces)) (omega (arith, none)) (omega (arith, own))

  -- ---- nodes of one part, of two, and with two ways

  module _ (o : Pieces) where
    one_part : (e a : Expr) (more : List Piece)
        → expr_pieces addresses e o.label o.variable ≡ expr_pieces addresses a o.label o.variable ++ more
        → labels_in e ≡ labels_in a → temps_in e ≡ temps_in a → put more (behind a o) ≡ behind e o
    unfolding behind
    one_part e a more pieces l t =
        same o _ _ _ _ _ _
        (append_assoc o.list (expr_pieces addresses a o.label o.variable) more ∙ ap (λ z. o.list ++ z) (sym pieces))
        (ap (λ n. o.label + n) (sym l)) (ap (λ n. o.variable + n) (sym t))

    under : (e a : Expr)
        → expr_pieces addresses e o.label o.variable ≡ Nothing ∷ expr_pieces addresses a o.label o.variable
        → labels_in e ≡ labels_in a → temps_in e ≡ temps_in a → behind a (put (Nothing ∷ []) o) ≡ behind e o
    unfolding behind
    under e a pieces l t =
        same o _ _ _ _ _ _
        (append_assoc o.list (Nothing ∷ []) (expr_pieces addresses a o.label o.variable)
        ∙ ap (λ z. o.list ++ z) (sym pieces))
        (ap (λ n. o.label + n) (sym l)) (ap (λ n. o.variable + n) (sym t))

    post_step : (i : ℕ) (w : Width) (step : ℕ)
        → put (plain (build.SetVariable i ∷ build.Drop ∷ [])) (put (plain (step_ops step w))
        (put (plain (build.GetVariable i ∷ build.Pick 0 ∷ [])) o)) ≡ behind (node.PostVar i w step) o
    unfolding behind
    post_step i w step = same o _ _ _ _ _ _ (simp append_assoc) (omega arith) (omega arith)

    key_step : (i step : ℕ)
        → op build.Drop (put (SetKey i ∷ [])
        (put (plain (build.Pick 0 ∷ build.Const step ∷ build.Bin Add ∷ [])) (put (GetKey i ∷ []) o)))
        ≡ behind (node.VPost i step) o
    unfolding behind
    key_step i step = same o _ _ _ _ _ _ (simp append_assoc) (omega arith) (omega arith)

    store_step : (w : Width) (a b : Expr)
        → op (build.Store w) (behind b (behind a o)) ≡ behind (node.Store w a b) o
    unfolding behind
    store_step w a b = same o _ _ _ _ _ _ (simp append_assoc) (omega arith) (omega arith)

    modify_step : (w : Width) (k : BinKind) (a b : Expr)
        → op (build.Store w) (put (plain (narrowing w)) (op (build.Bin k) (behind b
        (put (plain (build.Pick 0 ∷ build.Load w ∷ [])) (behind a o))))) ≡ behind (node.Modify w k a b) o
    unfolding behind
    modify_step w k a b = same o _ _ _ _ _ _ (simp append_assoc) (omega arith) (omega arith)

    place_step : (w : Width) (step : ℕ) (a : Expr)
        → put (plain (build.Store w ∷ build.Drop ∷ build.Nip ∷ [])) (put (plain (step_ops step w))
        (put (plain (build.Pick 0 ∷ build.Load w ∷ build.Pick 1 ∷ build.Pick 1 ∷ [])) (behind a o)))
        ≡ behind (node.Post w step a) o
    unfolding behind
    place_step w step a = same o _ _ _ _ _ _ (simp append_assoc) (omega arith) (omega arith)

    bin_step : (k : BinKind) (a b : Expr) → op (build.Bin k) (behind b (behind a o)) ≡ behind (node.Bin k a b) o
    unfolding behind
    bin_step k a b = same o _ _ _ _ _ _ (simp append_assoc) (omega arith) (omega arith)

    comma_step : (a b : Expr)
        → behind b (put (own (dropping (has_value a))) (behind a o)) ≡ behind (node.Comma a b) o
    unfolding behind
    comma_step a b = same o _ _ _ _ _ _ (simp append_assoc) (omega arith) (omega arith)

    -- an operand and the branch behind it
    abbrev tested : BuildOp → Expr → Pieces → Pieces
    tested branch a p = op branch (behind a p)

    abbrev parted : Pieces
    parted = with_variable (labelled 2 o)

    and_step : (a b : Expr)
        → put (plain (joins 1 0 o.label (o.label + 1) o.variable))
        (tested (build.BranchZero o.label) b (tested (build.BranchZero o.label) a parted)) ≡ behind (node.And a b) o
    unfolding behind
    and_step a b = same o _ _ _ _ _ _ (simp append_assoc) (omega arith) (omega arith)

    or_step : (a b : Expr)
        → put (plain (joins 0 1 o.label (o.label + 1) o.variable))
        (tested (build.BranchNonzero o.label) b (tested (build.BranchNonzero o.label) a parted))
        ≡ behind (node.Or a b) o
    unfolding behind
    or_step a b = same o _ _ _ _ _ _ (simp append_assoc) (omega arith) (omega arith)

    cond_step : (c a b : Expr)
        → put (plain (kept (has_value a) o.variable)) (op (build.Label (o.label + 1))
        (put (plain (keeping (has_value a) o.variable)) (behind b
        (put (Plain (build.Jump (o.label + 1)) ∷ Plain (build.Label o.label) ∷ [])
        (put (plain (keeping (has_value a) o.variable)) (behind a (tested (build.BranchZero o.label) c parted)))))))
        ≡ behind (node.Cond c a b) o
    unfolding behind
    cond_step c a b = same o _ _ _ _ _ _ (simp append_assoc) (omega arith) (omega arith)

    no_arg : behind_args node.NoArg o ≡ o
    unfolding behind_args
    no_arg = same o _ _ _ _ _ _ (append-nil o.list) (omega arith) (omega arith)

    one_arg : (a : Expr) (args : Args) → behind_args args (behind a o) ≡ behind_args (node.Arg a args) o
    unfolding behind behind_args
    one_arg a args = same o _ _ _ _ _ _ (simp append_assoc) (omega arith) (omega arith)

    call_step : (answer : Answer) (f : ℕ) (args : Args)
        → put (plain (dropping_call answer)) (op (build.Call (addresses.function_at f) (count args))
        (behind_args args o)) ≡ behind (node.Call answer f args) o
    unfolding behind behind_args
    call_step answer f args = same o _ _ _ _ _ _ (simp append_assoc) refl refl

    number_step : (answer : Answer) (a : Expr) (args : Args)
        → put (plain (dropping_call answer)) (op (build.CallNumber (count args)) (behind_args args (behind a o)))
        ≡ behind (node.CallNumber answer a args) o
    unfolding behind behind_args
    number_step answer a args = same o _ _ _ _ _ _ (simp append_assoc) (omega arith) (omega arith)

    tick_step : (t : ℕ) (args : Args)
        → put (plain (making_ops addresses t (kinds_of args))) (behind_args args o) ≡ behind (node.Tick t args) o
    unfolding behind behind_args
    tick_step t args = same o _ _ _ _ _ _ (simp append_assoc) refl refl

    library_step : (f : Library) (a : Expr) → put (library_pieces f) (behind a o) ≡ behind (node.Lib f a) o
    library_step library.Putchar a = one_part (node.Lib library.Putchar a) a _ refl refl refl
    library_step library.Putint a = one_part (node.Lib library.Putint a) a _ refl refl refl
    library_step library.Exit a = one_part (node.Lib library.Exit a) a _ refl refl refl
    library_step library.Malloc a = one_part (node.Lib library.Malloc a) a _ refl refl refl

  -- ---- every expression

  mutual
    pub walked : (e : Expr) (o : Pieces) → walk addresses e o ≡ behind e o
    walked (node.Const word) o = alone (node.Const word) _ o refl refl refl
    walked (node.Captured word i) o = alone (node.Captured word i) _ o refl refl refl
    walked (node.Var i) o = alone (node.Var i) _ o refl refl refl
    walked (node.SetVar i a) o =
        ap (λ z. op (build.SetVariable i) z) (walked a o) ∙ one_part o (node.SetVar i a) a _ refl refl refl
    walked (node.PostVar i w step) o = post_step o i w step
    walked (node.VGet i) o = alone (node.VGet i) _ o refl refl refl
    walked (node.VSet i a) o =
        ap (λ z. put (SetKey i ∷ []) z) (walked a o) ∙ one_part o (node.VSet i a) a _ refl refl refl
    walked (node.VPost i step) o = key_step o i step
    walked (node.Frame offset) o = alone (node.Frame offset) _ o refl refl refl
    walked (node.Load w a) o =
        ap (λ z. op (build.Load w) z) (walked a o) ∙ one_part o (node.Load w a) a _ refl refl refl
    walked (node.Store w a b) o =
        ap (λ z. op (build.Store w) (walk addresses b z)) (walked a o)
        ∙ ap (λ z. op (build.Store w) z) (walked b (behind a o)) ∙ store_step o w a b
    walked (node.Modify w k a b) o =
        let loaded : Pieces → Pieces = λ z. put (plain (build.Pick 0 ∷ build.Load w ∷ [])) z in
        let stored : Pieces → Pieces = λ z. op (build.Store w) (put (plain (narrowing w)) (op (build.Bin k) z)) in
        ap (λ z. stored (walk addresses b (loaded z))) (walked a o)
        ∙ ap (λ z. stored z) (walked b (loaded (behind a o))) ∙ modify_step o w k a b
    walked (node.Post w step a) o =
        ap (λ z. put (plain (build.Store w ∷ build.Drop ∷ build.Nip ∷ [])) (put (plain (step_ops step w))
        (put (plain (build.Pick 0 ∷ build.Load w ∷ build.Pick 1 ∷ build.Pick 1 ∷ [])) z))) (walked a o)
        ∙ place_step o w step a
    walked (node.Bin k a b) o =
        ap (λ z. op (build.Bin k) (walk addresses b z)) (walked a o)
        ∙ ap (λ z. op (build.Bin k) z) (walked b (behind a o)) ∙ bin_step o k a b
    walked (node.Un k a) o = ap (λ z. op (build.Un k) z) (walked a o) ∙ one_part o (node.Un k a) a _ refl refl refl
    walked (node.And a b) o =
        let ends : Pieces → Pieces =
        λ z. put (plain (joins 1 0 o.label (o.label + 1) o.variable)) (op (build.BranchZero o.label) z) in
        let first : Pieces → Pieces = λ z. op (build.BranchZero o.label) z in
        ap (λ z. ends (walk addresses b (first z))) (walked a (with_variable (labelled 2 o)))
        ∙ ap (λ z. ends z) (walked b (first (behind a (with_variable (labelled 2 o))))) ∙ and_step o a b
    walked (node.Or a b) o =
        let ends : Pieces → Pieces =
        λ z. put (plain (joins 0 1 o.label (o.label + 1) o.variable)) (op (build.BranchNonzero o.label) z) in
        let first : Pieces → Pieces = λ z. op (build.BranchNonzero o.label) z in
        ap (λ z. ends (walk addresses b (first z))) (walked a (with_variable (labelled 2 o)))
        ∙ ap (λ z. ends z) (walked b (first (behind a (with_variable (labelled 2 o))))) ∙ or_step o a b
    walked (node.Cond c a b) o =
        let begun : Pieces = with_variable (labelled 2 o) in
        let test : Pieces → Pieces = λ z. op (build.BranchZero o.label) z in
        let turn : Pieces → Pieces =
        λ z. put (Plain (build.Jump (o.label + 1)) ∷ Plain (build.Label o.label) ∷ [])
        (put (plain (keeping (has_value a) o.variable)) z) in
        let ends : Pieces → Pieces =
        λ z. put (plain (kept (has_value a) o.variable)) (op (build.Label (o.label + 1))
        (put (plain (keeping (has_value a) o.variable)) z)) in
        ap (λ z. ends (walk addresses b (turn (walk addresses a (test z))))) (walked c begun)
        ∙ ap (λ z. ends (walk addresses b (turn z))) (walked a (test (behind c begun)))
        ∙ ap (λ z. ends z) (walked b (turn (behind a (test (behind c begun))))) ∙ cond_step o c a b
    walked (node.Comma a b) o =
        ap (λ z. walk addresses b (put (own (dropping (has_value a))) z)) (walked a o)
        ∙ walked b (put (own (dropping (has_value a))) (behind a o)) ∙ comma_step o a b
    walked (node.Void a) o =
        ap (λ z. put (own (dropping (has_value a))) z) (walked a o) ∙ one_part o (node.Void a) a _ refl refl refl
    walked (node.Call answer f args) o =
        ap (λ z. put (plain (dropping_call answer)) (op (build.Call (addresses.function_at f) (count args)) z))
        (walked_args args o) ∙ call_step o answer f args
    walked (node.CallNumber answer a args) o =
        let called : Pieces → Pieces =
        λ z. put (plain (dropping_call answer)) (op (build.CallNumber (count args)) z) in
        ap (λ z. called (walk_args addresses args z)) (walked a o)
        ∙ ap (λ z. called z) (walked_args args (behind a o)) ∙ number_step o answer a args
    walked node.Getchar o = alone node.Getchar _ o refl refl refl
    walked (node.Lib f a) o = ap (λ z. put (library_pieces f) z) (walked a o) ∙ library_step o f a
    walked (node.Tick t args) o =
        ap (λ z. put (plain (making_ops addresses t (kinds_of args))) z) (walked_args args o) ∙ tick_step o t args
    walked (node.Capture k a) o =
        walked a (put (Nothing ∷ []) o) ∙ under o (node.Capture k a) a refl refl refl
    walked (node.Splice answer i) o = alone (node.Splice answer i) _ o refl refl refl
    walked (node.Compile a) o =
        ap (λ z. op (build.Run run.Compile) z) (walked a o) ∙ one_part o (node.Compile a) a _ refl refl refl
    walked node.Local o = alone node.Local _ o refl refl refl
    walked (node.ParamOf a) o =
        ap (λ z. op (build.Run run.Parameter) z) (walked a o) ∙ one_part o (node.ParamOf a) a _ refl refl refl

    pub walked_args : (args : Args) (o : Pieces) → walk_args addresses args o ≡ behind_args args o
    walked_args node.NoArg o = sym (no_arg o)
    walked_args (node.Arg a args) o =
        ap (λ z. walk_args addresses args z) (walked a o) ∙ walked_args args (behind a o) ∙ one_arg o a args
