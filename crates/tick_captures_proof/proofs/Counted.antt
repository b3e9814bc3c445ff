-- What the nodes of a tree name, counted in the row of their names and in the tree.
use Rattle.std.proofs.Common.{◌≡◌, ℕ, zero, suc, ◌+◌, ◌<◌, ◌≤◌, Bool, true, false, if◌then◌else◌, nat_eq, List, [], ◌∷◌}
use Rattle.std.proofs.Common.{◌++◌, length, slice_get, Some, None, refl, sym, ap, ◌∙◌, ◌⊎◌, inl, inr, arith}
use Rattle.std.proofs.Common.{map, length-append, append_assoc}
use Rattle.std.proofs.lemmas.Bool.Decides.{nat_tests}
use Rattle.typed_tree.specs.declared.expression.CaptureKind.{CaptureKind}
use Rattle.typed_tree.specs.declared.expression.Expr.TheOpen.{Expr-F}
use Rattle.typed_tree.specs.Folds.{Rules, total}
use Rattle.typed_tree.specs.Measures.{together, all_together}
use Rattle.typed_tree.specs.Nodes as node
use Rattle.typed_tree.specs.Nodes.{Const, Var, SetVar, PostVar, VGet, VSet, VPost, Frame, Load, Store, Modify, Post}
use Rattle.typed_tree.specs.Nodes.{Bin, Un, And, Or, Cond, Comma, Void, Call, CallNumber, Getchar, Lib, Tick, Capture}
use Rattle.typed_tree.specs.Nodes.{Compile, Local, ParamOf, Expr, Args, NoArg, Arg, Stmt, Eval, Block, Variable}
use Rattle.typed_tree.specs.Nodes.{Object, Parameter, ParameterObject, If, IfElse, While, Do, For, ForStep, Switch}
use Rattle.typed_tree.specs.Nodes.{Case, Default, Break, Continue, Return, ReturnValue, Items, NoItem, Item}
use Rattle.typed_tree.specs.Nodes.{fold_expr, fold_args, fold_stmt, fold_items}
use Rattle.tick_captures.specs.Captures.{Name, Nothing, Names, row, own, captures_from}
use Rattle.tick_captures.specs.Captures as captures
use Rattle.wellformed.specs.Captured.{again}
use Rattle.tick_captures_proof.specs.Laws.{kind_of}
use Rattle.tick_captures_proof.proofs.Rows.{behind, behind_captures, again_same, names, names_of}

-- ---- in a row

abbrev pub counted : (Name → ℕ) → List Name → ℕ
counted f [] = 0
counted f (n ∷ ns) = f n + counted f ns

pub counted_both : (f : Name → ℕ) (ms ns : List Name) → counted f (ms ++ ns) ≡ counted f ms + counted f ns
counted_both f [] ns = omega arith
counted_both f (m ∷ ms) ns = let l = counted_both f ms ns in omega (arith, l)

-- a member that is behind those of a list, and the first of them
behind_all : {A : Type 0} (xs : List A) (i : ℕ) → length xs ≤ i → slice_get xs i ≡ None
behind_all [] i le = refl
behind_all (x ∷ xs) zero le = absurd (omega (arith, le))
behind_all (x ∷ xs) (suc i) le = behind_all xs i (omega (arith, le))

just_behind : {A : Type 0} (xs ys : List A) (y : A) (i : ℕ) → i ≡ length xs → slice_get (xs ++ (y ∷ ys)) i ≡ Some y
just_behind [] ys y zero e = refl
just_behind [] ys y (suc i) e = absurd (omega (arith, e))
just_behind (x ∷ xs) ys y zero e = absurd (omega (arith, e))
just_behind (x ∷ xs) ys y (suc i) e = just_behind xs ys y i (omega (arith, e))

-- Where a row names captures of these kinds behind some others, each new one is named in it by a name of its own: the
-- first that names it.
module _ (f : Name → ℕ) (k : CaptureKind) (i : ℕ) (counts : 1 ≤ f (Names k i)) where
  first_named : (j : ℕ) (m : CaptureKind) (ns : List Name) (ks kinds : List CaptureKind) →
      (length ks < i) ⊎ (i ≡ length ks) → nat_eq (length ks) j ≡ true → slice_get kinds i ≡ Some k →
      behind ns (Some (ks ++ m ∷ [])) ≡ Some kinds →
      (length (ks ++ m ∷ []) ≤ i → 1 ≤ counted f ns) → 1 ≤ f (Names m j) + counted f ns
  first_named j m ns ks kinds (inl later) is at h rest =
      let l = length-append ks (m ∷ []) in
      let more = rest (omega (arith, l, later)) in omega (arith, more)
  first_named j m ns ks kinds (inr now) is at h rest =
      let whole = behind_captures ns (ks ++ m ∷ []) kinds 0 h in
      let same_number : length ks ≡ j = grind (arith, nat_tests) in
      let there : slice_get kinds i ≡ Some m =
      ap (λ z. slice_get z i) (whole ∙ append_assoc ks (m ∷ []) (map kind_of
      (captures_from (length (ks ++ m ∷ [])) 0 ns)))
      ∙ just_behind ks (map kind_of (captures_from (length (ks ++ m ∷ [])) 0 ns)) m i now in
      let both : Some m ≡ Some k = sym there ∙ at in
      let kind : m ≡ k = cc in
      let number : j ≡ i = sym same_number ∙ sym now in
      let own : f (Names m j) ≡ f (Names k i) = ap (λ z. f (Names z j)) kind ∙ ap (λ z. f (Names k z)) number in
      omega (arith, own, counts)

  at_or_behind : (n : ℕ) → n ≤ i → (n < i) ⊎ (i ≡ n)
  at_or_behind n le = by (nat_eq n i) refl
    where
      by : (b : Bool) → nat_eq n i ≡ b → (n < i) ⊎ (i ≡ n)
      by true e = inr (let same : i ≡ n = grind (arith, nat_tests) in same)
      by false e = inl (let less : n < i = grind (arith, nat_tests) in less)

  one_named : (m : CaptureKind) (j : ℕ) (ns : List Name) (ks kinds : List CaptureKind) (b : Bool) →
      nat_eq (length ks) j ≡ b → slice_get kinds i ≡ Some k → length ks ≤ i →
      behind ns (if b then Some (ks ++ m ∷ []) else again m ks) ≡ Some kinds →
      ((ms : List CaptureKind) → behind ns (Some ms) ≡ Some kinds → length ms ≤ i → 1 ≤ counted f ns)
      → 1 ≤ f (Names m j) + counted f ns
  one_named m j ns ks kinds true is at le h rest =
      first_named j m ns ks kinds (at_or_behind (length ks) le) is at h (rest (ks ++ m ∷ []) h)
  one_named m j ns ks kinds false is at le h rest =
      let more = rest ks (again_same m ns ks kinds h) le in omega (arith, more)

  pub each_named : (ns : List Name) (ks kinds : List CaptureKind) → behind ns (Some ks) ≡ Some kinds →
      slice_get kinds i ≡ Some k → length ks ≤ i → 1 ≤ counted f ns
  each_named [] ks kinds h at le =
      let same : ks ≡ kinds = cc in
      let none : slice_get kinds i ≡ None = ap (λ z. slice_get z i) (sym same) ∙ behind_all ks i le in absurd cc
  each_named (Nothing ∷ ns) ks kinds h at le =
      let more = each_named ns ks kinds h at le in omega (arith, more)
  each_named (Names m j ∷ ns) ks kinds h at le =
      one_named m j ns ks kinds (nat_eq (length ks) j) refl at le h
      (λ ms g low. each_named ns ms kinds g at low)

-- ---- trees

abbrev pub rows : Items → List Name
rows is = row (fold_items captures.rules is)

abbrev pub arg_rows : Args → List Name
arg_rows args = row (fold_args captures.expr_rule args)

-- a count of the nodes of a tree by what each names
module _ (f : Name → ℕ) (none : f Nothing ≡ 0) (rule : Expr-F ℕ → ℕ)
    (is : (e : Expr-F ℕ) → rule e ≡ f (own e) + together e) where
  abbrev rules : Rules ℕ ℕ
  rules = record { expr = rule; stmt = all_together }

  abbrev nodes_in : Expr → ℕ
  nodes_in = fold_expr rule

  abbrev nodes_in_args : Args → ℕ
  nodes_in_args args = total (fold_args rule args)

  abbrev nodes_of : Stmt → ℕ
  nodes_of = fold_stmt rules

  abbrev nodes_of_items : Items → ℕ
  nodes_of_items items = total (fold_items rules items)

  two : (a b : Expr) → counted f (names a) ≡ nodes_in a → counted f (names b) ≡ nodes_in b →
      counted f (names a ++ names b) ≡ nodes_in a + nodes_in b
  two a b h k = let l = counted_both f (names a) (names b) in omega (arith, l, h, k)

  mutual
    pub expr_counted : (e : Expr) → counted f (names e) ≡ nodes_in e
    expr_counted (Const w) = omega (arith, is (Expr-F.Const w))
    expr_counted (node.Captured w j) = omega (arith, is (Expr-F.Captured w j))
    expr_counted (Var j) = omega (arith, is (Expr-F.Var j))
    expr_counted (PostVar j w s) = omega (arith, is (Expr-F.PostVar j w s))
    expr_counted (VGet j) = omega (arith, is (Expr-F.VGet j))
    expr_counted (VPost j s) = omega (arith, is (Expr-F.VPost j s))
    expr_counted (Frame o) = omega (arith, is (Expr-F.Frame o))
    expr_counted Getchar = omega (arith, is Expr-F.Getchar)
    expr_counted Local = omega (arith, is Expr-F.Local)
    expr_counted (SetVar j a) = omega (arith, is (Expr-F.SetVar j (nodes_in a)), expr_counted a)
    expr_counted (VSet j a) = omega (arith, is (Expr-F.VSet j (nodes_in a)), expr_counted a)
    expr_counted (Load w a) = omega (arith, is (Expr-F.Load w (nodes_in a)), expr_counted a)
    expr_counted (Post w s a) = omega (arith, is (Expr-F.Post w s (nodes_in a)), expr_counted a)
    expr_counted (Un k a) = omega (arith, is (Expr-F.Un k (nodes_in a)), expr_counted a)
    expr_counted (Void a) = omega (arith, is (Expr-F.Void (nodes_in a)), expr_counted a)
    expr_counted (Lib g a) = omega (arith, is (Expr-F.Lib g (nodes_in a)), expr_counted a)
    expr_counted (Capture k a) = omega (arith, is (Expr-F.Capture k (nodes_in a)), expr_counted a)
    expr_counted (Compile a) = omega (arith, is (Expr-F.Compile (nodes_in a)), expr_counted a)
    expr_counted (ParamOf a) = omega (arith, is (Expr-F.ParamOf (nodes_in a)), expr_counted a)
    expr_counted (Store w a b) =
        omega (arith, is (Expr-F.Store w (nodes_in a) (nodes_in b)), two a b (expr_counted a) (expr_counted b))
    expr_counted (Modify w k a b) =
        omega (arith, is (Expr-F.Modify w k (nodes_in a) (nodes_in b)), two a b (expr_counted a) (expr_counted b))
    expr_counted (Bin k a b) =
        omega (arith, is (Expr-F.Bin k (nodes_in a) (nodes_in b)), two a b (expr_counted a) (expr_counted b))
    expr_counted (And a b) =
        omega (arith, is (Expr-F.And (nodes_in a) (nodes_in b)), two a b (expr_counted a) (expr_counted b))
    expr_counted (Or a b) =
        omega (arith, is (Expr-F.Or (nodes_in a) (nodes_in b)), two a b (expr_counted a) (expr_counted b))
    expr_counted (Comma a b) =
        omega (arith, is (Expr-F.Comma (nodes_in a) (nodes_in b)), two a b (expr_counted a) (expr_counted b))
    expr_counted (Cond c a b) =
        let l = counted_both f (names c) (names a ++ names b) in
        omega (
          arith,
          is (Expr-F.Cond (nodes_in c) (nodes_in a) (nodes_in b)),
          l,
          two a b (expr_counted a) (expr_counted b),
          expr_counted c,
        )
    expr_counted (Call r g args) =
        omega (arith, is (Expr-F.Call r g (fold_args rule args)), args_counted args)
    expr_counted (CallNumber r a args) =
        let l = counted_both f (names a) (arg_rows args) in
        omega (
          arith,
          is (Expr-F.CallNumber r (nodes_in a) (fold_args rule args)),
          l,
          expr_counted a,
          args_counted args,
        )
    expr_counted (Tick t args) = omega (arith, is (Expr-F.Tick t (fold_args rule args)), args_counted args)
    expr_counted (node.Splice r j) = omega (arith, is (Expr-F.Splice r j))

    args_counted : (args : Args) → counted f (arg_rows args) ≡ nodes_in_args args
    args_counted NoArg = refl
    args_counted (Arg a args) =
        let l = counted_both f (names a) (arg_rows args) in omega (arith, l, expr_counted a, args_counted args)

  mutual
    pub stmt_counted : (s : Stmt) → counted f (names_of s) ≡ nodes_of s
    stmt_counted (Eval e) = omega (arith, none, expr_counted e)
    stmt_counted (Block vs items) =
        let l = counted_both f (rows vs) (rows items) in
        omega (arith, none, l, items_counted vs, items_counted items)
    stmt_counted (Variable j) = omega (arith, none)
    stmt_counted (Object o w) = omega (arith, none)
    stmt_counted (Parameter k w) = omega (arith, none)
    stmt_counted (ParameterObject k w o) = omega (arith, none)
    stmt_counted (If e a) =
        let l = counted_both f (names e) (names_of a) in omega (arith, none, l, expr_counted e, stmt_counted a)
    stmt_counted (IfElse e a b) =
        let l = counted_both f (names e) (names_of a ++ names_of b) in
        let m = counted_both f (names_of a) (names_of b) in
        omega (arith, none, l, m, expr_counted e, stmt_counted a, stmt_counted b)
    stmt_counted (While e a) =
        let l = counted_both f (names e) (names_of a) in omega (arith, none, l, expr_counted e, stmt_counted a)
    stmt_counted (Do a e) =
        let l = counted_both f (names_of a) (names e) in omega (arith, none, l, expr_counted e, stmt_counted a)
    stmt_counted (For e a) =
        let l = counted_both f (names e) (names_of a) in omega (arith, none, l, expr_counted e, stmt_counted a)
    stmt_counted (ForStep e step a) =
        let l = counted_both f (names e) (names step ++ names_of a) in
        let m = counted_both f (names step) (names_of a) in
        omega (arith, none, l, m, expr_counted e, expr_counted step, stmt_counted a)
    stmt_counted (Switch e vs items) =
        let l = counted_both f (names e) (Nothing ∷ (rows vs ++ rows items)) in
        let m = counted_both f (rows vs) (rows items) in
        omega (arith, none, l, m, expr_counted e, items_counted vs, items_counted items)
    stmt_counted (Case c) = omega (arith, none)
    stmt_counted Default = omega (arith, none)
    stmt_counted Break = omega (arith, none)
    stmt_counted Continue = omega (arith, none)
    stmt_counted Return = omega (arith, none)
    stmt_counted (ReturnValue e) = omega (arith, none, expr_counted e)

    items_counted : (items : Items) → counted f (rows items) ≡ nodes_of_items items
    items_counted NoItem = refl
    items_counted (Item s items) =
        let l = counted_both f (names_of s) (rows items) in omega (arith, l, stmt_counted s, items_counted items)
