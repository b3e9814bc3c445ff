-- Each value that is used in an accepted text's functions is left, as the meaning says it.
use Rattle.std.proofs.Common.{◌≡◌, Bool, true, false, ◌&&◌, refl, sym, ◌∙◌}
use Rattle.typed_tree.specs.Nodes as node
use Rattle.typed_tree.specs.Nodes.{Expr, Args, Stmt, Items, fold_expr, fold_args, fold_stmt, fold_items, has_value}
use Rattle.staged_meaning.specs.Values.{Leaves, UsesValues, UseValues, UsesValuesStmt, UseValuesItems}
use Rattle.wellformed.specs.Values.{Use, used, same, expr_rule, rules, all_used, all_true}
use Rattle.wf_ready.proofs.Scoped.{two}

abbrev use_in : Expr → Use
use_in = fold_expr expr_rule

abbrev right_in : Stmt → Bool
right_in = fold_stmt rules

-- an expression leaves a value for the rules as it does for the meaning
left : (e : Expr) → (use_in e).value ≡ has_value e
left (node.Cond c e f) = left e
left (node.Comma e f) = left f
left _ = refl

agree : (b c : Bool) → same b c ≡ true → c ≡ b
agree true c h = h
agree false true h = cc
agree false false h = refl

-- an expression whose value is used, where it stands right if its parts do
value_used : (e : Expr) → ((use_in e).right ≡ true → UsesValues e) → used (use_in e) ≡ true → Leaves e × UsesValues e
value_used e f h = let q = two (use_in e).value (use_in e).right h in (sym (left e) ∙ q.0, f q.1)

-- two of them
values_used : (d e : Expr) → ((use_in d).right ≡ true → UsesValues d) → ((use_in e).right ≡ true → UsesValues e)
    → (used (use_in d) && used (use_in e)) ≡ true → Leaves d × UsesValues d × Leaves e × UsesValues e
values_used d e f g h =
    let q = two (used (use_in d)) (used (use_in e)) h in
    let s = value_used d f q.0 in
    let t = value_used e g q.1 in (s.0, s.1, t.0, t.1)

-- ---- expressions

mutual
  pub expr_uses : (e : Expr) → (use_in e).right ≡ true → UsesValues e
  expr_uses (node.SetVar i e) h = value_used e (λ k. expr_uses e k) h
  expr_uses (node.VSet i e) h = value_used e (λ k. expr_uses e k) h
  expr_uses (node.Load w e) h = value_used e (λ k. expr_uses e k) h
  expr_uses (node.Store w d e) h = values_used d e (λ k. expr_uses d k) (λ k. expr_uses e k) h
  expr_uses (node.Modify w k d e) h = values_used d e (λ k. expr_uses d k) (λ k. expr_uses e k) h
  expr_uses (node.Post w step e) h = value_used e (λ k. expr_uses e k) h
  expr_uses (node.Bin k d e) h = values_used d e (λ k. expr_uses d k) (λ k. expr_uses e k) h
  expr_uses (node.Un k e) h = value_used e (λ k. expr_uses e k) h
  expr_uses (node.And d e) h = values_used d e (λ k. expr_uses d k) (λ k. expr_uses e k) h
  expr_uses (node.Or d e) h = values_used d e (λ k. expr_uses d k) (λ k. expr_uses e k) h
  expr_uses (node.Cond c d e) h =
      let alike : Bool = same (use_in d).value (use_in e).value in
      let q = two (used (use_in c) && (use_in d).right && (use_in e).right) alike h in
      let r = two (used (use_in c) && (use_in d).right) (use_in e).right q.0 in
      let s = two (used (use_in c)) (use_in d).right r.0 in
      let t = value_used c (λ k. expr_uses c k) s.0 in (
        t.0,
        t.1,
        expr_uses d s.1,
        expr_uses e r.1,
        sym (left e) ∙ (agree (use_in d).value (use_in e).value q.1 ∙ left d),
      )
  expr_uses (node.Comma d e) h =
      let q = two (use_in d).right (use_in e).right h in (expr_uses d q.0, expr_uses e q.1)
  expr_uses (node.Void e) h = expr_uses e h
  expr_uses (node.Call r f args) h = args_used args h
  expr_uses (node.CallNumber r e args) h =
      let q = two (used (use_in e)) (all_used (fold_args expr_rule args)) h in
      let t = value_used e (λ k. expr_uses e k) q.0 in (t.0, t.1, args_used args q.1)
  expr_uses (node.Lib f e) h = value_used e (λ k. expr_uses e k) h
  expr_uses (node.Tick t args) h = args_used args h
  expr_uses (node.Capture k e) h = value_used e (λ k. expr_uses e k) h
  expr_uses (node.Compile e) h = value_used e (λ k. expr_uses e k) h
  expr_uses (node.ParamOf e) h = value_used e (λ k. expr_uses e k) h
  expr_uses _ h = tt

  args_used : (args : Args) → all_used (fold_args expr_rule args) ≡ true → UseValues args
  args_used node.NoArg h = tt
  args_used (node.Arg e args) h =
      let q = two (used (use_in e)) (all_used (fold_args expr_rule args)) h in
      let t = value_used e (λ k. expr_uses e k) q.0 in (t.0, t.1, args_used args q.1)

tested : (e : Expr) → used (use_in e) ≡ true → Leaves e × UsesValues e
tested e h = value_used e (expr_uses e) h

-- ---- statements

-- a value that is tested, and a statement
guarded : (e : Expr) (s : Stmt) → (right_in s ≡ true → UsesValuesStmt s) → (used (use_in e) && right_in s) ≡ true →
    Leaves e × UsesValues e × UsesValuesStmt s
guarded e s f h =
    let q = two (used (use_in e)) (right_in s) h in
    let t = tested e q.0 in (t.0, t.1, f q.1)

mutual
  pub stmt_uses : (s : Stmt) → right_in s ≡ true → UsesValuesStmt s
  stmt_uses (node.Eval e) h = expr_uses e h
  stmt_uses (node.Block vs is) h =
      let q = two (all_true (fold_items rules vs)) (all_true (fold_items rules is)) h in
      (items_use vs q.0, items_use is q.1)
  stmt_uses (node.If e s) h = guarded e s (λ k. stmt_uses s k) h
  stmt_uses (node.IfElse e s t) h =
      let q = two (used (use_in e) && right_in s) (right_in t) h in
      let r = guarded e s (λ k. stmt_uses s k) q.0 in (r.0, r.1, r.2, stmt_uses t q.1)
  stmt_uses (node.While e s) h = guarded e s (λ k. stmt_uses s k) h
  stmt_uses (node.Do s e) h =
      let q = two (right_in s) (used (use_in e)) h in
      let t = tested e q.1 in (stmt_uses s q.0, t.0, t.1)
  stmt_uses (node.For e s) h = guarded e s (λ k. stmt_uses s k) h
  stmt_uses (node.ForStep e step s) h =
      let q = two (used (use_in e) && (use_in step).right) (right_in s) h in
      let r = two (used (use_in e)) (use_in step).right q.0 in
      let t = tested e r.0 in (t.0, t.1, expr_uses step r.1, stmt_uses s q.1)
  stmt_uses (node.Switch e vs is) h =
      let q = two (used (use_in e) && all_true (fold_items rules vs)) (all_true (fold_items rules is)) h in
      let r = two (used (use_in e)) (all_true (fold_items rules vs)) q.0 in
      let t = tested e r.0 in (t.0, t.1, items_use vs r.1, items_use is q.1)
  stmt_uses (node.ReturnValue e) h = tested e h
  stmt_uses _ h = tt

  items_use : (is : Items) → all_true (fold_items rules is) ≡ true → UseValuesItems is
  items_use node.NoItem h = tt
  items_use (node.Item s is) h =
      let q = two (right_in s) (all_true (fold_items rules is)) h in (stmt_uses s q.0, items_use is q.1)
