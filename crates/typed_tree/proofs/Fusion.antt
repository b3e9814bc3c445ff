-- A fold over the code's tree by some rules is the fold over its view by the same rules. So what a rule defines may be
-- said of either tree.
use Rattle.std.proofs.Common.{◌≡◌, ap, sym, subst, refl, ◌∙◌, List, [], ◌∷◌, map}
use Rattle.typed_tree.specs.declared.expression.Expr.{Expr, roll-Expr}
use Rattle.typed_tree.specs.declared.expression.Expr.TheOpen.{Expr-F}
use Rattle.typed_tree.specs.declared.expression.Expr.TheFolds.{fold-Expr, fold-roll-Expr, ind-Expr, map-Expr}
use Rattle.typed_tree.specs.declared.expression.Stmt.{Stmt, roll-Stmt}
use Rattle.typed_tree.specs.declared.expression.Stmt.TheOpen.{Stmt-F}
use Rattle.typed_tree.specs.declared.expression.Stmt.TheFolds.{fold-roll-Stmt, ind-Stmt, map-Stmt}
use Rattle.typed_tree.specs.Folds.{Rules, layer, parts_of, fold_statement}
use Rattle.typed_tree.specs.Folds as parts
use Rattle.typed_tree.specs.Sizes.{size, size_rule, size_rules, statement_size, has_value, value_rule}
use Rattle.typed_tree.specs.Nodes as node
use Rattle.typed_tree.specs.Nodes.{fold_expr, fold_args, fold_stmt, fold_items}
use Rattle.typed_tree.specs.View.{args_of, items_of, expr_view, expr_rule, stmt_view, stmt_rule, view_rules}
use Rattle.typed_tree.specs.Measures.{size_of_expr, size_of_stmt}

view_open : (x : Expr-F Expr) → expr_view (roll-Expr x) ≡ expr_rule (map-Expr Expr node.Expr expr_view x)
unfolding expr_view
view_open x = fold-roll-Expr node.Expr expr_rule x

stmt_view_open : (x : Stmt-F Stmt) →
    stmt_view (roll-Stmt x) ≡ stmt_rule (parts_of expr_view (map-Stmt Stmt node.Stmt stmt_view x))
unfolding expr_view stmt_view
stmt_view_open x = fold-roll-Stmt node.Stmt (layer view_rules) x

module _ {E : Type 0} (r : Expr-F E → E) where
  abbrev Agrees : Expr → Type 0
  Agrees e = fold-Expr E r e ≡ fold_expr r (expr_view e)

  abbrev Known : Type 0
  Known = (e : Expr) × Agrees e

  abbrev whole : Known → Expr
  whole k = k.0

  args_agree : (ks : List Known) →
      map (fold-Expr E r) (map whole ks) ≡ fold_args r (args_of (map expr_view (map whole ks)))
  args_agree [] = refl
  args_agree (k ∷ ks) = ap (λ x. x ∷ map (fold-Expr E r) (map whole ks)) k.1 ∙
      ap (λ xs. fold_expr r (expr_view k.0) ∷ xs) (args_agree ks)

  one : (f : E → E) (a : Known) → f (fold-Expr E r a.0) ≡ f (fold_expr r (expr_view a.0))
  one f a = ap f a.1

  two : (f : E → E → E) (a b : Known) →
      f (fold-Expr E r a.0) (fold-Expr E r b.0) ≡ f (fold_expr r (expr_view a.0)) (fold_expr r (expr_view b.0))
  two f a b = ap (λ x. f x (fold-Expr E r b.0)) a.1 ∙ ap (f (fold_expr r (expr_view a.0))) b.1

  -- a layer whose parts agree
  layer_agrees : (y : Expr-F Known) →
      r (map-Expr Expr E (fold-Expr E r) (map-Expr Known Expr whole y)) ≡ fold_expr r
      (expr_rule (map-Expr Expr node.Expr expr_view (map-Expr Known Expr whole y)))
  layer_agrees (Expr-F.Const w) = refl
  layer_agrees (Expr-F.Captured k i) = refl
  layer_agrees (Expr-F.Var i) = refl
  layer_agrees (Expr-F.SetVar i a) = one (λ x. r (Expr-F.SetVar i x)) a
  layer_agrees (Expr-F.PostVar i w s) = refl
  layer_agrees (Expr-F.VGet i) = refl
  layer_agrees (Expr-F.VSet i a) = one (λ x. r (Expr-F.VSet i x)) a
  layer_agrees (Expr-F.VPost i s) = refl
  layer_agrees (Expr-F.Frame o) = refl
  layer_agrees (Expr-F.Load w a) = one (λ x. r (Expr-F.Load w x)) a
  layer_agrees (Expr-F.Store w a b) = two (λ x y. r (Expr-F.Store w x y)) a b
  layer_agrees (Expr-F.Modify w k a b) = two (λ x y. r (Expr-F.Modify w k x y)) a b
  layer_agrees (Expr-F.Post w s a) = one (λ x. r (Expr-F.Post w s x)) a
  layer_agrees (Expr-F.Bin k a b) = two (λ x y. r (Expr-F.Bin k x y)) a b
  layer_agrees (Expr-F.Un k a) = one (λ x. r (Expr-F.Un k x)) a
  layer_agrees (Expr-F.And a b) = two (λ x y. r (Expr-F.And x y)) a b
  layer_agrees (Expr-F.Or a b) = two (λ x y. r (Expr-F.Or x y)) a b
  layer_agrees (Expr-F.Cond c a b) =
      one (λ x. r (Expr-F.Cond x (fold-Expr E r a.0) (fold-Expr E r b.0))) c ∙
      two (λ x y. r (Expr-F.Cond (fold_expr r (expr_view c.0)) x y)) a b
  layer_agrees (Expr-F.Comma a b) = two (λ x y. r (Expr-F.Comma x y)) a b
  layer_agrees (Expr-F.Void a) = one (λ x. r (Expr-F.Void x)) a
  layer_agrees (Expr-F.Call q f ks) = ap (λ xs. r (Expr-F.Call q f xs)) (args_agree ks)
  layer_agrees (Expr-F.CallNumber q a ks) =
      one (λ x. r (Expr-F.CallNumber q x (map (fold-Expr E r) (map whole ks)))) a ∙
      ap (λ xs. r (Expr-F.CallNumber q (fold_expr r (expr_view a.0)) xs)) (args_agree ks)
  layer_agrees Expr-F.Getchar = refl
  layer_agrees (Expr-F.Lib f a) = one (λ x. r (Expr-F.Lib f x)) a
  layer_agrees (Expr-F.Tick t ks) = ap (λ xs. r (Expr-F.Tick t xs)) (args_agree ks)
  layer_agrees (Expr-F.Capture k a) = one (λ x. r (Expr-F.Capture k x)) a
  layer_agrees (Expr-F.Splice q i) = refl
  layer_agrees (Expr-F.Compile a) = one (λ x. r (Expr-F.Compile x)) a
  layer_agrees Expr-F.Local = refl
  layer_agrees (Expr-F.ParamOf a) = one (λ x. r (Expr-F.ParamOf x)) a

  pub fusion : (e : Expr) → fold-Expr E r e ≡ fold_expr r (expr_view e)
  fusion = ind-Expr Agrees (λ x y is.
      subst (λ z. Agrees (roll-Expr z)) is
      (fold-roll-Expr E r (map-Expr Known Expr whole y) ∙ layer_agrees y ∙
      sym (ap (fold_expr r) (view_open (map-Expr Known Expr whole y)))))

module _ {E S : Type 0} (r : Rules E S) where
  abbrev Follows : Stmt → Type 0
  Follows s = fold_statement r s ≡ fold_stmt r (stmt_view s)

  abbrev Met : Type 0
  Met = (s : Stmt) × Follows s

  abbrev plain : Met → Stmt
  plain m = m.0

  abbrev of : Expr → E
  of = fold-Expr E r.expr

  abbrev at : Expr → E
  at e = fold_expr r.expr (expr_view e)

  same : (e : Expr) → of e ≡ at e
  same = fusion r.expr

  items_agree : (ms : List Met) →
      map (fold_statement r) (map plain ms) ≡ fold_items r (items_of (map stmt_view (map plain ms)))
  items_agree [] = refl
  items_agree (m ∷ ms) = ap (λ x. x ∷ map (fold_statement r) (map plain ms)) m.1 ∙
      ap (λ xs. fold_stmt r (stmt_view m.0) ∷ xs) (items_agree ms)

  -- an expression and a statement, and a block
  both : (f : E → S → S) (e : Expr) (m : Met) → f (of e) (fold_statement r m.0) ≡ f (at e) (fold_stmt r (stmt_view m.0))
  both f e m = ap (λ x. f x (fold_statement r m.0)) (same e) ∙ ap (f (at e)) m.1

  block : (f : List S → List S → S) (vs ms : List Met) →
      f (map (fold_statement r) (map plain vs)) (map (fold_statement r) (map plain ms)) ≡ f
      (fold_items r (items_of (map stmt_view (map plain vs)))) (fold_items r (items_of (map stmt_view (map plain ms))))
  block f vs ms = ap (λ x. f x (map (fold_statement r) (map plain ms))) (items_agree vs) ∙
      ap (f (fold_items r (items_of (map stmt_view (map plain vs))))) (items_agree ms)

  stmt_agrees : (y : Stmt-F Met) →
      layer r (map-Stmt Stmt S (fold_statement r) (map-Stmt Met Stmt plain y)) ≡ fold_stmt r
      (stmt_rule (parts_of expr_view (map-Stmt Stmt node.Stmt stmt_view (map-Stmt Met Stmt plain y))))
  stmt_agrees (Stmt-F.Eval e) = ap (λ x. r.stmt (parts.Eval x)) (same e)
  stmt_agrees (Stmt-F.Block vs ms) = block (λ x y. r.stmt (parts.Block x y)) vs ms
  stmt_agrees (Stmt-F.Variable i) = refl
  stmt_agrees (Stmt-F.Object o w) = refl
  stmt_agrees (Stmt-F.Parameter k w) = refl
  stmt_agrees (Stmt-F.ParameterObject k w o) = refl
  stmt_agrees (Stmt-F.If e a) = both (λ x y. r.stmt (parts.If x y)) e a
  stmt_agrees (Stmt-F.IfElse e a b) =
      both (λ x y. r.stmt (parts.IfElse x y (fold_statement r b.0))) e a ∙
      ap (λ y. r.stmt (parts.IfElse (at e) (fold_stmt r (stmt_view a.0)) y)) b.1
  stmt_agrees (Stmt-F.While e a) = both (λ x y. r.stmt (parts.While x y)) e a
  stmt_agrees (Stmt-F.Do a e) = both (λ x y. r.stmt (parts.Do y x)) e a
  stmt_agrees (Stmt-F.For e a) = both (λ x y. r.stmt (parts.For x y)) e a
  stmt_agrees (Stmt-F.ForStep e f a) =
      ap (λ x. r.stmt (parts.ForStep x (of f) (fold_statement r a.0))) (same e) ∙
      both (λ x y. r.stmt (parts.ForStep (at e) x y)) f a
  stmt_agrees (Stmt-F.Switch e vs ms) =
      ap (λ x. r.stmt (parts.Switch x (map (fold_statement r) (map plain vs)) (map (fold_statement r) (map plain ms))))
      (same e) ∙ block (λ x y. r.stmt (parts.Switch (at e) x y)) vs ms
  stmt_agrees (Stmt-F.Case c) = refl
  stmt_agrees Stmt-F.Default = refl
  stmt_agrees Stmt-F.Break = refl
  stmt_agrees Stmt-F.Continue = refl
  stmt_agrees Stmt-F.Return = refl
  stmt_agrees (Stmt-F.ReturnValue e) = ap (λ x. r.stmt (parts.ReturnValue x)) (same e)

  pub statement_fusion : (s : Stmt) → fold_statement r s ≡ fold_stmt r (stmt_view s)
  statement_fusion = ind-Stmt Follows (λ x y is.
      subst (λ z. Follows (roll-Stmt z)) is
      (fold-roll-Stmt S (layer r) (map-Stmt Met Stmt plain y) ∙ stmt_agrees y ∙
      sym (ap (fold_stmt r) (stmt_view_open (map-Stmt Met Stmt plain y)))))

-- ---- the definitions

pub size_viewed : (e : Expr) → size e ≡ size_of_expr (expr_view e)
unfolding size
size_viewed = fusion size_rule

pub statement_size_viewed : (s : Stmt) → statement_size s ≡ size_of_stmt (stmt_view s)
unfolding size statement_size
statement_size_viewed = statement_fusion size_rules

pub value_viewed : (e : Expr) → has_value e ≡ node.has_value (expr_view e)
unfolding has_value
value_viewed = fusion value_rule
