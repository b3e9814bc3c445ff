-- The variables that stand in scope by the numbers of the blocks round them are in scope for the meaning.
use Rattle.std.proofs.Common.{◌≡◌, ℕ, zero, suc, ◌+◌, ◌==◌, Bool, true, false, ◌&&◌, ◌||◌, nat_eq, nat_le}
use Rattle.std.proofs.Common.{if◌then◌else◌, List, [], ◌∷◌, ◌++◌, length, take, drop, refl, sym, subst, ◌∙◌}
use Rattle.std.proofs.Common.{append_assoc, arith}
use Rattle.std.specs.List.{list_any, list_all}
use Rattle.std.proofs.lemmas.Bool.Decides.{nat_tests}
use Rattle.std.proofs.lemmas.List.{append-nil}
use Rattle.std.proofs.lemmas.List.Folds.{list_any-append}
use Rattle.word32.specs.Space.{update}
use Rattle.word32.proofs.SpaceLaws.{update_same}
use Rattle.typed_tree.specs.declared.expression.CaptureKind.{CaptureKind}
use Rattle.typed_tree.specs.Nodes as node
use Rattle.typed_tree.specs.Nodes.{Expr, Args, Stmt, Items, fold_expr, fold_args, fold_stmt, fold_items}
use Rattle.staged_meaning.specs.Scope.{Scope, no_scope, scope_of, scope_after, IsScoped, AreScoped, IsScopedStmt}
use Rattle.staged_meaning.specs.Scope.{AreScopedItems}
use Rattle.wellformed.specs.Places.{Around, Part, Act, in_function, in_scope, are_few, expr_rule, rules, numbers_of}
use Rattle.wellformed.specs.Places.{values_of, all_different, all_declare, all_stand, is_label, all_items}
use Rattle.wellformed.specs.Places.{are_parameters, within, looped, switched}
use Rattle.wellformed.specs.Program.{IsFunction, round_function}
use Rattle.wellformed.proofs.Bools.{first_true, second_true}

abbrev pub part : Expr → Part
part = fold_expr expr_rule

abbrev pub act : Stmt → Act
act = fold_stmt rules

-- each variable of these numbers is in scope
abbrev Holds : List ℕ → Scope → Type 0
Holds ns scope = (i : ℕ) → list_any (λ n. i == n) ns ≡ true → scope i ≡ true

-- ---- expressions

pub two : (b c : Bool) → (b && c) ≡ true → (b ≡ true) × (c ≡ true)
two b c h = (first_true b c h, second_true b c h)

module _ (a : Around) (scope : Scope) (seen : Holds a.variables scope) where
  mutual
    pub expr_scoped : (e : Expr) → (part e).stands a ≡ true → IsScoped scope e
    expr_scoped (node.Const w) h = tt
    expr_scoped (node.Captured k i) h = tt
    expr_scoped (node.Var i) h = seen i h
    expr_scoped (node.SetVar i e) h = let q = two (in_scope i a) ((part e).stands a) h in
        (seen i q.0, expr_scoped e q.1)
    expr_scoped (node.PostVar i w step) h = seen i h
    expr_scoped (node.VGet i) h = tt
    expr_scoped (node.VSet i e) h = expr_scoped e (second_true _ ((part e).stands a) h)
    expr_scoped (node.VPost i step) h = tt
    expr_scoped (node.Frame off) h = tt
    expr_scoped (node.Load w e) h = expr_scoped e h
    expr_scoped (node.Store w e f) h = let q = two ((part e).stands a) ((part f).stands a) h in
        (expr_scoped e q.0, expr_scoped f q.1)
    expr_scoped (node.Modify w k e f) h = let q = two ((part e).stands a) ((part f).stands a) h in
        (expr_scoped e q.0, expr_scoped f q.1)
    expr_scoped (node.Post w step e) h = expr_scoped e h
    expr_scoped (node.Bin k e f) h = let q = two ((part e).stands a) ((part f).stands a) h in
        (expr_scoped e q.0, expr_scoped f q.1)
    expr_scoped (node.Un k e) h = expr_scoped e h
    expr_scoped (node.And e f) h = let q = two ((part e).stands a) ((part f).stands a) h in
        (expr_scoped e q.0, expr_scoped f q.1)
    expr_scoped (node.Or e f) h = let q = two ((part e).stands a) ((part f).stands a) h in
        (expr_scoped e q.0, expr_scoped f q.1)
    expr_scoped (node.Cond c e f) h =
        let q = two ((part c).stands a) ((part e).stands a && (part f).stands a) h in
        let r = two ((part e).stands a) ((part f).stands a) q.1 in
        (expr_scoped c q.0, expr_scoped e r.0, expr_scoped f r.1)
    expr_scoped (node.Comma e f) h = let q = two ((part e).stands a) ((part f).stands a) h in
        (expr_scoped e q.0, expr_scoped f q.1)
    expr_scoped (node.Void e) h = expr_scoped e h
    expr_scoped (node.Call r f args) h =
        args_scoped args (second_true _ (list_all (λ p. p.stands a) (fold_args expr_rule args)) h)
    expr_scoped (node.CallNumber r e args) h =
        let q = two ((part e).stands a && are_few (length (fold_args expr_rule args)))
        (list_all (λ p. p.stands a) (fold_args expr_rule args)) h in (
          expr_scoped e (first_true ((part e).stands a) (are_few (length (fold_args expr_rule args))) q.0),
          args_scoped args q.1,
        )
    expr_scoped node.Getchar h = tt
    expr_scoped (node.Lib f e) h = expr_scoped e h
    expr_scoped (node.Tick t args) h =
        captures_scoped args (second_true (in_function a) (list_all (λ p. p.is_capture a) (fold_args expr_rule args))
        (first_true (in_function a && list_all (λ p. p.is_capture a) (fold_args expr_rule args)) _ h))
    expr_scoped (node.Capture k e) h = absurd cc
    expr_scoped (node.Splice r i) h = tt
    expr_scoped (node.Compile e) h = expr_scoped e (second_true _ ((part e).stands a) h)
    expr_scoped node.Local h = tt
    expr_scoped (node.ParamOf e) h = expr_scoped e (second_true _ ((part e).stands a) h)

    args_scoped : (args : Args) → list_all (λ p. p.stands a) (fold_args expr_rule args) ≡ true → AreScoped scope args
    args_scoped node.NoArg h = tt
    args_scoped (node.Arg e args) h =
        let q = two ((part e).stands a) (list_all (λ p. p.stands a) (fold_args expr_rule args)) h in
        (expr_scoped e q.0, args_scoped args q.1)

    capture_scoped : (e : Expr) → (part e).is_capture a ≡ true → IsScoped scope e
    capture_scoped (node.Capture k e) h = expr_scoped e h
    capture_scoped _ h = absurd cc

    captures_scoped : (args : Args) → list_all (λ p. p.is_capture a) (fold_args expr_rule args) ≡ true →
        AreScoped scope args
    captures_scoped node.NoArg h = tt
    captures_scoped (node.Arg e args) h =
        let q = two ((part e).is_capture a) (list_all (λ p. p.is_capture a) (fold_args expr_rule args)) h in
        (capture_scoped e q.0, captures_scoped args q.1)

-- ---- the variables of a block

-- the node of a variable or of a parameter
abbrev pub IsHead : Stmt → Type 0
IsHead (node.Variable i) = Unit {0}
IsHead (node.Object off words) = Unit {0}
IsHead (node.Parameter k w) = Unit {0}
IsHead (node.ParameterObject k w off) = Unit {0}
IsHead _ = ⊥

abbrev pub AreHeads : Items → Type 0
AreHeads node.NoItem = Unit {0}
AreHeads (node.Item s items) = IsHead s × AreHeads items

declared_head : (a : Around) (s : Stmt) → (act s).declares a ≡ true → IsHead s
declared_head a (node.Variable i) h = tt
declared_head a (node.Object off words) h = tt
declared_head a _ h = absurd cc

parameter_head : (a : Around) (k : ℕ) (s : Stmt) → (act s).is_parameter k a ≡ true → IsHead s
parameter_head a k (node.Parameter n w) h = tt
parameter_head a k (node.ParameterObject n w off) h = tt
parameter_head a k _ h = absurd cc

pub declared_heads : (a : Around) (vs : Items) → all_declare (fold_items rules vs) a ≡ true → AreHeads vs
declared_heads a node.NoItem h = tt
declared_heads a (node.Item s vs) h =
    let q = two ((act s).declares a) (all_declare (fold_items rules vs) a) h in
    (declared_head a s q.0, declared_heads a vs q.1)

-- n parameters stand first
pub body_heads : (a : Around) (vs : Items) (n k : ℕ) → are_parameters k (take n (fold_items rules vs)) a ≡ true →
    all_declare (drop n (fold_items rules vs)) a ≡ true → AreHeads vs
body_heads a node.NoItem n k h d = tt
body_heads a (node.Item s vs) zero k h d = declared_heads a (node.Item s vs) d
body_heads a (node.Item s vs) (suc n) k h d =
    let q = two ((act s).is_parameter k a) (are_parameters (k + 1) (take n (fold_items rules vs)) a) h in
    (parameter_head a k s q.0, body_heads a vs n (k + 1) q.1 d)

head_scoped : (scope : Scope) (s : Stmt) → IsHead s → IsScopedStmt scope s
head_scoped scope (node.Variable i) h = tt
head_scoped scope (node.Object off words) h = tt
head_scoped scope (node.Parameter k w) h = tt
head_scoped scope (node.ParameterObject k w off) h = tt
head_scoped scope _ h = absurd h

heads_scoped : (scope : Scope) (vs : Items) → AreHeads vs → AreScopedItems scope vs
heads_scoped scope node.NoItem h = tt
heads_scoped scope (node.Item s vs) h = (head_scoped scope s h.0, heads_scoped (scope_of s scope) vs h.1)

-- one number more is in scope
kept_in : (k i : ℕ) (scope : Scope) → scope i ≡ true → update k true scope i ≡ true
kept_in k i scope h = by (nat_eq i k)
  where
    by : (b : Bool) → (if b then true else scope i) ≡ true
    by true = refl
    by false = h

new_in : (k i : ℕ) (scope : Scope) → (i == k) ≡ true → update k true scope i ≡ true
new_in k i scope h = let e : i ≡ k = grind (arith, nat_tests) in update_same k true scope i e

either : {P : Type 0} (b c : Bool) → (b || c) ≡ true → (b ≡ true → P) → (c ≡ true → P) → P
either true c h f g = f refl
either false c h f g = g h

front : (b : Bool) → (b || false) ≡ true → b ≡ true
front true h = refl
front false h = h

added : (k : ℕ) (ns : List ℕ) (scope : Scope) → Holds ns scope → Holds (ns ++ k ∷ []) (update k true scope)
added k ns scope h i at =
    either (list_any (λ n. i == n) ns) ((i == k) || false) (sym (list_any-append (λ n. i == n) ns (k ∷ [])) ∙ at)
    (λ e. kept_in k i scope (h i e)) (λ e. new_in k i scope (front (i == k) e))

same_holds : (ns ms : List ℕ) (scope : Scope) → ns ≡ ms → Holds ns scope → Holds ms scope
same_holds ns ms scope e h = subst (λ l. Holds l scope) e h

head_holds : (ns : List ℕ) (scope : Scope) (s : Stmt) → IsHead s → Holds ns scope →
    Holds (ns ++ (act s).number) (scope_of s scope)
head_holds ns scope (node.Variable i) t h = added i ns scope h
head_holds ns scope (node.Object off words) t h = same_holds ns (ns ++ []) scope (sym (append-nil ns)) h
head_holds ns scope (node.Parameter k w) t h = added k ns scope h
head_holds ns scope (node.ParameterObject k w off) t h = same_holds ns (ns ++ []) scope (sym (append-nil ns)) h
head_holds ns scope _ t h = absurd t

heads_hold : (ns : List ℕ) (scope : Scope) (vs : Items) → AreHeads vs → Holds ns scope →
    Holds (ns ++ numbers_of (fold_items rules vs)) (scope_after vs scope)
heads_hold ns scope node.NoItem t h = same_holds ns (ns ++ []) scope (sym (append-nil ns)) h
heads_hold ns scope (node.Item s vs) t h =
    same_holds ((ns ++ (act s).number) ++ numbers_of (fold_items rules vs))
    (ns ++ ((act s).number ++ numbers_of (fold_items rules vs))) (scope_after vs (scope_of s scope))
    (append_assoc ns (act s).number (numbers_of (fold_items rules vs)))
    (heads_hold (ns ++ (act s).number) (scope_of s scope) vs t.1 (head_holds ns scope s t.0 h))

-- ---- statements

same_scope : (a : Around) (scope : Scope) (s : Stmt) → (act s).stands a ≡ true → scope_of s scope ≡ scope
same_scope a scope (node.Variable i) h = absurd cc
same_scope a scope (node.Parameter k w) h = absurd cc
same_scope a scope _ h = refl

-- a label, or a statement that stands right
label_or : (a : Around) (scope : Scope) (s : Stmt) → (is_label (act s) || (act s).stands a) ≡ true →
    ((act s).stands a ≡ true → IsScopedStmt scope s) → IsScopedStmt scope s
label_or a scope (node.Case v) h f = tt
label_or a scope node.Default h f = tt
label_or a scope _ h f = f h

label_same : (a : Around) (scope : Scope) (s : Stmt) → (is_label (act s) || (act s).stands a) ≡ true →
    scope_of s scope ≡ scope
label_same a scope (node.Variable i) h = absurd cc
label_same a scope (node.Parameter k w) h = absurd cc
label_same a scope _ h = refl

mutual
  pub stmt_scoped : (a : Around) (scope : Scope) → Holds a.variables scope → (s : Stmt) → (act s).stands a ≡ true →
      IsScopedStmt scope s
  stmt_scoped a scope seen (node.Eval e) h = expr_scoped a scope seen e h
  stmt_scoped a scope seen (node.Block vs is) h =
      let q = two (all_declare (fold_items rules vs) a)
      (all_stand (fold_items rules is) (within (fold_items rules vs) a)) h in
      let t = declared_heads a vs q.0 in (
        heads_scoped scope vs t,
        items_scoped (within (fold_items rules vs) a) (scope_after vs scope) (heads_hold a.variables scope vs t seen) is
            q.1,
      )
  stmt_scoped a scope seen (node.If e s) h =
      let q = two ((part e).stands a) ((act s).stands a) h in
      (expr_scoped a scope seen e q.0, stmt_scoped a scope seen s q.1)
  stmt_scoped a scope seen (node.IfElse e s t) h =
      let q = two ((part e).stands a && (act s).stands a) ((act t).stands a) h in
      let r = two ((part e).stands a) ((act s).stands a) q.0 in
      (expr_scoped a scope seen e r.0, stmt_scoped a scope seen s r.1, stmt_scoped a scope seen t q.1)
  stmt_scoped a scope seen (node.While e s) h =
      let q = two ((part e).stands a) ((act s).stands (looped a)) h in
      (expr_scoped a scope seen e q.0, stmt_scoped (looped a) scope seen s q.1)
  stmt_scoped a scope seen (node.Do s e) h =
      let q = two ((act s).stands (looped a)) ((part e).stands a) h in
      (stmt_scoped (looped a) scope seen s q.0, expr_scoped a scope seen e q.1)
  stmt_scoped a scope seen (node.For e s) h =
      let q = two ((part e).stands a) ((act s).stands (looped a)) h in
      (expr_scoped a scope seen e q.0, stmt_scoped (looped a) scope seen s q.1)
  stmt_scoped a scope seen (node.ForStep e step s) h =
      let q = two ((part e).stands a && (part step).stands a) ((act s).stands (looped a)) h in
      let r = two ((part e).stands a) ((part step).stands a) q.0 in
      (expr_scoped a scope seen e r.0, expr_scoped a scope seen step r.1, stmt_scoped (looped a) scope seen s q.1)
  stmt_scoped a scope seen (node.Switch e vs is) h =
      let inner : Around = switched (within (fold_items rules vs) a) in
      let front : Bool = (part e).stands a && all_declare (fold_items rules vs) a in
      let whole : Bool = front && all_items (fold_items rules is) inner in
      let apart : Bool = whole && all_different (values_of (fold_items rules is)) in
      let q = two front (all_items (fold_items rules is) inner) (first_true whole _ (first_true apart _ h)) in
      let r = two ((part e).stands a) (all_declare (fold_items rules vs) a) q.0 in
      let t = declared_heads a vs r.1 in (
        expr_scoped a scope seen e r.0,
        heads_scoped scope vs t,
        labelled_scoped inner (scope_after vs scope) (heads_hold a.variables scope vs t seen) is q.1,
      )
  stmt_scoped a scope seen (node.ReturnValue e) h = expr_scoped a scope seen e h
  stmt_scoped a scope seen _ h = tt

  items_scoped : (a : Around) (scope : Scope) → Holds a.variables scope → (is : Items) →
      all_stand (fold_items rules is) a ≡ true → AreScopedItems scope is
  items_scoped a scope seen node.NoItem h = tt
  items_scoped a scope seen (node.Item s is) h =
      let q = two ((act s).stands a) (all_stand (fold_items rules is) a) h in (
        stmt_scoped a scope seen s q.0,
        subst (λ (x : Scope). AreScopedItems x is) (sym (same_scope a scope s q.0)) (items_scoped a scope seen is q.1),
      )

  labelled_scoped : (a : Around) (scope : Scope) → Holds a.variables scope → (is : Items) →
      all_items (fold_items rules is) a ≡ true → AreScopedItems scope is
  labelled_scoped a scope seen node.NoItem h = tt
  labelled_scoped a scope seen (node.Item s is) h =
      let q = two (is_label (act s) || (act s).stands a) (all_items (fold_items rules is) a) h in (
        label_or a scope s q.0 (λ k. stmt_scoped a scope seen s k),
        subst (λ (x : Scope). AreScopedItems x is) (sym (label_same a scope s q.0))
            (labelled_scoped a scope seen is q.1),
      )

-- ---- functions

by_body : (a : Around) → Holds a.variables no_scope → (s : Stmt) (n : ℕ) → (act s).is_body n a ≡ true →
    IsScopedStmt no_scope s
by_body a seen (node.Block vs is) n h =
    let heads : Bool = all_declare (drop n (fold_items rules vs)) a in
    let rest : Bool = all_stand (fold_items rules is) (within (fold_items rules vs) a) in
    let first : Bool = are_parameters 0 (take n (fold_items rules vs)) a in
    let many : Bool = nat_le n (length (fold_items rules vs)) in
    let q = two (many && first && heads) rest h in
    let r = two (many && first) heads q.0 in
    let t = body_heads a vs n 0 (second_true many first r.0) r.1 in (
      heads_scoped no_scope vs t,
      items_scoped (within (fold_items rules vs) a) (scope_after vs no_scope)
          (heads_hold a.variables no_scope vs t seen) is q.1,
    )
by_body a seen _ n h = absurd cc

pub body_scoped : (p : node.Program) (ticks : List (List CaptureKind)) (f : node.Function) → IsFunction p ticks f →
    IsScopedStmt no_scope f.body
body_scoped p ticks f h = by_body (round_function p ticks f) (λ i e. absurd cc) f.body f.parameters h.stands
