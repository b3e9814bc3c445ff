-- Each call in an accepted text's functions and ticks has as many arguments as its function has parameters.
use Rattle.std.proofs.Common.{◌≡◌, ℕ, zero, suc, ◌-◌, ◌==◌, ◌≤◌, Bool, true, ◌&&◌, ◌||◌, nat_le}
use Rattle.std.proofs.Common.{List, length, take, drop, refl, sym, ap, subst, ◌∙◌, slice_get, Option}
use Rattle.std.proofs.Common.{Some, None, arith}
use Rattle.std.specs.Prelude.{option_map}
use Rattle.std.specs.List.{list_all}
use Rattle.std.proofs.lemmas.Bool.Decides.{nat_tests}
use Rattle.std.proofs.lemmas.Option.{slice_get-map}
use Rattle.limits.specs.declared.program.TheConstants.{MOST_ARGUMENTS}
use Rattle.meaning_state.specs.Rows.{numbered}
use Rattle.typed_tree.specs.declared.expression.CaptureKind.{CaptureKind}
use Rattle.typed_tree.specs.Nodes as node
use Rattle.typed_tree.specs.Nodes.{Expr, Args, Stmt, Items, Function, fold_args, fold_items, count}
use Rattle.wellformed.specs.Places.{Around, in_function, are_few, takes, is_called, expr_rule, rules, values_of}
use Rattle.wellformed.specs.Places.{all_different, all_declare, all_stand, is_label, all_items, are_parameters, within}
use Rattle.wellformed.specs.Places.{looped, switched}
use Rattle.wellformed.specs.Program.{IsFunction, IsTick, parameters_of, round_function, round_tick}
use Rattle.wellformed.proofs.Bools.{first_true, second_true}
use Rattle.staged_meaning.specs.Calls.{IsCallee, HasCalls, HaveCalls, HasCallsStmt, HaveCallsItems, HasCallsBody}
use Rattle.wf_ready.proofs.Scoped.{part, act, two, IsHead, AreHeads, declared_heads, body_heads}

as_many : (args : Args) → length (fold_args expr_rule args) ≡ count args
as_many node.NoArg = refl
as_many (node.Arg e args) = ap suc (as_many args)

few_of : (n : ℕ) → are_few n ≡ true → n ≤ MOST_ARGUMENTS
few_of n h = grind (arith, nat_tests)

-- ---- the function of a number

callee_by : (fs : List Function) (f n : ℕ) (o : Option Function) → numbered f fs ≡ o
    → takes n (option_map (λ g. g.parameters) o) ≡ true → are_few n ≡ true → IsCallee fs f n
callee_by fs f n None e h few = absurd cc
callee_by fs f n (Some g) e h few =
    record {
      function = g;
      is = e;
      parameters = (let same : (n == g.parameters) ≡ true = h in grind (arith, nat_tests));
      few = few_of n few;
    }

callee_of : (fs : List Function) (f n : ℕ) → nat_le 1 f ≡ true
    → takes n (slice_get (parameters_of fs) (f - 1)) ≡ true → are_few n ≡ true → IsCallee fs f n
callee_of fs zero n first h few = absurd cc
callee_of fs (suc f) n first h few =
    callee_by fs (suc f) n (slice_get fs f) refl
    (ap (takes n) (sym (slice_get-map (λ (g : Function). g.parameters) fs f)
    ∙ ap (λ (i : ℕ). slice_get (parameters_of fs) i) (let e : f ≡ suc f - 1 = omega arith in e)) ∙ h) few

-- ---- expressions

-- the arguments of a call stand right, and the captures of a tick do
abbrev pub all_stand_in : Around → Args → Bool
all_stand_in a args = list_all (λ p. p.stands a) (fold_args expr_rule args)

abbrev pub all_captured_in : Around → Args → Bool
all_captured_in a args = list_all (λ p. p.is_capture a) (fold_args expr_rule args)

module _ (fs : List Function) where
  static_call : (a : Around) → a.functions ≡ parameters_of fs → (f : ℕ) (args : Args)
      → is_called f (length (fold_args expr_rule args)) a ≡ true → IsCallee fs f (count args)
  static_call a is f args h =
      let n : ℕ = length (fold_args expr_rule args) in
      let q = two (nat_le 1 f && takes n (slice_get a.functions (f - 1))) (are_few n) h in
      let r = two (nat_le 1 f) (takes n (slice_get a.functions (f - 1))) q.0 in
      subst (λ (m : ℕ). IsCallee fs f m) (as_many args)
      (callee_of fs f n r.0 (ap (λ (ns : List ℕ). takes n (slice_get ns (f - 1))) (sym is) ∙ r.1) q.1)

  mutual
    pub expr_calls : (a : Around) → a.functions ≡ parameters_of fs → (e : Expr) → (part e).stands a ≡ true → HasCalls fs e
    expr_calls a is (node.SetVar i e) h = expr_calls a is e (second_true _ ((part e).stands a) h)
    expr_calls a is (node.VSet i e) h = expr_calls a is e (second_true _ ((part e).stands a) h)
    expr_calls a is (node.Load w e) h = expr_calls a is e h
    expr_calls a is (node.Store w e f) h =
        let q = two ((part e).stands a) ((part f).stands a) h in (expr_calls a is e q.0, expr_calls a is f q.1)
    expr_calls a is (node.Modify w k e f) h =
        let q = two ((part e).stands a) ((part f).stands a) h in (expr_calls a is e q.0, expr_calls a is f q.1)
    expr_calls a is (node.Post w step e) h = expr_calls a is e h
    expr_calls a is (node.Bin k e f) h =
        let q = two ((part e).stands a) ((part f).stands a) h in (expr_calls a is e q.0, expr_calls a is f q.1)
    expr_calls a is (node.Un k e) h = expr_calls a is e h
    expr_calls a is (node.And e f) h =
        let q = two ((part e).stands a) ((part f).stands a) h in (expr_calls a is e q.0, expr_calls a is f q.1)
    expr_calls a is (node.Or e f) h =
        let q = two ((part e).stands a) ((part f).stands a) h in (expr_calls a is e q.0, expr_calls a is f q.1)
    expr_calls a is (node.Cond c e f) h =
        let q = two ((part c).stands a) ((part e).stands a && (part f).stands a) h in
        let r = two ((part e).stands a) ((part f).stands a) q.1 in
        (expr_calls a is c q.0, expr_calls a is e r.0, expr_calls a is f r.1)
    expr_calls a is (node.Comma e f) h =
        let q = two ((part e).stands a) ((part f).stands a) h in (expr_calls a is e q.0, expr_calls a is f q.1)
    expr_calls a is (node.Void e) h = expr_calls a is e h
    expr_calls a is (node.Call r f args) h =
        let q
        = two (is_called f (length (fold_args expr_rule args)) a) (all_stand_in a args) h in
        (static_call a is f args q.0, args_calls a is args q.1)
    expr_calls a is (node.CallNumber r e args) h =
        let q
        = two ((part e).stands a && are_few (length (fold_args expr_rule args))) (all_stand_in a args) h in
        let r = two ((part e).stands a) (are_few (length (fold_args expr_rule args))) q.0 in
        (few_of (count args) (ap are_few (sym (as_many args)) ∙ r.1), expr_calls a is e r.0, args_calls a is args q.1)
    expr_calls a is (node.Lib f e) h = expr_calls a is e h
    expr_calls a is (node.Tick t args) h =
        captures_calls a is args
        (second_true (in_function a) (all_captured_in a args)
        (first_true (in_function a && all_captured_in a args) _ h))
    expr_calls a is (node.Capture k e) h = absurd cc
    expr_calls a is (node.Compile e) h = expr_calls a is e (second_true _ ((part e).stands a) h)
    expr_calls a is (node.ParamOf e) h = expr_calls a is e (second_true _ ((part e).stands a) h)
    expr_calls a is _ h = tt

    args_calls : (a : Around) → a.functions ≡ parameters_of fs → (args : Args)
        → list_all (λ p. p.stands a) (fold_args expr_rule args) ≡ true → HaveCalls fs args
    args_calls a is node.NoArg h = tt
    args_calls a is (node.Arg e args) h =
        let q = two ((part e).stands a) (list_all (λ p. p.stands a) (fold_args expr_rule args)) h in
        (expr_calls a is e q.0, args_calls a is args q.1)

    capture_calls : (a : Around) → a.functions ≡ parameters_of fs → (e : Expr) → (part e).is_capture a ≡ true
        → HasCalls fs e
    capture_calls a is (node.Capture k e) h = expr_calls a is e h
    capture_calls a is _ h = absurd cc

    captures_calls : (a : Around) → a.functions ≡ parameters_of fs → (args : Args)
        → list_all (λ p. p.is_capture a) (fold_args expr_rule args) ≡ true → HaveCalls fs args
    captures_calls a is node.NoArg h = tt
    captures_calls a is (node.Arg e args) h =
        let q = two ((part e).is_capture a) (list_all (λ p. p.is_capture a) (fold_args expr_rule args)) h in
        (capture_calls a is e q.0, captures_calls a is args q.1)

  -- ---- statements

  -- the node of a variable or of a parameter calls nothing
  head_calls : (s : Stmt) → IsHead s → HasCallsStmt fs s
  head_calls (node.Variable i) h = tt
  head_calls (node.Object off words) h = tt
  head_calls (node.Parameter k w) h = tt
  head_calls (node.ParameterObject k w off) h = tt
  head_calls _ h = absurd h

  heads_calls : (vs : Items) → AreHeads vs → HaveCallsItems fs vs
  heads_calls node.NoItem h = tt
  heads_calls (node.Item s vs) h = (head_calls s h.0, heads_calls vs h.1)

  -- a label calls nothing
  label_or : (a : Around) (s : Stmt) → (is_label (act s) || (act s).stands a) ≡ true
      → ((act s).stands a ≡ true → HasCallsStmt fs s) → HasCallsStmt fs s
  label_or a (node.Case v) h f = tt
  label_or a node.Default h f = tt
  label_or a _ h f = f h

  mutual
    pub stmt_calls : (a : Around) → a.functions ≡ parameters_of fs → (s : Stmt) → (act s).stands a ≡ true
        → HasCallsStmt fs s
    stmt_calls a is (node.Eval e) h = expr_calls a is e h
    stmt_calls a is (node.Block vs xs) h =
        let q
        = two (all_declare (fold_items rules vs) a)
        (all_stand (fold_items rules xs) (within (fold_items rules vs) a)) h in
        (heads_calls vs (declared_heads a vs q.0), items_calls (within (fold_items rules vs) a) is xs q.1)
    stmt_calls a is (node.If e s) h =
        let q = two ((part e).stands a) ((act s).stands a) h in (expr_calls a is e q.0, stmt_calls a is s q.1)
    stmt_calls a is (node.IfElse e s t) h =
        let q = two ((part e).stands a && (act s).stands a) ((act t).stands a) h in
        let r = two ((part e).stands a) ((act s).stands a) q.0 in
        (expr_calls a is e r.0, stmt_calls a is s r.1, stmt_calls a is t q.1)
    stmt_calls a is (node.While e s) h =
        let q = two ((part e).stands a) ((act s).stands (looped a)) h in
        (expr_calls a is e q.0, stmt_calls (looped a) is s q.1)
    stmt_calls a is (node.Do s e) h =
        let q = two ((act s).stands (looped a)) ((part e).stands a) h in
        (stmt_calls (looped a) is s q.0, expr_calls a is e q.1)
    stmt_calls a is (node.For e s) h =
        let q = two ((part e).stands a) ((act s).stands (looped a)) h in
        (expr_calls a is e q.0, stmt_calls (looped a) is s q.1)
    stmt_calls a is (node.ForStep e step s) h =
        let q = two ((part e).stands a && (part step).stands a) ((act s).stands (looped a)) h in
        let r = two ((part e).stands a) ((part step).stands a) q.0 in
        (expr_calls a is e r.0, expr_calls a is step r.1, stmt_calls (looped a) is s q.1)
    stmt_calls a is (node.Switch e vs xs) h =
        let inner : Around = switched (within (fold_items rules vs) a) in
        let front : Bool = (part e).stands a && all_declare (fold_items rules vs) a in
        let whole : Bool = front && all_items (fold_items rules xs) inner in
        let apart : Bool = whole && all_different (values_of (fold_items rules xs)) in
        let q = two front (all_items (fold_items rules xs) inner) (first_true whole _ (first_true apart _ h)) in
        let r = two ((part e).stands a) (all_declare (fold_items rules vs) a) q.0 in
        (expr_calls a is e r.0, heads_calls vs (declared_heads a vs r.1), labelled_calls inner is xs q.1)
    stmt_calls a is (node.ReturnValue e) h = expr_calls a is e h
    stmt_calls a is _ h = tt

    items_calls : (a : Around) → a.functions ≡ parameters_of fs → (xs : Items)
        → all_stand (fold_items rules xs) a ≡ true → HaveCallsItems fs xs
    items_calls a is node.NoItem h = tt
    items_calls a is (node.Item s xs) h =
        let q = two ((act s).stands a) (all_stand (fold_items rules xs) a) h in
        (stmt_calls a is s q.0, items_calls a is xs q.1)

    labelled_calls : (a : Around) → a.functions ≡ parameters_of fs → (xs : Items)
        → all_items (fold_items rules xs) a ≡ true → HaveCallsItems fs xs
    labelled_calls a is node.NoItem h = tt
    labelled_calls a is (node.Item s xs) h =
        let q = two (is_label (act s) || (act s).stands a) (all_items (fold_items rules xs) a) h in
        (label_or a s q.0 (λ k. stmt_calls a is s k), labelled_calls a is xs q.1)

  by_body : (a : Around) → a.functions ≡ parameters_of fs → (s : Stmt) (n : ℕ) → (act s).is_body n a ≡ true
      → HasCallsStmt fs s
  by_body a is (node.Block vs xs) n h =
      let heads : Bool = all_declare (drop n (fold_items rules vs)) a in
      let rest : Bool = all_stand (fold_items rules xs) (within (fold_items rules vs) a) in
      let first : Bool = are_parameters 0 (take n (fold_items rules vs)) a in
      let many : Bool = nat_le n (length (fold_items rules vs)) in
      let q = two (many && first && heads) rest h in
      let r = two (many && first) heads q.0 in
      let t = body_heads a vs n 0 (second_true many first r.0) r.1 in
      (heads_calls vs t, items_calls (within (fold_items rules vs) a) is xs q.1)
  by_body a is _ n h = absurd cc

-- ---- functions and ticks

pub function_calls : (p : node.Program) (ticks : List (List CaptureKind)) (f : Function) → IsFunction p ticks f
    → HasCallsStmt p.functions f.body
function_calls p ticks f h = by_body p.functions (round_function p ticks f) refl f.body f.parameters h.stands

pub tick_calls : (p : node.Program) (ticks : List (List CaptureKind)) (t : node.TickBody) (kinds : List CaptureKind)
    → IsTick p ticks t kinds → HasCallsBody p.functions t
tick_calls p ticks (node.Expression e) kinds h = expr_calls p.functions (round_tick p ticks kinds) refl e h.stands
tick_calls p ticks (node.Statement s) kinds h = stmt_calls p.functions (round_tick p ticks kinds) refl s h.stands
