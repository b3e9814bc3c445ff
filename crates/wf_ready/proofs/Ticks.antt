-- Each tick in an accepted text's functions has as many captures as the tick of its number names, of these kinds, and a
-- capture stands nowhere else.
use Rattle.std.proofs.Common.{◌≡◌, ℕ, Bool, true, ◌&&◌, ◌||◌, nat_le}
use Rattle.std.proofs.Common.{List, [], ◌∷◌, ◌++◌, length, take, drop, refl, sym, ap, ◌∙◌, slice_get, Option}
use Rattle.std.proofs.Common.{Some, None}
use Rattle.std.specs.List.{list_all}
use Rattle.typed_tree.specs.declared.expression.Answer.{Answer}
use Rattle.typed_tree.specs.declared.expression.Answer.TheVariants as answer
use Rattle.typed_tree.specs.declared.expression.CaptureKind.{CaptureKind}
use Rattle.typed_tree.specs.declared.expression.CaptureKind.TheVariants as kind
use Rattle.typed_tree.specs.Nodes as node
use Rattle.typed_tree.specs.Nodes.{Expr, Args, Stmt, Items, Function, fold_args, fold_items}
use Rattle.wellformed.specs.Places.{Around, in_function, are_few, is_called, expr_rule, rules, values_of}
use Rattle.wellformed.specs.Places.{all_different, all_declare, all_stand, is_label, all_items, are_parameters, within}
use Rattle.wellformed.specs.Places.{looped, switched, kinds_at, same_kinds, same_kind, same_answer}
use Rattle.wellformed.specs.Places.{captured, captured_in, is_variable, is_word, is_splice}
use Rattle.wellformed.specs.Places as places
use Rattle.wellformed.specs.Program.{IsFunction, round_function}
use Rattle.wellformed.proofs.Bools.{first_true, second_true}
use Rattle.staged_meaning.specs.Specifications.{kind_of, kinds_of}
use Rattle.staged_meaning.specs.Ticks.{HasTicks, HaveTicks, HaveTicksCaptures, HasTicksStmt, HaveTicksItems}
use Rattle.wf_ready.proofs.Scoped.{part, act, two, IsHead, AreHeads, declared_heads, body_heads}
use Rattle.wf_ready.proofs.Calls.{all_stand_in, all_captured_in}

-- ---- the kinds that a tick's list has

same_answers : (r s : Answer) → same_answer r s ≡ true → r ≡ s
same_answers answer.Value answer.Value h = refl
same_answers answer.Void answer.Void h = refl
same_answers answer.Value answer.Void h = absurd cc
same_answers answer.Void answer.Value h = absurd cc

pub kinds_are : (k m : CaptureKind) → same_kind k m ≡ true → k ≡ m
kinds_are kind.Dollar kind.Dollar h = refl
kinds_are kind.Address kind.Address h = refl
kinds_are kind.Variable kind.Variable h = refl
kinds_are (kind.Splice r) (kind.Splice s) h = ap kind.Splice (same_answers r s h)
kinds_are _ _ h = absurd cc

all_same : (ks ms : List CaptureKind) → same_kinds ks ms ≡ true → ks ≡ ms
all_same [] [] h = refl
all_same (k ∷ ks) (m ∷ ms) h =
    let q = two (same_kind k m) (same_kinds ks ms) h in
    ap (λ z. z ∷ ks) (kinds_are k m q.0) ∙ ap (λ z. m ∷ z) (all_same ks ms q.1)
all_same [] (m ∷ ms) h = absurd cc
all_same (k ∷ ks) [] h = absurd cc

pub kinds_there : (ks : List CaptureKind) (o : Option (List CaptureKind)) → kinds_at ks o ≡ true → o ≡ Some ks
kinds_there ks None h = absurd cc
kinds_there ks (Some ms) h = ap Some (sym (all_same ks ms h))

one_kind : (a : Around) (e : Expr) → (part e).is_capture a ≡ true → (part e).capture ≡ kind_of e ∷ []
one_kind a (node.Capture k e) h = refl
one_kind a _ h = absurd cc

pub as_listed : (a : Around) (args : Args) → list_all (λ p. p.is_capture a) (fold_args expr_rule args) ≡ true
    → places.kinds_of (fold_args expr_rule args) ≡ kinds_of args
as_listed a node.NoArg h = refl
as_listed a (node.Arg e args) h =
    let q = two ((part e).is_capture a) (list_all (λ p. p.is_capture a) (fold_args expr_rule args)) h in
    ap (λ z. z ++ places.kinds_of (fold_args expr_rule args)) (one_kind a e q.0)
    ∙ ap (λ z. kind_of e ∷ z) (as_listed a args q.1)

-- ---- expressions

module _ (ticks : List (List CaptureKind)) where
  mutual
    pub expr_ticks : (a : Around) → a.ticks ≡ ticks → (e : Expr) → (part e).stands a ≡ true →
        HasTicks ticks e
    expr_ticks a is (node.SetVar i e) h = expr_ticks a is e (second_true _ ((part e).stands a) h)
    expr_ticks a is (node.VSet i e) h = expr_ticks a is e (second_true _ ((part e).stands a) h)
    expr_ticks a is (node.Load w e) h = expr_ticks a is e h
    expr_ticks a is (node.Store w e f) h =
        let q = two ((part e).stands a) ((part f).stands a) h in
        (expr_ticks a is e q.0, expr_ticks a is f q.1)
    expr_ticks a is (node.Modify w k e f) h =
        let q = two ((part e).stands a) ((part f).stands a) h in
        (expr_ticks a is e q.0, expr_ticks a is f q.1)
    expr_ticks a is (node.Post w step e) h = expr_ticks a is e h
    expr_ticks a is (node.Bin k e f) h =
        let q = two ((part e).stands a) ((part f).stands a) h in
        (expr_ticks a is e q.0, expr_ticks a is f q.1)
    expr_ticks a is (node.Un k e) h = expr_ticks a is e h
    expr_ticks a is (node.And e f) h =
        let q = two ((part e).stands a) ((part f).stands a) h in
        (expr_ticks a is e q.0, expr_ticks a is f q.1)
    expr_ticks a is (node.Or e f) h =
        let q = two ((part e).stands a) ((part f).stands a) h in
        (expr_ticks a is e q.0, expr_ticks a is f q.1)
    expr_ticks a is (node.Cond c e f) h =
        let q = two ((part c).stands a) ((part e).stands a && (part f).stands a) h in
        let r = two ((part e).stands a) ((part f).stands a) q.1 in
        (expr_ticks a is c q.0, expr_ticks a is e r.0, expr_ticks a is f r.1)
    expr_ticks a is (node.Comma e f) h =
        let q = two ((part e).stands a) ((part f).stands a) h in
        (expr_ticks a is e q.0, expr_ticks a is f q.1)
    expr_ticks a is (node.Void e) h = expr_ticks a is e h
    expr_ticks a is (node.Call r f args) h =
        args_ticks a is args (two (is_called f (length (fold_args expr_rule args)) a) (all_stand_in a args) h).1
    expr_ticks a is (node.CallNumber r e args) h =
        let q = two ((part e).stands a && are_few (length (fold_args expr_rule args))) (all_stand_in a args) h in
        let r = two ((part e).stands a) (are_few (length (fold_args expr_rule args))) q.0 in
        (expr_ticks a is e r.0, args_ticks a is args q.1)
    expr_ticks a is (node.Lib f e) h = expr_ticks a is e h
    expr_ticks a is (node.Tick t args) h =
        let kinds = places.kinds_of (fold_args expr_rule args) in
        let q = two (in_function a && all_captured_in a args) (kinds_at kinds (slice_get a.ticks t)) h in
        let all = second_true (in_function a) (all_captured_in a args) q.0 in (
          ap (λ ts. slice_get ts t) (sym is) ∙ kinds_there kinds (slice_get a.ticks t) q.1
              ∙ ap Some (as_listed a args all),
          captures_ticks a is args all,
        )
    expr_ticks a is (node.Capture k e) h = absurd cc
    expr_ticks a is (node.Compile e) h = expr_ticks a is e (second_true _ ((part e).stands a) h)
    expr_ticks a is (node.ParamOf e) h = expr_ticks a is e (second_true _ ((part e).stands a) h)
    expr_ticks a is _ h = tt

    args_ticks : (a : Around) → a.ticks ≡ ticks → (args : Args)
        → list_all (λ p. p.stands a) (fold_args expr_rule args) ≡ true → HaveTicks ticks args
    args_ticks a is node.NoArg h = tt
    args_ticks a is (node.Arg e args) h =
        let q = two ((part e).stands a) (list_all (λ p. p.stands a) (fold_args expr_rule args)) h in
        (expr_ticks a is e q.0, args_ticks a is args q.1)

    -- each of a tick's list is a capture
    captures_ticks : (a : Around) → a.ticks ≡ ticks → (args : Args)
        → list_all (λ p. p.is_capture a) (fold_args expr_rule args) ≡ true → HaveTicksCaptures ticks args
    captures_ticks a is node.NoArg h = tt
    captures_ticks a is (node.Arg (node.Capture k e) args) h =
        let q = two ((part e).stands a) (list_all (λ p. p.is_capture a) (fold_args expr_rule args)) h in
        (expr_ticks a is e q.0, captures_ticks a is args q.1)
    captures_ticks a is (node.Arg _ args) h = absurd cc

  -- ---- statements

  -- the node of a variable or of a parameter makes nothing
  head_ticks : (s : Stmt) → IsHead s → HasTicksStmt ticks s
  head_ticks (node.Variable i) h = tt
  head_ticks (node.Object off words) h = tt
  head_ticks (node.Parameter k w) h = tt
  head_ticks (node.ParameterObject k w off) h = tt
  head_ticks _ h = absurd h

  heads_ticks : (vs : Items) → AreHeads vs → HaveTicksItems ticks vs
  heads_ticks node.NoItem h = tt
  heads_ticks (node.Item s vs) h = (head_ticks s h.0, heads_ticks vs h.1)

  -- a label makes nothing
  label_or : (a : Around) (s : Stmt) → (is_label (act s) || (act s).stands a) ≡ true
      → ((act s).stands a ≡ true → HasTicksStmt ticks s) → HasTicksStmt ticks s
  label_or a (node.Case v) h f = tt
  label_or a node.Default h f = tt
  label_or a _ h f = f h

  mutual
    pub stmt_ticks : (a : Around) → a.ticks ≡ ticks → (s : Stmt) → (act s).stands a ≡ true
        → HasTicksStmt ticks s
    stmt_ticks a is (node.Eval e) h = expr_ticks a is e h
    stmt_ticks a is (node.Block vs xs) h =
        let q
        = two (all_declare (fold_items rules vs) a)
        (all_stand (fold_items rules xs) (within (fold_items rules vs) a)) h in
        (heads_ticks vs (declared_heads a vs q.0), items_ticks (within (fold_items rules vs) a) is xs q.1)
    stmt_ticks a is (node.If e s) h =
        let q = two ((part e).stands a) ((act s).stands a) h in (expr_ticks a is e q.0, stmt_ticks a is s q.1)
    stmt_ticks a is (node.IfElse e s t) h =
        let q = two ((part e).stands a && (act s).stands a) ((act t).stands a) h in
        let r = two ((part e).stands a) ((act s).stands a) q.0 in
        (expr_ticks a is e r.0, stmt_ticks a is s r.1, stmt_ticks a is t q.1)
    stmt_ticks a is (node.While e s) h =
        let q = two ((part e).stands a) ((act s).stands (looped a)) h in
        (expr_ticks a is e q.0, stmt_ticks (looped a) is s q.1)
    stmt_ticks a is (node.Do s e) h =
        let q = two ((act s).stands (looped a)) ((part e).stands a) h in
        (stmt_ticks (looped a) is s q.0, expr_ticks a is e q.1)
    stmt_ticks a is (node.For e s) h =
        let q = two ((part e).stands a) ((act s).stands (looped a)) h in
        (expr_ticks a is e q.0, stmt_ticks (looped a) is s q.1)
    stmt_ticks a is (node.ForStep e step s) h =
        let q = two ((part e).stands a && (part step).stands a) ((act s).stands (looped a)) h in
        let r = two ((part e).stands a) ((part step).stands a) q.0 in
        (expr_ticks a is e r.0, expr_ticks a is step r.1, stmt_ticks (looped a) is s q.1)
    stmt_ticks a is (node.Switch e vs xs) h =
        let inner : Around = switched (within (fold_items rules vs) a) in
        let front : Bool = (part e).stands a && all_declare (fold_items rules vs) a in
        let whole : Bool = front && all_items (fold_items rules xs) inner in
        let apart : Bool = whole && all_different (values_of (fold_items rules xs)) in
        let q = two front (all_items (fold_items rules xs) inner) (first_true whole _ (first_true apart _ h)) in
        let r = two ((part e).stands a) (all_declare (fold_items rules vs) a) q.0 in
        (expr_ticks a is e r.0, heads_ticks vs (declared_heads a vs r.1), labelled_ticks inner is xs q.1)
    stmt_ticks a is (node.ReturnValue e) h = expr_ticks a is e h
    stmt_ticks a is _ h = tt

    items_ticks : (a : Around) → a.ticks ≡ ticks → (xs : Items)
        → all_stand (fold_items rules xs) a ≡ true → HaveTicksItems ticks xs
    items_ticks a is node.NoItem h = tt
    items_ticks a is (node.Item s xs) h =
        let q = two ((act s).stands a) (all_stand (fold_items rules xs) a) h in
        (stmt_ticks a is s q.0, items_ticks a is xs q.1)

    labelled_ticks : (a : Around) → a.ticks ≡ ticks → (xs : Items)
        → all_items (fold_items rules xs) a ≡ true → HaveTicksItems ticks xs
    labelled_ticks a is node.NoItem h = tt
    labelled_ticks a is (node.Item s xs) h =
        let q = two (is_label (act s) || (act s).stands a) (all_items (fold_items rules xs) a) h in
        (label_or a s q.0 (λ k. stmt_ticks a is s k), labelled_ticks a is xs q.1)

  by_body : (a : Around) → a.ticks ≡ ticks → (s : Stmt) (n : ℕ) → (act s).is_body n a ≡ true
      → HasTicksStmt ticks s
  by_body a is (node.Block vs xs) n h =
      let heads : Bool = all_declare (drop n (fold_items rules vs)) a in
      let rest : Bool = all_stand (fold_items rules xs) (within (fold_items rules vs) a) in
      let first : Bool = are_parameters 0 (take n (fold_items rules vs)) a in
      let many : Bool = nat_le n (length (fold_items rules vs)) in
      let q = two (many && first && heads) rest h in
      let r = two (many && first) heads q.0 in
      let t = body_heads a vs n 0 (second_true many first r.0) r.1 in
      (heads_ticks vs t, items_ticks (within (fold_items rules vs) a) is xs q.1)
  by_body a is _ n h = absurd cc

-- ---- functions

pub function_ticks : (p : node.Program) (ticks : List (List CaptureKind)) (f : Function) → IsFunction p ticks f
    → HasTicksStmt ticks f.body
function_ticks p ticks f h = by_body ticks (round_function p ticks f) refl f.body f.parameters h.stands
