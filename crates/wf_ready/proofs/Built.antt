-- The nodes of an accepted text's functions and ticks name captures of their kinds, and functions name none.
use Rattle.std.proofs.Common.{◌≡◌, ℕ, Bool, true, ◌&&◌, ◌||◌, nat_le}
use Rattle.std.proofs.Common.{List, [], length, take, drop, refl, sym, ap, ◌∙◌, slice_get, Option}
use Rattle.std.proofs.Common.{Some, None}
use Rattle.std.specs.List.{list_all}
use Rattle.typed_tree.specs.declared.expression.Answer.{Answer}
use Rattle.typed_tree.specs.declared.expression.CaptureKind.{CaptureKind}
use Rattle.typed_tree.specs.declared.expression.CaptureKind.TheVariants as kind
use Rattle.typed_tree.specs.declared.expression.CapturedWord.{CapturedWord}
use Rattle.typed_tree.specs.declared.expression.CapturedWord.TheVariants as word
use Rattle.typed_tree.specs.Nodes as node
use Rattle.typed_tree.specs.Nodes.{Expr, Args, Stmt, Items, Function, fold_args, fold_items}
use Rattle.wellformed.specs.Places.{Around, in_function, are_few, is_called, expr_rule, rules, values_of}
use Rattle.wellformed.specs.Places.{all_different, all_declare, all_stand, is_label, all_items, are_parameters, within}
use Rattle.wellformed.specs.Places.{looped, switched, kind_at}
use Rattle.wellformed.specs.Places.{captured, captured_in, is_variable, is_word, is_splice}
use Rattle.wellformed.specs.Program.{IsFunction, IsTick, round_function, round_tick}
use Rattle.wellformed.proofs.Bools.{first_true, second_true}
use Rattle.staged_meaning.specs.Ticks.{AreCaptures}
use Rattle.staged_meaning.specs.Scope.{kind_of_word, HasCapture, IsBuilt, AreBuilt, IsBuiltStmt, AreBuiltItems}
use Rattle.wf_ready.proofs.Scoped.{part, act, two, IsHead, AreHeads, declared_heads, body_heads}
use Rattle.wf_ready.proofs.Calls.{all_stand_in, all_captured_in}
use Rattle.wf_ready.proofs.Ticks.{kinds_are}

-- what a tick captures, and a function captures nothing
abbrev pub listed : Option (List CaptureKind) → List CaptureKind
listed None = []
listed (Some kinds) = kinds

word_is : (w : CapturedWord) (k : CaptureKind) → is_word w k ≡ true → kind_of_word w ≡ k
word_is word.Dollar k h = kinds_are kind.Dollar k h
word_is word.Address k h = kinds_are kind.Address k h

variable_is : (k : CaptureKind) → is_variable k ≡ true → kind.Variable ≡ k
variable_is k h = kinds_are kind.Variable k h

splice_is : (r : Answer) (k : CaptureKind) → is_splice r k ≡ true → kind.Splice r ≡ k
splice_is r k h = kinds_are (kind.Splice r) k h

module _ (p : CaptureKind → Bool) (k : CaptureKind) (only : (m : CaptureKind) → p m ≡ true → k ≡ m) where
  one_there : (o : Option CaptureKind) → kind_at p o ≡ true → o ≡ Some k
  one_there None h = absurd cc
  one_there (Some m) h = ap Some (sym (only m h))

  -- a capture that stands there is there
  capture_there : (own : Option (List CaptureKind)) (i : ℕ) → captured_in p i own ≡ true → HasCapture (listed own) i k
  capture_there None i h = absurd cc
  capture_there (Some kinds) i h = one_there (slice_get kinds i) h

here : (p : CaptureKind → Bool) (i : ℕ) (a : Around) {own : Option (List CaptureKind)} → a.captures ≡ own
    → captured p i a ≡ true → captured_in p i own ≡ true
here p i a is h = sym (ap (captured_in p i) is) ∙ h

-- ---- expressions

module _ (own : Option (List CaptureKind)) where
  mutual
    expr_built : (a : Around) → a.captures ≡ own → (e : Expr) → (part e).stands a ≡ true →
        IsBuilt (listed own) e
    expr_built a is (node.SetVar i e) h = expr_built a is e (second_true _ ((part e).stands a) h)
    expr_built a is (node.Captured w i) h =
        capture_there (is_word w) (kind_of_word w) (word_is w) own i (here (is_word w) i a is h)
    expr_built a is (node.VGet i) h =
        capture_there is_variable kind.Variable variable_is own i (here is_variable i a is h)
    expr_built a is (node.VSet i e) h =
        let q = two (captured is_variable i a) ((part e).stands a) h in
        (capture_there is_variable kind.Variable variable_is own i (here is_variable i a is q.0), expr_built a is e q.1)
    expr_built a is (node.VPost i step) h =
        capture_there is_variable kind.Variable variable_is own i (here is_variable i a is h)
    expr_built a is (node.Splice r i) h =
        capture_there (is_splice r) (kind.Splice r) (splice_is r) own i (here (is_splice r) i a is h)
    expr_built a is (node.Load w e) h = expr_built a is e h
    expr_built a is (node.Store w e f) h =
        let q = two ((part e).stands a) ((part f).stands a) h in
        (expr_built a is e q.0, expr_built a is f q.1)
    expr_built a is (node.Modify w k e f) h =
        let q = two ((part e).stands a) ((part f).stands a) h in
        (expr_built a is e q.0, expr_built a is f q.1)
    expr_built a is (node.Post w step e) h = expr_built a is e h
    expr_built a is (node.Bin k e f) h =
        let q = two ((part e).stands a) ((part f).stands a) h in
        (expr_built a is e q.0, expr_built a is f q.1)
    expr_built a is (node.Un k e) h = expr_built a is e h
    expr_built a is (node.And e f) h =
        let q = two ((part e).stands a) ((part f).stands a) h in
        (expr_built a is e q.0, expr_built a is f q.1)
    expr_built a is (node.Or e f) h =
        let q = two ((part e).stands a) ((part f).stands a) h in
        (expr_built a is e q.0, expr_built a is f q.1)
    expr_built a is (node.Cond c e f) h =
        let q = two ((part c).stands a) ((part e).stands a && (part f).stands a) h in
        let r = two ((part e).stands a) ((part f).stands a) q.1 in
        (expr_built a is c q.0, expr_built a is e r.0, expr_built a is f r.1)
    expr_built a is (node.Comma e f) h =
        let q = two ((part e).stands a) ((part f).stands a) h in
        (expr_built a is e q.0, expr_built a is f q.1)
    expr_built a is (node.Void e) h = expr_built a is e h
    expr_built a is (node.Call r f args) h =
        args_built a is args (two (is_called f (length (fold_args expr_rule args)) a) (all_stand_in a args) h).1
    expr_built a is (node.CallNumber r e args) h =
        let q = two ((part e).stands a && are_few (length (fold_args expr_rule args))) (all_stand_in a args) h in
        let r = two ((part e).stands a) (are_few (length (fold_args expr_rule args))) q.0 in
        (expr_built a is e r.0, args_built a is args q.1)
    expr_built a is (node.Lib f e) h = expr_built a is e h
    expr_built a is (node.Tick t args) h =
        captures_built a is args
        (second_true (in_function a) (all_captured_in a args)
        (first_true (in_function a && all_captured_in a args) _ h))
    expr_built a is (node.Capture k e) h = absurd cc
    expr_built a is (node.Compile e) h = expr_built a is e (second_true _ ((part e).stands a) h)
    expr_built a is (node.ParamOf e) h = expr_built a is e (second_true _ ((part e).stands a) h)
    expr_built a is _ h = tt

    args_built : (a : Around) → a.captures ≡ own → (args : Args)
        → list_all (λ p. p.stands a) (fold_args expr_rule args) ≡ true → AreBuilt (listed own) args
    args_built a is node.NoArg h = tt
    args_built a is (node.Arg e args) h =
        let q = two ((part e).stands a) (list_all (λ p. p.stands a) (fold_args expr_rule args)) h in
        (expr_built a is e q.0, args_built a is args q.1)

    -- each of a tick's list is a capture
    captures_built : (a : Around) → a.captures ≡ own → (args : Args)
        → list_all (λ p. p.is_capture a) (fold_args expr_rule args) ≡ true → AreCaptures args × AreBuilt (listed own) args
    captures_built a is node.NoArg h = (tt, tt)
    captures_built a is (node.Arg (node.Capture k e) args) h =
        let q = two ((part e).stands a) (list_all (λ p. p.is_capture a) (fold_args expr_rule args)) h in
        let rest = captures_built a is args q.1 in (rest.0, (expr_built a is e q.0, rest.1))
    captures_built a is (node.Arg _ args) h = absurd cc

  -- ---- statements

  -- the node of a variable or of a parameter names no capture
  head_built : (s : Stmt) → IsHead s → IsBuiltStmt (listed own) s
  head_built (node.Variable i) h = tt
  head_built (node.Object off words) h = tt
  head_built (node.Parameter k w) h = tt
  head_built (node.ParameterObject k w off) h = tt
  head_built _ h = absurd h

  heads_built : (vs : Items) → AreHeads vs → AreBuiltItems (listed own) vs
  heads_built node.NoItem h = tt
  heads_built (node.Item s vs) h = (head_built s h.0, heads_built vs h.1)

  -- a label names none
  label_or : (a : Around) (s : Stmt) → (is_label (act s) || (act s).stands a) ≡ true
      → ((act s).stands a ≡ true → IsBuiltStmt (listed own) s) → IsBuiltStmt (listed own) s
  label_or a (node.Case v) h f = tt
  label_or a node.Default h f = tt
  label_or a _ h f = f h

  mutual
    stmt_built : (a : Around) → a.captures ≡ own → (s : Stmt) → (act s).stands a ≡ true
        → IsBuiltStmt (listed own) s
    stmt_built a is (node.Eval e) h = expr_built a is e h
    stmt_built a is (node.Block vs xs) h =
        let q
        = two (all_declare (fold_items rules vs) a)
        (all_stand (fold_items rules xs) (within (fold_items rules vs) a)) h in
        (heads_built vs (declared_heads a vs q.0), items_built (within (fold_items rules vs) a) is xs q.1)
    stmt_built a is (node.If e s) h =
        let q = two ((part e).stands a) ((act s).stands a) h in (expr_built a is e q.0, stmt_built a is s q.1)
    stmt_built a is (node.IfElse e s t) h =
        let q = two ((part e).stands a && (act s).stands a) ((act t).stands a) h in
        let r = two ((part e).stands a) ((act s).stands a) q.0 in
        (expr_built a is e r.0, stmt_built a is s r.1, stmt_built a is t q.1)
    stmt_built a is (node.While e s) h =
        let q = two ((part e).stands a) ((act s).stands (looped a)) h in
        (expr_built a is e q.0, stmt_built (looped a) is s q.1)
    stmt_built a is (node.Do s e) h =
        let q = two ((act s).stands (looped a)) ((part e).stands a) h in
        (stmt_built (looped a) is s q.0, expr_built a is e q.1)
    stmt_built a is (node.For e s) h =
        let q = two ((part e).stands a) ((act s).stands (looped a)) h in
        (expr_built a is e q.0, stmt_built (looped a) is s q.1)
    stmt_built a is (node.ForStep e step s) h =
        let q = two ((part e).stands a && (part step).stands a) ((act s).stands (looped a)) h in
        let r = two ((part e).stands a) ((part step).stands a) q.0 in
        (expr_built a is e r.0, expr_built a is step r.1, stmt_built (looped a) is s q.1)
    stmt_built a is (node.Switch e vs xs) h =
        let inner : Around = switched (within (fold_items rules vs) a) in
        let front : Bool = (part e).stands a && all_declare (fold_items rules vs) a in
        let whole : Bool = front && all_items (fold_items rules xs) inner in
        let apart : Bool = whole && all_different (values_of (fold_items rules xs)) in
        let q = two front (all_items (fold_items rules xs) inner) (first_true whole _ (first_true apart _ h)) in
        let r = two ((part e).stands a) (all_declare (fold_items rules vs) a) q.0 in
        (expr_built a is e r.0, heads_built vs (declared_heads a vs r.1), labelled_built inner is xs q.1)
    stmt_built a is (node.ReturnValue e) h = expr_built a is e h
    stmt_built a is _ h = tt

    items_built : (a : Around) → a.captures ≡ own → (xs : Items)
        → all_stand (fold_items rules xs) a ≡ true → AreBuiltItems (listed own) xs
    items_built a is node.NoItem h = tt
    items_built a is (node.Item s xs) h =
        let q = two ((act s).stands a) (all_stand (fold_items rules xs) a) h in
        (stmt_built a is s q.0, items_built a is xs q.1)

    labelled_built : (a : Around) → a.captures ≡ own → (xs : Items)
        → all_items (fold_items rules xs) a ≡ true → AreBuiltItems (listed own) xs
    labelled_built a is node.NoItem h = tt
    labelled_built a is (node.Item s xs) h =
        let q = two (is_label (act s) || (act s).stands a) (all_items (fold_items rules xs) a) h in
        (label_or a s q.0 (λ k. stmt_built a is s k), labelled_built a is xs q.1)

  by_body : (a : Around) → a.captures ≡ own → (s : Stmt) (n : ℕ) → (act s).is_body n a ≡ true
      → IsBuiltStmt (listed own) s
  by_body a is (node.Block vs xs) n h =
      let heads : Bool = all_declare (drop n (fold_items rules vs)) a in
      let rest : Bool = all_stand (fold_items rules xs) (within (fold_items rules vs) a) in
      let first : Bool = are_parameters 0 (take n (fold_items rules vs)) a in
      let many : Bool = nat_le n (length (fold_items rules vs)) in
      let q = two (many && first && heads) rest h in
      let r = two (many && first) heads q.0 in
      let t = body_heads a vs n 0 (second_true many first r.0) r.1 in
      (heads_built vs t, items_built (within (fold_items rules vs) a) is xs q.1)
  by_body a is _ n h = absurd cc

-- ---- functions and ticks

pub function_built : (p : node.Program) (ticks : List (List CaptureKind)) (f : Function) → IsFunction p ticks f
    → IsBuiltStmt [] f.body
function_built p ticks f h = by_body None (round_function p ticks f) refl f.body f.parameters h.stands

pub expression_built : (p : node.Program) (ticks : List (List CaptureKind)) (e : Expr) (kinds : List CaptureKind)
    → IsTick p ticks (node.Expression e) kinds → IsBuilt kinds e
expression_built p ticks e kinds h = expr_built (Some kinds) (round_tick p ticks kinds) refl e h.stands

pub statement_built : (p : node.Program) (ticks : List (List CaptureKind)) (s : Stmt) (kinds : List CaptureKind)
    → IsTick p ticks (node.Statement s) kinds → IsBuiltStmt kinds s
statement_built p ticks s kinds h = stmt_built (Some kinds) (round_tick p ticks kinds) refl s h.stands
