-- Each frame object that an accepted text's function names lies in its frame.
use Rattle.std.proofs.Common.{◌≡◌, ℕ, zero, suc, ◌+◌, ◌*◌, ◌%◌, ◌==◌, ◌≤◌, Bool, true, ◌&&◌, ◌||◌, nat_le, List, length}
use Rattle.std.proofs.Common.{take, drop, refl, subst, arith}
use Rattle.std.specs.List.{list_all}
use Rattle.std.proofs.lemmas.Bool.Decides.{nat_tests}
use Rattle.typed_tree.specs.declared.expression.CaptureKind.{CaptureKind}
use Rattle.typed_tree.specs.Nodes as node
use Rattle.typed_tree.specs.Nodes.{Expr, Args, Stmt, Items, Function, fold_args, fold_items}
use Rattle.wellformed.specs.Places.{Around, in_function, are_few, is_called, expr_rule, rules, values_of, is_object}
use Rattle.wellformed.specs.Places.{all_different, all_declare, all_stand, is_label, all_items, are_parameters, within}
use Rattle.wellformed.specs.Places.{looped, switched}
use Rattle.wellformed.specs.Program.{IsFunction, round_function}
use Rattle.wellformed.proofs.Bools.{first_true, second_true}
use Rattle.staged_meaning.specs.Frames.{IsWithin, HasFrames, HaveFrames, HasFramesStmt, HaveFramesItems}
use Rattle.wf_ready.proofs.Scoped.{part, act, two}

abbrev all_stand_in : Around → Args → Bool
all_stand_in a args = list_all (λ p. p.stands a) (fold_args expr_rule args)

abbrev all_captured_in : Around → Args → Bool
all_captured_in a args = list_all (λ p. p.is_capture a) (fold_args expr_rule args)

module _ (object : ℕ) where
  mutual
    pub expr_frames : (a : Around) → a.object ≡ object → (e : Expr) → (part e).stands a ≡ true → HasFrames object e
    expr_frames a is (node.SetVar i e) h = expr_frames a is e (second_true _ ((part e).stands a) h)
    expr_frames a is (node.VSet i e) h = expr_frames a is e (second_true _ ((part e).stands a) h)
    expr_frames a is (node.Frame off) h =
        let q = two (in_function a && nat_le off a.object) (off % 4 == 0) h in
        let low = second_true (in_function a) (nat_le off a.object) q.0 in
        let fits : off ≤ a.object = grind (arith, nat_tests, low) in
        subst (λ o. off ≤ o) is fits
    expr_frames a is (node.Load w e) h = expr_frames a is e h
    expr_frames a is (node.Store w e f) h =
        let q = two ((part e).stands a) ((part f).stands a) h in (expr_frames a is e q.0, expr_frames a is f q.1)
    expr_frames a is (node.Modify w k e f) h =
        let q = two ((part e).stands a) ((part f).stands a) h in (expr_frames a is e q.0, expr_frames a is f q.1)
    expr_frames a is (node.Post w step e) h = expr_frames a is e h
    expr_frames a is (node.Bin k e f) h =
        let q = two ((part e).stands a) ((part f).stands a) h in (expr_frames a is e q.0, expr_frames a is f q.1)
    expr_frames a is (node.Un k e) h = expr_frames a is e h
    expr_frames a is (node.And e f) h =
        let q = two ((part e).stands a) ((part f).stands a) h in (expr_frames a is e q.0, expr_frames a is f q.1)
    expr_frames a is (node.Or e f) h =
        let q = two ((part e).stands a) ((part f).stands a) h in (expr_frames a is e q.0, expr_frames a is f q.1)
    expr_frames a is (node.Cond c e f) h =
        let q = two ((part c).stands a) ((part e).stands a && (part f).stands a) h in
        let r = two ((part e).stands a) ((part f).stands a) q.1 in
        (expr_frames a is c q.0, expr_frames a is e r.0, expr_frames a is f r.1)
    expr_frames a is (node.Comma e f) h =
        let q = two ((part e).stands a) ((part f).stands a) h in (expr_frames a is e q.0, expr_frames a is f q.1)
    expr_frames a is (node.Void e) h = expr_frames a is e h
    expr_frames a is (node.Call r f args) h =
        let q
        = two (is_called f (length (fold_args expr_rule args)) a) (all_stand_in a args) h in
        args_frames a is args q.1
    expr_frames a is (node.CallNumber r e args) h =
        let q
        = two ((part e).stands a && are_few (length (fold_args expr_rule args))) (all_stand_in a args) h in
        let r = two ((part e).stands a) (are_few (length (fold_args expr_rule args))) q.0 in
        (expr_frames a is e r.0, args_frames a is args q.1)
    expr_frames a is (node.Lib f e) h = expr_frames a is e h
    expr_frames a is (node.Tick t args) h =
        captures_frames a is args
        (second_true (in_function a) (all_captured_in a args)
        (first_true (in_function a && all_captured_in a args) _ h))
    expr_frames a is (node.Capture k e) h = absurd cc
    expr_frames a is (node.Compile e) h = expr_frames a is e (second_true _ ((part e).stands a) h)
    expr_frames a is (node.ParamOf e) h = expr_frames a is e (second_true _ ((part e).stands a) h)
    expr_frames a is _ h = tt

    args_frames : (a : Around) → a.object ≡ object → (args : Args)
        → list_all (λ p. p.stands a) (fold_args expr_rule args) ≡ true → HaveFrames object args
    args_frames a is node.NoArg h = tt
    args_frames a is (node.Arg e args) h =
        let q = two ((part e).stands a) (list_all (λ p. p.stands a) (fold_args expr_rule args)) h in
        (expr_frames a is e q.0, args_frames a is args q.1)

    capture_frames : (a : Around) → a.object ≡ object → (e : Expr) → (part e).is_capture a ≡ true
        → HasFrames object e
    capture_frames a is (node.Capture k e) h = expr_frames a is e h
    capture_frames a is _ h = absurd cc

    captures_frames : (a : Around) → a.object ≡ object → (args : Args)
        → list_all (λ p. p.is_capture a) (fold_args expr_rule args) ≡ true → HaveFrames object args
    captures_frames a is node.NoArg h = tt
    captures_frames a is (node.Arg e args) h =
        let q = two ((part e).is_capture a) (list_all (λ p. p.is_capture a) (fold_args expr_rule args)) h in
        (capture_frames a is e q.0, captures_frames a is args q.1)

  -- ---- statements

  -- an object that a node declares
  object_within : (a : Around) → a.object ≡ object → (off words : ℕ) → is_object off words a ≡ true →
      IsWithin object off (4 * words) × (1 ≤ words)
  object_within a is off words h =
      let q = two (nat_le 1 words && in_function a && nat_le (off + 4 * words) a.object) (off % 4 == 0) h in
      let r = two (nat_le 1 words && in_function a) (nat_le (off + 4 * words) a.object) q.0 in
      let one = first_true (nat_le 1 words) (in_function a) r.0 in
      let low = r.1 in
      let even = q.1 in
      let fits : off + 4 * words ≤ a.object = grind (arith, nat_tests, low) in
      ((subst (λ o. off + 4 * words ≤ o) is fits, grind (arith, nat_tests, even)), grind (arith, nat_tests, one))

  declared_frames : (a : Around) → a.object ≡ object → (vs : Items) → all_declare (fold_items rules vs) a ≡ true →
      HaveFramesItems object vs
  declared_frames a is node.NoItem h = tt
  declared_frames a is (node.Item s vs) h =
      let q = two ((act s).declares a) (all_declare (fold_items rules vs) a) h in
      (one_frame s q.0, declared_frames a is vs q.1)
    where
      one_frame : (s : Stmt) → (act s).declares a ≡ true → HasFramesStmt object s
      one_frame (node.Variable i) h = tt
      one_frame (node.Object off words) h = object_within a is off words h
      one_frame _ h = absurd cc

  -- the first n are parameters from k on, and the others declare
  head_frames : (a : Around) → a.object ≡ object → (vs : Items) (n k : ℕ) →
      are_parameters k (take n (fold_items rules vs)) a ≡ true →
      all_declare (drop n (fold_items rules vs)) a ≡ true → HaveFramesItems object vs
  head_frames a is vs zero k first rest = declared_frames a is vs rest
  head_frames a is node.NoItem (suc n) k first rest = tt
  head_frames a is (node.Item s vs) (suc n) k first rest =
      let q = two ((act s).is_parameter k a) (are_parameters (k + 1) (take n (fold_items rules vs)) a) first in
      (one_frame s q.0, head_frames a is vs n (k + 1) q.1 rest)
    where
      one_frame : (s : Stmt) → (act s).is_parameter k a ≡ true → HasFramesStmt object s
      one_frame (node.Parameter i w) h = tt
      one_frame (node.ParameterObject i w off) h =
          (object_within a is off 1 (second_true (k == i) (is_object off 1 a) h)).0
      one_frame _ h = absurd cc

  -- a label names no object
  label_or : (a : Around) (s : Stmt) → (is_label (act s) || (act s).stands a) ≡ true
      → ((act s).stands a ≡ true → HasFramesStmt object s) → HasFramesStmt object s
  label_or a (node.Case v) h f = tt
  label_or a node.Default h f = tt
  label_or a _ h f = f h

  mutual
    pub stmt_frames : (a : Around) → a.object ≡ object → (s : Stmt) → (act s).stands a ≡ true
        → HasFramesStmt object s
    stmt_frames a is (node.Eval e) h = expr_frames a is e h
    stmt_frames a is (node.Block vs xs) h =
        let q
        = two (all_declare (fold_items rules vs) a)
        (all_stand (fold_items rules xs) (within (fold_items rules vs) a)) h in
        (declared_frames a is vs q.0, items_frames (within (fold_items rules vs) a) is xs q.1)
    stmt_frames a is (node.If e s) h =
        let q = two ((part e).stands a) ((act s).stands a) h in (expr_frames a is e q.0, stmt_frames a is s q.1)
    stmt_frames a is (node.IfElse e s t) h =
        let q = two ((part e).stands a && (act s).stands a) ((act t).stands a) h in
        let r = two ((part e).stands a) ((act s).stands a) q.0 in
        (expr_frames a is e r.0, stmt_frames a is s r.1, stmt_frames a is t q.1)
    stmt_frames a is (node.While e s) h =
        let q = two ((part e).stands a) ((act s).stands (looped a)) h in
        (expr_frames a is e q.0, stmt_frames (looped a) is s q.1)
    stmt_frames a is (node.Do s e) h =
        let q = two ((act s).stands (looped a)) ((part e).stands a) h in
        (stmt_frames (looped a) is s q.0, expr_frames a is e q.1)
    stmt_frames a is (node.For e s) h =
        let q = two ((part e).stands a) ((act s).stands (looped a)) h in
        (expr_frames a is e q.0, stmt_frames (looped a) is s q.1)
    stmt_frames a is (node.ForStep e step s) h =
        let q = two ((part e).stands a && (part step).stands a) ((act s).stands (looped a)) h in
        let r = two ((part e).stands a) ((part step).stands a) q.0 in
        (expr_frames a is e r.0, expr_frames a is step r.1, stmt_frames (looped a) is s q.1)
    stmt_frames a is (node.Switch e vs xs) h =
        let inner : Around = switched (within (fold_items rules vs) a) in
        let front : Bool = (part e).stands a && all_declare (fold_items rules vs) a in
        let whole : Bool = front && all_items (fold_items rules xs) inner in
        let apart : Bool = whole && all_different (values_of (fold_items rules xs)) in
        let q = two front (all_items (fold_items rules xs) inner) (first_true whole _ (first_true apart _ h)) in
        let r = two ((part e).stands a) (all_declare (fold_items rules vs) a) q.0 in
        (expr_frames a is e r.0, declared_frames a is vs r.1, labelled_frames inner is xs q.1)
    stmt_frames a is (node.ReturnValue e) h = expr_frames a is e h
    stmt_frames a is (node.Object off words) h = absurd cc
    stmt_frames a is (node.ParameterObject k w off) h = absurd cc
    stmt_frames a is _ h = tt

    items_frames : (a : Around) → a.object ≡ object → (xs : Items)
        → all_stand (fold_items rules xs) a ≡ true → HaveFramesItems object xs
    items_frames a is node.NoItem h = tt
    items_frames a is (node.Item s xs) h =
        let q = two ((act s).stands a) (all_stand (fold_items rules xs) a) h in
        (stmt_frames a is s q.0, items_frames a is xs q.1)

    labelled_frames : (a : Around) → a.object ≡ object → (xs : Items)
        → all_items (fold_items rules xs) a ≡ true → HaveFramesItems object xs
    labelled_frames a is node.NoItem h = tt
    labelled_frames a is (node.Item s xs) h =
        let q = two (is_label (act s) || (act s).stands a) (all_items (fold_items rules xs) a) h in
        (label_or a s q.0 (λ k. stmt_frames a is s k), labelled_frames a is xs q.1)

  by_body : (a : Around) → a.object ≡ object → (s : Stmt) (n : ℕ) → (act s).is_body n a ≡ true
      → HasFramesStmt object s
  by_body a is (node.Block vs xs) n h =
      let heads : Bool = all_declare (drop n (fold_items rules vs)) a in
      let rest : Bool = all_stand (fold_items rules xs) (within (fold_items rules vs) a) in
      let first : Bool = are_parameters 0 (take n (fold_items rules vs)) a in
      let many : Bool = nat_le n (length (fold_items rules vs)) in
      let q = two (many && first && heads) rest h in
      let r = two (many && first) heads q.0 in (
        head_frames a is vs n 0 (second_true many first r.0) r.1,
        items_frames (within (fold_items rules vs) a) is xs
            q.1,
      )
  by_body a is _ n h = absurd cc

-- ---- functions

pub function_frames : (p : node.Program) (ticks : List (List CaptureKind)) (f : Function) → IsFunction p ticks f →
    HasFramesStmt f.object f.body
function_frames p ticks f h = by_body f.object (round_function p ticks f) refl f.body f.parameters h.stands
