-- Statements that begin at once, as far as nothing becomes pending.
use Rattle.std.proofs.Common.{◌≡◌, ◌≢◌, ◌≤◌, ◌<◌, ◌+◌, ℕ, zero, suc, Option, Some, None, IfOk, MatchOption, subst}
use Rattle.std.proofs.Common.{refl, ap, sym, ◌∙◌, arith, List, [], ◌∷◌, length, true, ◌==◌}
use Rattle.std.proofs.lemmas.Bool.{eqb-true}
use Rattle.std.proofs.Common as std
use Rattle.typed_tree.specs.declared.expression.Stmt as tree
use Rattle.typed_tree.specs.Nodes as node
use Rattle.typed_tree.specs.Nodes.{Expr, Stmt, Items, NoItem, Item}
use Rattle.staged_meaning.specs.Meaning.{Context, exec, exec_items, then_next}
use Rattle.staged_meaning.specs.World.{Flow, Normal, Broke, Continued, Gives, Returns, Ends, Stops}
use Rattle.staged_meaning.specs.World.{Result, World, at_zero, then_do}
use Rattle.eval_state.specs.Burden.{capture_weight, weight_of_stmt}
use Rattle.eval_state.specs.Pending.{Now, Exec, Frame}
use Rattle.eval_state.specs.Pending as pending
use Rattle.eval_state.specs.Rest.{left, after, valued, doing}
use Rattle.eval_state.proofs.Statements as statement
use Rattle.eval_state.specs.Less.{heft, held, loaded, waiting}
use Rattle.eval_state.specs.declared.parts.Now as code
use Rattle.eval_state.specs.declared.state.Parts.{Parts}
use Rattle.eval_state.specs.Views.{items_view, now_view}
use Rattle.eval_state.specs.Steps.{executed, taken}
use Rattle.eval_statements.proofs.Begins as begins
use Rattle.eval_state.specs.Run.{Run, run_of, here, world, leads, outcome, in_world}
use Rattle.eval_simple.specs.Simple.{IsDone}
use Rattle.eval_statements.specs.Ran.{IsRun, HasRun, IsGoing, whole}

-- ---- weights

weighs : (k : ℕ → ℕ) (s : Stmt) → 0 < weight_of_stmt k s
weighs k (node.Eval e) = omega arith
weighs k _ = omega arith

-- ---- nothing was done

pub stays : (r : Run) (s : Stmt) → IsGoing s (Exec s) r r
unfolding IsGoing
stays r s = (refl, refl, omega arith, λ same. omega arith)

-- ---- statements without parts

leaf : (r : Run) (s : Stmt) (n : Now) → doing (here r) n (world r) ≡ left (exec (here r) s (world r))
    → loaded n r ≡ 0 → IsGoing s n r r
unfolding IsGoing
leaf r s n h light = (
  refl,
  h,
  omega arith,
  λ same. omega (arith, light, weighs (capture_weight r.program.ticks r.state.body.captures) s),
)

pub starts_return : (r : Run) → IsGoing node.Return (pending.Returned 0) r r
starts_return r = leaf r node.Return (pending.Returned 0) refl refl

pub starts_break : (r : Run) → IsGoing node.Break (pending.Left Broke) r r
starts_break r = leaf r node.Break (pending.Left Broke) refl refl

pub starts_continue : (r : Run) → IsGoing node.Continue (pending.Left Continued) r r
starts_continue r = leaf r node.Continue (pending.Left Continued) refl refl

pub starts_case : (r : Run) (v : ℕ) → IsGoing (node.Case v) (pending.Left Normal) r r
starts_case r v = leaf r (node.Case v) (pending.Left Normal) refl refl

pub starts_default : (r : Run) → IsGoing node.Default (pending.Left Normal) r r
starts_default r = leaf r node.Default (pending.Left Normal) refl refl

-- ---- statements that run to their end

pub runs_through : (s : Stmt) (r t : Run) → IsRun s r t → IsGoing s (pending.Left Normal) r t
unfolding IsRun IsGoing
runs_through s r t h = (
  h.0,
  ap left (sym h.1),
  h.2,
  λ same. omega (arith, weighs (capture_weight r.program.ticks r.state.body.captures) s),
)

-- ---- a value is returned

pub returns : (e : Expr) (v : ℕ) (r t : Run) → IsDone e v r t
    → IsGoing (node.ReturnValue e) (pending.Returned v) r t
unfolding IsDone IsGoing
returns e v r t h = (
  h.0,
  ap (λ x. after (here r) pending.Return (valued x)) (sym h.1) ∙ statement.returns (here r) e (world r),
  omega (arith, h.2),
  λ same. omega (arith, h.2, same),
)

-- ---- choices

pub test_fails : (e : Expr) (s : Stmt) (v : ℕ) (r t : Run) → v ≡ 0 → IsDone e v r t
    → IsGoing (node.If e s) (pending.Left Normal) r t
unfolding IsDone IsGoing
test_fails e s v r t none h = (
  h.0,
  ap (λ v. left (at_zero v (Gives Normal (world t)) (exec (here r) s (world t)))) (sym none)
      ∙ ap (λ x. after (here r) (pending.If s) (valued x)) (sym h.1) ∙ statement.if_then (here r) e s (world r),
  omega (arith, h.2),
  λ same. omega (arith, h.2, same),
)

chosen : {A : Type 0} (v : ℕ) (x y : A) → v ≢ 0 → y ≡ at_zero v x y
chosen zero x y h = absurd (h refl)
chosen (suc v) x y h = refl

-- the place is the same
here_still : (r t : Run) → t ≡ in_world (world t) r → here t ≡ here r
here_still r t h = ap here h

-- what is left to do of a branch is left to do of the choice
module _ (s s1 : Stmt) (n : Now) (e : Expr) (v : ℕ) (r t u : Run)
    (done : IsDone e v r t) (going : IsGoing s1 n t u) where
  pub behind : left (exec (here r) s1 (world t)) ≡ left (exec (here r) s (world r)) → IsGoing s n r u
  unfolding IsDone IsGoing
  behind is =
      let place : here t ≡ here r = here_still r t done.0 in (
        going.0 ∙ ap (in_world (world u)) done.0,
        ap (λ c. doing c n (world u)) (sym place) ∙ going.1 ∙ ap (λ c. left (exec c s1 (world t))) place ∙ is,
        omega (arith, going.2, done.2),
        λ same. omega (arith, going.2, done.2, same),
      )

pub test_holds : (e : Expr) (s : Stmt) (n : Now) (v : ℕ) (r t u : Run) → v ≢ 0 → IsDone e v r t → IsGoing s n t u
    → IsGoing (node.If e s) n r u
unfolding IsDone
test_holds e s n v r t u some h k =
    behind (node.If e s) s n e v r t u h k
    (ap left (chosen v (Gives Normal (world t)) (exec (here r) s (world t)) some)
    ∙ ap (λ x. after (here r) (pending.If s) (valued x)) (sym h.1) ∙ statement.if_then (here r) e s (world r))

pub first_chosen : (e : Expr) (s1 s2 : Stmt) (n : Now) (v : ℕ) (r t u : Run) → v ≢ 0 → IsDone e v r t
    → IsGoing s1 n t u → IsGoing (node.IfElse e s1 s2) n r u
unfolding IsDone
first_chosen e s1 s2 n v r t u some h k =
    behind (node.IfElse e s1 s2) s1 n e v r t u h k
    (ap left (chosen v (exec (here r) s2 (world t)) (exec (here r) s1 (world t)) some)
    ∙ ap (λ x. after (here r) (pending.IfElse s1 s2) (valued x)) (sym h.1)
    ∙ statement.if_else (here r) e s1 s2 (world r))

pub second_chosen : (e : Expr) (s1 s2 : Stmt) (n : Now) (v : ℕ) (r t u : Run) → v ≡ 0 → IsDone e v r t
    → IsGoing s2 n t u → IsGoing (node.IfElse e s1 s2) n r u
unfolding IsDone
second_chosen e s1 s2 n v r t u none h k =
    behind (node.IfElse e s1 s2) s2 n e v r t u h k
    (ap (λ v. left (at_zero v (exec (here r) s2 (world t)) (exec (here r) s1 (world t)))) (sym none)
    ∙ ap (λ x. after (here r) (pending.IfElse s1 s2) (valued x)) (sym h.1)
    ∙ statement.if_else (here r) e s1 s2 (world r))

-- ---- of a statement, by the one that it is

pub like : (s g : Stmt) (n : Now) (r t : Run) → s ≡ g → IsGoing g n r t → IsGoing s n r t
like s g n r t is h = subst (λ q. IsGoing q n r t) (sym is) h

pub then_goes : {E : Type 0} (result : std.Result code.Now E) (q s : Stmt) (e : Expr) (v : ℕ) (r t u : Run)
    → q ≡ node.If e s → v ≢ 0 → IsDone e v r t → IfOk result (λ n. IsGoing s (now_view n) t u)
    → IfOk result (λ n. IsGoing q (now_view n) r u)
then_goes (std.Ok n) q s e v r t u is some h k =
    like q (node.If e s) (now_view n) r u is (test_holds e s (now_view n) v r t u some h k)
then_goes (std.Err x) q s e v r t u is some h k = k

pub first_goes : {E : Type 0} (result : std.Result code.Now E) (q s1 s2 : Stmt) (e : Expr) (v : ℕ) (r t u : Run)
    → q ≡ node.IfElse e s1 s2 → v ≢ 0 → IsDone e v r t → IfOk result (λ n. IsGoing s1 (now_view n) t u)
    → IfOk result (λ n. IsGoing q (now_view n) r u)
first_goes (std.Ok n) q s1 s2 e v r t u is some h k =
    like q (node.IfElse e s1 s2) (now_view n) r u is (first_chosen e s1 s2 (now_view n) v r t u some h k)
first_goes (std.Err x) q s1 s2 e v r t u is some h k = k

pub second_goes : {E : Type 0} (result : std.Result code.Now E) (q s1 s2 : Stmt) (e : Expr) (v : ℕ) (r t u : Run)
    → q ≡ node.IfElse e s1 s2 → v ≡ 0 → IsDone e v r t → IfOk result (λ n. IsGoing s2 (now_view n) t u)
    → IfOk result (λ n. IsGoing q (now_view n) r u)
second_goes (std.Ok n) q s1 s2 e v r t u is none h k =
    like q (node.IfElse e s1 s2) (now_view n) r u is (second_chosen e s1 s2 (now_view n) v r t u none h k)
second_goes (std.Err x) q s1 s2 e v r t u is none h k = k

-- ---- items that run to their ends

pub none_ran : (r : Run) (items : Items) → HasRun items items r r
unfolding HasRun
none_ran r items = (refl, refl, omega arith, λ k. omega arith)

pub one_ran : (items more : Items) (s : Stmt) (r t u : Run) → HasRun items (Item s more) r t → IsRun s t u
    → HasRun items more r u
unfolding HasRun IsRun
one_ran items more s r t u h k =
    let place : here t ≡ here r = here_still r t h.0 in (
      k.0 ∙ ap (in_world (world u)) h.0,
      h.1 ∙ ap (λ c. exec_items c (Item s more) (world t)) (sym place)
          ∙ ap (λ x. then_do x (then_next (exec_items (here t) more))) k.1
          ∙ ap (λ c. exec_items c more (world u)) place,
      omega (arith, h.2, k.2),
      λ f. omega (arith, h.3 f),
    )

pub block_done : (items rest : Items) (r t : Run) → HasRun items rest r t → rest ≡ NoItem
    → IsGoing (node.Block NoItem items) (pending.Left Normal) r t
unfolding HasRun IsGoing
block_done items rest r t h all = (
  h.0,
  ap (λ l. left (exec_items (here r) l (world t))) (sym all) ∙ ap left (sym h.1),
  h.2,
  λ same. omega (arith, weighs (capture_weight r.program.ticks r.state.body.captures) (node.Block NoItem items)),
)

-- no item is left
empty : (list : List tree.Stmt) → length list ≡ 0 → items_view list ≡ NoItem
empty [] h = refl
empty (s ∷ list) h = absurd cc

pub none_left : (list : List tree.Stmt) → true ≡ (length list == 0) → items_view list ≡ NoItem
none_left list h = empty list (eqb-true (length list) 0 (sym h))

pub block_left : (items rest : Items) (r t : Run) → HasRun items rest r t
    → IsGoing (node.Block NoItem items) (pending.Run rest) r t
unfolding HasRun IsGoing
block_left items rest r t h = (
  h.0,
  ap left (sym h.1),
  h.2,
  λ same. omega (arith, h.3 (capture_weight r.program.ticks r.state.body.captures)),
)

pub block_bare : (variables items : Items) (n : Now) (r t : Run) → variables ≡ NoItem
    → IsGoing (node.Block NoItem items) n r t → IsGoing (node.Block variables items) n r t
block_bare variables items n r t none h = subst (λ vs. IsGoing (node.Block vs items) n r t) (sym none) h

-- ---- where it leads

heft_still : (n : Now) (w : World) (r : Run) → heft n (in_world w r) ≡ heft n r
heft_still (pending.Ended e) w r = refl
heft_still pending.Stopped w r = refl
heft_still _ w r = refl

heft_most : (n : Now) (r : Run) → heft n r ≤ loaded n r + held r
heft_most (pending.Ended e) r = omega arith
heft_most pending.Stopped r = omega arith
heft_most _ r = omega arith

heft_of : (n : Now) (r t : Run) → t ≡ in_world (world t) r → heft n t ≡ heft n r
heft_of n r t h = ap (heft n) h ∙ heft_still n (world t) r

-- an item, and those behind it
pub leads_behind : (s : Stmt) (n : Now) (more : Items) (r t : Run) → IsGoing s n r t
    → leads t (after (here t) (pending.Rest more) (doing (here t) n (world t)))
    ≡ outcome (pending.Run (Item s more)) r
unfolding IsGoing
leads_behind s n more r t h =
    ap (λ q. leads q (after (here q) (pending.Rest more) (doing (here q) n (world t)))) h.0
    ∙ ap (λ x. leads r (after (here r) (pending.Rest more) x)) h.1
    ∙ ap (leads r) (statement.item (here r) s more (world r))

whole_most : (n : Now) → whole n ≤ 1
whole_most (Exec s) = omega arith
whole_most _ = omega arith

pub starts : (s : Stmt) (n : Now) (r t : Run) → IsGoing s n r t → outcome n t ≡ outcome (Exec s) r
unfolding IsGoing
starts s n r t h = ap (outcome n) h.0 ∙ ap (leads r) h.1

pub starts_lighter : (s : Stmt) (n : Now) (r t : Run) → IsGoing s n r t → t.state.units ≡ r.state.units
    → heft n t < heft (Exec s) r + whole n
unfolding IsGoing
starts_lighter s n r t h same = omega (arith, heft_of n r t h.0, heft_most n r, h.3 same)

pub going_lighter : (s : Stmt) (n : Now) (r t : Run) → IsGoing s n r t → t.state.units ≡ r.state.units
    → heft n t ≤ heft (Exec s) r
unfolding IsGoing
going_lighter s n r t h same = omega (arith, heft_of n r t h.0, heft_most n r, h.3 same, whole_most n)

pub goes_fewer : (s : Stmt) (n : Now) (r t : Run) → IsGoing s n r t → t.state.units ≤ r.state.units
unfolding IsGoing
goes_fewer s n r t h = h.2

pub ruleset items = (none_ran, one_ran)

pub ruleset goings = (stays, runs_through, starts_return, starts_break, starts_continue, starts_case, starts_default)

-- ---- what is done behind it

-- a statement is begun, and gone on with twice
pub lighter_behind : {E : Type 0} (result : std.Result code.Now E) (s : Stmt) (n o : Now) (r t u v : Run)
    → IsGoing s n r t → u.state.units ≤ t.state.units
    → (u.state.units ≡ t.state.units → heft o u + whole n ≤ heft n t)
    → IfOk result (λ m. v.state.units ≤ u.state.units)
    → IfOk result (λ m. v.state.units ≡ u.state.units → heft (now_view m) v + whole o ≤ heft o u)
    → IfOk result (λ m. v.state.units ≡ r.state.units → heft (now_view m) v < heft (Exec s) r)
lighter_behind (std.Ok m) s n o r t u v h fewer less units last = λ same.
    let begun : t.state.units ≡ r.state.units = omega (arith, goes_fewer s n r t h, fewer, units, same) in
    let on : u.state.units ≡ t.state.units = omega (arith, goes_fewer s n r t h, fewer, units, same) in
    let still : v.state.units ≡ u.state.units = omega (arith, goes_fewer s n r t h, fewer, units, same) in
    omega (arith, starts_lighter s n r t h begun, less on, last still)
lighter_behind (std.Err e) s n o r t u v h fewer less units last = units

pub lightens_on : (r t s : Run) (x y z : ℕ) → t.state.units ≤ r.state.units → r.state.units ≤ s.state.units → x ≤ y
    → (r.state.units ≡ s.state.units → y ≤ z) → t.state.units ≡ s.state.units → x ≤ z
lightens_on r t s x y z fewer units less h same =
    let still : r.state.units ≡ s.state.units = omega (arith, fewer, units, same) in
    omega (arith, less, h still)

pub lighter_now : {E : Type 0} (result : std.Result code.Now E) (r u : Run) (x y : ℕ)
    → IfOk result (λ m. heft (now_view m) u ≤ x) → x < y
    → IfOk result (λ m. u.state.units ≡ r.state.units → heft (now_view m) u < y)
lighter_now (std.Ok m) r u x y h less = λ same. omega (arith, h, less)
lighter_now (std.Err e) r u x y h less = h

-- ---- where something is pending on what is left to do

pub leads_under : (f : Frame) (s : Stmt) (n : Now) (r t : Run) → IsGoing s n r t
    → leads t (after (here t) f (doing (here t) n (world t)))
    ≡ leads r (after (here r) f (left (exec (here r) s (world r))))
unfolding IsGoing
leads_under f s n r t h =
    ap (λ q. leads q (after (here q) f (doing (here q) n (world t)))) h.0
    ∙ ap (λ x. leads r (after (here r) f x)) h.1

waits_still : (f : Frame) (s : Stmt) (n : Now) (r t : Run) → IsGoing s n r t → waiting f t ≡ waiting f r
unfolding IsGoing
waits_still f s n r t h = ap (waiting f) h.0

-- the body of a loop
pub turn_goes : (d : ℕ) (e : Expr) (step : Option Expr) (s : Stmt) (v : ℕ) (n : Now) (r t : Run) → v ≢ 0
    → IsGoing s n r t
    → leads t (after (here t) (pending.Turn d e step s) (doing (here t) n (world t)))
    ≡ taken (pending.Test d e step s) v r
turn_goes d e step s v n r t some h =
    leads_under (pending.Turn d e step s) s n r t h ∙ begins.held r d e step s v some

pub turn_weighs : (d : ℕ) (e : Expr) (step : Option Expr) (s : Stmt) (r : Run)
    → heft (Exec s) r + waiting (pending.Turn d e step s) r < waiting (pending.Test d e step s) r + held r
turn_weighs d e step s r = omega arith

pub pushed_fewer : {E : Type 0} (result : std.Result code.Now E) (s : Stmt) (n : Now) (r t u : Run) → IsGoing s n r t
    → IfOk result (λ m. u.state.units ≡ t.state.units) → IfOk result (λ m. u.state.units ≤ r.state.units)
pushed_fewer (std.Ok m) s n r t u h units = omega (arith, units, goes_fewer s n r t h)
pushed_fewer (std.Err e) s n r t u h units = units

pub pushed_lighter : {E : Type 0} (result : std.Result code.Now E) (f : Frame) (s : Stmt) (n : Now) (r t u : Run)
    (y : ℕ) → IsGoing s n r t → IfOk result (λ m. u.state.units ≡ t.state.units)
    → IfOk result (λ m. heft (now_view m) u ≤ heft n t + waiting f t) → heft (Exec s) r + waiting f r < y
    → IfOk result (λ m. u.state.units ≡ r.state.units → heft (now_view m) u < y)
pushed_lighter (std.Ok m) f s n r t u y h units less light = λ same.
    let still : t.state.units ≡ r.state.units = omega (arith, units, same) in
    omega (arith, less, light, going_lighter s n r t h still, waits_still f s n r t h)
pushed_lighter (std.Err e) f s n r t u y h units less light = less

pub items_lighter : {E : Type 0} (result : std.Result code.Now E) (more : Items) (s : Stmt) (n : Now) (r t u : Run)
    → IsGoing s n r t → IfOk result (λ m. u.state.units ≤ t.state.units)
    → IfOk result (λ m. u.state.units ≡ t.state.units
    → heft (now_view m) u ≤ heft n t + waiting (pending.Rest more) t)
    → IfOk result (λ m. u.state.units ≡ r.state.units → heft (now_view m) u < heft (pending.Run (Item s more)) r)
items_lighter (std.Ok m) more s n r t u h units less = λ same.
    let still : t.state.units ≡ r.state.units = omega (arith, units, same, goes_fewer s n r t h) in
    let last : u.state.units ≡ t.state.units = omega (arith, units, same, goes_fewer s n r t h) in
    omega (arith, less last, going_lighter s n r t h still, waits_still (pending.Rest more) s n r t h)
items_lighter (std.Err e) more s n r t u h units less = less

-- an item that ran to its end
pub goes_behind : (s : Stmt) (more : Items) (r t : Run) → IsGoing s (pending.Left Normal) r t
    → outcome (pending.Run more) t ≡ outcome (pending.Run (Item s more)) r
goes_behind s more r t h = leads_behind s (pending.Left Normal) more r t h

pub behind_lighter : (s : Stmt) (n : Now) (more : Items) (r t : Run) → IsGoing s n r t
    → heft (pending.Run more) t ≤ heft (pending.Run (Item s more)) r
unfolding IsGoing
behind_lighter s n more r t h =
    let same : heft (pending.Run more) t ≡ heft (pending.Run more) r = ap (heft (pending.Run more)) h.0 in
    omega (arith, same)

-- behind an item nothing is left
alone : (c : Context) (x : Result Flow) → left x ≡ after c (pending.Rest NoItem) (left x)
alone c (Gives Normal w) = refl
alone c (Gives Broke w) = refl
alone c (Gives Continued w) = refl
alone c (Returns v w) = refl
alone c (Ends e s) = refl
alone c (Stops s) = refl

pub alone_execs : (r : Run) (s : Stmt) (more : Items) → more ≡ NoItem → outcome (pending.Exec s) r
    ≡ leads r (after (here r) (pending.Rest more) (left (exec (here r) s (world r))))
alone_execs r s more none =
    ap (leads r) (alone (here r) (exec (here r) s (world r)))
    ∙ ap (λ l. leads r (after (here r) (pending.Rest l) (left (exec (here r) s (world r))))) (sym none)

pub alone_runs : (r : Run) (list more : Items) → more ≡ NoItem → outcome (pending.Run list) r
    ≡ leads r (after (here r) (pending.Rest more) (left (exec_items (here r) list (world r))))
alone_runs r list more none =
    ap (leads r) (alone (here r) (exec_items (here r) list (world r)))
    ∙ ap (λ l. leads r (after (here r) (pending.Rest l) (left (exec_items (here r) list (world r))))) (sym none)

pub ruleset before = (alone_execs, alone_runs)

-- ---- a block with variables

pub declares : (variables rest items : Items) (r t : Run) → HasRun variables rest r t
    → leads t (after (here t) (pending.Rest items) (left (exec_items (here t) rest (world t))))
    ≡ executed (node.Block variables items) r
unfolding HasRun executed
declares variables rest items r t h =
    ap (λ q. leads q (after (here q) (pending.Rest items) (left (exec_items (here q) rest (world t))))) h.0
    ∙ ap (λ x. leads r (after (here r) (pending.Rest items) (left x))) (sym h.1)
    ∙ ap (leads r) (statement.block (here r) variables items (world r))

pub declared : (variables rest items : Items) (r t : Run) → HasRun variables rest r t → rest ≡ NoItem
    → outcome (pending.Run items) t ≡ executed (node.Block variables items) r
declared variables rest items r t h none =
    ap (λ l. leads t (after (here t) (pending.Rest items) (left (exec_items (here t) l (world t))))) (sym none)
    ∙ declares variables rest items r t h

pub ran_fewer : (variables rest : Items) (r t : Run) → HasRun variables rest r t → t.state.units ≤ r.state.units
unfolding HasRun
ran_fewer variables rest r t h = h.2

-- with what is pending on the variables, a block is lighter
pub block_lighter : (variables rest items : Items) (r t : Run) → HasRun variables rest r t
    → heft (pending.Run rest) t + waiting (pending.Rest items) t < heft (pending.Exec (node.Block variables items)) r
unfolding HasRun
block_lighter variables rest items r t h =
    let run : heft (pending.Run rest) t ≡ heft (pending.Run rest) r = ap (heft (pending.Run rest)) h.0 in
    let rests : waiting (pending.Rest items) t ≡ waiting (pending.Rest items) r =
    ap (waiting (pending.Rest items)) h.0 in
    omega (arith, run, rests, h.3 (capture_weight r.program.ticks r.state.body.captures))

pub block_lighter_yet : (variables rest items : Items) (r t : Run) → HasRun variables rest r t
    → heft (pending.Run items) t < heft (pending.Exec (node.Block variables items)) r
unfolding HasRun
block_lighter_yet variables rest items r t h =
    let run : heft (pending.Run items) t ≡ heft (pending.Run items) r = ap (heft (pending.Run items)) h.0 in
    omega (arith, run)

pub ruleset blocks_on = (declares, declared, ran_fewer, block_lighter, block_lighter_yet)
