-- What comes of a statement: of one that runs at once, of an expression whose value is dropped, of a block, and of
-- items one after another.
use Rattle.std.proofs.Common.{◌≡◌, ◌≢◌, ℕ, zero, suc, ◌+◌, ◌-◌, ◌<◌, ◌≤◌, List, [], ◌∷◌, refl, ap, sym, subst}
use Rattle.std.proofs.Common.{◌∙◌, arith}
use Rattle.typed_tree.specs.declared.expression.Stmt as stmt
use Rattle.typed_tree.specs.Nodes as node
use Rattle.typed_tree.specs.Nodes.{Expr, Stmt, Items, Item, NoItem}
use Rattle.typed_tree.specs.View.{stmt_view}
use Rattle.staged_meaning.specs.Meaning.{eval, exec, exec_items, then_next}
use Rattle.staged_meaning.specs.World.{World, Result, Gives, Returns, Normal, Flow, then_do, at_zero}
use Rattle.staged_meaning.specs.Statements.{passed}
use Rattle.staged_meaning.specs.World.{spend, with_variable}
use Rattle.word32.specs.declared.width.Width.{Width}
use Rattle.eval_state.specs.Less.{loaded}
use Rattle.eval_state.specs.Pending as pending
use Rattle.eval_state.specs.Rest.{Signal, after, left, valued}
use Rattle.eval_state.specs.Run.{Run, here, run_of, world, in_world, with_units}
use Rattle.eval_state.specs.Views.{items_view}
use Rattle.eval_state.specs.declared.parts.EndFrame.TheVariants as end
use Rattle.eval_state.specs.declared.parts.Frame.TheVariants as frame
use Rattle.eval_state.specs.declared.parts.Now.TheVariants as now
use Rattle.eval_state.specs.declared.parts.StatementFrame.TheVariants as statement_frame
use Rattle.eval_state.specs.declared.state.Entry.TheVariants as entry
use Rattle.eval_state.specs.declared.state.Parts.{Parts}
use Rattle.eval_state.proofs.Statements as statement
use Rattle.eval_simple.specs.Simple.{IsDone}
use Rattle.eval_direct.specs.Came.{HasMoreItems, IsAtOnce, IsCame, IsItem, IsWent, Waits, with_next}
use Rattle.eval_direct.specs.declared.came.Came.TheVariants as came
use Rattle.eval_direct.specs.declared.came.Late.{Late}
use Rattle.eval_direct.specs.declared.came.Went.{Went}
use Rattle.eval_direct.specs.declared.came.Went.TheVariants as went
use Rattle.eval_direct.proofs.Operands.{no_memory_of_statement, waits_of}
use Rattle.eval_direct.proofs.Waiting.{waits_behind, waits_frame, waits_now, went_behind, went_waits}
use denote.Ref.{Bor}

-- ---- what is known of each kind of it

went_of : (late : Late) (r t : Run) (x : Result Signal) (k : ℕ) → IsWent went.Later late r t x k → Waits late r t x k
unfolding IsWent
went_of late r t x k h = h

-- a statement is left as it is
pub went_later : (late : Late) (s : Bor stmt.Stmt) (r : Run) → late.next ≡ now.Exec s → late.entries ≡ []
    → IsWent went.Later late r r (left (exec (here r) (stmt_view s.now) (world r)))
    (loaded (pending.Exec (stmt_view s.now)) r)
unfolding IsWent
went_later late s r next none =
    waits_now late (now.Exec s) r (left (exec (here r) (stmt_view s.now) (world r)))
    (loaded (pending.Exec (stmt_view s.now)) r) next none refl (omega arith)

-- ---- an expression whose value is dropped

abbrev dropping : Expr → Run → Result Signal
dropping e r = left (exec (here r) (node.Eval e) (world r))

pub drop_waits : (c : Went) (late more : Late) (e : Expr) (r t : Run)
    → HasMoreItems c (entry.Inside (frame.Statement statement_frame.Drop)) late more
    → IsCame came.Later late r t (valued (eval (here r) e (world r))) (loaded (pending.Eval e) r)
    → IsWent c more r t (dropping e r) (loaded (pending.Exec (node.Eval e)) r)
drop_waits c late more e r t h w =
    went_waits c late more (frame.Statement statement_frame.Drop) r t (valued (eval (here r) e (world r)))
    (dropping e r) (loaded (pending.Eval e) r) (loaded (pending.Exec (node.Eval e)) r) h
    (waits_of late r t (valued (eval (here r) e (world r))) (loaded (pending.Eval e) r) w)
    (statement.dropped (here r) e (world r)) (omega arith)

pub drop_came : (late : Late) (e : Expr) (v : ℕ) (r t : Run)
    → IsCame (came.Value v) late r t (valued (eval (here r) e (world r))) (loaded (pending.Eval e) r)
    → IsWent went.Through late r t (dropping e r) (loaded (pending.Exec (node.Eval e)) r)
unfolding IsCame IsWent
drop_came late e v r t h = (
  h.0,
  sym (statement.dropped (here r) e (world r)) ∙ ap (after (here r) pending.Drop) h.1,
  omega (arith, h.2),
)

-- ---- statements that run at once

pub once_dropped : (e : Expr) (v : ℕ) (r t : Run) → IsDone e v r t → IsAtOnce went.Through (node.Eval e) r t
unfolding IsDone
once_dropped e v r t h = (
  h.0,
  ap (λ x. then_do {A = ℕ} {B = Flow} x (λ v w. Gives Normal w)) h.1,
  omega (arith, h.2),
)

one_left : (n : ℕ) → n ≢ 0 → n ≡ suc (n - 1)
one_left n h = omega (arith, h)

pub once_variable : (r one t : Run) (i : ℕ) → (world r).units ≢ 0 → one ≡ with_units ((world r).units - 1) r
    → t ≡ in_world (with_variable i 0 (world one)) one → IsAtOnce went.Through (node.Variable i) r t
once_variable r one t i some spent set =
    let new : t ≡ in_world (with_variable i 0 (world (with_units ((world r).units - 1) r))) r =
    set ∙ ap (λ q. in_world (with_variable i 0 (world q)) q) spent in (
      new ∙ ap (λ (q : Run). in_world (world q) r) (sym new),
      ap (λ n. spend Normal (with_variable i 0 (record (world r) { units = n }))) (one_left (world r).units some)
          ∙ ap (λ (q : Run). Gives Normal (world q)) (sym new),
      omega (arith, ap (λ (q : Run). q.state.units) new),
    )

pub once_parameter : (r t : Run) (k v : ℕ) (width : Width) → v ≡ passed k width (world r)
    → t ≡ in_world (with_variable k v (world r)) r → IsAtOnce went.Through (node.Parameter k width) r t
once_parameter r t k v width is set =
    let new : t ≡ in_world (with_variable k (passed k width (world r)) (world r)) r =
    set ∙ ap (λ v. in_world (with_variable k v (world r)) r) is in (
      new ∙ ap (λ (q : Run). in_world (world q) r) (sym new),
      ap (λ (q : Run). Gives Normal (world q)) (sym new),
      omega (arith, ap (λ (q : Run). q.state.units) new),
    )

pub ruleset at_once = (once_dropped, once_variable, once_parameter)

-- ---- items, one after another

abbrev pub running : Items → Run → Run → Result Signal
running items r s = left (exec_items (here r) items (world s))

-- one that ran to its end, and those behind it
pub item_went : (late : Late) (s : Stmt) (more : Items) (r t : Run)
    → IsItem went.Through late r t s more
    → running (Item s more) r r ≡ running more r t
unfolding IsItem IsWent
item_went late s more r t h =
    sym (statement.item (here r) s more (world r)) ∙ ap (after (here r) (pending.Rest more)) h.1

-- one by which the function was left
pub item_returned : (late : Late) (v : ℕ) (s : Stmt) (more : Items) (r t : Run) (k : ℕ)
    → IsItem (went.Returned v) late r t s more
    → IsWent (went.Returned v) late r t (running (Item s more) r r) k
unfolding IsItem IsWent
item_returned late v s more r t k h = (
  h.0,
  sym (statement.item (here r) s more (world r)) ∙ ap (after (here r) (pending.Rest more)) h.1,
  h.2,
)

-- one that can't go on: those behind it wait
pub item_waits : (late more : Late) (c : Went) (s : Stmt) (list : Bor (List stmt.Stmt)) (r t : Run)
    → HasMoreItems c (entry.Inside (frame.End (end.Rest list))) late more
    → IsWent went.Later late r t (left (exec (here r) s (world r))) (loaded (pending.Exec s) r)
    → IsItem c more r t s (items_view list.now)
unfolding IsItem
item_waits late more went.Through s list r t h w = absurd h
item_waits late more (went.Returned v) s list r t h w = absurd h
item_waits late more went.Later s list r t h w =
    waits_frame late more (frame.End (end.Rest list)) r t (left (exec (here r) s (world r)))
    (left (exec_items (here r) (Item s (items_view list.now)) (world r))) (loaded (pending.Exec s) r)
    (loaded (pending.Run (Item s (items_view list.now))) r)
    (went_of late r t (left (exec (here r) s (world r))) (loaded (pending.Exec s) r) w) h.0 h.1
    (statement.item (here r) s (items_view list.now) (world r)) (omega arith)
item_waits late more went.NoMemory s list r t h w =
    no_memory_of_statement more r t (left (exec (here r) s (world r))) (loaded (pending.Exec s) r)

-- ---- an item behind what was evaluated, and one by its own way

-- what comes of a statement that can go on comes of the item
went_item : (c : Went) (late : Late) (s : Stmt) (more : Items) (r t : Run)
    → (c ≡ went.Later → ⊥) → IsWent c late r t (left (exec (here r) s (world r))) (loaded (pending.Exec s) r)
    → IsItem c late r t s more
unfolding IsItem
went_item went.Through late s more r t other h = h
went_item (went.Returned v) late s more r t other h = h
went_item went.Later late s more r t other h = absurd (other refl)
went_item went.NoMemory late s more r t other h = h

pub item_behind : (c : Went) (late : Late) (a b : Stmt) (more : Items) (r s t : Run) → IsItem c late s t a more
    → s ≡ in_world (world s) r → s.state.units < r.state.units
    → left (exec (here s) a (world s)) ≡ left (exec (here r) b (world r))
    → IsItem c late r t b more
unfolding IsItem
item_behind went.Through late a b more r s t h through fewer same =
    went_behind went.Through late r s t (left (exec (here s) a (world s))) (left (exec (here r) b (world r)))
    (loaded (pending.Exec a) s) (loaded (pending.Exec b) r) h through same (omega (arith, fewer))
    (λ e. absurd (omega (arith, fewer, e)))
item_behind (went.Returned v) late a b more r s t h through fewer same =
    went_behind (went.Returned v) late r s t (left (exec (here s) a (world s))) (left (exec (here r) b (world r)))
    (loaded (pending.Exec a) s) (loaded (pending.Exec b) r) h through same (omega (arith, fewer))
    (λ e. absurd (omega (arith, fewer, e)))
item_behind went.Later late a b more r s t h through fewer same =
    waits_behind late r s t (left (exec_items (here s) (Item a more) (world s)))
    (left (exec_items (here r) (Item b more) (world r))) (loaded (pending.Run (Item a more)) s)
    (loaded (pending.Run (Item b more)) r) h through
    (sym (statement.item (here s) a more (world s))
    ∙ ap (after (here s) (pending.Rest more)) same
    ∙ ap (λ (s : Run). after (here s) (pending.Rest more) (left (exec (here r) b (world r)))) through
    ∙ statement.item (here r) b more (world r))
    (omega (arith, fewer)) (λ e. absurd (omega (arith, fewer, e)))
item_behind went.NoMemory late a b more r s t h through fewer same =
    went_behind went.NoMemory late r s t (left (exec (here s) a (world s))) (left (exec (here r) b (world r)))
    (loaded (pending.Exec a) s) (loaded (pending.Exec b) r) h through same (omega (arith, fewer))
    (λ e. absurd (omega (arith, fewer, e)))

-- a test that holds, and one that doesn't
pub if_holds : (c : Went) (late : Late) (e : Expr) (a : Stmt) (more : Items) (v : ℕ) (r s t : Run) → v ≢ 0
    → IsDone e v r s → IsItem c late s t a more → IsItem c late r t (node.If e a) more
unfolding IsDone
if_holds c late e a more zero r s t some done h = absurd (some refl)
if_holds c late e a more (suc v) r s t some done h =
    item_behind c late a (node.If e a) more r s t h done.0 done.2
    (ap (λ (q : Run). left (exec (here q) a (world s))) done.0
    ∙ ap (λ x. left (then_do {A = ℕ} {B = Flow} x (λ v w. at_zero v (Gives Normal w) (exec (here r) a w))))
    (sym done.1))

pub else_holds : (c : Went) (late : Late) (e : Expr) (a b : Stmt) (more : Items) (v : ℕ) (r s t : Run) → v ≢ 0
    → IsDone e v r s → IsItem c late s t a more → IsItem c late r t (node.IfElse e a b) more
unfolding IsDone
else_holds c late e a b more zero r s t some done h = absurd (some refl)
else_holds c late e a b more (suc v) r s t some done h =
    item_behind c late a (node.IfElse e a b) more r s t h done.0 done.2
    (ap (λ (q : Run). left (exec (here q) a (world s))) done.0
    ∙ ap (λ x. left (then_do {A = ℕ} {B = Flow} x (λ v w. at_zero v (exec (here r) b w) (exec (here r) a w))))
    (sym done.1))

pub else_fails : (c : Went) (late : Late) (e : Expr) (a b : Stmt) (more : Items) (v : ℕ) (r s t : Run) → v ≡ 0
    → IsDone e v r s → IsItem c late s t b more → IsItem c late r t (node.IfElse e a b) more
unfolding IsDone
else_fails c late e a b more zero r s t none done h =
    item_behind c late b (node.IfElse e a b) more r s t h done.0 done.2
    (ap (λ (q : Run). left (exec (here q) b (world s))) done.0
    ∙ ap (λ x. left (then_do {A = ℕ} {B = Flow} x (λ v w. at_zero v (exec (here r) b w) (exec (here r) a w))))
    (sym done.1))
else_fails c late e a b more (suc v) r s t none done h = absurd (cc)

pub if_fails : (late : Late) (e : Expr) (a : Stmt) (more : Items) (v : ℕ) (r s : Run) → late.entries ≡ [] → v ≡ 0
    → IsDone e v r s → IsItem went.Through late r s (node.If e a) more
unfolding IsDone IsItem IsWent
if_fails late e a more zero r s waiting none done = (
  (waiting, done.0),
  ap (λ x. left (then_do {A = ℕ} {B = Flow} x (λ v w. at_zero v (Gives Normal w) (exec (here r) a w)))) done.1,
  omega (arith, done.2),
)
if_fails late e a more (suc v) r s waiting none done = absurd (cc)

-- a return
pub item_return : (late : Late) (more : Items) (r : Run) → late.entries ≡ []
    → IsItem (went.Returned 0) late r r node.Return more
unfolding IsItem IsWent
item_return late more r waiting = ((waiting, refl), refl, omega arith)

never_through : (x : Result ℕ) (k : Flow → World → Result Flow)
    → left (then_do (then_do {A = ℕ} {B = Flow} x (λ v w. Returns v w)) k)
    ≡ left (then_do {A = ℕ} {B = Flow} x (λ v w. Returns v w))
never_through (Gives v w) k = refl
never_through (Returns v w) k = refl
never_through _ k = refl

-- what follows a return never runs, so it need not wait
return_waits_too : (late : Late) (e : Expr) (more : Items) (r t : Run)
    → IsWent went.Later late r t (left (exec (here r) (node.ReturnValue e) (world r)))
    (loaded (pending.Exec (node.ReturnValue e)) r)
    → IsItem went.Later late r t (node.ReturnValue e) more
unfolding IsItem IsWent
return_waits_too late e more r t h =
    waits_behind late r r t (left (exec (here r) (node.ReturnValue e) (world r)))
    (left (exec_items (here r) (Item (node.ReturnValue e) more) (world r)))
    (loaded (pending.Exec (node.ReturnValue e)) r) (loaded (pending.Run (Item (node.ReturnValue e) more)) r) h refl
    (sym (never_through (eval (here r) e (world r)) (then_next (exec_items (here r) more)))) (omega arith)
    (λ e. omega arith)

pub item_returns : (c : Went) (late : Late) (e : Expr) (more : Items) (r t : Run)
    → IsWent c late r t (left (exec (here r) (node.ReturnValue e) (world r)))
    (loaded (pending.Exec (node.ReturnValue e)) r)
    → IsItem c late r t (node.ReturnValue e) more
item_returns went.Through late e more r t h =
    went_item went.Through late (node.ReturnValue e) more r t (λ e. absurd (cc)) h
item_returns (went.Returned v) late e more r t h =
    went_item (went.Returned v) late (node.ReturnValue e) more r t (λ e. absurd (cc)) h
item_returns went.Later late e more r t h = return_waits_too late e more r t h
item_returns went.NoMemory late e more r t h =
    went_item went.NoMemory late (node.ReturnValue e) more r t (λ e. absurd (cc)) h

-- ---- items, by what comes of one

items_wait : (late : Late) (s : Stmt) (more list : Items) (r q t : Run) → IsItem went.Later late q t s more
    → q ≡ in_world (world q) r → q.state.units ≤ r.state.units
    → running list r r ≡ running (Item s more) r q
    → (q.state.units ≡ r.state.units → loaded (pending.Run (Item s more)) r ≤ loaded (pending.Run list) r)
    → IsWent went.Later late r t (running list r r) (loaded (pending.Run list) r)
unfolding IsItem IsWent
items_wait late s more list r q t h through most same light =
    waits_behind late r q t (running (Item s more) q q) (running list r r) (loaded (pending.Run (Item s more)) q)
    (loaded (pending.Run list) r) h through
    (ap (λ (p : Run). left (exec_items (here p) (Item s more) (world q))) through ∙ sym same) most
    (λ e.
    let there = ap (λ (p : Run). loaded (pending.Run (Item s more)) p) through in
    omega (arith, there, light e))

pub items_left : (c : Went) (late : Late) (s : Stmt) (more list : Items) (r q t : Run) → (c ≡ went.Through → ⊥)
    → IsItem c late q t s more
    → q ≡ in_world (world q) r → q.state.units ≤ r.state.units
    → running list r r ≡ running (Item s more) r q
    → (q.state.units ≡ r.state.units → loaded (pending.Run (Item s more)) r ≤ loaded (pending.Run list) r)
    → IsWent c late r t (running list r r) (loaded (pending.Run list) r)
items_left went.Through late s more list r q t other h through most same light = absurd (other refl)
items_left (went.Returned v) late s more list r q t other h through most same light =
    went_behind (went.Returned v) late r q t (running (Item s more) q q) (running list r r)
    (loaded (pending.Run (Item s more)) r) (loaded (pending.Run list) r)
    (item_returned late v s more q t (loaded (pending.Run (Item s more)) r) h) through
    (ap (λ (p : Run). left (exec_items (here p) (Item s more) (world q))) through ∙ sym same) most light
items_left went.Later late s more list r q t other h through most same light =
    items_wait late s more list r q t h through most same light
items_left went.NoMemory late s more list r q t other h through most same light =
    no_memory_of_statement late r t (running list r r) (loaded (pending.Run list) r)

pub items_ended : (late : Late) (list : Items) (r q : Run) → late.entries ≡ [] → q ≡ in_world (world q) r
    → q.state.units ≤ r.state.units → running list r r ≡ running NoItem r q
    → IsWent went.Through late r q (running list r r) (loaded (pending.Run list) r)
unfolding IsWent
items_ended late list r q none through most same = ((none, through), same, most)

-- ---- a block

abbrev blocking : (variables items : Items) → Run → Result Signal
blocking variables items r = left (exec (here r) (node.Block variables items) (world r))

-- a variable was declared at once
pub variable_went : (s : Stmt) (more : Items) (r q t : Run) → q ≡ in_world (world q) r → IsAtOnce went.Through s q t
    → running (Item s more) r q ≡ running more r t
variable_went s more r q t through h =
    sym (statement.item (here r) s more (world q))
    ∙ ap (λ (p : Run). after (here r) (pending.Rest more) (left (exec (here p) s (world q)))) (sym through)
    ∙ ap (λ x. after (here r) (pending.Rest more) (left x)) h.1

-- or goes step by step: the items wait
pub variables_wait : (c : Went) (late more : Late) (variables : Items) (rest list : Bor (List stmt.Stmt)) (r q : Run)
    → late.next ≡ now.Run rest → late.entries ≡ []
    → HasMoreItems c (entry.Inside (frame.End (end.Rest list))) late more
    → q ≡ in_world (world q) r → q.state.units ≤ r.state.units
    → running variables r r ≡ running (items_view rest.now) r q
    → (q.state.units ≡ r.state.units
    → loaded (pending.Run (items_view rest.now)) r ≤ loaded (pending.Run variables) r)
    → IsWent c more r q (blocking variables (items_view list.now) r)
    (loaded (pending.Exec (node.Block variables (items_view list.now))) r)
variables_wait c late more variables rest list r q next none h through most same light =
    let items = items_view list.now in
    let k = loaded (pending.Run (items_view rest.now)) q in
    went_behind c more r q q (after (here q) (pending.Rest items) (running (items_view rest.now) q q))
    (blocking variables items r) (k + (loaded (pending.Run items) q + 1 + 1))
    (loaded (pending.Exec (node.Block variables items)) r)
    (went_waits c late more (frame.End (end.Rest list)) q q (running (items_view rest.now) q q)
    (after (here q) (pending.Rest items) (running (items_view rest.now) q q)) k
    (k + (loaded (pending.Run items) q + 1 + 1)) h
    (waits_now late (now.Run rest) q (running (items_view rest.now) q q) k next none refl (omega arith)) refl
    (omega arith))
    through
    (ap (λ (p : Run). after (here p) (pending.Rest items) (left (exec_items (here p) (items_view rest.now) (world q))))
    through
    ∙ ap (after (here r) (pending.Rest items)) (sym same)
    ∙ statement.block (here r) variables items (world r)) most
    (λ e.
    let there = ap (λ (p : Run). loaded (pending.Run (items_view rest.now)) p) through in
    let those = ap (λ (p : Run). loaded (pending.Run items) p) through in
    omega (arith, there, those, light e))

-- its variables are there, and its items run
pub block_runs : (c : Went) (late : Late) (variables items : Items) (r q t : Run)
    → IsWent c late q t (running items q q) (loaded (pending.Run items) q)
    → q ≡ in_world (world q) r → q.state.units ≤ r.state.units → running variables r r ≡ running NoItem r q
    → IsWent c late r t (blocking variables items r) (loaded (pending.Exec (node.Block variables items)) r)
block_runs c late variables items r q t h through most same =
    went_behind c late r q t (running items q q) (blocking variables items r) (loaded (pending.Run items) q)
    (loaded (pending.Exec (node.Block variables items)) r) h through
    (ap (λ (p : Run). left (exec_items (here p) items (world q))) through
    ∙ ap (after (here r) (pending.Rest items)) (sym same)
    ∙ statement.block (here r) variables items (world r)) most
    (λ e.
    let those = ap (λ (p : Run). loaded (pending.Run items) p) through in
    omega (arith, those))

-- ---- the loops: these items are left, and those before ran to their ends

pub record Runs (list rest : Items) (late : Late) (r q : Run) : Type 0 where
  pub none : late.entries ≡ []
  pub through : q ≡ in_world (world q) r
  pub units : q.state.units ≤ r.state.units
  pub same : running list r r ≡ running rest r q
  pub light : q.state.units ≡ r.state.units → loaded (pending.Run rest) r ≤ loaded (pending.Run list) r

pub runs_first : (list : Items) (late : Late) (r : Run) → late.entries ≡ [] → Runs list list late r r
runs_first list late r none = record {
  none = none;
  through = refl;
  units = omega arith;
  same = refl;
  light = λ e. omega arith;
}

module _ (list : Items) (s : Stmt) (more : Items) (late : Late) (r q : Run) (g : Runs list (Item s more) late r q) where
  -- a variable was declared at once
  pub runs_variable : (t : Run) → IsAtOnce went.Through s q t → Runs list more late r t
  runs_variable t h = record {
    none = g.none;
    through = h.0 ∙ ap (in_world (world t)) g.through;
    units = omega (arith, h.2, g.units);
    same = g.same ∙ variable_went s more r q t g.through h;
    light = λ e.
        let still : q.state.units ≡ r.state.units = omega (arith, e, h.2, g.units) in
        omega (arith, g.light still);
  }

  -- an item ran to its end
  pub runs_item : (after : Late) (t : Run) → IsItem went.Through after q t s more → Runs list more after r t
  unfolding IsItem IsWent
  runs_item after t h = record {
    none = h.0.0;
    through = h.0.1 ∙ ap (in_world (world t)) g.through;
    units = omega (arith, h.2, g.units);
    same =
        g.same
        ∙ ap (λ (p : Run). running (Item s more) p q) (sym g.through)
        ∙ item_went after s more q t h
        ∙ ap (λ (p : Run). running more p t) g.through;
    light = λ e.
        let still : q.state.units ≡ r.state.units = omega (arith, e, h.2, g.units) in
        omega (arith, g.light still);
  }

  -- or it can't go on, or the function was left by it
  pub runs_left : (c : Went) (after : Late) (t : Run) → (c ≡ went.Through → ⊥) → IsItem c after q t s more
      → IsWent c after r t (running list r r) (loaded (pending.Run list) r)
  runs_left c after t other h = items_left c after s more list r q t other h g.through g.units g.same g.light

-- nothing is left
pub runs_ended : (list rest : Items) (late : Late) (r q : Run) → Runs list rest late r q → rest ≡ NoItem
    → IsWent went.Through late r q (running list r r) (loaded (pending.Run list) r)
runs_ended list rest late r q g none =
    items_ended late list r q g.none g.through g.units (g.same ∙ ap (λ items. running items r q) none)

pub block_waits : (c : Went) (first late more : Late) (variables : Items) (rest list : Bor (List stmt.Stmt)) (r q : Run)
    → Runs variables (items_view rest.now) first r q → late.next ≡ now.Run rest → late.entries ≡ first.entries
    → HasMoreItems c (entry.Inside (frame.End (end.Rest list))) late more
    → IsWent c more r q (blocking variables (items_view list.now) r)
    (loaded (pending.Exec (node.Block variables (items_view list.now))) r)
block_waits c first late more variables rest list r q g next still h =
    variables_wait c late more variables rest list r q next (still ∙ g.none) h g.through g.units g.same g.light

pub block_goes : (c : Went) (first late : Late) (variables rest items : Items) (r q t : Run)
    → Runs variables rest first r q → rest ≡ NoItem
    → IsWent c late q t (left (exec_items (here q) items (world q))) (loaded (pending.Run items) q)
    → IsWent c late r t (blocking variables items r) (loaded (pending.Exec (node.Block variables items)) r)
block_goes c first late variables rest items r q t g none h =
    block_runs c late variables items r q t h g.through g.units (g.same ∙ ap (λ items. running items r q) none)

-- ---- the same of what is left of a slice, and of the state

pub runs_declared : (list : Items) (rest more : List stmt.Stmt) (x : stmt.Stmt) (late : Late) (r q t : Run)
    → Runs list (items_view rest) late r q → rest ≡ x ∷ more → IsAtOnce went.Through (stmt_view x) q t
    → Runs list (items_view more) late r t
runs_declared list rest more x late r q t g is h =
    runs_variable list (stmt_view x) (items_view more) late r q
    (subst (λ l. Runs list (items_view l) late r q) is g) t h

pub runs_through : (list : Items) (rest more : List stmt.Stmt) (x : stmt.Stmt) (late after : Late) (r q t : Run)
    → Runs list (items_view rest) late r q → rest ≡ x ∷ more
    → IsItem went.Through after q t (stmt_view x) (items_view more)
    → Runs list (items_view more) after r t
runs_through list rest more x late after r q t g is h =
    runs_item list (stmt_view x) (items_view more) late r q
    (subst (λ l. Runs list (items_view l) late r q) is g) after t h

pub runs_otherwise : (list : Items) (rest more : List stmt.Stmt) (x : stmt.Stmt) (late : Late) (c : Went)
    (after : Late) (r q t : Run)
    → Runs list (items_view rest) late r q → rest ≡ x ∷ more → (c ≡ went.Through → ⊥)
    → IsItem c after q t (stmt_view x) (items_view more)
    → IsWent c after r t (running list r r) (loaded (pending.Run list) r)
runs_otherwise list rest more x late c after r q t g is other h =
    runs_left list (stmt_view x) (items_view more) late r q
    (subst (λ l. Runs list (items_view l) late r q) is g) c after t other h

-- nothing was done
pub once_still : (c : Went) (s : Stmt) (r t : Run) → (c ≡ went.Through → ⊥) → (c ≡ went.NoMemory → ⊥)
    → IsAtOnce c s r t → t ≡ r
once_still went.Through s r t through memory h = absurd (through refl)
once_still (went.Returned v) s r t through memory h = absurd h
once_still went.Later s r t through memory h = h
once_still went.NoMemory s r t through memory h = absurd (memory refl)

pub block_stops : (c : Went) (first late more : Late) (variables : Items) (rest list : Bor (List stmt.Stmt))
    (r q t : Run) → t ≡ q
    → Runs variables (items_view rest.now) first r q → late.next ≡ now.Run rest → late.entries ≡ first.entries
    → HasMoreItems c (entry.Inside (frame.End (end.Rest list))) late more
    → IsWent c more r t (blocking variables (items_view list.now) r)
    (loaded (pending.Exec (node.Block variables (items_view list.now))) r)
block_stops c first late more variables rest list r q t same g next still h =
    subst (λ t. IsWent c more r t (blocking variables (items_view list.now) r)
    (loaded (pending.Exec (node.Block variables (items_view list.now))) r)) (sym same)
    (block_waits c first late more variables rest list r q g next still h)

-- an item that goes step by step
pub item_stays : (c : Went) (late more : Late) (s : Bor stmt.Stmt) (list : Bor (List stmt.Stmt)) (p q : Parts)
    → late.entries ≡ [] → q ≡ p
    → HasMoreItems c (entry.Inside (frame.End (end.Rest list))) (with_next (now.Exec s) late) more
    → IsItem c more (run_of p) (run_of q) (stmt_view s.now) (items_view list.now)
item_stays c late more s list p q none same h =
    subst (λ q. IsItem c more (run_of p) (run_of q) (stmt_view s.now) (items_view list.now)) (sym same)
    (item_waits (with_next (now.Exec s) late) more c (stmt_view s.now) list (run_of p) (run_of p) h
    (went_later (with_next (now.Exec s) late) s (run_of p) refl none))

-- one that ran at once
pub once_item : (c : Went) (late : Late) (s : Stmt) (more : Items) (r t : Run) → late.entries ≡ []
    → (c ≡ went.Later → ⊥) → IsAtOnce c s r t → IsItem c late r t s more
unfolding IsItem IsWent
once_item went.Through late s more r t none other h = ((none, h.0), ap left h.1, h.2)
once_item (went.Returned v) late s more r t none other h = absurd h
once_item went.Later late s more r t none other h = absurd (other refl)
once_item went.NoMemory late s more r t none other h = tt

-- and one that didn't
pub plain_waits : (c : Went) (late more : Late) (s : Stmt) (list : Bor (List stmt.Stmt)) (r q t : Run) → q ≡ r
    → HasMoreItems c (entry.Inside (frame.End (end.Rest list))) late more
    → IsWent went.Later late q t (left (exec (here q) s (world q))) (loaded (pending.Exec s) q)
    → IsItem c more r t s (items_view list.now)
plain_waits c late more s list r q t same h w =
    subst (λ r. IsItem c more r t s (items_view list.now)) same (item_waits late more c s list q t h w)

pub plain_goes : (c : Went) (late : Late) (s : Stmt) (more : Items) (r q t : Run) → q ≡ r → (c ≡ went.Later → ⊥)
    → IsWent c late q t (left (exec (here q) s (world q))) (loaded (pending.Exec s) q)
    → IsItem c late r t s more
plain_goes c late s more r q t same other h =
    subst (λ r. IsItem c late r t s more) same (went_item c late s more q t other h)
