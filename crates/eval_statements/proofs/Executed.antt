-- What each statement leaves behind as it begins.
use Rattle.std.proofs.Common.{◌≡◌, ◌≤◌, ◌<◌, ◌+◌, ℕ, suc, None, Some, IfOk, refl, ap, sym, subst, ◌∙◌, arith}
use Rattle.std.proofs.Common as std
use Rattle.word32.specs.declared.width.Width.{Width}
use Rattle.meaning_state.specs.Shared.{frame_start, stored}
use Rattle.typed_tree.specs.Nodes as node
use Rattle.typed_tree.specs.Nodes.{Expr, Items, Stmt}
use Rattle.staged_meaning.specs.Meaning.{eval, exec}
use Rattle.staged_meaning.specs.Statements.{passed}
use Rattle.staged_meaning.specs.World.{World, Broke, Continued, Gives, Normal, Result, with_shared, with_variable}
use Rattle.eval_state.specs.Pending as pending
use Rattle.eval_state.specs.Pending.{Frame, Now}
use Rattle.eval_state.specs.Rest.{Signal, after, left, loop_of, rounds_of, spent, valued}
use Rattle.eval_state.proofs.Statements as statement
use Rattle.eval_state.specs.declared.parts.Now as code
use Rattle.eval_state.specs.Less.{heft, held, waiting}
use Rattle.eval_state.specs.Run.{Run, here, in_world, leads, outcome, world}
use Rattle.eval_state.specs.Steps.{executed}
use Rattle.eval_state.specs.Views.{now_view}
use Rattle.eval_simple.specs.Stepped.{IsExecuted, IsPushed, IsStep}
use Rattle.eval_simple.proofs.Stepped.{parts_below, pushes, same_of, step_now, steps_as, waits}
use Rattle.eval_statements.specs.Ran.{whole}
use Rattle.eval_statements.specs.Turned.{IsTurn}
use Rattle.eval_statements.proofs.Begins as way

-- ---- a part, for whose value a frame waits

pub record Opens (s : Stmt) (a : Expr) (f : Frame) : Type 0 where
  pub same : (r : Run) → leads r (after (here r) f (valued (eval (here r) a (world r)))) ≡ executed s r
  pub less : (r : Run) → heft (pending.Eval a) r + waiting f r < heft (pending.Exec s) r

pub opens : {E : Type 0} (result : std.Result code.Now E) (s v : Stmt) (a : Expr) (f : Frame) (r t : Run) → s ≡ v
    → Opens v a f → IfOk result (λ n. IsPushed f (pending.Eval a) (now_view n) r t)
    → IfOk result (λ n. IsExecuted s (now_view n) r t)
opens result s v a f r t is o h =
    subst (λ q. IfOk result (λ n. IsExecuted q (now_view n) r t)) (sym is)
    (waits result f (pending.Eval a) (executed v r) (heft (pending.Exec v) r) r t (o.same r) (o.less r) h)

pub dropped : (e : Expr) → Opens (node.Eval e) e pending.Drop
unfolding executed
dropped e = record { same = λ r. ap (leads r) (statement.dropped (here r) e (world r)); less = λ r. omega arith }

pub if_then : (e : Expr) (s : Stmt) → Opens (node.If e s) e (pending.If s)
unfolding executed
if_then e s = record { same = λ r. ap (leads r) (statement.if_then (here r) e s (world r)); less = λ r. omega arith }

pub if_else : (e : Expr) (s t : Stmt) → Opens (node.IfElse e s t) e (pending.IfElse s t)
unfolding executed
if_else e s t =
    record { same = λ r. ap (leads r) (statement.if_else (here r) e s t (world r)); less = λ r. omega arith }

pub switch_on : (e : Expr) (variables items : Items)
    → Opens (node.Switch e variables items) e (pending.Switch variables items)
unfolding executed
switch_on e variables items = record {
  same = λ r. ap (leads r) (statement.switch_begins (here r) e variables items (world r));
  less = λ r. omega arith;
}

pub return_value : (e : Expr) → Opens (node.ReturnValue e) e pending.Return
unfolding executed
return_value e = record { same = λ r. ap (leads r) (statement.returns (here r) e (world r)); less = λ r. omega arith }

-- ---- what three clauses say

module _ {E : Type 0} (result : std.Result code.Now E) (s : Stmt) (r t : Run) where
  pub begins : (v : Stmt) → s ≡ v → IfOk result (λ n. outcome (now_view n) t ≡ executed v r)
      → IfOk result (λ n. t.state.units ≤ r.state.units)
      → IfOk result (λ n. t.state.units ≡ r.state.units → heft (now_view n) t < heft (pending.Exec v) r)
      → IfOk result (λ n. IsExecuted s (now_view n) r t)
  begins v is same units less =
      subst (λ q. IfOk result (λ n. IsExecuted q (now_view n) r t)) (sym is)
      (parts_below result _ _ _ _ r t refl (omega arith) same units less)

  pub while_loop : (e : Expr) (b : Stmt) (more : ℕ) → s ≡ node.While e b → r.turns ≡ suc more
      → IfOk result (λ n. IsTurn (suc more) e None b (now_view n) r t)
      → IfOk result (λ n. IsExecuted s (now_view n) r t)
  unfolding executed
  while_loop e b more is turns h =
      subst (λ q. IfOk result (λ n. IsExecuted q (now_view n) r t)) (sym is)
      (steps_as result _ _ _ _ r t (ap (λ d. leads r (left (loop_of (here r) d e None b (world r)))) (sym turns)
      ∙ ap (leads r) (statement.while_begins (here r) e b (world r))) (omega arith) h)

  pub for_loop : (e : Expr) (b : Stmt) (more : ℕ) → s ≡ node.For e b → r.turns ≡ suc more
      → IfOk result (λ n. IsTurn (suc more) e None b (now_view n) r t)
      → IfOk result (λ n. IsExecuted s (now_view n) r t)
  unfolding executed
  for_loop e b more is turns h =
      subst (λ q. IfOk result (λ n. IsExecuted q (now_view n) r t)) (sym is)
      (steps_as result _ _ _ _ r t (ap (λ d. leads r (left (loop_of (here r) d e None b (world r)))) (sym turns)
      ∙ ap (leads r) (statement.for_begins (here r) e b (world r))) (omega arith) h)

  pub for_step : (e step : Expr) (b : Stmt) (more : ℕ) → s ≡ node.ForStep e step b → r.turns ≡ suc more
      → IfOk result (λ n. IsTurn (suc more) e (Some step) b (now_view n) r t)
      → IfOk result (λ n. IsExecuted s (now_view n) r t)
  unfolding executed
  for_step e step b more is turns h =
      subst (λ q. IfOk result (λ n. IsExecuted q (now_view n) r t)) (sym is)
      (steps_as result _ _ _ _ r t (ap (λ d. leads r (left (loop_of (here r) d e (Some step) b (world r)))) (sym turns)
      ∙ ap (leads r) (statement.for_step_begins (here r) e step b (world r))) (omega arith) h)

  pub do_loop : (b : Stmt) (e : Expr) (more : ℕ) → s ≡ node.Do b e → r.turns ≡ suc more
      → IfOk result (λ n. outcome (now_view n) t
      ≡ leads r (after (here r) (pending.Round more b e) (left (exec (here r) b (world r)))))
      → IfOk result (λ n. t.state.units ≡ r.state.units)
      → IfOk result (λ n. heft (now_view n) t ≤ heft (pending.Exec b) r + waiting (pending.Round more b e) r)
      → IfOk result (λ n. IsExecuted s (now_view n) r t)
  unfolding executed
  do_loop b e more is turns same units less =
      subst (λ q. IfOk result (λ n. IsExecuted q (now_view n) r t)) (sym is)
      (waits result (pending.Round more b e) (pending.Exec b) _ _ r t
      (ap (leads r) (statement.round_begins (here r) more b e (world r))
      ∙ ap (λ d. leads r (left (rounds_of (here r) d b e (world r)))) (sym turns)
      ∙ ap (leads r) (statement.do_begins (here r) b e (world r))) (omega arith)
      (pushes result (pending.Round more b e) (pending.Exec b) r t same units less))

-- ---- what is done at once

pub variable : (s : Stmt) (i : ℕ) (n : Now) (r one t : Run) → s ≡ node.Variable i
    → one ≡ in_world (with_variable i 0 (world r)) r
    → outcome n t ≡ leads one (spent (here one) (world one).units (pending.Left Normal) (world one))
    → t.state.units ≤ one.state.units → (t.state.units ≡ one.state.units → heft n t ≡ 0) → IsExecuted s n r t
unfolding executed
variable s i n r one t is set same units less =
    let still : one.state.units ≡ r.state.units = ap (λ (q : Run). q.state.units) set in
    subst (λ q. IsExecuted q n r t) (sym is)
    (record {
      same = way.ends_behind r one t n (with_variable i 0 (world r)) Normal set same;
      units = omega (arith, units, still);
      less = λ all.
          let last : t.state.units ≡ one.state.units = omega (arith, all, still) in
          omega (arith, less last);
    })

-- the world changed, and no unit was spent
changed : (s v : Stmt) (w : World) (r t : Run) → s ≡ v → t ≡ in_world w r → w.units ≡ r.state.units
    → exec (here r) v (world r) ≡ Gives Normal w → held r < heft (pending.Exec v) r
    → IsExecuted s (pending.Left Normal) r t
unfolding executed
changed s v w r t is set still gives light =
    let units : t.state.units ≡ w.units = ap (λ (q : Run). q.state.units) set in
    let weight : heft (pending.Left Normal) t ≡ heft (pending.Left Normal) r = ap (heft (pending.Left Normal)) set in
    subst (λ q. IsExecuted q (pending.Left Normal) r t) (sym is)
    (record {
      same = way.stands_behind r t w set ∙ ap (λ x. leads r (left x)) (sym gives);
      units = omega (arith, units, still);
      less = λ all. omega (arith, weight, light);
    })

pub parameter : (s : Stmt) (k v : ℕ) (width : Width) (r t : Run) → s ≡ node.Parameter k width
    → v ≡ passed k width (world r) → t ≡ in_world (with_variable k v (world r)) r
    → IsExecuted s (pending.Left Normal) r t
parameter s k v width r t is value set =
    changed s (node.Parameter k width) (with_variable k v (world r)) r t is set refl
    (ap (λ v. Gives Normal (with_variable k v (world r))) (sym value)) (omega arith)

pub parameter_object : (s : Stmt) (k v offset at : ℕ) (width : Width) (r t : Run)
    → s ≡ node.ParameterObject k width offset → v ≡ passed k width (world r)
    → at ≡ frame_start (here r).object (world r).shared + offset
    → t ≡ in_world (with_shared (stored at width v (world r).shared) (world r)) r
    → IsExecuted s (pending.Left Normal) r t
parameter_object s k v offset at width r t is value place set =
    changed s (node.ParameterObject k width offset) (with_shared (stored at width v (world r).shared) (world r)) r t is
    set refl
    (ap (λ at. Gives Normal (with_shared (stored at width (passed k width (world r)) (world r).shared) (world r)))
    (sym place)
    ∙ ap (λ v. Gives Normal (with_shared (stored at width v (world r).shared) (world r))) (sym value))
    (omega arith)

pub object : (s : Stmt) (offset words : ℕ) (n : Now) (r t : Run) → s ≡ node.Object offset words
    → outcome n t ≡ leads r (left (exec (here r) (node.Object offset words) (world r)))
    → t.state.units ≤ r.state.units → (t.state.units ≡ r.state.units → heft n t ≤ held r) → IsExecuted s n r t
unfolding executed
object s offset words n r t is same units less =
    subst (λ q. IsExecuted q n r t) (sym is)
    (record { same = same; units = units; less = λ still. omega (arith, less still) })

ended : (s v : Stmt) (n : Now) (r : Run) → s ≡ v → outcome n r ≡ executed v r → heft n r < heft (pending.Exec v) r
    → IsExecuted s n r r
ended s v n r is same less = subst (λ q. IsExecuted q n r r) (sym is) (step_now n _ _ r same less)

pub case_ends : (s : Stmt) (v : ℕ) (r : Run) → s ≡ node.Case v → IsExecuted s (pending.Left Normal) r r
unfolding executed
case_ends s v r is = ended s (node.Case v) (pending.Left Normal) r is refl (omega arith)

pub default_ends : (s : Stmt) (r : Run) → s ≡ node.Default → IsExecuted s (pending.Left Normal) r r
unfolding executed
default_ends s r is = ended s node.Default (pending.Left Normal) r is refl (omega arith)

pub break_ends : (s : Stmt) (r : Run) → s ≡ node.Break → IsExecuted s (pending.Left Broke) r r
unfolding executed
break_ends s r is = ended s node.Break (pending.Left Broke) r is refl (omega arith)

pub continue_ends : (s : Stmt) (r : Run) → s ≡ node.Continue → IsExecuted s (pending.Left Continued) r r
unfolding executed
continue_ends s r is = ended s node.Continue (pending.Left Continued) r is refl (omega arith)

pub return_ends : (s : Stmt) (r : Run) → s ≡ node.Return → IsExecuted s (pending.Returned 0) r r
unfolding executed
return_ends s r is = ended s node.Return (pending.Returned 0) r is refl (omega arith)

-- ---- what is gone on with

most : {E : Type 0} (result : std.Result code.Now E) (b : Result Signal) (m : ℕ) (r t : Run)
    → IfOk result (λ n. IsStep b m (now_view n) r t)
    → IfOk result (λ n. t.state.units ≡ r.state.units → heft (now_view n) t + 1 ≤ m)
most (std.Ok n) b m r t h = λ still. omega (arith, h.less still)
most (std.Err x) b m r t h = h

module _ {E : Type 0} (result : std.Result code.Now E) (next : Now) (s : Stmt) (r t : Run) where
  pub same_as_next : next ≡ pending.Exec s → IfOk result (λ n. IsExecuted s (now_view n) r t)
      → IfOk result (λ n. outcome (now_view n) t ≡ outcome next r)
  unfolding executed
  same_as_next is h =
      subst (λ next. IfOk result (λ n. outcome (now_view n) t ≡ outcome next r)) (sym is) (same_of result _ _ r t h)

  pub less_than_next : next ≡ pending.Exec s → IfOk result (λ n. IsExecuted s (now_view n) r t)
      → IfOk result (λ n. t.state.units ≡ r.state.units → heft (now_view n) t + whole next ≤ heft next r)
  less_than_next is h =
      subst (λ next. IfOk result (λ n. t.state.units ≡ r.state.units → heft (now_view n) t + whole next ≤ heft next r))
      (sym is) (most result _ _ r t h)
