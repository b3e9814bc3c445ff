-- The turns of loops: each spends a unit at its end, and a loop that may have no turn more stops.
use Rattle.std.proofs.Common.{◌≡◌, ◌≤◌, ℕ, zero, suc, ◌+◌, ◌-◌, ◌≢◌, Option, None, Some, IfOk}
use Rattle.std.proofs.Common.{refl, ap, sym, subst, ◌∙◌, arith}
use Rattle.std.proofs.Common as std
use Rattle.typed_tree.specs.Nodes.{Expr, Stmt}
use Rattle.staged_meaning.specs.Meaning.{Context, eval, exec}
use Rattle.staged_meaning.specs.World.{World, Result, Gives, Flow, Normal, Continued, at_zero, then_do, spend}
use Rattle.eval_state.specs.Pending as pending
use Rattle.eval_state.specs.Pending.{Now}
use Rattle.eval_state.specs.Rest.{Signal, Value, left, after, loop_of, rounds_of, valued}
use Rattle.eval_state.proofs.Statements as law
use Rattle.eval_state.specs.declared.parts.Now as code
use Rattle.eval_state.specs.declared.state.Parts.{Parts}
use Rattle.eval_state.specs.Less.{heft, held, waiting}
use Rattle.eval_state.specs.Run.{Run, here, leads, outcome, run_of, world, with_units}
use Rattle.eval_state.specs.Steps.{ended, taken}
use Rattle.eval_state.specs.Views.{now_view}
use Rattle.eval_simple.specs.Simple.{IsDone}
use Rattle.eval_simple.specs.Stepped.{IsEnded, IsPushed, IsStep, IsTaken}
use Rattle.eval_simple.proofs.Stepped.{pushes, step_as, step_now, steps_as, steps_behind, unmoved, waits}
use Rattle.eval_statements.specs.Turned.{IsRounded, IsTurn, IsTurned}
use Rattle.eval_statements.proofs.AtOnce as once

-- a unit was spent, and something is done behind it
pub unit_first : (r one : Run) (k : Context → World → Result Flow)
    → ((world r).units ≢ 0) × (one ≡ with_units ((world r).units - 1) r)
    → leads one (left (k (here one) (world one)))
    ≡ leads r (left (then_do (spend Normal (world r)) (λ flow w. k (here r) w)))
unit_first r one k h =
    let all : suc ((world r).units - 1) ≡ (world r).units = omega (arith, h.0) in
    ap (λ q. leads q (left (k (here q) (world q)))) h.1
    ∙ ap (λ u. leads r (left (then_do (spend Normal (record (world r) { units = u })) (λ flow w. k (here r) w)))) all

other : (v : ℕ) (x y : Result Flow) → v ≢ 0 → at_zero v x y ≡ y
other zero x y h = absurd (h refl)
other (suc v) x y h = refl

-- a turn more
pub more_turns : (r : Run) (many : ℕ) (e : Expr) (step : Option Expr) (s : Stmt) → many ≢ 0
    → leads r (left (loop_of (here r) (suc (many - 1)) e step s (world r)))
    ≡ leads r (left (loop_of (here r) many e step s (world r)))
more_turns r many e step s h =
    let all : suc (many - 1) ≡ many = omega (arith, h) in
    ap (λ d. leads r (left (loop_of (here r) d e step s (world r)))) all

-- a round more, which begins with its body
pub more_rounds : (r : Run) (many : ℕ) (s : Stmt) (e : Expr) → many ≢ 0
    → leads r (after (here r) (pending.Round (many - 1) s e) (left (exec (here r) s (world r))))
    ≡ leads r (left (rounds_of (here r) many s e (world r)))
more_rounds r many s e h =
    let all : suc (many - 1) ≡ many = omega (arith, h) in
    ap (leads r) (law.round_begins (here r) (many - 1) s e (world r))
    ∙ ap (λ d. leads r (left (rounds_of (here r) d s e (world r)))) all

-- behind a round's test, where its unit is spent: the loop ends, or may have no turn more, or has one
pub again_ends : (r : Run) (v many : ℕ) (s : Stmt) (e : Expr) → v ≡ 0
    → IsTaken (pending.ContinuedTest many s e) v (pending.Left Normal) r r
unfolding taken
again_ends r v many s e none =
    step_now (pending.Left Normal) _ _ r
    (ap (λ v. leads r (after (here r) (pending.ContinuedTest many s e) (Gives (Value v) (world r)))) (sym none))
    (omega arith)

-- its test held
round_holds : (r : Run) (v many : ℕ) (s : Stmt) (e : Expr) → v ≢ 0
    → leads r (left (rounds_of (here r) many s e (world r))) ≡ taken (pending.ContinuedTest many s e) v r
unfolding taken
round_holds r v many s e some =
    ap (λ x. leads r (left x)) (sym (other v (Gives Normal (world r)) (rounds_of (here r) many s e (world r)) some))

pub again_none : (r : Run) (v many : ℕ) (s : Stmt) (e : Expr) → v ≢ 0 → many ≡ 0
    → IsTaken (pending.ContinuedTest many s e) v pending.Stopped r r
again_none r v many s e some none =
    step_now pending.Stopped _ _ r
    (ap (λ d. leads r (left (rounds_of (here r) d s e (world r)))) (sym none) ∙ round_holds r v many s e some)
    (omega arith)

pub again_more : {E : Type 0} (result : std.Result code.Now E) (r t : Run) (v many : ℕ) (s : Stmt) (e : Expr) → v ≢ 0
    → many ≢ 0 → IfOk result (λ n. outcome (now_view n) t
    ≡ leads r (after (here r) (pending.Round (many - 1) s e) (left (exec (here r) s (world r)))))
    → IfOk result (λ n. t.state.units ≡ r.state.units)
    → IfOk result (λ n. heft (now_view n) t ≤ heft (pending.Exec s) r + waiting (pending.Round (many - 1) s e) r)
    → IfOk result (λ n. IsTaken (pending.ContinuedTest many s e) v (now_view n) r t)
again_more result r t v many s e some more same units less =
    waits result (pending.Round (many - 1) s e) (pending.Exec s) _ _ r t
    (more_rounds r many s e more ∙ round_holds r v many s e some) (omega arith)
    (pushes result (pending.Round (many - 1) s e) (pending.Exec s) r t same units less)

-- ---- a turn that ends

-- no unit is left for it, and nothing was done
pub turn_lacks : (p q : Parts) (k : Flow → World → Result Flow) → ((world (run_of p)).units ≡ 0) × (q ≡ p)
    → IsStep (leads (run_of p) (left (then_do (spend Normal (world (run_of p))) k))) (suc (held (run_of p)))
    pending.Stopped (run_of p) (run_of q)
turn_lacks p q k h =
    let r = run_of p in
    subst
    (λ q. IsStep (leads r (left (then_do (spend Normal (world r)) k))) (suc (held r)) pending.Stopped r (run_of q))
    (sym h.1)
    (step_now pending.Stopped (leads r (left (then_do (spend Normal (world r)) k))) (suc (held r)) r
    (ap (λ u. leads r (left (then_do (spend Normal (record (world r) { units = u })) k))) (sym h.0)) (omega arith))

-- nor for one that a continue ends
pub round_lacks : (p q : Parts) (many : ℕ) (s : Stmt) (e : Expr) → ((world (run_of p)).units ≡ 0) × (q ≡ p)
    → IsEnded (pending.Round many s e) Continued pending.Stopped (run_of p) (run_of q)
unfolding ended
round_lacks p q many s e h =
    let r = run_of p in
    step_as pending.Stopped _ _ _ _ r (run_of q) (ap (leads r) (law.round_continued (here r) many s e (world r)))
    (omega arith)
    (turn_lacks p q
    (λ flow w. then_do (eval (here r) e w) (λ v w. at_zero v (Gives Normal w) (rounds_of (here r) many s e w))) h)

module _ (r one : Run) (spent : ((world r).units ≢ 0) × (one ≡ with_units ((world r).units - 1) r)) where
  fewer : one.state.units ≡ r.state.units - 1
  fewer = ap (λ (q : Run). q.state.units) spent.1

  some : r.state.units ≢ 0
  some = spent.0

  -- its unit was spent, so nothing need be lighter
  spending : (n : Now) (b : Result Signal) (m : ℕ) (t : Run) → outcome n t ≡ b → t.state.units ≤ one.state.units
      → IsStep b m n r t
  spending n b m t is most = record {
    same = is;
    units = omega (arith, fewer, most);
    less = λ still. omega (arith, fewer, most, some, still);
  }

  pub turn_none : (many : ℕ) (e : Expr) (step : Option Expr) (s : Stmt) → many ≡ 0
      → IsTurned many e step s pending.Stopped r one
  turn_none many e step s none =
      spending pending.Stopped _ _ one
      (ap (λ d. leads one (left (loop_of (here one) d e step s (world one)))) (sym none)
      ∙ unit_first r one (λ c w. loop_of c many e step s w) spent)
      (omega arith)

  pub turn_more : {E : Type 0} (result : std.Result code.Now E) (t : Run) (many : ℕ) (e : Expr) (step : Option Expr)
      (s : Stmt) → many ≢ 0 → IfOk result (λ n. IsTurn (suc (many - 1)) e step s (now_view n) one t)
      → IfOk result (λ n. IsTurned many e step s (now_view n) r t)
  turn_more (std.Ok n) t many e step s more h =
      spending (now_view n) _ _ t
      (h.same ∙ more_turns one many e step s more ∙ unit_first r one (λ c w. loop_of c many e step s w) spent) h.units
  turn_more (std.Err x) t many e step s more h = h

  pub round_tested : {E : Type 0} (result : std.Result code.Now E) (t : Run) (v many : ℕ) (s : Stmt) (e : Expr)
      → IfOk result (λ n. IsTaken (pending.ContinuedTest many s e) v (now_view n) one t)
      → IfOk result (λ n. IsRounded v many s e (now_view n) r t)
  unfolding taken
  round_tested (std.Ok n) t v many s e h =
      spending (now_view n) _ _ t
      (h.same ∙ unit_first r one (λ c w. at_zero v (Gives Normal w) (rounds_of c many s e w)) spent) h.units
  round_tested (std.Err x) t v many s e h = h

  -- a continue ended a round, whose unit was spent: its test comes next
  pub round_waits : {E : Type 0} (result : std.Result code.Now E) (t : Run) (many : ℕ) (s : Stmt) (e : Expr)
      → IfOk result (λ n. outcome (now_view n) t
      ≡ leads one (after (here one) (pending.ContinuedTest many s e) (valued (eval (here one) e (world one)))))
      → IfOk result (λ n. t.state.units ≡ one.state.units)
      → IfOk result (λ n. IsEnded (pending.Round many s e) Continued (now_view n) r t)
  unfolding ended
  round_waits (std.Ok n) t many s e same units =
      spending (now_view n) _ _ t
      (same
      ∙ ap (leads one) (law.continued_tested (here one) many s e (world one))
      ∙ unit_first r one
      (λ c w. then_do (eval c e w) (λ v w. at_zero v (Gives Normal w) (rounds_of c many s e w))) spent
      ∙ ap (leads r) (law.round_continued (here r) many s e (world r)))
      (omega (arith, units))
  round_waits (std.Err x) t many s e same units = same

-- ---- a turn that begins

module _ {E : Type 0} (result : std.Result code.Now E) (d : ℕ) (e : Expr) (o : Option Expr) (s : Stmt) where
  pub turn_waits : (p q : Parts) (t : Run) → q ≡ p
      → IfOk result (λ n. IsPushed (pending.Test d e o s) (pending.Eval e) (now_view n) (run_of q) t)
      → IfOk result (λ n. IsTurn (suc d) e o s (now_view n) (run_of p) t)
  turn_waits p q t is h =
      unmoved result p q (λ n r. IsTurn (suc d) e o s (now_view n) r t) is
      (waits result (pending.Test d e o s) (pending.Eval e) _ _ (run_of q) t (once.turn_waits d e o s (run_of q))
      (omega arith) h)

  -- ---- behind the body of a loop

  pub turns_on : (r t : Run) → o ≡ None → IfOk result (λ n. IsTurned d e None s (now_view n) r t)
      → IfOk result (λ n. IsEnded (pending.Turn d e o s) Normal (now_view n) r t)
  unfolding ended
  turns_on r t is h =
      subst (λ o. IfOk result (λ n. IsEnded (pending.Turn d e o s) Normal (now_view n) r t)) (sym is)
      (steps_as result _ _ _ _ r t (ap (leads r) (law.turn_ends (here r) d e s (world r))) (omega arith) h)

  stepped : (step : Expr) (r : Run)
      → leads r (after (here r) (pending.Step d e step s) (valued (eval (here r) step (world r))))
      ≡ ended (pending.Turn d e (Some step) s) Normal r
  unfolding ended
  stepped step r = ap (leads r) (law.step_begins (here r) d e step s (world r))

  pub step_taken : (step : Expr) (v : ℕ) (r t u : Run) → o ≡ Some step → IsDone step v r t
      → IfOk result (λ n. IsTurned d e (Some step) s (now_view n) t u)
      → IfOk result (λ n. IsEnded (pending.Turn d e o s) Normal (now_view n) r u)
  step_taken step v r t u is done h =
      subst (λ o. IfOk result (λ n. IsEnded (pending.Turn d e o s) Normal (now_view n) r u)) (sym is)
      (steps_behind result step v _ _ _ _ r t u done (once.step_taken r t d e step s v done ∙ stepped step r) h)

  pub step_waits : (step : Expr) (p q : Parts) (t : Run) → o ≡ Some step → q ≡ p
      → IfOk result (λ n. IsPushed (pending.Step d e step s) (pending.Eval step) (now_view n) (run_of q) t)
      → IfOk result (λ n. IsEnded (pending.Turn d e o s) Normal (now_view n) (run_of p) t)
  step_waits step p q t is still h =
      subst (λ o. IfOk result (λ n. IsEnded (pending.Turn d e o s) Normal (now_view n) (run_of p) t)) (sym is)
      (unmoved result p q (λ n r. IsEnded (pending.Turn d e (Some step) s) Normal (now_view n) r t) still
      (waits result (pending.Step d e step s) (pending.Eval step) _ _ (run_of q) t (stepped step (run_of q)) (omega
      arith) h))
