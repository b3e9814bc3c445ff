-- What the frames of statements make of the way that a statement was left.
use Rattle.std.proofs.Common.{◌≡◌, ◌≤◌, ◌<◌, ◌+◌, ℕ, Option, None, Some, IfOk, refl, ap, sym, subst, ◌∙◌, arith}
use Rattle.std.proofs.Common as std
use Rattle.typed_tree.specs.Nodes.{Expr, Items, Stmt}
use Rattle.staged_meaning.specs.Meaning.{eval}
use Rattle.staged_meaning.specs.World.{Flow, Normal, Broke, Continued}
use Rattle.eval_state.specs.Pending as pending
use Rattle.eval_state.specs.Pending.{Frame, Now}
use Rattle.eval_state.specs.Rest.{after, left, spent, switched, valued}
use Rattle.eval_state.proofs.Statements as statement
use Rattle.eval_state.specs.declared.parts.Now as code
use Rattle.eval_state.specs.Less.{heft, held, waiting}
use Rattle.eval_state.specs.Run.{Run, here, leads, outcome, world}
use Rattle.eval_state.specs.Steps.{ended}
use Rattle.eval_state.specs.Views.{now_view}
use Rattle.eval_simple.specs.Stepped.{IsEnded}
use Rattle.eval_simple.proofs.Stepped.{parts_below, pushes, step_now, steps_as, waits}
use Rattle.eval_statements.proofs.Begins as begins

-- of this frame and way, by those that it is
like : (f g : Frame) (x y : Flow) (n : Now) (r t : Run) → f ≡ g → x ≡ y → IsEnded g y n r t → IsEnded f x n r t
like f g x y n r t is way h =
    subst (λ q. IsEnded q x n r t) (sym is) (subst (λ q. IsEnded g q n r t) (sym way) h)

-- nothing is done but what is told
told : (f g : Frame) (x y : Flow) (n : Now) (r : Run) → f ≡ g → x ≡ y → outcome n r ≡ ended g y r
    → heft n r < waiting g r + held r → IsEnded f x n r r
told f g x y n r is way same less = like f g x y n r r is way (step_now n _ _ r same less)

module _ (f : Frame) (x : Flow) (r : Run) where
  pub runs : (items : Items) → f ≡ pending.Rest items → x ≡ Normal → IsEnded f x (pending.Run items) r r
  unfolding ended
  runs items is way = told f (pending.Rest items) x Normal (pending.Run items) r is way refl (omega arith)

  pub item_broken : (items : Items) → f ≡ pending.Rest items → x ≡ Broke → IsEnded f x (pending.Left Broke) r r
  unfolding ended
  item_broken items is way = told f (pending.Rest items) x Broke (pending.Left Broke) r is way refl (omega arith)

  pub item_continued : (items : Items) → f ≡ pending.Rest items → x ≡ Continued
      → IsEnded f x (pending.Left Continued) r r
  unfolding ended
  item_continued items is way =
      told f (pending.Rest items) x Continued (pending.Left Continued) r is way refl (omega arith)

  pub choice_broken : (v : ℕ) (items : Items) → f ≡ pending.Chosen v items → x ≡ Broke
      → IsEnded f x (pending.Left Broke) r r
  unfolding ended
  choice_broken v items is way =
      told f (pending.Chosen v items) x Broke (pending.Left Broke) r is way refl (omega arith)

  pub choice_continued : (v : ℕ) (items : Items) → f ≡ pending.Chosen v items → x ≡ Continued
      → IsEnded f x (pending.Left Continued) r r
  unfolding ended
  choice_continued v items is way =
      told f (pending.Chosen v items) x Continued (pending.Left Continued) r is way refl (omega arith)

  pub switch_over : f ≡ pending.SwitchEnd → x ≡ Normal → IsEnded f x (pending.Left Normal) r r
  unfolding ended
  switch_over is way = told f pending.SwitchEnd x Normal (pending.Left Normal) r is way refl (omega arith)

  pub switch_broken : f ≡ pending.SwitchEnd → x ≡ Broke → IsEnded f x (pending.Left Normal) r r
  unfolding ended
  switch_broken is way = told f pending.SwitchEnd x Broke (pending.Left Normal) r is way refl (omega arith)

  pub switch_continued : f ≡ pending.SwitchEnd → x ≡ Continued → IsEnded f x (pending.Left Continued) r r
  unfolding ended
  switch_continued is way = told f pending.SwitchEnd x Continued (pending.Left Continued) r is way refl (omega arith)

  -- a break ends a loop, at a unit
  module _ (n : Now) (t : Run) (units : t.state.units ≤ r.state.units)
      (less : t.state.units ≡ r.state.units → heft n t ≡ 0)
      (same : outcome n t ≡ leads r (spent (here r) (world r).units (pending.Left Normal) (world r))) where
    pub loop_broken : (d : ℕ) (e : Expr) (step : Option Expr) (s : Stmt) → f ≡ pending.Turn d e step s → x ≡ Broke
        → IsEnded f x n r t
    loop_broken d e step s is way =
        like f (pending.Turn d e step s) x Broke n r t is way
        (record {
          same = begins.breaks r t n d e step s same;
          units = units;
          less = λ still. omega (arith, less still);
        })

    rounds_broken : (d : ℕ) (s : Stmt) (e : Expr) → outcome n t ≡ ended (pending.Round d s e) Broke r
    unfolding ended
    rounds_broken d s e =
        begins.ends_now r t n Normal same ∙ ap (leads r) (statement.round_broken (here r) d s e (world r))

    pub round_broken : (d : ℕ) (s : Stmt) (e : Expr) → f ≡ pending.Round d s e → x ≡ Broke → IsEnded f x n r t
    round_broken d s e is way =
        like f (pending.Round d s e) x Broke n r t is way
        (record { same = rounds_broken d s e; units = units; less = λ still. omega (arith, less still) })

-- where memory sufficed, of this frame and way
all_like : {E : Type 0} (result : std.Result code.Now E) (f g : Frame) (x y : Flow) (r t : Run) → f ≡ g → x ≡ y
    → IfOk result (λ n. IsEnded g y (now_view n) r t) → IfOk result (λ n. IsEnded f x (now_view n) r t)
all_like (std.Ok n) f g x y r t is way h = like f g x y (now_view n) r t is way h
all_like (std.Err e) f g x y r t is way h = h

-- a turn goes on behind its body's end and behind a continue
both : (d : ℕ) (e : Expr) (o : Option Expr) (s : Stmt) (r : Run)
    → ended (pending.Turn d e o s) Normal r ≡ ended (pending.Turn d e o s) Continued r
unfolding ended
both d e None s r = refl
both d e (Some step) s r = refl

module _ {E : Type 0} (result : std.Result code.Now E) (f : Frame) (x : Flow) (r t : Run) where
  pub turn_goes_on : (d : ℕ) (e : Expr) (o : Option Expr) (s : Stmt) → f ≡ pending.Turn d e o s → x ≡ Normal
      → IfOk result (λ n. IsEnded (pending.Turn d e o s) Normal (now_view n) r t)
      → IfOk result (λ n. IsEnded f x (now_view n) r t)
  turn_goes_on d e o s is way h = all_like result f (pending.Turn d e o s) x Normal r t is way h

  pub turn_continued : (d : ℕ) (e : Expr) (o : Option Expr) (s : Stmt) → f ≡ pending.Turn d e o s → x ≡ Continued
      → IfOk result (λ n. IsEnded (pending.Turn d e o s) Normal (now_view n) r t)
      → IfOk result (λ n. IsEnded f x (now_view n) r t)
  turn_continued d e o s is way h =
      all_like result f (pending.Turn d e o s) x Continued r t is way
      (steps_as result _ _ _ _ r t (both d e o s r) (omega arith) h)

  -- the test of a `do`
  module _ (d : ℕ) (s : Stmt) (e : Expr)
      (same : IfOk result (λ n. outcome (now_view n) t
      ≡ leads r (after (here r) (pending.RoundTest d s e) (valued (eval (here r) e (world r))))))
      (units : IfOk result (λ n. t.state.units ≡ r.state.units))
      (less : IfOk result (λ n. heft (now_view n) t
      ≤ heft (pending.Eval e) r + waiting (pending.RoundTest d s e) r)) where
    pub round_tested : f ≡ pending.Round d s e → x ≡ Normal → IfOk result (λ n. IsEnded f x (now_view n) r t)
    unfolding ended
    round_tested is way =
        all_like result f (pending.Round d s e) x Normal r t is way
        (waits result (pending.RoundTest d s e) (pending.Eval e) _ _ r t
        (ap (leads r) (statement.round_tested (here r) d s e (world r))) (omega arith)
        (pushes result (pending.RoundTest d s e) (pending.Eval e) r t same units less))

  pub round_continued : (d : ℕ) (s : Stmt) (e : Expr) → f ≡ pending.Round d s e → x ≡ Continued
      → IfOk result (λ n. IsEnded (pending.Round d s e) Continued (now_view n) r t)
      → IfOk result (λ n. IsEnded f x (now_view n) r t)
  round_continued d s e is way h = all_like result f (pending.Round d s e) x Continued r t is way h

  pub chooses : (v : ℕ) (items : Items) → f ≡ pending.Chosen v items → x ≡ Normal
      → IfOk result (λ n. outcome (now_view n) t ≡ leads r (left (switched (here r) v items (world r))))
      → IfOk result (λ n. t.state.units ≤ r.state.units)
      → IfOk result (λ n. t.state.units ≡ r.state.units
      → heft (now_view n) t < waiting (pending.Chosen v items) r + held r)
      → IfOk result (λ n. IsEnded f x (now_view n) r t)
  unfolding ended
  chooses v items is way same units less =
      all_like result f (pending.Chosen v items) x Normal r t is way
      (parts_below result _ _ _ _ r t refl (omega arith) same units less)
