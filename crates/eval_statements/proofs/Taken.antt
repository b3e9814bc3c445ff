-- What the frames of statements make of a value.
use Rattle.std.proofs.Common.{◌≡◌, ◌≢◌, ◌≤◌, ◌<◌, ◌+◌, ℕ, zero, suc, Option, Some, IfOk, refl, ap, sym, subst, arith}
use Rattle.std.proofs.Common as std
use Rattle.typed_tree.specs.Nodes.{Expr, Items, Stmt}
use Rattle.staged_meaning.specs.Meaning.{exec, exec_items}
use Rattle.staged_meaning.specs.World.{Gives, Normal, at_zero}
use Rattle.eval_state.specs.Pending as pending
use Rattle.eval_state.specs.Pending.{Frame, Now}
use Rattle.eval_state.specs.Rest.{Value, after, left}
use Rattle.eval_state.proofs.Statements as statement
use Rattle.eval_state.specs.declared.parts.Now as code
use Rattle.eval_state.specs.Less.{heft, held, waiting}
use Rattle.eval_state.specs.Run.{Run, here, leads, outcome, world}
use Rattle.eval_state.specs.Steps.{taken}
use Rattle.eval_state.specs.Views.{now_view}
use Rattle.eval_simple.specs.Stepped.{IsTaken}
use Rattle.eval_simple.proofs.Stepped.{pushes, step_now, steps_as, waits}
use Rattle.eval_statements.specs.Turned.{IsRounded, IsTurned}

-- nothing is done but what is told
pub told : (f g : Frame) (v : ℕ) (n : Now) (r : Run) → f ≡ g → outcome n r ≡ taken g v r
    → heft n r < waiting g r + held r → IsTaken f v n r r
told f g v n r is same less = subst (λ q. IsTaken q v n r r) (sym is) (step_now n _ _ r same less)

pub dropped : (f : Frame) (v : ℕ) (r : Run) → f ≡ pending.Drop → IsTaken f v (pending.Left Normal) r r
unfolding taken
dropped f v r is = told f pending.Drop v (pending.Left Normal) r is refl (omega arith)

pub returned : (f : Frame) (v : ℕ) (r : Run) → f ≡ pending.Return → IsTaken f v (pending.Returned v) r r
unfolding taken
returned f v r is = told f pending.Return v (pending.Returned v) r is refl (omega arith)

-- the test of an `if`
other : {A : Type 0} (v : ℕ) (x y : A) → v ≢ 0 → y ≡ at_zero v x y
other zero x y h = absurd (h refl)
other (suc v) x y h = refl

pub if_fails : (f : Frame) (v : ℕ) (s : Stmt) (r : Run) → f ≡ pending.If s → v ≡ 0
    → IsTaken f v (pending.Left Normal) r r
unfolding taken
if_fails f v s r is none =
    told f (pending.If s) v (pending.Left Normal) r is
    (ap (λ v. leads r (left (at_zero v (Gives Normal (world r)) (exec (here r) s (world r))))) (sym none)) (omega arith)

pub if_holds : (f : Frame) (v : ℕ) (s : Stmt) (r : Run) → f ≡ pending.If s → v ≢ 0 → IsTaken f v (pending.Exec s) r r
unfolding taken
if_holds f v s r is some =
    told f (pending.If s) v (pending.Exec s) r is
    (ap (λ x. leads r (left x)) (other v (Gives Normal (world r)) (exec (here r) s (world r)) some)) (omega arith)

pub else_chosen : (f : Frame) (v : ℕ) (s t : Stmt) (r : Run) → f ≡ pending.IfElse s t → v ≡ 0
    → IsTaken f v (pending.Exec t) r r
unfolding taken
else_chosen f v s t r is none =
    told f (pending.IfElse s t) v (pending.Exec t) r is
    (ap (λ v. leads r (left (at_zero v (exec (here r) t (world r)) (exec (here r) s (world r))))) (sym none)) (omega
    arith)

pub then_chosen : (f : Frame) (v : ℕ) (s t : Stmt) (r : Run) → f ≡ pending.IfElse s t → v ≢ 0
    → IsTaken f v (pending.Exec s) r r
unfolding taken
then_chosen f v s t r is some =
    told f (pending.IfElse s t) v (pending.Exec s) r is
    (ap (λ x. leads r (left x)) (other v (exec (here r) t (world r)) (exec (here r) s (world r)) some)) (omega arith)

-- a test that fails
pub test_fails : (d : ℕ) (e : Expr) (step : Option Expr) (s : Stmt) (v : ℕ) (r : Run) → v ≡ 0
    → IsTaken (pending.Test d e step s) v (pending.Left Normal) r r
unfolding taken
test_fails d e step s v r none =
    told (pending.Test d e step s) (pending.Test d e step s) v (pending.Left Normal) r refl
    (ap (λ v. leads r (after (here r) (pending.Test d e step s) (Gives (Value v) (world r)))) (sym none)) (omega arith)

module _ {E : Type 0} (result : std.Result code.Now E) (f : Frame) (v : ℕ) (r t : Run) where
  pub takes : (g : Frame) → f ≡ g → IfOk result (λ n. IsTaken g v (now_view n) r t)
      → IfOk result (λ n. IsTaken f v (now_view n) r t)
  takes g is h = subst (λ q. IfOk result (λ n. IsTaken q v (now_view n) r t)) (sym is) h

  pub stepped : (d : ℕ) (e step : Expr) (s : Stmt) → f ≡ pending.Step d e step s
      → IfOk result (λ n. IsTurned d e (Some step) s (now_view n) r t)
      → IfOk result (λ n. IsTaken f v (now_view n) r t)
  unfolding taken
  stepped d e step s is h =
      takes (pending.Step d e step s) is (steps_as result _ _ _ _ r t refl (omega arith) h)

  pub rounded : (d : ℕ) (s : Stmt) (e : Expr) → f ≡ pending.RoundTest d s e
      → IfOk result (λ n. IsRounded v d s e (now_view n) r t) → IfOk result (λ n. IsTaken f v (now_view n) r t)
  unfolding taken
  rounded d s e is h = takes (pending.RoundTest d s e) is (steps_as result _ _ _ _ r t refl (omega arith) h)

  -- the variables of a switch come next
  pub declares : (variables items : Items) → f ≡ pending.Switch variables items
      → IfOk result (λ n. outcome (now_view n) t ≡ leads r
      (after (here r) (pending.Chosen v items) (left (exec_items (here r) variables (world r)))))
      → IfOk result (λ n. t.state.units ≡ r.state.units)
      → IfOk result (λ n. heft (now_view n) t
      ≤ heft (pending.Run variables) r + waiting (pending.Chosen v items) r)
      → IfOk result (λ n. IsTaken f v (now_view n) r t)
  unfolding taken
  declares variables items is same units less =
      takes (pending.Switch variables items) is
      (waits result (pending.Chosen v items) (pending.Run variables) _ _ r t
      (ap (leads r) (statement.switch_declares (here r) variables items v (world r))) (omega arith)
      (pushes result (pending.Chosen v items) (pending.Run variables) r t same units less))
