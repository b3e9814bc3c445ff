-- Statements whose parts are evaluated at once.
use Rattle.std.proofs.Common.{◌≡◌, ◌≢◌, ◌≤◌, ◌<◌, ℕ, suc, ◌-◌, Option, Some, None, IfOk, MatchOption, subst}
use Rattle.std.proofs.Common.{refl, ap, sym, ◌∙◌, arith}
use Rattle.std.proofs.Common as std
use Rattle.word32.specs.declared.width.Width.{Width}
use Rattle.typed_tree.specs.Nodes as node
use Rattle.typed_tree.specs.Nodes.{Expr, Stmt, Items, NoItem, Item}
use Rattle.staged_meaning.specs.Meaning.{eval}
use Rattle.staged_meaning.specs.Statements.{passed}
use Rattle.staged_meaning.specs.World.{Normal, Gives}
use Rattle.staged_meaning.specs.World.{then_do, spend, with_variable}
use Rattle.eval_state.specs.Pending.{Now}
use Rattle.eval_state.specs.Pending as pending
use Rattle.eval_state.specs.Rest.{left, loop_of, valued, after}
use Rattle.eval_state.proofs.Statements as statement
use Rattle.eval_state.specs.declared.parts.Now as code
use Rattle.eval_state.specs.Run.{Run, here, world, leads, in_world, with_units}
use Rattle.eval_state.specs.Steps.{taken}
use Rattle.eval_simple.specs.Simple.{IsDone}
use Rattle.eval_simple.proofs.Going as going
use Rattle.eval_statements.specs.Ran.{IsRun}

-- units that were spent before
pub units_behind : {E : Type 0} (result : std.Result code.Now E) (t u : Run) (r : Run) → t.state.units ≤ r.state.units
    → IfOk result (λ n. u.state.units ≤ t.state.units) → IfOk result (λ n. u.state.units ≤ r.state.units)
units_behind (std.Ok n) t u r less h = omega (arith, less, h)
units_behind (std.Err e) t u r less h = h

-- ---- turns

pub turn_waits : (d : ℕ) (e : Expr) (step : Option Expr) (s : Stmt) (r : Run)
    → leads r (after (here r) (pending.Test d e step s) (valued (eval (here r) e (world r))))
    ≡ leads r (left (loop_of (here r) (suc d) e step s (world r)))
turn_waits d e step s r = ap (leads r) (statement.turn_begins (here r) d e step s (world r))

pub turn_tested : (r t : Run) (d : ℕ) (e : Expr) (step : Option Expr) (s : Stmt) (v : ℕ) → IsDone e v r t
    → taken (pending.Test d e step s) v t ≡ leads r (left (loop_of (here r) (suc d) e step s (world r)))
turn_tested r t d e step s v h =
    going.takes r t e v (pending.Test d e step s) h
    ∙ ap (leads r) (statement.turn_begins (here r) d e step s (world r))

pub step_taken : (r t : Run) (d : ℕ) (e step : Expr) (s : Stmt) (v : ℕ) → IsDone step v r t
    → leads t (left (then_do (spend Normal (world t)) (λ flow w. loop_of (here t) d e (Some step) s w)))
    ≡ leads r (after (here r) (pending.Step d e step s) (valued (eval (here r) step (world r))))
unfolding taken
step_taken r t d e step s v h = going.takes r t step v (pending.Step d e step s) h

-- ---- statements that ran at once

pub expression_ran : (r t : Run) (e : Expr) (v : ℕ) → IsDone e v r t → IsRun (node.Eval e) r t
unfolding IsDone IsRun
expression_ran r t e v h =
    (h.0, ap (λ x. then_do x (λ v w. Gives Normal w)) h.1, omega (arith, h.2))

one_left : (n : ℕ) → n ≢ 0 → n ≡ suc (n - 1)
one_left n h = omega (arith, h)

pub variable_ran : (r one t : Run) (i : ℕ) → (world r).units ≢ 0 → one ≡ with_units ((world r).units - 1) r
    → t ≡ in_world (with_variable i 0 (world one)) one → IsRun (node.Variable i) r t
unfolding IsRun
variable_ran r one t i some spent set =
    let new : t ≡ in_world (with_variable i 0 (world (with_units ((world r).units - 1) r))) r =
    set ∙ ap (λ q. in_world (with_variable i 0 (world q)) q) spent
    in (
      new ∙ ap (λ (q : Run). in_world (world q) r) (sym new),
      ap (λ n. spend Normal (with_variable i 0 (record (world r) { units = n }))) (one_left (world r).units some)
          ∙ ap (λ (q : Run). Gives Normal (world q)) (sym new),
      omega (arith, ap (λ (q : Run). q.state.units) new),
    )

pub parameter_ran : (r t : Run) (k v : ℕ) (width : Width) → v ≡ passed k width (world r)
    → t ≡ in_world (with_variable k v (world r)) r → IsRun (node.Parameter k width) r t
unfolding IsRun
parameter_ran r t k v width is set =
    let new : t ≡ in_world (with_variable k (passed k width (world r)) (world r)) r =
    set ∙ ap (λ v. in_world (with_variable k v (world r)) r) is
    in (
      new ∙ ap (λ (q : Run). in_world (world q) r) (sym new),
      ap (λ (q : Run). Gives Normal (world q)) (sym new),
      omega (arith, ap (λ (q : Run). q.state.units) new),
    )

pub ruleset ran = (expression_ran, variable_ran, parameter_ran)
