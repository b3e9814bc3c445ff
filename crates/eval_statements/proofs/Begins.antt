-- The steps of statements.
use Rattle.std.proofs.Common.{◌≡◌, ◌≢◌, ℕ, zero, suc, Option, refl, ap, ◌∙◌}
use Rattle.typed_tree.specs.Nodes.{Expr, Stmt}
use Rattle.staged_meaning.specs.Meaning.{exec}
use Rattle.staged_meaning.specs.World.{Flow, Normal, Broke, World, Gives, spend}
use Rattle.eval_state.specs.Pending.{Now}
use Rattle.eval_state.specs.Pending as pending
use Rattle.eval_state.specs.Rest.{left, after, spent}
use Rattle.eval_state.proofs.Laws as law
use Rattle.eval_state.proofs.Statements as statement
use Rattle.typed_tree.proofs.Views as view
use Rattle.eval_state.specs.Steps.{taken, ended}
use Rattle.eval_state.specs.Run.{Run, here, world, leads, outcome, in_world}

-- the end of a statement behind a change of the world, which spends a unit
pub ends_behind : (r s t : Run) (n : Now) (w : World) (flow : Flow) → s ≡ in_world w r
    → outcome n t ≡ leads s (spent (here s) (world s).units (pending.Left flow) (world s))
    → outcome n t ≡ leads r (left (spend flow w))
ends_behind r s t n w flow h k =
    k
    ∙ ap (λ s. leads s (spent (here s) (world s).units (pending.Left flow) (world s))) h
    ∙ ap (leads r) (law.spent_left (here r) w.units flow w)

-- and without one
pub ends_now : (r t : Run) (n : Now) (flow : Flow)
    → outcome n t ≡ leads r (spent (here r) (world r).units (pending.Left flow) (world r))
    → outcome n t ≡ leads r (left (spend flow (world r)))
ends_now r t n flow k = k ∙ ap (leads r) (law.spent_left (here r) (world r).units flow (world r))

-- a statement that ends behind a change of the world, and spends nothing
pub stands_behind : (r s : Run) (w : World) → s ≡ in_world w r
    → outcome (pending.Left Normal) s ≡ leads r (left (Gives Normal w))
stands_behind r s w h = ap (outcome (pending.Left Normal)) h

-- ---- loops

-- a test that held: the body comes next
pub held : (r : Run) (d : ℕ) (e : Expr) (step : Option Expr) (s : Stmt) (v : ℕ) → v ≢ 0
    → leads r (after (here r) (pending.Turn d e step s) (left (exec (here r) s (world r))))
    ≡ taken (pending.Test d e step s) v r
unfolding taken
held r d e step s zero h = absurd (h refl)
held r d e step s (suc v) h = ap (leads r) (statement.test_holds (here r) d e step s v (world r))

-- a loop that a break ends
pub breaks : (r t : Run) (n : Now) (d : ℕ) (e : Expr) (step : Option Expr) (s : Stmt)
    → outcome n t ≡ leads r (spent (here r) (world r).units (pending.Left Normal) (world r))
    → outcome n t ≡ ended (pending.Turn d e step s) Broke r
unfolding ended
breaks r t n d e step s h =
    ends_now r t n Normal h ∙ ap (leads r) (statement.loop_broken (here r) d e step s (world r))

pub ruleset views = (view.statements)
