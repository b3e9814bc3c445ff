-- One step of an evaluation, from a run to the next.
use Rattle.std.specs.Prelude.{◌≡◌, ◌+◌, ◌<◌, ◌≤◌, ℕ}
use Rattle.typed_tree.specs.Nodes.{Expr, Stmt}
use Rattle.staged_meaning.specs.World.{Flow, Result}
use Rattle.eval_state.specs.Pending as pending
use Rattle.eval_state.specs.Pending.{Frame, Now}
use Rattle.eval_state.specs.Rest.{Signal, after, doing}
use Rattle.eval_state.specs.Less.{heft, held, waiting}
use Rattle.eval_state.specs.Run.{Run, here, leads, outcome, world}
use Rattle.eval_state.specs.Steps.{begun, ended, executed, taken}

-- what is still to come is what was so before, no unit is made, and where none is spent less is pending than so much
pub record IsStep (before : Result Signal) (most : ℕ) (n : Now) (r t : Run) : Type 0 where
  pub same : outcome n t ≡ before
  pub units : t.state.units ≤ r.state.units
  pub less : t.state.units ≡ r.state.units → heft n t < most

-- an expression or a statement began; a frame took a value or the end of a statement
abbrev pub IsBegun : Expr → Now → Run → Run → Type 0
IsBegun e n r t = IsStep (begun e r) (heft (pending.Eval e) r) n r t

abbrev pub IsExecuted : Stmt → Now → Run → Run → Type 0
IsExecuted s n r t = IsStep (executed s r) (heft (pending.Exec s) r) n r t

abbrev pub IsTaken : Frame → (value : ℕ) → Now → Run → Run → Type 0
IsTaken f v n r t = IsStep (taken f v r) (waiting f r + held r) n r t

abbrev pub IsEnded : Frame → Flow → Now → Run → Run → Type 0
IsEnded f flow n r t = IsStep (ended f flow r) (waiting f r + held r) n r t

-- a frame waits for what is done next
pub record IsPushed (f : Frame) (next n : Now) (r t : Run) : Type 0 where
  pub same : outcome n t ≡ leads r (after (here r) f (doing (here r) next (world r)))
  pub units : t.state.units ≡ r.state.units
  pub less : heft n t ≤ heft next r + waiting f r
