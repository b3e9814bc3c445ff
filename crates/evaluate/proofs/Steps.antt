-- What was taken off: where it leads, and how much is pending without it.
use Rattle.std.proofs.Common.{◌≡◌, ◌<◌, ◌≤◌, ◌+◌, ℕ, ap, ◌∙◌, arith}
use Rattle.staged_meaning.specs.World.{Gives, Returns, spend}
use Rattle.eval_state.specs.Pending.{Now}
use Rattle.eval_state.specs.Pending as pending
use Rattle.eval_state.specs.Moves.{IsInside}
use Rattle.eval_state.specs.Rest.{Signal, valued, spent}
use Rattle.eval_state.proofs.Laws as law
use Rattle.eval_state.proofs.Ends.{returns_past}
use Rattle.eval_state.specs.declared.parts.Frame.{Frame}
use Rattle.eval_state.specs.declared.parts.EndFrame.TheVariants as end
use Rattle.eval_state.specs.declared.parts.ExpressionFrame.TheVariants as expression
use Rattle.eval_state.specs.declared.parts.Frame.TheVariants as frame
use Rattle.eval_state.specs.declared.parts.StatementFrame.TheVariants as statement
use Rattle.eval_state.specs.declared.parts.Popped.{Popped}
use Rattle.eval_state.specs.declared.parts.Popped.TheVariants as popped
use Rattle.eval_state.specs.Less.{held, waiting}
use Rattle.eval_state.specs.Popped.{IsEnded, IsLeft}
use Rattle.eval_state.specs.Run.{Run, here, world, leads, outcome}
use Rattle.eval_state.specs.Views.{frame_view}
use Rattle.eval_state.proofs.Runs.{pop_leads}
use Rattle.eval_state.proofs.Weighs.{held_pushed}
use Rattle.evaluate.specs.Arrives.{arrives, returned, taken}

is_inside : (f : Frame) → IsInside (frame_view f)
is_inside (frame.Expression (expression.SetVar i)) = tt
is_inside (frame.Expression _) = tt
is_inside (frame.Statement statement.Drop) = tt
is_inside (frame.Statement _) = tt
is_inside (frame.End end.SwitchEnd) = tt
is_inside (frame.End _) = tt

-- a value that spends a unit
pub spends_value : (r t : Run) (n : Now) (v : ℕ)
    → outcome n t ≡ leads r (spent (here r) (world r).units (pending.Value v) (world r))
    → outcome n t ≡ leads r (valued (spend v (world r)))
spends_value r t n v k = k ∙ ap (leads r) (law.spent_value (here r) (world r).units v (world r))

-- ---- where it leads

pub arrival : (p : Popped) (x : Signal) (r s : Run) → IsEnded p r s
    → leads r (Gives x (world r)) ≡ leads s (arrives p x s)
arrival (popped.Inside f) x r s h = ap (λ (q : Run). leads q (Gives x (world q))) h ∙ pop_leads s f (Gives x (world s))
arrival (popped.Called a) x r s h = h x
arrival (popped.Spliced a) x r s h = h x

pub return_arrival : (p : Popped) (v : ℕ) (r s : Run) → IsLeft p r s
    → leads r (Returns v (world r)) ≡ leads s (returned p v s)
return_arrival (popped.Inside f) v r s h =
    ap (λ (q : Run). leads q (Returns v (world q))) h
    ∙ pop_leads s f (Returns v (world s))
    ∙ ap (leads s) (returns_past (here s) (frame_view f) v (world s) (is_inside f))
return_arrival (popped.Called a) v r s h = h v
return_arrival (popped.Spliced a) v r s h = h v

-- ---- how much is pending

pub taken_off : (p : Popped) (r s : Run) → IsEnded p r s → held s < held r → taken p s + held s ≤ held r
taken_off (popped.Inside f) r s h less =
    let e : held r ≡ held s + waiting (frame_view f) s = ap held h ∙ held_pushed s f in
    omega (arith, e)
taken_off (popped.Called a) r s h less = omega arith
taken_off (popped.Spliced a) r s h less = omega arith

pub ruleset arriving = (spends_value)

pub ruleset steps = (arrival, return_arrival, taken_off)
