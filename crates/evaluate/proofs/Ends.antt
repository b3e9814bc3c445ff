-- The beginning and the end: what is seen of a run that is over is the meaning, where the run began as a run does.
use Rattle.std.proofs.Common.{◌≡◌, ℕ, ap, sym, ◌∙◌}
use Rattle.history.specs.Events as event
use Rattle.history.specs.Events.{End, Ended, Input}
use Rattle.pace.specs.Pace.{Seen}
use Rattle.typed_tree.specs.Nodes.{Stmt}
use Rattle.staged_meaning.specs.Meaning.{Program, meant}
use Rattle.staged_meaning.specs.World.{Gives, Returns}
use Rattle.eval_state.specs.Pending as pending
use Rattle.eval_state.specs.Moves.{told}
use Rattle.eval_state.specs.Rest.{Value, Left, context_at, place_of, through, spent}
use Rattle.eval_state.proofs.Ends.{through_ends, through_stops, outcome_is_meaning}
use Rattle.eval_state.specs.declared.parts.Now.{Now}
use Rattle.eval_state.specs.declared.parts.Now.TheVariants as now
use Rattle.eval_state.specs.Begins.{first_run}
use Rattle.eval_state.specs.Run.{Run, here, world, leads, outcome}
use Rattle.eval_state.specs.Views.{now_view, flow_view}
use Rattle.evaluate.specs.Seen.{IsOver, ending_at}

-- what is seen of a run that is over
abbrev pub seen_at : Now → Run → Seen event.Item End
seen_at n r = record { history = (world r).shared.history; ending = ending_at n }

over_told : (n : Now) (r : Run) → IsOver n r → told (outcome (now_view n) r) ≡ seen_at n r
over_told (now.Eval e) r h = absurd h
over_told (now.Exec s) r h = absurd h
over_told (now.Run list) r h = absurd h
over_told (now.Ended e) r h = ap told
    (through_ends (context_at r.program r.turns) (place_of r.state) r.state.frames (Ended e) r.state.shared)
over_told now.Stopped r h = ap told
    (through_stops (context_at r.program r.turns) (place_of r.state) r.state.frames r.state.shared)
over_told (now.Value v) r h =
    ap (λ fs. told (through (context_at r.program r.turns) (place_of r.state) fs (Gives (Value v) (world r)))) h
over_told (now.Left f) r h =
    ap (λ fs. told (through (context_at r.program r.turns) (place_of r.state) fs
    (Gives (Left (flow_view f)) (world r)))) h
over_told (now.Returned v) r h =
    ap (λ fs. told (through (context_at r.program r.turns) (place_of r.state) fs (Returns v (world r)))) h

pub evaluates : (p : Program) (input : Input) (units : ℕ) (r s t : Run) (body : Stmt) (first last : Now)
    → r ≡ first_run p input units
    → body ≡ r.program.main.body
    → outcome (now_view first) s ≡ leads r (spent (here r) (world r).units (pending.Exec body) (world r))
    → outcome (now_view last) t ≡ outcome (now_view first) s
    → IsOver last t
    → seen_at last t ≡ meant p input units
evaluates p input units r s t body first last begins is_body spent_first same over =
    sym (over_told last t over)
    ∙ ap told (same ∙ spent_first)
    ∙ ap (λ (b : Stmt). told (leads r (spent (here r) (world r).units (pending.Exec b) (world r)))) is_body
    ∙ ap (λ (q : Run). told (leads q (spent (here q) (world q).units (pending.Exec q.program.main.body) (world q))))
    begins
    ∙ outcome_is_meaning p input units
