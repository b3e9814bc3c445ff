use Rattle.std.proofs.Common.{◌≡◌, ◌++◌, ◌∷◌, [], take, append-nil, ap, sym, ◌∙◌}
use Rattle.std.proofs.lemmas.List.{take_all}
use Rattle.history.specs.Events.{output}
use Rattle.eval_state.specs.declared.state.Parts.{Parts}
use Rattle.eval_state.specs.Run.{run_of, world}
use Rattle.eval_state.proofs.Output.{output_is, said, said_more, said_none}
use Rattle.eval_state.proofs.state.Machine.output.Goals as goal
use Rattle.eval_state.proofs.state.Machine.output.Goals.{in-Out+in_ok-push, in_default}

pub loop-event-preserved : goal.loop-event-preserved
loop-event-preserved c =
    let items = c.as_slice-event-items.result.now in
    let i = c.loop-event.event-index in
    elim c.match-event.branch [
      | in-Out+in_ok-push w ↦
          w.bytes-is
          ∙ w.in_ok-push.ensures.ok
          ∙ ap (λ bytes. bytes ++ w.in-Out.b ∷ []) c.loop-event.invariant
          ∙ ap (λ e. said (take i items) ++ said (e ∷ [])) (sym w.in-Out.is)
          ∙ sym (said_more items i _ c.loop-event-test.true)
      | in_default w ↦
          w.bytes-is
          ∙ c.loop-event.invariant
          ∙ sym (append-nil (said (take i items)))
          ∙ ap (λ bytes. said (take i items) ++ bytes) (sym (said_none _ w.in_default.not-Out))
          ∙ sym (said_more items i _ c.loop-event-test.true)
    ]

pub returns : goal.returns
returns c =
    let p = c.self.inside.parts in
    let all : take c.loop-event.event-index c.as_slice-event-items.result.now ≡ p.events =
    take_all c.loop-event.event-index c.as_slice-event-items.result.now c.loop-event-test.false
    ∙ c.as_slice-event-items.ensures in
    c.loop-event.invariant
    ∙ ap said all
    ∙ sym (output_is p)
    ∙ ap (λ (p : Parts). output (world (run_of p)).shared.history) c.self.view_is
