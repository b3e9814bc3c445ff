use Rattle.std.proofs.Common.{rules, ◌≡◌, List, ap, ◌∙◌}
use Rattle.std.proofs.lemmas.Result.{on_ok_weaker}
use Rattle.history.specs.Events.{number_bytes}
use Rattle.meaning_state.specs.Shared.{put_number}
use Rattle.staged_meaning.specs.World.{with_shared}
use Rattle.eval_state.specs.declared.state.Event.{Event}
use Rattle.eval_state.specs.declared.state.Parts.{Parts}
use Rattle.eval_state.specs.Library.{put_after}
use Rattle.eval_state.specs.Run.{in_world, run_of, world}
use Rattle.eval_state.proofs.Puts.{bytes_happen}
use Rattle.eval_state.proofs.state.Machine.put_number.Goals as goal

pub invariant_of-self : goal.invariant_of-self
invariant_of-self c =
    let p = c.self.inside.parts in
    let i = c.self.invariant in
    (i.0, i.1, c.put_bytes.ensures.known _ i.2, i.3, i.4, i.5)

pub returns : goal.returns
returns c =
    let p = c.self.inside.parts in
    let v = c.args.v in
    let text : c.as_bytes.result.now ≡ number_bytes v =
    c.as_bytes.ensures.value ∙ c.format-text.ensures.text ∙ search rules in
    on_ok_weaker c.put_bytes.result
    (λ e. bytes_happen p (record p { events = c.put_bytes.new.events }) v
    (ap (λ (es : List Event). record c.self.inside.parts { events = es }) (e ∙ ap (put_after p.events) text))
    ∙ ap (λ (p : Parts). in_world (with_shared (put_number v (world (run_of p)).shared) (world (run_of p))) (run_of p))
    c.self.view_is)
    c.put_bytes.ensures.all
