use Rattle.std.proofs.Common.{◌%◌, List, ap, ◌∙◌}
use Rattle.std.proofs.lemmas.Result.{on_ok_weaker}
use Rattle.meaning_state.specs.Shared.{put_byte}
use Rattle.staged_meaning.specs.World.{with_shared}
use Rattle.eval_state.specs.declared.state.Event.{Event}
use Rattle.eval_state.specs.declared.state.Event.TheVariants as event
use Rattle.eval_state.specs.declared.state.Parts.{Parts}
use Rattle.eval_state.specs.Run.{in_world, run_of, world}
use Rattle.eval_state.proofs.Puts.{event_happens, known_after}
use Rattle.eval_state.proofs.state.Machine.put_byte.Goals as goal

pub invariant_of-self : goal.invariant_of-self
invariant_of-self c =
    let p = c.self.inside.parts in
    let i = c.self.invariant in (
      i.0,
      i.1,
      known_after c.push.result _ p.events c.push.new.self _ c.push.ensures.ok c.push.ensures.err i.2 tt,
      i.3,
      i.4,
      i.5,
    )

pub returns : goal.returns
returns c =
    let p = c.self.inside.parts in
    let v = c.args.v in
    on_ok_weaker c.push.result
    (λ e. event_happens p (record p { events = c.push.new.self }) (event.Out (v % 256))
    (ap (λ (es : List Event). record c.self.inside.parts { events = es }) e)
    ∙ ap (λ (p : Parts). in_world (with_shared (put_byte v (world (run_of p)).shared) (world (run_of p))) (run_of p))
    c.self.view_is)
    c.push.ensures.ok
