use Rattle.std.proofs.Common.{rules, ◌≡◌, ◌++◌, ◌∷◌, [], get_or, ap, ◌∙◌}
use Rattle.eval_state.specs.declared.state.Event.TheVariants as event
use Rattle.eval_state.proofs.Puts.{known_after, put_more}
use Rattle.eval_state.proofs.library.put_bytes.Goals as goal

pub returns-in_err-push-clause-known : goal.returns-in_err-push-clause-known
returns-in_err-push-clause-known c = λ n h.
    known_after c.push.result n c.loop-b.events c.push.new.self _ c.push.ensures.ok c.push.ensures.err
    (c.loop-b.invariant.known n h) tt

pub loop-b-preserved : goal.loop-b-preserved
loop-b-preserved c =
    let more = event.Out (get_or c.args.bytes.now c.loop-b.b-index 0) in
    let pushed : c.push.new.self ≡ c.loop-b.events ++ more ∷ [] = search rules in
    record {
      all = pushed
          ∙ ap (λ es. es ++ more ∷ []) c.loop-b.invariant.all
          ∙ put_more c.args.events.now c.args.bytes.now c.loop-b.b-index c.loop-b-test.true;
      known = λ n h.
          known_after c.push.result n c.loop-b.events c.push.new.self _ c.push.ensures.ok c.push.ensures.err
          (c.loop-b.invariant.known n h) tt;
    }
