use Rattle.std.proofs.Common.{length}
use Rattle.eval_state.proofs.Entries.{known_after}
use Rattle.eval_stages.proofs.calls.happens.Goals as goal

pub invariant_of-m : goal.invariant_of-m
invariant_of-m c =
    let i = c.m.invariant in
    let p = c.m.inside.parts in
    let known = known_after c.push.result (length p.rows) p.events c.push.new.self c.args.event c.push.ensures.ok
    c.push.ensures.err i.2 c.requires in
    (i.0, i.1, known, i.3, i.4, i.5)
