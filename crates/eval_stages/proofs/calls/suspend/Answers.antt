use Rattle.std.proofs.Common.{◌+◌, ◌^◌, ◌<◌, ◌≤◌, length, sym, subst, arith}
use Rattle.eval_state.specs.declared.state.Entry.TheVariants as entry
use Rattle.eval_state.specs.declared.state.Parts.{Parts}
use Rattle.eval_state.specs.Sound.{calls}
use Rattle.eval_state.proofs.Changes.{named_after}
use Rattle.eval_state.proofs.Entries.{calls_most}
use Rattle.eval_stages.proofs.calls.suspend.Goals as goal

pub invariant_of-m : goal.invariant_of-m
invariant_of-m c =
    let i = c.m.invariant in
    let p = c.m.inside.parts in
    let e = entry.Called c.args.answer c.args.charge c.args.caller in
    let row : c.args.caller.row ≤ length p.rows =
    subst (λ (q : Parts). c.args.caller.row ≤ length q.rows) (sym c.m.view_is) c.requires.0 in
    let within : p.depth + calls p.entries + 1 < 2 ^ 64 =
    subst (λ (q : Parts). q.depth + calls q.entries + 1 < 2 ^ 64) (sym c.m.view_is) c.requires.1 in
    let named = named_after c.push.result (length p.rows) p.entries c.push.new.self e c.push.ensures.ok
    c.push.ensures.err i.1 row in
    let most : calls c.push.new.self ≤ calls p.entries + 1 =
    calls_most c.push.result p.entries c.push.new.self e c.push.ensures.ok c.push.ensures.err in
    (i.0, named, i.2, i.3, i.4, omega (arith, most, within))
