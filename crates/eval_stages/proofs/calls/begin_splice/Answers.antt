use Rattle.std.proofs.Common.{◌≡◌, ◌≤◌, length, sym, subst, refl, arith}
use Rattle.eval_state.specs.declared.state.Entry.TheVariants as entry
use Rattle.eval_state.specs.declared.state.Parts.{Parts}
use Rattle.eval_state.specs.Sound.{calls}
use Rattle.eval_state.proofs.Changes.{calls_after, named_after}
use Rattle.eval_stages.proofs.calls.begin_splice.Goals as goal

pub invariant_of-m : goal.invariant_of-m
invariant_of-m c =
    let i = c.m.invariant in
    let p = c.m.inside.parts in
    let e = entry.Spliced c.args.answer c.replace-variables.result p.body.object p.body.row in
    let named = named_after c.push.result (length p.rows) p.entries c.push.new.self e c.push.ensures.ok
    c.push.ensures.err i.1 i.0 in
    let same : calls c.push.new.self ≡ calls p.entries =
    calls_after c.push.result p.entries c.push.new.self e c.push.ensures.ok c.push.ensures.err refl in
    let row : c.args.number ≤ length p.rows =
    subst (λ (q : Parts). c.args.number ≤ length q.rows) (sym c.m.view_is) c.requires in
    (row, named, i.2, i.3, i.4, omega (arith, same, i.5))
