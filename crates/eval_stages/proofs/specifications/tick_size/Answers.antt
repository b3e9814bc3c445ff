use Rattle.std.proofs.Common.{◌≡◌, slice_get, sym, ap, subst, ◌∙◌}
use Rattle.staged_meaning.specs.Program.{tick_size}
use Rattle.eval_state.specs.declared.state.Parts.{Parts}
use Rattle.eval_state.specs.Run.{program_of}
use Rattle.eval_state.proofs.Sizes.{tick_size_named}
use Rattle.eval_stages.proofs.specifications.tick_size.Goals as goal

pub returns-in-Some-clause-size : goal.returns-in-Some-clause-size
returns-in-Some-clause-size c =
    let p = c.m.inside.parts in
    let at = ap (λ xs. slice_get xs c.args.tick) (sym c.ticks.ensures) ∙ sym c.in-Some.ensures in
    subst (λ (p : Parts). c.in-Some.tick.now.size ≡ tick_size (slice_get (program_of p).ticks c.args.tick))
    c.m.view_is (tick_size_named p c.args.tick c.in-Some.tick.now c.keeps_law.ensures at).0

pub returns-in-Some-clause-small : goal.returns-in-Some-clause-small
returns-in-Some-clause-small c =
    let at = ap (λ xs. slice_get xs c.args.tick) (sym c.ticks.ensures) ∙ sym c.in-Some.ensures in
    (tick_size_named c.m.inside.parts c.args.tick c.in-Some.tick.now c.keeps_law.ensures at).1
