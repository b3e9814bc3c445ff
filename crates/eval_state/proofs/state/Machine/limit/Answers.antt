use Rattle.std.proofs.Common.{◌≡◌, ap, arith}
use Rattle.eval_state.specs.declared.state.Parts.{Parts}
use Rattle.eval_state.proofs.Entries.{frame_over, no_limit, stack_over}
use Rattle.eval_state.proofs.state.Machine.limit.Goals as goal

pub returns-then-from : goal.returns-then-from
returns-then-from c =
    let p = c.args.self.now in
    let used : c.self.inside.parts.used ≡ p.used = ap (λ (p : Parts). p.used) c.self.view_is in
    stack_over p c.args.charge c.args.object
    (omega (arith, used, c.from.ensures, c.from-2.ensures, c.from-3.ensures, c.if-from.true))

pub returns-then-from-2 : goal.returns-then-from-2
returns-then-from-2 c =
    let p = c.args.self.now in
    let used : c.self.inside.parts.used ≡ p.used = ap (λ (p : Parts). p.used) c.self.view_is in
    let frames : c.self.inside.parts.frames ≡ p.frames = ap (λ (p : Parts). p.frames) c.self.view_is in
    frame_over p c.args.charge c.args.object
    (omega (arith, used, c.from.ensures, c.from-2.ensures, c.from-3.ensures, c.if-from.false))
    (omega (arith, frames, c.from-4.ensures, c.from-5.ensures, c.from-6.ensures, c.if-from-2.true))

pub returns : goal.returns
returns c =
    let p = c.args.self.now in
    let used : c.self.inside.parts.used ≡ p.used = ap (λ (p : Parts). p.used) c.self.view_is in
    let frames : c.self.inside.parts.frames ≡ p.frames = ap (λ (p : Parts). p.frames) c.self.view_is in
    no_limit p c.args.charge c.args.object
    (omega (arith, used, c.from.ensures, c.from-2.ensures, c.from-3.ensures, c.if-from.false))
    (omega (arith, frames, c.from-4.ensures, c.from-5.ensures, c.from-6.ensures, c.if-from-2.false))
