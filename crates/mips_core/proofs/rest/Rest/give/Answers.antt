use Rattle.std.proofs.Common.{◌∙◌, ◌+◌, ℕ, Option, false, refl, sym, ap}
use Rattle.mips_model.specs.State.{World}
use Rattle.mips_core.specs.Core.{at, given, moved, state_of, wrote}
use Rattle.mips_core.proofs.Rows.{acted, becomes, hazardous, unlisted, goes_on, runs}
use Rattle.mips_core.proofs.rest.Rest.give.Goals as goal

pub returns-then-not-listed : goal.returns-then-not-listed
returns-then-not-listed g c = unlisted c.if-not-listed.true (c.fault.ensures.becomes _)

pub returns-then-is_loaded : goal.returns-then-is_loaded
returns-then-is_loaded g c =
    hazardous c.if-not-listed.false (sym c.is_loaded.ensures ∙ c.if-is_loaded.true)
    (c.fault-then-is_loaded.ensures.becomes _)

pub returns-in-Some : goal.returns-in-Some
returns-in-Some g c =
    let k = c.args.self.now in
    let s = state_of (at c.args.pc k) in
    acted c.if-not-listed.false (sym c.is_loaded.ensures ∙ c.if-is_loaded.false)
    (becomes (ap (λ (o : Option ℕ). given c.args.r o s) (sym c.in-Some.is))
    (goes_on c.requires.ready
    (c.write.ensures.at c.advance-next.result
    ∙ ap (wrote c.args.r c.in-Some.v) c.advance-next.ensures.world
    ∙ ap (λ (w : World). wrote c.args.r c.in-Some.v (moved (s.next + 4) false w))
    (runs k c.args.pc c.requires.ready.on))
    refl refl refl refl refl))

pub returns-in-None : goal.returns-in-None
returns-in-None g c =
    acted c.if-not-listed.false (sym c.is_loaded.ensures ∙ c.if-is_loaded.false)
    (becomes (ap (λ (o : Option ℕ). given c.args.r o (state_of (at c.args.pc c.args.self.now))) (sym c.in-None.is))
    (c.fault-in-None.ensures.becomes _))
