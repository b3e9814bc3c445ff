use Rattle.std.proofs.Common.{◌∙◌, ℕ, sym, ap}
use Rattle.mips_model.specs.State.{World}
use Rattle.mips_core.specs.Core.{at, branching, linking, state_of}
use Rattle.mips_core.proofs.Rows.{acted, becomes, hazardous, unlisted, link, out_of_slot, ready_behind}
use Rattle.mips_core.proofs.rest.Rest.link_to.Goals as goal

pub returns-then-not-listed : goal.returns-then-not-listed
returns-then-not-listed g c = unlisted c.if-not-listed.true (c.fault.ensures.becomes _)

pub returns-then-is_branch_hazard : goal.returns-then-is_branch_hazard
returns-then-is_branch_hazard g c =
    hazardous c.if-not-listed.false (sym c.is_branch_hazard.ensures ∙ c.if-is_branch_hazard.true)
    (c.fault-then-is_branch_hazard.ensures.becomes _)

pub branch-self-requires-clause-ready : goal.branch-self-requires-clause-ready
branch-self-requires-clause-ready g c = ready_behind _ _ c.requires.ready (c.write.ensures.at c.args.pc)

pub branch-self-requires-clause-slot : goal.branch-self-requires-clause-slot
branch-self-requires-clause-slot g c =
    ap (λ (w : World). w.state.slot) (c.write.ensures.at c.args.pc)
    ∙ out_of_slot _ _ (sym c.is_branch_hazard.ensures ∙ c.if-is_branch_hazard.false)

pub returns : goal.returns
returns g c =
    let s = state_of (at c.args.pc c.args.self.now) in
    let back = link c.address.ensures c.requires.ready.near in
    acted c.if-not-listed.false (sym c.is_branch_hazard.ensures ∙ c.if-is_branch_hazard.false)
    (becomes (ap (λ (n : ℕ). linking c.args.r n c.args.taken c.args.to s) back)
    (becomes (ap (λ (w : World). branching c.args.taken c.args.to w.state) (c.write.ensures.at c.args.pc))
    c.branch-self.ensures))
