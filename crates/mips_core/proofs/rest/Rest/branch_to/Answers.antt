use Rattle.std.proofs.Common.{◌∙◌, sym}
use Rattle.mips_core.proofs.Rows.{acted, hazardous, unlisted, out_of_slot}
use Rattle.mips_core.proofs.rest.Rest.branch_to.Goals as goal

pub returns-then-not-listed : goal.returns-then-not-listed
returns-then-not-listed g c = unlisted c.if-not-listed.true (c.fault.ensures.becomes _)

pub returns-then-is_branch_hazard : goal.returns-then-is_branch_hazard
returns-then-is_branch_hazard g c =
    hazardous c.if-not-listed.false (sym c.is_branch_hazard.ensures ∙ c.if-is_branch_hazard.true)
    (c.fault-then-is_branch_hazard.ensures.becomes _)

pub branch-self-requires-clause-slot : goal.branch-self-requires-clause-slot
branch-self-requires-clause-slot g c =
    out_of_slot _ _ (sym c.is_branch_hazard.ensures ∙ c.if-is_branch_hazard.false)

pub returns : goal.returns
returns g c =
    acted c.if-not-listed.false (sym c.is_branch_hazard.ensures ∙ c.if-is_branch_hazard.false) c.branch-self.ensures
