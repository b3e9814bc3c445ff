use Rattle.std.proofs.Common.{◌∙◌, sym}
use Rattle.mips_core.proofs.Rows.{hazardous, unlisted}
use Rattle.mips_core.proofs.rest.Rest.set_halves.Goals as goal

pub returns-then-not-listed : goal.returns-then-not-listed
returns-then-not-listed g c = unlisted c.if-not-listed.true (c.fault.ensures.becomes _)

pub returns-then-is_halves_hazard : goal.returns-then-is_halves_hazard
returns-then-is_halves_hazard g c =
    hazardous c.if-not-listed.false (sym c.is_halves_hazard.ensures ∙ c.if-is_halves_hazard.true)
    (c.fault-then-is_halves_hazard.ensures.becomes _)
