use Rattle.std.proofs.Common.{sym}
use Rattle.eval_state.proofs.Sizes.{not_code, row_sized}
use Rattle.eval_stages.proofs.specifications.parameters_of_row.Goals as goal

pub returns-in-None : goal.returns-in-None
returns-in-None c = λ h. absurd (not_code c.args.m.now c.args.number (sym c.in-None.ensures) h)

pub returns-in-Some : goal.returns-in-Some
returns-in-Some c = λ h.
    (row_sized c.args.m.now c.args.number c.in-Some.row.now c.keeps_law.ensures (sym c.in-Some.ensures) h).1
