use Rattle.std.proofs.Common.{sym}
use Rattle.eval_state.proofs.Sizes.{not_code, row_sized, row_small}
use Rattle.eval_stages.proofs.specifications.size_of_row.Goals as goal

pub returns-in-None-clause-size : goal.returns-in-None-clause-size
returns-in-None-clause-size c = λ h. absurd (not_code c.args.m.now c.args.number (sym c.in-None.ensures) h)

pub returns-in-Some-clause-size : goal.returns-in-Some-clause-size
returns-in-Some-clause-size c = λ h.
    (row_sized c.args.m.now c.args.number c.in-Some.row.now c.keeps_law.ensures (sym c.in-Some.ensures) h).0

pub returns-in-Some-clause-small : goal.returns-in-Some-clause-small
returns-in-Some-clause-small c =
    row_small c.args.m.now c.args.number c.in-Some.row.now c.keeps_law.ensures (sym c.in-Some.ensures)
