use Rattle.std.proofs.Common.{◌∙◌}
use Rattle.check_items.proofs.Globals.{row_next}
use Rattle.check_items.proofs.program.row.Goals as goal

pub loop-e-preserved : goal.loop-e-preserved
loop-e-preserved g c =
    row_next _ _ _ _ _ _ _ _ _ c.loop-e-test.true c.e-item.is c.in_ok-o.ensures c.in_ok-row.ensures ∙ c.loop-e.invariant
