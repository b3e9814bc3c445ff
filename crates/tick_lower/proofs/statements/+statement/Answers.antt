use Rattle.std.proofs.lemmas.Result.{on_ok_weaker}
use Rattle.lowering_pieces.proofs.Switched.{switch_seen}
use Rattle.tick_lower.proofs.statements.+statement.Goals as goal

pub statement-returns-in_ok-default-in-Switch : goal.statement-returns-in_ok-default-in-Switch
statement-returns-in_ok-default-in-Switch t c =
    on_ok_weaker c.closed.result
    (λ made. switch_seen _ _ _ _ _ _ _ _ _ _ _ _ _ _ _ _ _ _ c.in-Switch.is c.get-in-Switch.ensures
    c.as_slice-in-Switch.ensures c.as_slice-in-Switch-2.ensures c.in_ok-selector-in-Switch.ensures.selector
    c.in_ok-selector-in-Switch.ensures.pieces c.in_ok-statements-in-Switch.ensures c.apart-inside.ensures
    c.in_ok-default-in-Switch.ensures.label c.in_ok-default-in-Switch.ensures.tests
    c.in_ok-default-in-Switch.ensures.pieces made) c.closed.ensures
