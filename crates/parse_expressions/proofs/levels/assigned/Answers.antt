use Rattle.std.proofs.Common.{refl}
use Rattle.parse_grammar.proofs.Reading.{broken, onward, past, stops}
use Rattle.parse_expressions.proofs.Assigning.{alone, joined}
use Rattle.parse_expressions.proofs.levels.assigned.Goals as goal

pub returns-in_err-enter : goal.returns-in_err-enter
returns-in_err-enter g c =
    broken _ _ _ _ _ refl c.from_residual.ensures.1 (stops _ _ _ (λ _. c.in_err-enter.ensures))

pub returns-in_err-right : goal.returns-in_err-right
returns-in_err-right g c =
    broken _ _ _ _ _ refl c.from_residual-in_err-right.ensures.1 (past _ _ _ _ _ c.in_ok-enter.ensures.0 (stops _ _ _
    c.in_err-right.ensures))

pub returns-in-None : goal.returns-in-None
returns-in-None g c =
    onward _ _ _ _ _ c.in_ok-enter.ensures.0 (onward _ _ _ _ _ c.in_ok-right.ensures (alone _ _ _ _ _ _ c.in-None.is
    c.line-line.ensures c.in_ok-pair.ensures))

pub returns-in-Some : goal.returns-in-Some
returns-in-Some g c =
    onward _ _ _ _ _ c.in_ok-enter.ensures.0 (onward _ _ _ _ _ c.in_ok-right.ensures (joined _ _ _ _ _ _ _
    c.in-Some.is c.line-line.ensures c.in_ok-pair.ensures))
