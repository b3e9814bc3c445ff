use Rattle.std.proofs.Common.{refl}
use Rattle.parse_grammar.specs.Statements.{for_body, for_parts, for_rest, for_tail}
use Rattle.parse_grammar.proofs.Reading.{broken, onward, past, stops}
use Rattle.parse_statements.proofs.statements.for_rest.Goals as goal

pub returns-in_err-enter_paren : goal.returns-in_err-enter_paren
unfolding for_rest for_tail for_parts for_body
returns-in_err-enter_paren g c =
    broken _ _ _ _ _ refl c.from_residual.ensures.1 (stops _ _ _ (λ _. c.in_err-enter_paren.ensures))

pub returns-in_err-first : goal.returns-in_err-first
unfolding for_rest for_tail for_parts for_body
returns-in_err-first g c =
    broken _ _ _ _ _ refl c.from_residual-in_err-first.ensures.1 (past _ _ _ _ _ c.in_ok-enter_paren.ensures.0 (stops
    _ _ _ c.in_err-first.ensures))

pub returns-in_err-test : goal.returns-in_err-test
unfolding for_rest for_tail for_parts for_body
returns-in_err-test g c =
    broken _ _ _ _ _ refl c.from_residual-in_err-test.ensures.1 (past _ _ _ _ _ c.in_ok-enter_paren.ensures.0 (past _
    _ _ _ _ c.in_ok-first.ensures (stops _ _ _ (stops _ _ _ c.in_err-test.ensures))))

pub returns-in_err-step : goal.returns-in_err-step
unfolding for_rest for_tail for_parts for_body
returns-in_err-step g c =
    broken _ _ _ _ _ refl c.from_residual-in_err-step.ensures.1 (past _ _ _ _ _ c.in_ok-enter_paren.ensures.0 (past _
    _ _ _ _ c.in_ok-first.ensures (stops _ _ _ (past _ _ _ _ _ c.in_ok-test.ensures (stops _ _ _
    c.in_err-step.ensures)))))

pub returns-in_err-body : goal.returns-in_err-body
unfolding for_rest for_tail for_parts for_body
returns-in_err-body g c =
    broken _ _ _ _ _ refl c.from_residual-in_err-body.ensures.1 (past _ _ _ _ _ c.in_ok-enter_paren.ensures.0 (past _
    _ _ _ _ c.in_ok-first.ensures (past _ _ _ _ _ (onward _ _ _ _ _ c.in_ok-test.ensures (onward _ _ _ _ _
    c.in_ok-step.ensures refl)) (stops _ _ _ c.in_err-body.ensures))))

pub returns : goal.returns
unfolding for_rest for_tail for_parts for_body
returns g c =
    onward _ _ _ _ _ c.in_ok-enter_paren.ensures.0 (onward _ _ _ _ _ c.in_ok-first.ensures (onward _ _ _ _ _ (onward _
    _ _ _ _ c.in_ok-test.ensures (onward _ _ _ _ _ c.in_ok-step.ensures refl)) (onward _ _ _ _ _ c.in_ok-body.ensures
    refl)))
