use Rattle.std.proofs.Common.{refl}
use Rattle.parse_grammar.proofs.Reading.{broken, onward, past, stops}
use Rattle.parse_expressions.proofs.postfixes.prefixed.Goals as goal

pub returns-in_err-enter : goal.returns-in_err-enter
returns-in_err-enter g c =
    broken _ _ _ _ _ refl c.from_residual.ensures.1 (stops _ _ _ (λ _. c.in_err-enter.ensures))

pub returns-in_err-operand : goal.returns-in_err-operand
returns-in_err-operand g c =
    broken _ _ _ _ _ refl c.from_residual-in_err-operand.ensures.1 (past _ _ _ _ _ c.in_ok-enter.ensures.0 (stops _ _
    _ c.in_err-operand.ensures))

pub returns : goal.returns
returns g c =
    let line = c.line-line.ensures in let boxed = c.in_ok-new.ensures in
    onward _ _ _ _ _ c.in_ok-enter.ensures.0 (onward _ _ _ _ _ c.in_ok-operand.ensures cc)
