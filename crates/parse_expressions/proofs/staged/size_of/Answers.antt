use Rattle.std.proofs.Common.{◌∙◌}
use Rattle.parse_expressions.proofs.Productions.{size_of_parts}
use Rattle.parse_grammar.proofs.Reading.{broken, onward, past, stops}
use Rattle.parse_expressions.proofs.staged.size_of.Goals as goal

pub returns-in_err-line : goal.returns-in_err-line
returns-in_err-line g c =
    broken _ _ _ _ _ (size_of_parts _ _) c.from_residual.ensures.1 (stops _ _ _ (λ _. c.in_err-line.ensures))

pub returns-in_err-ty : goal.returns-in_err-ty
returns-in_err-ty g c =
    broken _ _ _ _ _ (size_of_parts _ _) c.from_residual-in_err-ty.ensures.1 (past _ _ _ _ _ c.in_ok-line.ensures.0.0
    (stops _ _ _ c.in_err-ty.ensures))

pub returns : goal.returns
returns g c =
    let line = c.in_ok-line.ensures.1 in
    size_of_parts _ _ ∙ onward _ _ _ _ _ c.in_ok-line.ensures.0.0 (onward _ _ _ _ _ c.in_ok-ty.ensures cc)
