use Rattle.std.proofs.Common.{refl}
use Rattle.parse_grammar.specs.Declarators.{inner_declarator}
use Rattle.parse_grammar.proofs.Reading.{broken, goes, past, stops}
use Rattle.parse_declarators.proofs.Parens.{closes}
use Rattle.parse_declarators.proofs.declarators.parenthesized.Goals as goal

pub returns-in_err-enter : goal.returns-in_err-enter
unfolding inner_declarator
returns-in_err-enter g c =
    broken _ _ _ _ _ refl c.from_residual.ensures.1 (stops _ _ _ (λ _. c.in_err-enter.ensures))

pub returns-in_err-found : goal.returns-in_err-found
unfolding inner_declarator
returns-in_err-found g c =
    broken _ _ _ _ _ refl c.from_residual-in_err-found.ensures.1 (past _ _ _ _ _ c.in_ok-enter.ensures.0 (stops _ _ _
    c.in_err-found.ensures))

pub returns : goal.returns
unfolding inner_declarator
returns g c =
    goes _ _ _ _ _ _ c.in_ok-enter.ensures.0 (goes _ _ _ _ _ _ c.in_ok-found.ensures (closes _ _ _ _ _
    c.in_ok-inner.ensures c.ended.ensures))
