use Rattle.std.proofs.Common.{refl}
use Rattle.parse_grammar.specs.Declarators.{behind_prefixes, declarator}
use Rattle.parse_grammar.proofs.Reading.{broken, onward, past, stops}
use Rattle.parse_declarators.proofs.declarators.declarator.Goals as goal

pub returns-in_err-prefixes : goal.returns-in_err-prefixes
unfolding declarator behind_prefixes
returns-in_err-prefixes g c =
    broken _ _ _ _ _ refl c.from_residual.ensures.1 (stops _ _ _ c.in_err-prefixes.ensures)

pub returns-in_err-core : goal.returns-in_err-core
unfolding declarator behind_prefixes
returns-in_err-core g c =
    broken _ _ _ _ _ refl c.from_residual-in_err-core.ensures.1 (past _ _ _ _ _ c.in_ok-prefixes.ensures (stops _ _ _
    c.in_err-core.ensures))

pub returns-in_err-suffixes : goal.returns-in_err-suffixes
unfolding declarator behind_prefixes
returns-in_err-suffixes g c =
    broken _ _ _ _ _ refl c.from_residual-in_err-suffixes.ensures.1 (past _ _ _ _ _ c.in_ok-prefixes.ensures (past _ _
    _ _ _ c.in_ok-core.ensures (stops _ _ _ c.in_err-suffixes.ensures)))

pub returns : goal.returns
unfolding declarator behind_prefixes
returns g c =
    onward _ _ _ _ _ c.in_ok-prefixes.ensures (onward _ _ _ _ _ c.in_ok-core.ensures (onward _ _ _ _ _
    c.in_ok-suffixes.ensures refl))
