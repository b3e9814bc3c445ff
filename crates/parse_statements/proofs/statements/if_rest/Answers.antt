use Rattle.std.proofs.Common.{refl}
use Rattle.parse_grammar.specs.Statements.{if_rest}
use Rattle.parse_grammar.proofs.Reading.{broken, past, stops}
use Rattle.parse_statements.proofs.statements.if_rest.Goals as goal

pub returns-in_err-test : goal.returns-in_err-test
unfolding if_rest
returns-in_err-test g c =
    broken _ _ _ _ _ refl c.from_residual.ensures.1 (stops _ _ _ c.in_err-test.ensures)

pub returns-in_err-first : goal.returns-in_err-first
unfolding if_rest
returns-in_err-first g c =
    broken _ _ _ _ _ refl c.from_residual-in_err-first.ensures.1 (past _ _ _ _ _ c.in_ok-test.ensures (stops _ _ _
    c.in_err-first.ensures))
