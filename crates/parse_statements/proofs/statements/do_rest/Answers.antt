use Rattle.std.proofs.Common.{refl}
use Rattle.parse_grammar.specs.Statements.{do_rest}
use Rattle.parse_grammar.proofs.Reading.{broken, goes, past, stops}
use Rattle.parse_statements.proofs.statements.do_rest.Goals as goal

pub returns-in_err-body : goal.returns-in_err-body
unfolding do_rest
returns-in_err-body g c =
    broken _ _ _ _ _ refl c.from_residual.ensures.1 (stops _ _ _ c.in_err-body.ensures)

pub returns-in_err-expect_word : goal.returns-in_err-expect_word
unfolding do_rest
returns-in_err-expect_word g c =
    broken _ _ _ _ _ refl c.from_residual-in_err-expect_word.ensures.1 (past _ _ _ _ _ c.in_ok-body.ensures (stops _ _
    _ c.in_err-expect_word.ensures))

pub returns-in_err-test : goal.returns-in_err-test
unfolding do_rest
returns-in_err-test g c =
    broken _ _ _ _ _ refl c.from_residual-in_err-test.ensures.1 (past _ _ _ _ _ c.in_ok-body.ensures (past _ _ _ _ _
    c.in_ok-expect_word.ensures (stops _ _ _ c.in_err-test.ensures)))

pub returns : goal.returns
unfolding do_rest
returns g c =
    goes _ _ _ _ _ _ c.in_ok-body.ensures (goes _ _ _ _ _ _ c.in_ok-expect_word.ensures (goes _ _ _ _ _ _
    c.in_ok-test.ensures c.ended.ensures))
