use Rattle.std.proofs.Common.{refl}
use Rattle.parse_grammar.specs.Expressions.{choice}
use Rattle.parse_grammar.proofs.Reading.{broken, onward, past, stops}
use Rattle.parse_expressions.proofs.levels.choice.Goals as goal

pub returns-in_err-read : goal.returns-in_err-read
unfolding choice
returns-in_err-read g c =
    broken _ _ _ _ _ refl c.from_residual-in_err-read.ensures.1 (stops _ _ _ c.in_err-read.ensures)

pub returns-in_err-expect : goal.returns-in_err-expect
unfolding choice
returns-in_err-expect g c =
    broken _ _ _ _ _ refl c.from_residual-in_err-expect.ensures.1 (past _ _ _ _ _ c.in_ok-read.ensures (stops _ _ _
    c.in_err-expect.ensures))

pub returns-in_err-last : goal.returns-in_err-last
unfolding choice
returns-in_err-last g c =
    broken _ _ _ _ _ refl c.from_residual-in_err-last.ensures.1 (past _ _ _ _ _ c.in_ok-read.ensures (past _ _ _ _
    _ c.in_ok-expect.ensures (stops _ _ _ c.in_err-last.ensures)))

pub returns : goal.returns
unfolding choice
returns g c =
    let asked = c.in_ok-asked.ensures in
    let first = c.in_ok-first.ensures in
    let second = c.in_ok-second.ensures in
    onward _ _ _ _ _ c.in_ok-read.ensures (onward _ _ _ _ _ c.in_ok-expect.ensures (onward _ _ _ _ _
    c.in_ok-last.ensures cc))
