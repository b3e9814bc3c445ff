use Rattle.std.proofs.Common.{◌≡◌, ◌-◌}
use Rattle.parse_grammar.specs.Expressions.{assign}
use Rattle.parse_grammar.specs.Statements.{room_of}
use Rattle.parse_grammar.specs.Steps.{separated, following_from}
use Rattle.parse_expressions.proofs.primaries.separated.Given as goal

abbrev pub invariant-loop-turn : goal.invariant-loop-turn
invariant-loop-turn g l =
    separated (assign (room_of l.room)) l.fn.tokens ≡ following_from (assign (room_of l.room)) (l._turn-end - l._turn)
    l.found l.tokens
