use Rattle.std.proofs.Common.{◌≡◌, ◌-◌}
use Rattle.parse_grammar.specs.Expressions.{assign}
use Rattle.parse_grammar.specs.Statements.{room_of, elements, elements_from}
use Rattle.parse_statements.proofs.declarations.elements.Given as goal

abbrev pub invariant-loop-turn : goal.invariant-loop-turn
invariant-loop-turn g l =
    elements (assign (room_of l.room)) l.fn.tokens ≡ elements_from (assign (room_of l.room)) (l._turn-end - l._turn)
    l.found l.tokens
