use Rattle.std.proofs.Common.{◌≡◌, ◌-◌}
use Rattle.parse_grammar.specs.Declarators.{parameter}
use Rattle.parse_grammar.specs.Statements.{inner, room_of}
use Rattle.parse_grammar.specs.Steps.{separated, following_from}
use Rattle.parse_declarators.proofs.declarators.separated.Given as goal

abbrev pub invariant-loop-turn : goal.invariant-loop-turn
invariant-loop-turn g l =
    separated (parameter (inner (room_of l.room))) l.fn.tokens ≡ following_from (parameter (inner (room_of l.room)))
    (l._turn-end - l._turn) l.found l.tokens
