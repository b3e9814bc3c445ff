use Rattle.std.proofs.Common.{◌≡◌, ◌-◌}
use Rattle.parse_grammar.specs.Statements.{room_of, stmt}
use Rattle.parse_grammar.specs.Steps.{closed, closed_from}
use Rattle.parse_expressions.proofs.primaries.closed.Given as goal

abbrev pub invariant-loop-turn : goal.invariant-loop-turn
invariant-loop-turn g l =
    closed (stmt (room_of l.room)) l.fn.tokens ≡ closed_from (stmt (room_of l.room)) (l._turn-end - l._turn) l.found
    l.tokens
