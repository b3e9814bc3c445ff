use Rattle.std.proofs.Common.{◌≡◌, ◌-◌, [], ◌∷◌}
use Rattle.parse_grammar.specs.Statements.{room_of, init}
use Rattle.parse_grammar.specs.Steps.{following, following_from}
use Rattle.parse_statements.proofs.declarations.following.Given as goal

abbrev pub invariant-loop-turn : goal.invariant-loop-turn
invariant-loop-turn g l =
    following (init (room_of l.room)) (l.fn.first ∷ []) l.fn.tokens ≡ following_from (init (room_of l.room))
    (l._turn-end - l._turn) l.found l.tokens
