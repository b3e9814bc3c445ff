use Rattle.std.proofs.Common.{◌≡◌, ◌-◌}
use Rattle.parse_grammar.specs.Declarators.{suffix, suffixes, begins_suffix}
use Rattle.parse_grammar.specs.Statements.{room_of}
use Rattle.parse_grammar.specs.Steps.{many_from}
use Rattle.parse_declarators.proofs.declarators.suffixes.Given as goal

abbrev pub invariant-loop-turn : goal.invariant-loop-turn
invariant-loop-turn g l =
    suffixes (room_of l.room) l.fn.tokens ≡ many_from begins_suffix (suffix (room_of l.room)) (l._turn-end - l._turn)
    l.found l.tokens
