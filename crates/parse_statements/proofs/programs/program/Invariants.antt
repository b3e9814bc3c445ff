use Rattle.std.proofs.Common.{◌≡◌, ◌-◌}
use Rattle.parse_grammar.specs.Statements.{room_of, external, program, program_from}
use Rattle.parse_statements.proofs.programs.program.Given as goal

abbrev pub invariant-loop-turn : goal.invariant-loop-turn
invariant-loop-turn g l =
    program (room_of l.room) l.fn.tokens ≡ program_from (external (room_of l.room)) (l._turn-end - l._turn) l.found
    l.tokens
