-- How many words stand in an image for the routines of the run-time library and for the functions of ticks.
use Rattle.std.specs.Prelude.{◌≡◌, ◌≤◌, ℕ, ◌+◌, ◌*◌, length, Some}
use Rattle.limits.specs.declared.program.TheConstants.{WORDS_OF_A_BODY, WORDS_OF_A_NODE}
use Rattle.icode_templates.specs.Words.{words}
use Rattle.staged_meaning.specs.Program.{Tick, tick_size}
use Rattle.tick_lower_spec.specs.Lower.{Addresses}
use Rattle.tick_lower_spec.specs.TickPieces.{tick_pieces}
use Rattle.routine_spec.specs.Generator.{generator_code}
use Rattle.routine_spec.specs.Blocks.{routine_words}

-- the function of a tick has no more words than are charged for the tick
abbrev pub GeneratorsAreShort : Type 0
GeneratorsAreShort =
    (addresses : Addresses) (tick : Tick)
    → length (words (generator_code (tick_pieces addresses tick)))
    ≤ WORDS_OF_A_NODE * tick_size (Some tick) + WORDS_OF_A_BODY

-- the routines fill fifteen blocks
abbrev pub RoutinesFillBlocks : Type 0
RoutinesFillBlocks = length routine_words ≡ 960
