-- What the routine that compiles tells, where it and the functions of the ticks stand below the arena: that a function
-- was made, and nothing else, since none of the arena is entered. What is told is this project's own rule.
use Rattle.std.specs.Prelude.{◌≡◌, ℕ, ◌<◌, ◌≤◌, Bool, List, [], ◌∷◌, length, Some, None}
use Rattle.word32.specs.declared.map.TheConstants.{ARENA}
use Rattle.history.specs.Syntax.{Syntax}
use Rattle.mips_encoder.specs.Addresses.{past}
use Rattle.mips_model.specs.State.{Code, Data}
use Rattle.mips_model.specs.Steps.{going}
use Rattle.mips_model.specs.Laws.{HasAt, at}
use Rattle.mips_model.specs.Told.{Made, told}
use Rattle.mips_model_laws.specs.Laws.{IsBelow}
use Rattle.meaning_state.specs.Shared.{Shared}
use Rattle.meaning_state.specs.Rows.{specification_at, table_trap, arena_trap, next_function}
use Rattle.staged_meaning.specs.Program.{syntax_size}
use Rattle.closures_proof.specs.Relation.{Text, HasSpecifications}
use Rattle.tick_lower_spec.specs.declared.piece.Piece.{Piece}
use Rattle.generator_laws.specs.Pieces.{IsWhole}
use Rattle.routine_spec.specs.Generator.{generator_code, syntax_cost}
use Rattle.generator_laws.specs.Laws.{HasGenerators}
use Rattle.routine_spec.specs.Compile.{compile_code}
use Rattle.compile_routine.specs.Laws.{IsLow, HasArena, IsTickOf, compile_cost}
use Rattle.compile_routine.specs.Made.{function_built, FitsServices}

-- the functions of so many ticks stand below the arena
abbrev pub GeneratorsAreLow : Text → (pieces : ℕ → List Piece) → (ticks : ℕ) → Type 0
GeneratorsAreLow text pieces ticks =
    (tick : ℕ) → tick < ticks → past (text.generator_at tick) (generator_code (pieces tick)) ≤ ARENA

-- before each instruction the machine stands below the arena, and so it tells this
abbrev pub FunctionsAreTold : Type 0
FunctionsAreTold =
    (text : Text) (pieces : ℕ → List Piece) (functions : ℕ) (c : Code) (entry : ℕ) (shared : Shared)
    (is_value : Bool) (syntax : Syntax) (d : Data) → IsLow entry
    → HasGenerators text pieces (length text.program.ticks) c
    → GeneratorsAreLow text pieces (length text.program.ticks) → HasSpecifications text shared d
    → HasArena functions shared d → IsWhole pieces (length text.program.ticks) syntax
    → IsTickOf is_value syntax (specification_at (d.registers 4) shared) → d.registers 4 < 4294967296
    → table_trap (next_function functions shared) ≡ None
    → arena_trap (syntax_size text.program syntax) shared ≡ None
    → FitsServices (function_built pieces is_value syntax) (syntax_size text.program syntax) d.outside.making
    → HasAt c entry compile_code
    → let count = compile_cost is_value (syntax_cost pieces syntax) in
    IsBelow count (at c entry 0 d)
    × (told count (going (at c entry 0 d))
    ≡ Made (next_function functions shared) (Some (function_built pieces is_value syntax)) ∷ [])
