-- The op that compiles a specification, which calls the routine: its argument is the number of the specification, under
-- any spot, and the number of the new function goes to any spot. How an op calls a routine is this project's own rule.
use Rattle.std.specs.Prelude.{◌≡◌, ◌≢◌, ℕ, ◌+◌, ◌-◌, ◌/◌, ◌<◌, ◌≤◌, Bool, List, [], ◌∷◌, ◌++◌, length, Some, None}
use Rattle.word32.specs.declared.map.TheConstants.{ARENA, ARENA_WORDS, SEGMENT_BYTES, NEXT_FUNCTION_CELL}
use Rattle.word32.specs.declared.map.TheConstants.{NEXT_ARENA_CELL}
use Rattle.host_edge.specs.declared.ending.Ending.TheVariants.{Trap}
use Rattle.host_edge.specs.declared.ending.TrapKind.{TrapKind}
use Rattle.history.specs.Events.{Ended}
use Rattle.history.specs.Syntax.{Syntax}
use Rattle.code_arena.specs.Rows.{published}
use Rattle.mips_encoder.specs.declared.instruction.Instr.{Instr}
use Rattle.mips_encoder.specs.Addresses.{past}
use Rattle.mips_model.specs.State.{Built, Code, Data}
use Rattle.mips_model.specs.Services.{next_choice}
use Rattle.mips_model.specs.Steps.{going}
use Rattle.mips_model.specs.Laws.{HasAt, Reaches, at}
use Rattle.mips_model.specs.Told.{Made, told}
use Rattle.mips_model_laws.specs.Clean.{IsUnspoiled}
use Rattle.icode_ops.specs.Kinds.{run_number}
use Rattle.icode_ops.specs.Places.{IsLegal}
use Rattle.icode_ops.specs.declared.kind.RunKind.TheVariants as run
use Rattle.icode_ir.specs.Build.{finished}
use Rattle.meaning_state.specs.Shared.{Shared}
use Rattle.meaning_state.specs.Rows.{specification_at, parameters_of, arena_words, table_trap}
use Rattle.meaning_state.specs.Rows.{next_function, next_place, made}
use Rattle.staged_meaning.specs.Program.{syntax_size}
use Rattle.icode_templates.specs.Layout.{Spot}
use Rattle.icode_templates.specs.Templates.{in_code, routine_code, routine_address}
use Rattle.icode_templates_proof.specs.Spots.{pointer, value, Framed, Usable, register_of, IsOther}
use Rattle.icode_templates_proof.specs.Moves.{EndsIn}
use Rattle.closures_proof.specs.Relation.{Text, HasSpecifications}
use Rattle.closures_proof.specs.Variables.{run_code}
use Rattle.tick_lower_spec.specs.declared.piece.Piece.{Piece}
use Rattle.generator_laws.specs.Pieces.{IsWhole}
use Rattle.routine_spec.specs.Generator.{syntax_cost}
use Rattle.generator_laws.specs.Told.{without_entries}
use Rattle.mips_model.specs.Run.{IsFine}
use Rattle.generator_laws.specs.Laws.{HasGenerators}
use Rattle.mips_model_laws.specs.Laws.{IsBelow}
use Rattle.routine_spec.specs.Compile.{compile_code}
use Rattle.compile_routine.specs.Below.{GeneratorsAreLow}
use Rattle.compile_routine.specs.Laws.{HasArena, IsTickOf, compile_trap, compile_cost, KeepsRegister}
use Rattle.compile_routine.specs.Places.{place_address}
use Rattle.compile_routine.specs.Made.{function_built, FitsServices, builder_of, function_words, with_words}
use Rattle.compile_routine.specs.Made.{outside_with}

-- the routine's number, and the op's words
abbrev pub compile_number : ℕ
compile_number = run_number run.Compile

abbrev pub compile_op_code : (from to : Spot) → List Instr
compile_op_code from to = run_code run.Compile from to

-- ---- traps

-- where the routine ends the run, the op does
abbrev pub CompileOpTraps : Type 0
CompileOpTraps =
    (text : Text) (functions : ℕ) (c : Code) (a bytes : ℕ) (shared : Shared) (d : Data) (from : Spot)
    (rest : List Instr) (kind : TrapKind) → past a (in_code from) + 12 < SEGMENT_BYTES
    → Framed (pointer d) bytes → Usable bytes from → value d from < 4294967296
    → HasSpecifications text shared d → HasArena functions shared d
    → compile_trap text.program (next_function functions shared) (specification_at (value d from) shared) shared
    ≡ Some kind → HasAt c (routine_address compile_number) compile_code
    → HasAt c a (in_code from ++ (routine_code compile_number ++ rest))
    → EndsIn 10 33 (Ended (Trap kind)) (at c a 0 d) c d.outside

-- ---- a compile

-- The op made the function at a place, in so many instructions besides those of the routine: its number stands at the
-- spot, and no other spot was written. Nothing here says which place that is.
pub record OpMakes (text : Text) (functions : ℕ) (syntax : Syntax) (function : Built) (words : List ℕ)
    (shared : Shared) (place : ℕ) (to : Spot) (cost : ℕ) (c : Code) (a behind : ℕ) (d : Data) : Type 0 where
  pub after : Data
  pub count : ℕ
  pub over : 6 + cost ≤ count
  pub under : count ≤ 11 + cost
  pub reaches : Reaches count (at c a 0 d) (at (with_words (place_address place) words c) behind 0 after)
  pub number : value after to ≡ next_function functions shared
  pub registers : (r : ℕ) → KeepsRegister r → r ≢ register_of to → after.registers r ≡ d.registers r
  pub stack : (n : ℕ) → IsOther (pointer d) to n → after.stack n ≡ d.stack n
  -- of memory the cells of the next function and of the next place alone, and the function's row
  pub objects : after.objects ≡ d.objects
  pub closures : after.closures ≡ d.closures
  pub spec_rows : after.spec_rows ≡ d.spec_rows
  pub cells : (n : ℕ) → n ≢ NEXT_FUNCTION_CELL / 4 → n ≢ NEXT_ARENA_CELL / 4 → after.cells n ≡ d.cells n
  pub table : after.table ≡ published (next_function functions shared) (place_address place) (parameters_of syntax)
      d.table
  -- as the routine leaves it
  pub passed : after.outside ≡ outside_with (place_address place) function (length words) d.outside
  -- With so many instructions left nothing was told yet but for functions that are entered: the service that publishes
  -- is the next call, and behind it there is the way back.
  pub left : ℕ
  pub least : 8 ≤ left
  pub most : left ≤ 11
  pub few : left < count
  pub quiet : without_entries (told (count - left) (going (at c a 0 d))) ≡ []
  pub told : without_entries (told count (going (at c a 0 d)))
      ≡ Made (next_function functions shared) (Some function) ∷ []
  -- and no flush on the way met a word that was unwritten
  pub unspoiled : IsUnspoiled count (going (at c a 0 d))
  -- where each choice that is met in these instructions is legal, the function's is
  pub chosen : IsFine count (going (at c a 0 d))
      → IsLegal (finished (builder_of function)) (builder_of function).registers
      (next_choice d.outside.making.row).places
  pub fits : length words ≤ arena_words (syntax_size text.program syntax)
  pub within : place + arena_words (syntax_size text.program syntax) ≤ ARENA_WORDS
  pub specifications : HasSpecifications text
      (made (next_function functions shared) syntax (syntax_size text.program syntax) shared) after
  pub arena : HasArena functions
      (made (next_function functions shared) syntax (syntax_size text.program syntax) shared) after

-- The code of the op stands below the arena, where the new function's words come.
abbrev pub OpsMakeFunctions : Type 0
OpsMakeFunctions =
    (text : Text) (pieces : ℕ → List Piece) (functions : ℕ) (c : Code) (a bytes : ℕ) (shared : Shared) (place : ℕ)
    (is_value : Bool) (syntax : Syntax) (d : Data) (from to : Spot) → past a (compile_op_code from to) ≤ ARENA
    → Framed (pointer d) bytes → Usable bytes to → Usable bytes from → value d from < 4294967296
    → HasGenerators text pieces (length text.program.ticks) c → HasSpecifications text shared d
    → HasArena functions shared d → IsWhole pieces (length text.program.ticks) syntax
    → IsTickOf is_value syntax (specification_at (value d from) shared)
    → table_trap (next_function functions shared) ≡ None
    → next_place (arena_words (syntax_size text.program syntax)) shared ≡ Some place
    → FitsServices (function_built pieces is_value syntax) (syntax_size text.program syntax) d.outside.making
    → HasAt c (routine_address compile_number) compile_code → HasAt c a (compile_op_code from to)
    → let function = function_built pieces is_value syntax in
    let size = syntax_size text.program syntax in
    OpMakes text functions syntax function
    (function_words function (next_choice d.outside.making.row) (place_address place) size) shared place to
    (compile_cost is_value (syntax_cost pieces syntax)) c a (past a (compile_op_code from to)) d

-- Where the functions of the ticks stand below the arena too, the machine does so before each instruction of the op,
-- and it tells that the function was made, and nothing else.
abbrev pub OpsTellFunctions : Type 0
OpsTellFunctions =
    (text : Text) (pieces : ℕ → List Piece) (functions : ℕ) (c : Code) (a bytes : ℕ) (shared : Shared) (place : ℕ)
    (is_value : Bool) (syntax : Syntax) (d : Data) (from to : Spot)
    → past a (compile_op_code from to) ≤ ARENA → Framed (pointer d) bytes → Usable bytes to → Usable bytes from
    → value d from < 4294967296
    → HasGenerators text pieces (length text.program.ticks) c
    → GeneratorsAreLow text pieces (length text.program.ticks) → HasSpecifications text shared d
    → HasArena functions shared d → IsWhole pieces (length text.program.ticks) syntax
    → IsTickOf is_value syntax (specification_at (value d from) shared)
    → table_trap (next_function functions shared) ≡ None
    → next_place (arena_words (syntax_size text.program syntax)) shared ≡ Some place
    → FitsServices (function_built pieces is_value syntax) (syntax_size text.program syntax) d.outside.making
    → HasAt c (routine_address compile_number) compile_code → HasAt c a (compile_op_code from to)
    → let function = function_built pieces is_value syntax in
    let size = syntax_size text.program syntax in
    (m : OpMakes text functions syntax function
    (function_words function (next_choice d.outside.making.row) (place_address place) size) shared place to
    (compile_cost is_value (syntax_cost pieces syntax)) c a (past a (compile_op_code from to)) d)
    × IsBelow m.count (at c a 0 d)
    × (told m.count (going (at c a 0 d)) ≡ Made (next_function functions shared) (Some function) ∷ [])
    × (told (m.count - m.left) (going (at c a 0 d)) ≡ [])
