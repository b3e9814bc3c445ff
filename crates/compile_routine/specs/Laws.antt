-- What the routine that compiles a specification does on the machine.
use Rattle.std.specs.Prelude.{◌≡◌, ◌≢◌, ◌⊎◌, ℕ, suc, ◌+◌, ◌*◌, ◌<◌, ◌≤◌, Bool, true, false, List, [], ◌∷◌, ◌++◌, length}
use Rattle.std.specs.Prelude.{Option}
use Rattle.std.specs.Prelude.{Some, None}
use Rattle.word32.specs.declared.map.TheConstants.{ARENA, ARENA_WORDS, ROUTINE_BYTES}
use Rattle.word32.specs.declared.map.TheConstants.{NEXT_FUNCTION_CELL, NEXT_ARENA_CELL}
use Rattle.host_edge.specs.declared.ending.Ending.TheVariants.{Trap}
use Rattle.host_edge.specs.declared.ending.TrapKind.{TrapKind}
use Rattle.host_edge.specs.declared.ending.TrapKind.TheVariants.{BadSpec}
use Rattle.history.specs.Events.{Ended}
use Rattle.history.specs.Syntax.{Syntax}
use Rattle.code_arena.specs.Rows.{published}
use Rattle.mips_model.specs.State.{Code, Data}
use Rattle.mips_model.specs.Laws.{HasAt, at}
use Rattle.meaning_state.specs.Shared.{Shared, Specification, Expression, Statement}
use Rattle.meaning_state.specs.Bodies.{AreSummed, charged}
use Rattle.meaning_state.specs.Rows.{specification_at, parameters_of, arena_words, table_trap, arena_trap}
use Rattle.meaning_state.specs.Rows.{next_function}
use Rattle.staged_meaning.specs.Program.{Program, syntax_size}
use Rattle.staged_meaning.specs.Size.{charge_of}
use Rattle.icode_templates_proof.specs.Moves.{EndsIn}
use Rattle.icode_ir.specs.declared.build_op.BuildOp.{BuildOp}
use Rattle.icode_templates_proof.specs.Closures.{word_at, with_word}
use Rattle.icode_templates_proof.specs.RoutineLaws.{first_trap}
use Rattle.closures_proof.specs.Relation.{Text, HasSpecifications}
use Rattle.generator_laws.specs.Calls.{Call, Begin, Finish, Flush, Publish, code_behind, RunsWith, issuing}
use Rattle.tick_lower_spec.specs.declared.piece.Piece.{Piece}
-- the value of an expression is returned
pub use Rattle.tick_lower_spec.specs.Generated.{return_ops}
use Rattle.generator_laws.specs.Pieces.{syntax_ops, IsWhole}
use Rattle.routine_spec.specs.Generator.{syntax_cost}
use Rattle.generator_laws.specs.Laws.{HasGenerators, others}
use Rattle.routine_spec.specs.Compile.{compile_code}

-- The cells have the number of the next function, behind so many of the text, and the next address of the arena: no
-- body was freed, so it is behind all of them.
pub record HasArena (functions : ℕ) (shared : Shared) (d : Data) : Type 0 where
  pub function : word_at d.cells NEXT_FUNCTION_CELL ≡ next_function functions shared
  pub next : word_at d.cells NEXT_ARENA_CELL ≡ ARENA + 4 * charged shared.bodies
  pub within : charged shared.bodies ≤ ARENA_WORDS
  pub summed : AreSummed ARENA_WORDS shared.bodies

-- ---- traps

-- the traps of a compile, in their order
abbrev pub size_traps : (function size : ℕ) → Shared → Option TrapKind
size_traps function size shared = first_trap (table_trap function) (arena_trap size shared)

abbrev pub compile_trap : Program → (function : ℕ) → Option Specification → Shared → Option TrapKind
compile_trap program function (Some (Expression syntax)) shared =
    size_traps function (syntax_size program syntax) shared
compile_trap program function (Some (Statement syntax)) shared = size_traps function (syntax_size program syntax) shared
compile_trap program function _ shared = Some BadSpec

abbrev pub IsLow : ℕ → Type 0
IsLow entry = entry + ROUTINE_BYTES ≤ ARENA

abbrev pub CompileTraps : Type 0
CompileTraps =
    (text : Text) (functions : ℕ) (c : Code) (entry : ℕ) (shared : Shared) (d : Data) (kind : TrapKind)
    → IsLow entry → HasSpecifications text shared d → HasArena functions shared d → d.registers 4 < 4294967296
    → compile_trap text.program (next_function functions shared) (specification_at (d.registers 4) shared) shared
    ≡ Some kind → HasAt c entry compile_code
    → EndsIn 6 26 (Ended (Trap kind)) (at c entry 0 d) c d.outside

-- ---- a compile

-- the specification is one of this syntax; whether it leaves a value
abbrev pub IsTickOf : Bool → Syntax → Option Specification → Type 0
IsTickOf true syntax (Some (Expression s)) = s ≡ syntax
IsTickOf false syntax (Some (Statement s)) = s ≡ syntax
IsTickOf _ syntax _ = ⊥

-- the frame of a function of a size, in bytes: what a call of it is charged
abbrev pub frame_bytes : (size : ℕ) → ℕ
frame_bytes size = charge_of size

-- where the function goes
abbrev pub arena_address : Shared → ℕ
arena_address shared = ARENA + 4 * charged shared.bodies

-- the services that are called, in their order
abbrev pub compile_calls :
    (function address parameters size : ℕ) (ops : List BuildOp) (words : List ℕ) → List Call
compile_calls function address parameters size ops words =
    Begin parameters
    ∷ (issuing ops
    ++ Finish address (arena_words size) (frame_bytes size) words
    ∷ Flush address (length words)
    ∷ Publish function address parameters
    ∷ [])

-- what is left of the data, but for registers, emit stack, and what services that make code have left
abbrev pub made_data : (function address parameters size : ℕ) → Data → Data
made_data function address parameters size d = record (others d) {
  cells = with_word NEXT_FUNCTION_CELL (suc function)
      (with_word NEXT_ARENA_CELL (address + 4 * arena_words size) d.cells);
  table = published function address parameters d.table;
  outside = record (others d).outside { flushes = d.outside.flushes + 1 };
}

-- A routine changes $at, $v0, $v1, $a0 to $a3, $t4 to $t9 and $ra alone. There is no register behind 31, so data say of
-- those numbers nothing: they are kept, as they are where a call saves what is the caller's.
abbrev pub KeepsRegister : ℕ → Type 0
KeepsRegister r = ((8 ≤ r) × (r < 12)) ⊎ ((16 ≤ r) × (r < 24)) ⊎ ((26 ≤ r) × (r ≢ 31))

-- how many instructions it takes, where the function of the tick takes so many: two more for a value that is returned
abbrev pub compile_cost : Bool → (generating : ℕ) → ℕ
compile_cost true generating = 61 + generating
compile_cost false generating = 59 + generating

-- it called these services and no others, and returned with the function's number
pub record Compiles (calls : List Call) (function : ℕ) (left : Data) (count : ℕ) (c behind : Code) (a : ℕ) (d : Data) :
    Type 0 where
  pub after : Data
  pub runs : RunsWith calls count (at c a 0 d) (at behind (d.registers 31) 0 after)
  pub answer : after.registers 2 ≡ function
  pub link : after.registers 31 ≡ d.registers 31
  pub registers : (r : ℕ) → KeepsRegister r → after.registers r ≡ d.registers r
  pub rest : others after ≡ left

-- The specification with the number in $a0 is compiled: a function is begun, gets the ops of the specification, and is
-- finished, flushed and published, whatever words it is finished into; its number is the answer.
abbrev pub CompileIsAnswered : Type 0
CompileIsAnswered =
    (text : Text) (pieces : ℕ → List Piece) (functions : ℕ) (c : Code) (entry : ℕ) (shared : Shared)
    (is_value : Bool) (syntax : Syntax) (words : List ℕ) (d : Data) → IsLow entry
    → HasGenerators text pieces (length text.program.ticks) c → HasSpecifications text shared d
    → HasArena functions shared d → IsWhole pieces (length text.program.ticks) syntax
    → IsTickOf is_value syntax (specification_at (d.registers 4) shared) → d.registers 4 < 4294967296
    → table_trap (next_function functions shared) ≡ None
    → arena_trap (syntax_size text.program syntax) shared ≡ None
    → length words ≤ arena_words (syntax_size text.program syntax)
    → HasAt c entry compile_code
    → let size = syntax_size text.program syntax in
    let function = next_function functions shared in
    let address = arena_address shared in
    Compiles
    (compile_calls function address (parameters_of syntax) size (syntax_ops pieces syntax ++ return_ops is_value) words)
    function (made_data function address (parameters_of syntax) size d)
    (compile_cost is_value (syntax_cost pieces syntax)) c
    (code_behind (Flush address (length words))
    (code_behind (Finish address (arena_words size) (frame_bytes size) words) c)) entry d
