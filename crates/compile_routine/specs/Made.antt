-- What the routine that compiles a specification does on the machine itself, where a function is begun, built,
-- finished, flushed and published as the services do it. What the services need is told once, as a premise on the ops
-- of the function: the builder takes them, and they fit into what is charged for the specification's size. Services and
-- charges are this project's own rules.
use Rattle.std.specs.Prelude.{◌≡◌, ◌≢◌, ℕ, ◌+◌, ◌*◌, ◌/◌, ◌<◌, ◌≤◌, ◌⊎◌, Bool, List, [], ◌∷◌, ◌++◌, length, slice_index}
use Rattle.std.specs.Prelude.{Ok, Some, None}
use Rattle.word32.specs.declared.map.TheConstants.{ARENA_WORDS}
use Rattle.limits.specs.declared.ops.TheConstants.{OP_LIMIT}
use Rattle.limits.specs.declared.program.TheConstants.{SIZE_LIMIT}
use Rattle.history.specs.Syntax.{Syntax}
use Rattle.code_arena.specs.declared.arena.WordState.TheVariants.{Flushed}
use Rattle.code_arena.specs.Arena.{flushed}
use Rattle.meaning_state.specs.Shared.{Shared}
use Rattle.meaning_state.specs.Rows.{specification_at, parameters_of, arena_words, table_trap, arena_trap}
use Rattle.meaning_state.specs.Rows.{next_function, made}
use Rattle.staged_meaning.specs.Program.{syntax_size}
use Rattle.mips_model.specs.State.{Built, Making, Outside, Code, Data}
use Rattle.mips_model.specs.Services.{next_choice, later_choices}
use Rattle.mips_model.specs.Steps.{word_at, going}
use Rattle.mips_model.specs.Laws.{HasAt, Reaches, at, Grows}
use Rattle.mips_model.specs.Told.{Made, told}
use Rattle.mips_model_laws.specs.Clean.{IsUnspoiled}
use Rattle.icode_ops.specs.Places.{IsLegal}
use Rattle.icode_ir.specs.declared.build_op.BuildOp.{BuildOp}
use Rattle.icode_ir.specs.Build.{Build, empty, finished}
use Rattle.mips_model.specs.Choices.{Choice}
use Rattle.mips_model.specs.CodeServices.{arena_word, written_from, words_of, finished_with}
use Rattle.closures_proof.specs.Relation.{Text, HasSpecifications}
use Rattle.tick_lower_spec.specs.declared.piece.Piece.{Piece}
use Rattle.generator_laws.specs.Pieces.{syntax_ops, IsWhole}
use Rattle.routine_spec.specs.Generator.{syntax_cost}
use Rattle.generator_laws.specs.Told.{without_entries}
use Rattle.mips_model.specs.Run.{IsFine}
use Rattle.generator_laws.specs.Laws.{HasGenerators, others, AreTaken, built_of}
use Rattle.routine_spec.specs.Compile.{compile_code}
use Rattle.compile_routine.specs.Laws.{IsLow, HasArena, IsTickOf, return_ops, frame_bytes, arena_address, made_data}
use Rattle.compile_routine.specs.Laws.{KeepsRegister, compile_cost}
use Rattle.compile_routine.specs.Places.{place_address, AreApart, KeepsOutside}

-- ---- the function

-- the ops of the function of a specification, and what they are noted with
abbrev pub compiled_ops : (pieces : ℕ → List Piece) → Bool → Syntax → List BuildOp
compiled_ops pieces is_value syntax = syntax_ops pieces syntax ++ return_ops is_value

abbrev pub function_built : (pieces : ℕ → List Piece) → Bool → Syntax → Built
function_built pieces is_value syntax =
    record { parameters = parameters_of syntax; ops = compiled_ops pieces is_value syntax }

-- the builder that has them all
abbrev pub builder_of : Built → Build
builder_of function = built_of function.ops (empty function.parameters)

-- how many ops a function has for each node at most, and how many registers: a builder takes OP_LIMIT ops, and a
-- specification has SIZE_LIMIT nodes, so there are twelve for each
abbrev pub ops_of_a_node : ℕ
ops_of_a_node = OP_LIMIT / SIZE_LIMIT

-- The services take a function for a specification of this size: no other one is begun, the builder takes each op and
-- is left without operands and bodies, and there are at most so many registers and ops for each node. A register has a
-- slot of 4 bytes and an op sixteen words, so they fit into the frame and into the charge.
pub record FitsServices (function : Built) (size : ℕ) (m : Making) : Type 0 where
  pub unbegun : m.generator.build ≡ None
  pub taken : AreTaken function.ops (empty function.parameters)
  pub operands : (builder_of function).operands ≡ []
  pub bodies : (builder_of function).bodies ≡ []
  pub registers : (builder_of function).registers ≤ ops_of_a_node * size
  pub few : length (finished (builder_of function)) ≤ ops_of_a_node * size

-- its words at an address, where its registers have the places of this choice
abbrev pub function_words : Built → Choice → (address size : ℕ) → List ℕ
function_words function choice address size = words_of (builder_of function) choice address (frame_bytes size)

-- ---- what is behind it

-- the words are in the arena from an address on, and are flushed
abbrev pub with_words : (address : ℕ) → List ℕ → Code → Code
with_words address words c = record c {
  arena = flushed (arena_word address) (length words) (written_from (arena_word address) words c.arena);
}

-- the machine noted that the function was begun, got its ops, was finished at an address into so many words with the
-- next choice, and was published
abbrev pub making_with : (address : ℕ) → Built → (words : ℕ) → Making → Making
making_with address function words m = record {
  generator = finished_with (next_choice m.row) m.generator;
  issued = function;
  finishes = record { at = address; built = function } ∷ m.finishes;
  row = later_choices m.row;
  ops = m.ops + length function.ops;
  functions = m.functions + 1;
  words = m.words + words;
}

abbrev pub outside_with : (address : ℕ) → Built → (words : ℕ) → Outside → Outside
outside_with address function words o =
    record o { flushes = o.flushes + 1; making = making_with address function words o.making }

-- each of the words can be executed where it stands, and no other word of the arena has changed
pub record AreThere (address : ℕ) (words : List ℕ) (c after : Code) : Type 0 where
  pub each : (k : ℕ) → k < length words → word_at after (address + 4 * k) ≡ Ok (slice_index words k)
  pub others : (k : ℕ) → (k < arena_word address) ⊎ (arena_word address + length words ≤ k) →
      (after.arena.words k ≡ c.arena.words k) × (after.arena.states k ≡ c.arena.states k)
  pub text : after.text ≡ c.text

-- The routine made the function, in exactly so many instructions, and returned with its number.
pub record MakesFunction (text : Text) (functions : ℕ) (syntax : Syntax) (function : Built) (words : List ℕ)
    (shared : Shared) (count : ℕ) (c : Code) (a : ℕ) (d : Data) : Type 0 where
  pub after : Data
  pub reaches : Reaches count (at c a 0 d) (at (with_words (arena_address shared) words c) (d.registers 31) 0 after)
  pub answer : after.registers 2 ≡ next_function functions shared
  pub link : after.registers 31 ≡ d.registers 31
  pub registers : (r : ℕ) → KeepsRegister r → after.registers r ≡ d.registers r
  -- cells and function table, and that nothing else has changed
  pub rest : others after ≡ made_data (next_function functions shared) (arena_address shared) (parameters_of syntax)
      (syntax_size text.program syntax) d
  -- what passed between the run and the outside, and what the services have left
  pub passed : after.outside ≡ outside_with (arena_address shared) function (length words) d.outside
  -- before the service that publishes, so many instructions in, nothing was told but for functions that are entered
  pub before : ℕ
  pub counted : before + 6 ≡ count
  pub quiet : without_entries (told before (going (at c a 0 d))) ≡ []
  -- what is told but for functions that are entered: that this function was made
  pub told : without_entries (told count (going (at c a 0 d)))
      ≡ Made (next_function functions shared) (Some function) ∷ []
  -- and no flush on the way met a word that was unwritten
  pub unspoiled : IsUnspoiled count (going (at c a 0 d))
  -- where each choice that is met in these instructions is legal, the function's is
  pub chosen : IsFine count (going (at c a 0 d))
      → IsLegal (finished (builder_of function)) (builder_of function).registers
      (next_choice d.outside.making.row).places
  -- the words are no more than what is charged for the size, so they are there
  pub fits : length words ≤ arena_words (syntax_size text.program syntax)
  -- as the meaning has it behind the compile
  pub specifications : HasSpecifications text
      (made (next_function functions shared) syntax (syntax_size text.program syntax) shared) after
  pub arena : HasArena functions
      (made (next_function functions shared) syntax (syntax_size text.program syntax) shared) after

-- The machine, at the routine that compiles, with the number of a specification in $a0 and within the limits, makes
-- its function, whichever places the next choice gives.
abbrev pub FunctionsAreMade : Type 0
FunctionsAreMade =
    (text : Text) (pieces : ℕ → List Piece) (functions : ℕ) (c : Code) (entry : ℕ) (shared : Shared)
    (is_value : Bool) (syntax : Syntax) (d : Data) → IsLow entry
    → HasGenerators text pieces (length text.program.ticks) c → HasSpecifications text shared d
    → HasArena functions shared d → IsWhole pieces (length text.program.ticks) syntax
    → IsTickOf is_value syntax (specification_at (d.registers 4) shared) → d.registers 4 < 4294967296
    → table_trap (next_function functions shared) ≡ None
    → arena_trap (syntax_size text.program syntax) shared ≡ None
    → FitsServices (function_built pieces is_value syntax) (syntax_size text.program syntax) d.outside.making
    → HasAt c entry compile_code
    → let function = function_built pieces is_value syntax in
    let size = syntax_size text.program syntax in
    MakesFunction text functions syntax function
    (function_words function (next_choice d.outside.making.row) (arena_address shared) size) shared
    (compile_cost is_value (syntax_cost pieces syntax)) c entry d

-- ---- what stood before stands on

-- none of so many words of the arena from a word on can be executed
abbrev pub IsFree : (first count : ℕ) → Code → Type 0
IsFree first count c = (k : ℕ) → first ≤ k → k < first + count → c.arena.states k ≢ Flushed

-- Words that fit the range at a place are there.
abbrev pub WordsAreThere : Type 0
WordsAreThere =
    (place count : ℕ) (words : List ℕ) (c : Code) → length words ≤ count → place + count ≤ ARENA_WORDS
    → AreThere (place_address place) words c (with_words (place_address place) words c)

-- All outside of the range is as it was: so all code that stood there stands on, and a range that was free is free,
-- where the two have no word in common. Where none of the range could be executed, all code stands on.
abbrev pub CodeGrows : Type 0
CodeGrows =
    (place count : ℕ) (words : List ℕ) (c : Code) → length words ≤ count → place + count ≤ ARENA_WORDS
    → let after = with_words (place_address place) words c in
    KeepsOutside (place_address place) (place_address place + 4 * count) c after
    × (IsFree place count c → Grows c after)
    × ((other more : ℕ) → AreApart place count other more → IsFree other more c → IsFree other more after)
