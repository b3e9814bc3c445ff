-- The relation of the second seam, over a whole run in which specifications are made and compiled. What is constant
-- in a run; what is told of a history; which functions were compiled, and where they stand; and the states: a call
-- runs, words are set to 0, the specification of a tick is being made, a function is being compiled, or the run is
-- over. Code, functions and rows are of a setting, which the relation hides: so they may grow. The rules are this
-- project's own.
use Rattle.std.specs.Prelude.{◌≡◌, Bool, true, false, ◌&&◌, ◌||◌, nat_lt, ℕ, suc, ◌+◌, ◌*◌, ◌<◌, ◌≤◌, List, [], ◌∷◌}
use Rattle.std.specs.Prelude.{Some, None, length, slice_get, flat_map}
use Rattle.std.specs.Fn.{iterate}
use Rattle.pace.specs.Pace.{Seen, retold}
use Rattle.limits.specs.declared.program.TheConstants.{SIZE_LIMIT}
use Rattle.word32.specs.declared.map.TheConstants.{ARENA}
use Rattle.history.specs.Events.{Item, End}
use Rattle.history.specs.Syntax.{Syntax}
use Rattle.mips_encoder.specs.Addresses.{past}
use Rattle.mips_model.specs.State.{Built, Code, Data, Making, World}
use Rattle.mips_model.specs.Steps.{going}
use Rattle.mips_model.specs.Laws.{HasAt, at}
use Rattle.mips_model.specs.Run.{IsFine}
use Rattle.mips_model.specs.Told.{Told}
use Rattle.mips_model_laws.specs.Laws.{only, with_code}
use Rattle.mips_model_laws.specs.Tales.{Tale, tell, see_tale, told_as}
use Rattle.mips_model_laws.specs.Clean.{IsUnspoiled}
use Rattle.icode_ops.specs.Kinds.{run_number}
use Rattle.icode_ops.specs.Flow.{op_at}
use Rattle.icode_ops.specs.Finished.{InRange}
use Rattle.icode_ops.specs.declared.kind.RunKind.TheVariants as run
use Rattle.icode_ir.specs.Build.{finished}
use Rattle.icode_templates.specs.Templates.{routine_address}
use Rattle.icode_templates_proof.specs.Routines.{local_code, parameter_code}
use Rattle.meaning_state.specs.Bodies.{Body}
use Rattle.meaning_state.specs.Rows.{parameters_of}
use Rattle.staged_meaning.specs.Program.{syntax_size}
use Rattle.icode_meaning.specs.State as staged
use Rattle.icode_meaning.specs.State.{Function, Frame, Log, State, Running, Zeroing, Compiling, Halted, Stuck, nothing}
use Rattle.icode_meaning.specs.State.{Draft, log_of, see}
use Rattle.icode_meaning.specs.Steps.{function_for, compiled}
use Rattle.icode_expand_proof.specs.Settings.{Setting, Standing, Extends, places_of}
use Rattle.icode_expand_proof.specs.Standing.{Stands, code_of, op_stands_at}
use Rattle.icode_expand_proof.specs.Relation as ops
use Rattle.icode_expand_proof.specs.Relation.{Holds}
use Rattle.icode_expand_proof.specs.Served.{Serving, IsServed, is_of_ticks}
use Rattle.closures_proof.specs.Relation.{Text, HasSpecifications}
use Rattle.closures_proof.specs.CapturedWords.{IsOfWords}
use Rattle.closures_proof.specs.Ticks.{HasRoutines}
use Rattle.tick_lower_spec.specs.declared.piece.Piece.{Piece}
use Rattle.routine_spec.specs.Generator.{syntax_cost}
use Rattle.routine_spec.specs.Compile.{compile_code}
use Rattle.generator_laws.specs.Pieces.{IsWhole}
use Rattle.generator_laws.specs.Laws.{HasGenerators}
use Rattle.compile_routine.specs.Laws.{HasArena}
use Rattle.compile_routine.specs.Made.{FitsServices, function_built, builder_of}
use Rattle.compile_routine.specs.Ops.{compile_number}
use Rattle.icode_run_proof.specs.Ticking.{Ticks, PartAgrees}

-- ---- what is constant in a run

-- no function is begun
abbrev pub is_idle : Making → Type 0
is_idle m = m.generator.build ≡ None

-- the program of the text; where the functions that generate its ticks' code stand, and the pieces that they are of;
-- and what the function of a syntax is built of
pub record Base : Type 0 where
  pub program : staged.Program
  pub generator_at : (tick : ℕ) → ℕ
  pub pieces : (tick : ℕ) → List Piece
  pub built : Syntax → Built

abbrev pub text_of : Base → Text
text_of b = record { program = b.program.source; generator_at = b.generator_at }

abbrev pub ticks_of : Base → Ticks
ticks_of b = record { text = text_of b; kinds = b.program.kinds; tick_at = b.program.tick_at }

-- how many functions the text has, and how many ticks
abbrev pub functions_of : Base → ℕ
functions_of b = length b.program.source.functions

abbrev pub tick_count : Base → ℕ
tick_count b = length b.program.source.ticks

-- A specification of this syntax, which leaves a value or none, can be compiled: its ticks have pieces, the services
-- take the ops of its function, and these are the staged machine's; they suit each legal choice of places, and none of
-- them makes a specification or compiles. The functions of its ticks take an instruction for each node at least, and
-- 105 at most.
pub record IsCompilable (b : Base) (value : Bool) (syntax : Syntax) : Type 0 where
  pub some : 1 ≤ syntax_size b.program.source syntax
  pub small : syntax_size b.program.source syntax ≤ SIZE_LIMIT
  pub least : syntax_size b.program.source syntax ≤ syntax_cost b.pieces syntax
  pub most : syntax_cost b.pieces syntax ≤ 105 * syntax_size b.program.source syntax
  pub whole : IsWhole b.pieces (tick_count b) syntax
  pub fits : (m : Making) → is_idle m
      → FitsServices (function_built b.pieces value syntax) (syntax_size b.program.source syntax) m
  pub built : b.built syntax ≡ function_built b.pieces value syntax
  pub ops : b.program.ops_of syntax ≡ finished (builder_of (function_built b.pieces value syntax))
  pub in_range : (p : ℕ) → InRange (builder_of (function_built b.pieces value syntax)).registers
      (op_at (b.program.ops_of syntax) p)
  pub served : IsOfWords syntax → (p : ℕ) → IsServed (op_at (b.program.ops_of syntax) p)
  pub plain : (p : ℕ) → is_of_ticks (op_at (b.program.ops_of syntax) p) ≡ false

-- ---- histories

-- what a machine tells that did as meant
abbrev pub told_of : Base → Item → List Told
told_of b = told_as b.built

abbrev pub same_end : End → End
same_end e = e

-- what is seen of a staged state, retold so
abbrev pub see_told : Base → State → Seen Told End
see_told b a = retold (told_of b) same_end (see a)

-- ---- what stands in memory

-- the routines of variables stand in their blocks
pub record HasVariableRoutines (s : Setting) : Type 0 where
  pub local : HasAt s.code (routine_address (run_number run.Local)) local_code
  pub parameter : HasAt s.code (routine_address (run_number run.Parameter)) parameter_code

-- so do the routine that compiles, and the functions of the ticks
pub record HasCompiler (b : Base) (s : Setting) : Type 0 where
  pub routine : HasAt s.code (routine_address compile_number) compile_code
  pub generators : HasGenerators (text_of b) b.pieces (tick_count b) s.code

-- ---- the functions that were compiled

-- the word is in the range of a live body, and isn't its first word, which is an entry
abbrev pub is_inside : List Body → ℕ → Bool
is_inside [] k = false
is_inside (x ∷ xs) k = (x.live && (nat_lt x.first k && nat_lt k (x.first + x.count))) || is_inside xs k

-- where a body's function stands, and the function
abbrev pub body_address : Body → ℕ
body_address x = ARENA + 4 * x.first

abbrev pub function_of : Base → Body → Function
function_of b x = function_for b.program x.syntax (body_address x)

-- The function of a live body is known and published, its code stands on the machine within its range, under places of
-- its own, and none of its ops makes a specification or compiles.
pub record HasBody (b : Base) (c : Code) (s : Setting) (k : ℕ) (x : Body) : Type 0 where
  pub known : s.program.function_at (body_address x) ≡ Some (function_of b x)
  pub row : s.program.row (suc (functions_of b + k)) ≡ Some (body_address x, parameters_of x.syntax)
  pub stands : Stands c (function_of b x) (s.places_at (body_address x))
  pub within : past (body_address x) (code_of (function_of b x) (s.places_at (body_address x)))
      ≤ ARENA + 4 * (x.first + x.count)
  -- its first word, where it is entered, is inside of no body, since the ranges have no word in common
  pub some : 0 < x.count
  pub entry : is_inside s.made.bodies x.first ≡ false
  pub plain : (p : ℕ) → is_of_ticks (op_at (b.program.ops_of x.syntax) p) ≡ false

-- So is each live body's, and no other function is a compiled one: the text's, with their rows, stand below the
-- arena. A body that was freed has no row.
pub record IsPresent (b : Base) (c : Code) (s : Setting) : Type 0 where
  pub each : (k : ℕ) (x : Body) → slice_get s.made.bodies k ≡ Some x → x.live ≡ true → HasBody b c s k x
  pub gone : (k : ℕ) (x : Body) → slice_get s.made.bodies k ≡ Some x → x.live ≡ false
      → s.program.row (suc (functions_of b + k)) ≡ None
  pub known : (a : ℕ) (f : Function) → s.program.function_at a ≡ Some f → f.compiled ≡ true
      → (k : ℕ) × (x : Body) × (slice_get s.made.bodies k ≡ Some x) × (x.live ≡ true) × (a ≡ body_address x)
  pub low : (a : ℕ) (f : Function) → s.program.function_at a ≡ Some f → f.compiled ≡ false
      → past a (code_of f (s.places_at a)) ≤ ARENA
  pub rows : (n a k : ℕ) → n ≤ functions_of b → s.program.row n ≡ Some (a, k) → a < ARENA

-- The setting's code is that of the machine, of which words of the arena inside of live bodies can be executed alone:
-- so a run on it tells of no entry. It has the functions at present, and what it takes to make more.
pub record Stood (b : Base) (c : Code) (s : Setting) : Type 0 where
  pub code_is : s.code ≡ only (is_inside s.made.bodies) c
  pub standing : Standing s
  pub extends : Extends b.program s
  pub serving : Serving s
  pub routines : HasRoutines s.code
  pub variables : HasVariableRoutines s
  pub compiler : HasCompiler b s
  pub present : IsPresent b c s
  pub arena : HasArena (functions_of b) s.made s.written
  pub idle : is_idle s.making

-- ---- states

-- the tale stands where a world does on the setting's code, and told what agrees with the history
pub record StandsFor (b : Base) (c : Code) (a : State) (w : World) (t : Tale) : Type 0 where
  pub world_is : t.world ≡ record w { state = with_code c w.state }
  pub told_is : t.told ≡ flat_map (told_of b) (log_of a).shared.history

-- a call runs, or words are being set to 0, and the specifications that were made stand as closures
pub record OnWay (b : Base) (a : State) (t : Tale) : Type 0 where
  pub code : Code
  pub setting : Setting
  pub stood : Stood b code setting
  pub specifications : HasSpecifications (text_of b) setting.made setting.written
  pub world : World
  pub related : ops.Related setting a world
  pub stands : StandsFor b code a world t

-- The specification of a tick is being made.
pub record OnTick (b : Base) (draft : Draft) (w : Frame) (waiting : List Frame) (log : Log) (t : Tale) : Type 0 where
  pub code : Code
  pub setting : Setting
  pub stood : Stood b code setting
  pub agrees : PartAgrees (ticks_of b) draft setting.made setting.written
  pub d : Data
  pub holds : Holds setting w nothing None waiting log d
  pub stands : StandsFor b code (staged.Making draft w waiting log)
      (going (at setting.code (op_stands_at w.function (places_of setting w.function) w.index) 0 d)) t

-- A function is being compiled, of which so many nodes are still to do. The machine is on its way to a place before the
-- function is published: so many instructions from it, at least one and at most 512 a node, in which it doesn't end and
-- tells nothing. What is behind that is known under the condition that the choices which are still met are legal, since
-- the finish may lie on either side. It is known whatever the nodes have cost.
pub record CompilesAt (b : Base) (more : ℕ) (syntax : Syntax) (to : ℕ) (w : Frame) (waiting : List Frame) (log : Log)
    (t : Tale) : Type 0 where
  pub told_is : t.told ≡ flat_map (told_of b) log.shared.history
  pub rest : ℕ
  pub low : more ≤ rest
  pub high : rest ≤ 512 * more
  pub goes : (k : ℕ) → k ≤ rest → (iterate tell k t).world.ending ≡ None
  pub quiet : (k : ℕ) → k ≤ rest → (iterate tell k t).told ≡ t.told
  pub after : ℕ
  pub unspoiled : IsUnspoiled (rest + after) t.world
  pub least : 8 ≤ after
  pub most : after ≤ 75
  pub comes : IsFine (rest + after) t.world → (least most : ℕ)
      → OnWay b (compiled b.program syntax to w waiting (record log { least = least; most = most }))
      (iterate tell (rest + after) t)

abbrev pub LooksLike : Base → State → Tale → Type 0
LooksLike b a t = see_told b a ≡ see_tale t

abbrev pub Related : Base → State → Tale → Type 0
Related b (Running w arguments answer waiting log) t = OnWay b (Running w arguments answer waiting log) t
Related b (Zeroing more address w waiting log) t = OnWay b (Zeroing more address w waiting log) t
Related b (staged.Making draft w waiting log) t = OnTick b draft w waiting log t
Related b (Compiling more syntax to w waiting log) t = CompilesAt b more syntax to w waiting log t
Related b (Halted end log) t = LooksLike b (Halted end log) t
Related b (Stuck log) t = LooksLike b (Stuck log) t
