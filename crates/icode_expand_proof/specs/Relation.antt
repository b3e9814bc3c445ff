-- The simulation relation of the second seam: between the staged machine, with any number of calls that wait, and the
-- machine of instructions. Code and program are part of it, so that both may grow.
use Rattle.std.specs.Prelude.{◌≡◌, ◌≢◌, ℕ, ◌+◌, ◌*◌, ◌/◌, ◌%◌, ◌<◌, ◌≤◌, true, false, List, [], ◌∷◌, ◌++◌, slice_get}
use Rattle.std.specs.Prelude.{Option, Some}
use Rattle.std.specs.Prelude.{None}
use Rattle.std.specs.Fn.{iterate}
use Rattle.word32.specs.declared.map.TheConstants.{FRAMES, OBJECTS, OBJECTS_END, STACK_TOP, NEXT_HEAP_CELL}
use Rattle.word32.specs.declared.map.TheConstants.{ACTIVE_CALLS_CELL}
use Rattle.mips_model.specs.State as machine
use Rattle.mips_model.specs.State.{Code, Data, Outside, World}
use Rattle.mips_model.specs.Steps.{step, going}
use Rattle.mips_model.specs.Laws.{at}
use Rattle.history.specs.Events.{Item, Out, In, Made, Entered, End, Fault}
use Rattle.icode_ops.specs.declared.op.Op.TheVariants.{Clear}
use Rattle.meaning_state.specs.Shared.{Shared}
use Rattle.icode_meaning.specs.State.{Frame, Log, State, Running, Zeroing, Making, Compiling, Halted, Stuck, nothing}
use Rattle.icode_meaning.specs.State.{see}
use Rattle.icode_meaning.specs.State.{least_at, most_at}
use Rattle.icode_templates_proof.specs.Spots.{pointer, frame_word}
use Rattle.icode_templates_proof.specs.Moves.{behind}
use Rattle.icode_expand_proof.specs.Standing.{op_stands_at}
use Rattle.icode_expand_proof.specs.Settings.{Setting, places_of, Standing, Published}
use Rattle.icode_expand_proof.specs.Frames.{FrameAgrees, CallersWait, unwound}
use Rattle.limits.specs.declared.program.TheConstants.{MOST_ARGUMENTS}

-- a next place of the heap: a multiple of 8, and none behind the heap's end
abbrev pub IsHeapPlace : ℕ → Type 0
IsHeapPlace heap = (heap ≤ FRAMES) × (heap % 8 ≡ 0)

-- ---- histories

-- what passes between a run and the outside: of a history all but functions that are made and entered
abbrev pub passing : List Item → List Item
passing [] = []
passing (Out b ∷ items) = Out b ∷ passing items
passing (In w ∷ items) = In w ∷ passing items
passing (Made f syntax ∷ items) = passing items
passing (Entered f ∷ items) = passing items

-- all of them pass
abbrev pub AllPass : List Item → Type 0
AllPass [] = Unit {0}
AllPass (Out b ∷ items) = AllPass items
AllPass (In w ∷ items) = AllPass items
AllPass (Made f syntax ∷ items) = ⊥
AllPass (Entered f ∷ items) = ⊥

-- what passed since is the rest of the history
pub record HistoryAgrees (s : Setting) (history outside : List Item) : Type 0 where
  pub since : List Item
  pub passes : AllPass since
  pub history_is : history ≡ s.history ++ since
  pub outside_is : outside ≡ passing s.history ++ since

-- ---- what the making of specifications and functions alone writes

-- in memory: closures, their rows and the lists of what is emitted, and the cells but those of the heap's next place
-- and of the count of active calls
pub record SameWritten (d after : Data) : Type 0 where
  pub closures : after.closures ≡ d.closures
  pub spec_rows : after.spec_rows ≡ d.spec_rows
  pub emit_stack : after.emit_stack ≡ d.emit_stack
  pub cells : (n : ℕ) → n ≢ NEXT_HEAP_CELL / 4 → n ≢ ACTIVE_CALLS_CELL / 4 → after.cells n ≡ d.cells n

-- and of what is shared
pub record SameMade (shared after : Shared) : Type 0 where
  pub specifications : after.specifications ≡ shared.specifications
  pub closures : after.closures ≡ shared.closures
  pub bodies : after.bodies ≡ shared.bodies

-- what the services that make code have left
pub record HasLeft (s : Setting) (o : Outside) : Type 0 where
  pub making : o.making ≡ s.making
  pub flushes : o.flushes ≡ s.flushes

-- What outlives a call and is in no register agrees: the events, the input and whether its end was read, the objects,
-- the cells, and the function table; and the services that make code have left what they had.
pub record MemoryAgrees (s : Setting) (shared : Shared) (active : ℕ) (d : Data) : Type 0 where
  pub history : HistoryAgrees s shared.history d.outside.history
  pub input : d.outside.input ≡ shared.input
  pub at_end : d.outside.at_end ≡ true → (shared.input.bytes ≡ []) × (shared.input.failing ≡ false)
  pub objects : d.objects ≡ shared.objects
  pub object_words : (n : ℕ) → shared.objects n < 4294967296
  pub heap : d.cells (NEXT_HEAP_CELL / 4) ≡ shared.heap
  pub heap_place : IsHeapPlace shared.heap
  pub active_calls : d.cells (ACTIVE_CALLS_CELL / 4) ≡ active
  pub active_word : active < 4294967296
  pub table : Published s.program d.table
  pub making : HasLeft s d.outside
  pub written : SameWritten s.written d
  pub made : SameMade s.made shared

-- and so do the ends of the stack, at $sp, and of the frame objects, at $fp
pub record ExtentsAgree (shared : Shared) (d : Data) : Type 0 where
  pub used : pointer d + shared.used ≡ STACK_TOP
  pub frames : d.registers 30 ≡ FRAMES + shared.frames

-- the arguments that the next op finds, at the stack pointer
pub record ArgumentsAgree (arguments : ℕ → Option ℕ) (d : Data) : Type 0 where
  pub known : (k x : ℕ) → arguments k ≡ Some x → (x < 4294967296) × (k < MOST_ARGUMENTS)
  pub stand : (k x : ℕ) → arguments k ≡ Some x → frame_word d (4 * k) ≡ x

-- and the answer, in $v0
abbrev pub AnswerAgrees : Option ℕ → Data → Type 0
AnswerAgrees None d = Unit {0}
AnswerAgrees (Some x) d = (d.registers 2 ≡ x) × (x < 4294967296)

-- the data hold the running call, what was passed and answered, and the calls that wait
pub record Holds (s : Setting) (w : Frame) (arguments : ℕ → Option ℕ) (answer : Option ℕ) (waiting : List Frame)
    (log : Log) (d : Data) : Type 0 where
  pub known : s.program.function_at w.function.address ≡ Some w.function
  pub ready : FrameAgrees s w d
  pub memory : MemoryAgrees s log.shared log.active d
  pub extents : ExtentsAgree log.shared d
  pub passed : ArgumentsAgree arguments d
  pub answered : AnswerAgrees answer d
  pub waits : CallersWait s waiting (unwound w.function (places_of s w.function) d) (frame_word d 80)

-- the world stands at the running call's next op
pub record StandsAt (s : Setting) (w : Frame) (arguments : ℕ → Option ℕ) (answer : Option ℕ) (waiting : List Frame)
    (log : Log) (b : World) : Type 0 where
  pub d : Data
  pub holds : Holds s w arguments answer waiting log d
  pub recent : ℕ
  pub few : recent ≤ 1
  pub is : b ≡ going (behind s.code (op_stands_at w.function (places_of s w.function) w.index) recent d)

-- The world stands at the loop of a Clear, behind its two addresses: $t8 has that of the word that is set to 0 next,
-- and $t9 that of the end.
pub record ZeroesAt (s : Setting) (more address : ℕ) (w : Frame) (waiting : List Frame) (log : Log) (b : World) : Type
    0 where
  pub d : Data
  pub holds : Holds s w nothing None waiting log d
  pub offset : ℕ
  pub words : ℕ
  pub op : slice_get w.function.ops w.index ≡ Some (Clear offset words)
  pub next : d.registers 24 ≡ address
  pub end : d.registers 25 ≡ address + 4 * more + 4
  pub from : OBJECTS ≤ address
  pub to : address + 4 * more + 4 ≤ OBJECTS_END
  pub even : address % 4 ≡ 0
  pub is : b ≡ going (at s.code (op_stands_at w.function (places_of s w.function) w.index + 24) 0 d)

-- no fault of the machine
abbrev pub IsFair : Option End → Type 0
IsFair (Some (Fault kind at)) = ⊥
IsFair e = Unit {0}

-- both have ended alike, and by no fault, the history agrees, the code is the setting's, and no code was made
pub record LooksLike (s : Setting) (a : State) (b : World) : Type 0 where
  pub ending : (see a).ending ≡ b.ending
  pub history : HistoryAgrees s (see a).history b.state.d.outside.history
  pub code : b.state.code ≡ s.code
  pub making : HasLeft s b.state.d.outside
  pub fair : IsFair (see a).ending

-- the setting, with code and program, and the staged state are related to the world
abbrev pub Related : Setting → State → World → Type 0
Related s (Running w arguments answer waiting log) b = Standing s × StandsAt s w arguments answer waiting log b
Related s (Zeroing more address w waiting log) b = Standing s × ZeroesAt s more address w waiting log b
-- what makes a specification or a function is no op of these
Related s (Making draft w waiting log) b = ⊥
Related s (Compiling more syntax to w waiting log) b = ⊥
Related s (Halted end log) b = LooksLike s (Halted end log) b
Related s (Stuck log) b = LooksLike s (Stuck log) b

-- what the machine does from a state and a log to a staged state, within what that has paid
pub record Pays (s : Setting) (a : State) (log : Log) (from : machine.State) : Type 0 where
  pub count : ℕ
  pub low : least_at a ≤ log.least + count
  pub high : log.most + count ≤ most_at a
  pub related : Related s a (iterate step count (going from))
