-- Steps of the second seam: what the machine does with the words of an op is what the staged machine does with the op,
-- and each op pays for the instructions that are executed for it.
use Rattle.std.specs.Prelude.{◌≡◌, ℕ, ◌+◌, ◌≤◌, true, false, List, length, Option, Some, slice_get}
use Rattle.std.specs.Fn.{iterate}
use Rattle.word32.specs.declared.map.TheConstants.{GLOBAL_POINTER, STACK_BYTES}
use Rattle.mips_model.specs.State.{Data, World}
use Rattle.mips_model.specs.Steps.{step, going}
use Rattle.mips_model.specs.Laws.{at}
use Rattle.meaning_state.specs.Shared.{Shared}
use Rattle.icode_ops.specs.declared.op.Op.{Op}
use Rattle.icode_ops.specs.declared.op.Op.TheVariants.{Call, Return}
use Rattle.icode_meaning.specs.State.{Function, Program, Frame, Log}
use Rattle.icode_meaning.specs.Steps.{uses_on, call_at, back, left, paid, checked, zeroed_on, word_zeroed, first}
use Rattle.icode_templates_proof.specs.Moves.{behind}
use Rattle.icode_expand_proof.specs.Standing.{op_stands_at}
use Rattle.icode_expand_proof.specs.Settings.{Setting, places_of, Standing, Extends, HasRows}
use Rattle.icode_expand_proof.specs.Relation.{MemoryAgrees, ExtentsAgree, Holds, ZeroesAt, Related, Pays}
use Rattle.icode_expand_proof.specs.Served.{Serving, is_of_ticks, calls_body}
use Rattle.limits.specs.declared.program.TheConstants.{FRAME_OBJECT_BYTES}

-- A call and a return lead from a related state to a related state, within the cost of their ops, under all legal
-- places of both functions: with the callee's prologue and the limits, and with the caller's registers restored.
abbrev pub CallsPay : Type 0
CallsPay =
    (text : Program) (s : Setting) → Standing s → Extends text s
    → (w : Frame) (arguments : ℕ → Option ℕ) (answer : Option ℕ) (waiting : List Frame) (log : Log) (d : Data)
    (address : ℕ)
    → slice_get w.function.ops w.index ≡ Some (Call address)
    → Holds s w arguments answer waiting log d
    → Pays s (call_at (Call address) (text.function_at address) w arguments waiting log) log
    (at s.code (op_stands_at w.function (places_of s w.function) w.index) 0 d)

abbrev pub ReturnsPay : Type 0
ReturnsPay =
    (s : Setting) → Standing s
    → (w : Frame) (arguments : ℕ → Option ℕ) (answer : Option ℕ) (waiting : List Frame) (log : Log) (d : Data)
    (from : ℕ)
    → slice_get w.function.ops w.index ≡ Some (Return from) → uses_on (Return from) w.on ≡ true
    → Holds s w arguments answer waiting log d
    → Pays s (back (w.values from) waiting (left w.function (paid (Return from) log))) log
    (at s.code (op_stands_at w.function (places_of s w.function) w.index) 0 d)

-- A run has come to main's first word in n instructions, the start waits with its exit, no call is charged, and main is
-- within the limits.
pub record Arrives (s : Setting) (main : Function) (shared : Shared) (n : ℕ) (w : World) : Type 0 where
  pub d : Data
  pub arrives : iterate step n w ≡ going (at s.code main.address 0 d)
  pub known : s.program.function_at main.address ≡ Some main
  pub returns_to : d.registers 31 ≡ s.exit
  pub global : d.registers 28 ≡ GLOBAL_POINTER
  pub memory : MemoryAgrees s shared 0 d
  pub extents : ExtentsAgree shared d
  pub unused : shared.used ≡ 0
  pub none : shared.frames ≡ 0
  pub fits : main.charge ≤ STACK_BYTES
  pub static : main.compiled ≡ false
  pub objects_fit : main.object ≤ FRAME_OBJECT_BYTES

-- Each op of a running call, in a function of the text or in one that was compiled, leads from a related state to a
-- related state, within its cost, where HI and LO may have been read just before it: but for those of ticks, and the
-- call of a function that was compiled, of which a run tells that it is entered.
abbrev pub OpsPay : Type 0
OpsPay =
    (text : Program) (s : Setting) → Standing s → Extends text s → Serving s
    → HasRows (length text.source.functions) s
    → (w : Frame) (arguments : ℕ → Option ℕ) (answer : Option ℕ) (waiting : List Frame) (log : Log) (d : Data)
    → Holds s w arguments answer waiting log d → (recent : ℕ) → recent ≤ 1
    → (o : Op) → slice_get w.function.ops w.index ≡ Some o → is_of_ticks o ≡ false
    → calls_body (length text.source.functions) log.shared.bodies o w ≡ false
    → Pays s (checked text (Some o) w arguments answer waiting log) log
    (behind s.code (op_stands_at w.function (places_of s w.function) w.index) recent d)

-- and so does each word that a Clear sets to 0
abbrev pub WordsPay : Type 0
WordsPay =
    (s : Setting) → Standing s → (more address : ℕ) (w : Frame) (waiting : List Frame) (log : Log) (b : World)
    → (z : ZeroesAt s more address w waiting log b)
    → Pays s (zeroed_on more address w waiting (word_zeroed address log)) log
    (at s.code (op_stands_at w.function (places_of s w.function) w.index + 24) 0 z.d)

-- From main's first word on the machine comes to main's first op.
abbrev pub MainBegins : Type 0
MainBegins =
    (s : Setting) (main : Function) (shared : Shared) (n : ℕ) (w : World)
    → Standing s → Arrives s main shared n w
    → (count : ℕ) × (n + 9 ≤ count) × (count ≤ n + 32) × Related s (first main shared) (iterate step count w)
