-- What is promised of the lowering: the builder takes all of it, and the staged machine runs what comes of it as the
-- tree means, at a cost of 512 instructions for a unit of work. The expansion of these ops keeps to the same costs, so
-- both facts together give the headline's pace. These are the project's own.
use Rattle.std.specs.Prelude.{◌≡◌, ℕ, ◌+◌, ◌*◌, ◌%◌, ◌≤◌, [], List, length, slice_get}
use Rattle.std.specs.Prelude.{Option, Some, None}
use Rattle.std.specs.Fn.{iterate}
use Rattle.pace.specs.Claims.{FollowsAtCost}
use Rattle.history.specs.Events.{Input}
use Rattle.icode_ops.specs.declared.op.Op.{Op}
use Rattle.icode_ops.specs.Finished.{IsFinished}
use Rattle.icode_ir.specs.Build.{empty, finished}
use Rattle.icode_ir.specs.Runs.{run_ops, AreTaken}
use Rattle.typed_tree.specs.declared.expression.CaptureKind.{CaptureKind}
use Rattle.typed_tree.specs.Nodes as node
use Rattle.staged_meaning.specs.Size.{size_of, charge_of}
use Rattle.staged_meaning.specs.Scope.{IsReady, IsReadyIn, IsReadyTickAt}
use Rattle.staged_meaning.specs.Program.{tick_size}
use Rattle.staged_meaning.specs.Meaning as meaning
use Rattle.staged_meaning.specs.Meaning.{at_start, meant}
use Rattle.meaning_state.specs.Rows.{numbered}
use Rattle.icode_meaning.specs.State.{Function, Program, State, log_of, see, least_at, most_at}
use Rattle.icode_meaning.specs.Steps.{advance, first}
use Rattle.history.specs.Syntax.{Syntax}
use Rattle.tick_lower_spec.specs.Lower.{Addresses, function_ops}
use Rattle.tick_lower_spec.specs.Generated.{generated_code, AreGenerated}
use Rattle.limits.specs.declared.program.TheConstants.{SIZE_LIMIT}
use Rattle.limits.specs.declared.cost.TheConstants.{START_OPS_INSTRUCTIONS, UNIT_INSTRUCTIONS}

-- the ops of a function: what a builder hands out that took its lowering and was finished
abbrev pub code_of : Addresses → node.Function → List Op
code_of addresses function = finished (run_ops (function_ops addresses function) (empty function.parameters))

-- a builder that was begun takes each op, and then has no operand and no body left, so it can be finished
pub record IsAccepted (addresses : Addresses) (function : node.Function) : Type 0 where
  pub taken : AreTaken (function_ops addresses function) (empty function.parameters)
  pub no_operands : (run_ops (function_ops addresses function) (empty function.parameters)).operands ≡ []
  pub no_bodies : (run_ops (function_ops addresses function) (empty function.parameters)).bodies ≡ []

abbrev pub LoweringIsAccepted : Type 0
LoweringIsAccepted = (addresses : Addresses) (function : node.Function) → IsReady function →
    IsAccepted addresses function

-- how many registers the ops have
abbrev pub registers_of : Addresses → node.Function → ℕ
registers_of addresses function = (run_ops (function_ops addresses function) (empty function.parameters)).registers

-- The ops are a finished list, of twelve ops a node at most besides the last return, and of twelve registers a node. So
-- a frame of 128 bytes and 48 a node has a word for each register.
pub record IsSmall (addresses : Addresses) (function : node.Function) : Type 0 where
  pub finished : IsFinished (code_of addresses function) (registers_of addresses function)
  pub few_ops : length (code_of addresses function) ≤ 12 * size_of function + 1
  pub few_registers : registers_of addresses function ≤ 12 * size_of function

abbrev pub LoweringIsSmall : Type 0
LoweringIsSmall = (addresses : Addresses) (function : node.Function) → IsReady function → IsSmall addresses function

-- the staged machine's function for a function of the text
pub record Stands (addresses : Addresses) (function : node.Function) (main : Function) : Type 0 where
  pub ops : main.ops ≡ code_of addresses function
  pub charge : main.charge ≡ charge_of (size_of function)
  pub object : main.object ≡ function.object

-- the staged machine has a function of the text at its address
pub record HasAt (machine : Program) (addresses : Addresses) (number : ℕ) (function : node.Function) : Type 0 where
  pub has : Function
  pub is : machine.function_at (addresses.function_at number) ≡ Some has
  pub stands : Stands addresses function has

-- the row of a number: the address of the function that has it, and how many parameters it has
abbrev pub row_for : (address : ℕ) → Option node.Function → Option (ℕ × ℕ)
row_for address None = None
row_for address (Some function) = Some (address, function.parameters)

-- The staged machine has each of these functions at its address, and a row for it; it has no row else. The frame
-- objects of all its functions are whole words.
pub record HasFunctions (machine : Program) (addresses : Addresses) (functions : List node.Function) : Type 0 where
  pub at : (number : ℕ) (function : node.Function) → numbered number functions ≡ Some function →
      HasAt machine addresses number function
  pub rows : (number : ℕ) → machine.row number ≡ row_for (addresses.function_at number) (numbered number functions)
  pub source : machine.source.functions ≡ functions
  pub whole : (address : ℕ) (f : Function) → machine.function_at address ≡ Some f → f.object % 4 ≡ 0

-- The machine has the program, whose ticks capture this: it tells sizes by it, it knows the kinds of each tick's
-- captures, and which tick's code the function at an address generates; and what it compiles has the generated code.
pub record HasProgram (machine : Program) (addresses : Addresses) (program : meaning.Program)
    (ticks : List (List CaptureKind)) : Type 0 where
  pub source : machine.source ≡ program
  pub ticks_are : addresses.ticks ≡ program.ticks
  pub kinds : (tick : ℕ) (kinds : List CaptureKind) → slice_get ticks tick ≡ Some kinds → machine.kinds tick ≡ kinds
  pub generators : (tick : ℕ) (kinds : List CaptureKind) → slice_get ticks tick ≡ Some kinds →
      machine.tick_at (addresses.generator_at tick) ≡ Some tick
  pub compiled : (syntax : Syntax) → machine.ops_of syntax ≡ generated_code addresses syntax

-- A program of functions and ticks that are ready, where the ticks capture this. Its main has no parameters, and no
-- tick is larger than a function may be or has more captures.
pub record AreReady (ticks : List (List CaptureKind)) (program : meaning.Program) : Type 0 where
  pub main : IsReadyIn program.functions ticks program.main
  pub no_parameters : program.main.parameters ≡ 0
  pub functions : (number : ℕ) (function : node.Function) → numbered number program.functions ≡ Some function →
      IsReadyIn program.functions ticks function
  pub bodies : (tick : ℕ) (kinds : List CaptureKind) → slice_get ticks tick ≡ Some kinds →
      IsReadyTickAt program.functions ticks kinds (slice_get program.ticks tick)
  pub sizes : (tick : ℕ) → tick_size (slice_get program.ticks tick) ≤ SIZE_LIMIT
  pub captures : (tick : ℕ) (kinds : List CaptureKind) → slice_get ticks tick ≡ Some kinds →
      length kinds ≤ SIZE_LIMIT

-- the state after so many ops
abbrev pub state_at : Program → meaning.Program → Input → Function → ℕ → State
state_at machine program input main i = iterate (advance machine) i (first main (at_start program input))

-- each function that the run compiles is of a specification whose code is generated
abbrev pub CompilesGenerated : Program → Addresses → meaning.Program → List (List CaptureKind) → Input → Function → Type 0
CompilesGenerated machine addresses program ticks input main =
    (i : ℕ) → AreGenerated addresses ticks (log_of (state_at machine program input main i)).shared.bodies

-- the machine's history and ending are the meaning's, and its two clocks lie round the units
abbrev pub LoweringFollows : Type 0
LoweringFollows =
    (machine : Program) (addresses : Addresses) (program : meaning.Program) (ticks : List (List CaptureKind))
    (input : Input) (main : Function) → AreReady ticks program → Stands addresses program.main main →
    HasFunctions machine addresses program.functions → HasProgram machine addresses program ticks →
    CompilesGenerated machine addresses program ticks input main →
    FollowsAtCost UNIT_INSTRUCTIONS START_OPS_INSTRUCTIONS (meant program input)
    (λ i. see (state_at machine program input main i))
    (λ i. least_at (state_at machine program input main i)) (λ i. most_at (state_at machine program input main i))
