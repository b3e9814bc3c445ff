-- The state of the machine between two instructions: the control of the MIPS R2000 (which instruction is next, and what
-- the last ones forbid it), the words that can be executed, and apart from both what the instructions work on. Memory
-- is that of this project's own map, a function from word numbers (an address over 4) to words for each region.
use Rattle.std.specs.Prelude.{ℕ, Bool, List, Option, nat_eq, if◌then◌else◌}
use Rattle.word32.specs.Space.{update}
use Rattle.code_arena.specs.Arena.{Arena}
use Rattle.history.specs.Events.{Item, End, Input}
use Rattle.icode_ir.specs.declared.build_op.BuildOp.{BuildOp}
use Rattle.mips_model.specs.Choices.{Choice}
use Rattle.mips_model.specs.CodeServices.{Generator}

-- what can be executed: the image's text, by word number, and the arena of compiled code
pub record Code : Type 0 where
  pub text : ℕ → Option ℕ
  pub arena : Arena

-- what a function was built of: its parameters, and the ops that were issued since it was begun, in their order
pub record Built : Type 0 where
  pub parameters : ℕ
  pub ops : List BuildOp

-- a function was finished, and its words stand from this address on
pub record Finish : Type 0 where
  pub at : ℕ
  pub built : Built

-- What the services that make code have left, beside the arena and the table: the generator; what the function that was
-- begun last is built of; the finishes, the newest first; the choices of places that are still to come; and how many
-- ops were built, functions published and words written.
pub record Making : Type 0 where
  pub generator : Generator
  pub issued : Built
  pub finishes : List Finish
  pub row : List Choice
  pub ops : ℕ
  pub functions : ℕ
  pub words : ℕ

-- what passed between the run and the outside: the input that is left and whether its end was read, the events so
-- far, and how often the flush service was called
pub record Outside : Type 0 where
  pub input : Input
  pub at_end : Bool
  pub history : List Item
  pub flushes : ℕ
  pub making : Making

-- what instructions work on; the table has the address and the count of parameters of each function
pub record Data : Type 0 where
  pub registers : ℕ → ℕ
  pub hi : ℕ
  pub lo : ℕ
  pub objects : ℕ → ℕ
  pub closures : ℕ → ℕ
  pub spec_rows : ℕ → ℕ
  pub cells : ℕ → ℕ
  pub emit_stack : ℕ → ℕ
  pub stack : ℕ → ℕ
  pub table : ℕ → ℕ × ℕ
  pub outside : Outside

-- The address of the next instruction, and of the one after it; the register that the last instruction loaded, or 0;
-- for how many more instructions HI and LO must not be set; whether the next instruction stands in a delay slot. An
-- instruction is executed in the text or the arena only, so the address after it needs no wrap.
pub record State : Type 0 where
  pub pc : ℕ
  pub next : ℕ
  pub loaded : ℕ
  pub recent : ℕ
  pub slot : Bool
  pub code : Code
  pub d : Data

-- a state, and how the run ended in it, if it has
pub record World : Type 0 where
  pub state : State
  pub ending : Option End

-- a register's value; register 0 reads as 0 and is never written
abbrev pub read_register : ℕ → (ℕ → ℕ) → ℕ
read_register r registers = if nat_eq r 0 then 0 else registers r

abbrev pub write_register : ℕ → ℕ → (ℕ → ℕ) → ℕ → ℕ
write_register r v registers = if nat_eq r 0 then registers else update r v registers

abbrev pub register : ℕ → Data → ℕ
register r d = read_register r d.registers

abbrev pub set_register : ℕ → ℕ → Data → Data
set_register r v d = record d { registers = write_register r v d.registers }
