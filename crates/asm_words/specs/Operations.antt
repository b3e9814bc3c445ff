-- The names of operations in assembly text, both ways: those of the MIPS R2000 architecture manual in lower case, and
-- `nop` for the word 0.
use Rattle.std.specs.Prelude.{ℕ, if◌then◌else◌, List, [], ◌∷◌, Option, Some, None, codes}
use Rattle.std.specs.Str.{bytes_eq}
use Rattle.asm_words.specs.declared.operation.Operation.{Operation}
use Rattle.asm_words.specs.declared.operation.Operation.TheVariants as i
use Rattle.asm_words.specs.declared.operation.TheConstants.{OPERATIONS}
use Rattle.asm_print.specs.Names.{
  arithmetic_name,
  shift_name,
  shift_variable_name,
  move_from_name,
  move_to_name,
  multiply_divide_name,
  sign_name,
  sign_and_link_name,
  jump_name,
  equality_name,
  zero_comparison_name,
  immediate_name,
  memory_name,
}

-- The name of an operation.
abbrev pub operation_name : Operation → List ℕ
operation_name (i.Arithmetic op) = arithmetic_name op
operation_name (i.Shift op) = shift_name op
operation_name (i.ShiftVariable op) = shift_variable_name op
operation_name i.JumpRegister = codes "jr"
operation_name i.JumpAndLinkRegister = codes "jalr"
operation_name i.Syscall = codes "syscall"
operation_name i.Break = codes "break"
operation_name (i.MoveFrom op) = move_from_name op
operation_name (i.MoveTo op) = move_to_name op
operation_name (i.MultiplyDivide op) = multiply_divide_name op
operation_name (i.BranchOnSign op) = sign_name op
operation_name (i.BranchOnSignAndLink op) = sign_and_link_name op
operation_name (i.Jump op) = jump_name op
operation_name (i.BranchOnEquality op) = equality_name op
operation_name (i.BranchOnZero op) = zero_comparison_name op
operation_name (i.ImmediateArithmetic op) = immediate_name op
operation_name i.LoadUpperImmediate = codes "lui"
operation_name (i.Memory op) = memory_name op
operation_name i.NoOperation = codes "nop"

-- The first of these operations whose name a word is.
abbrev pub named : List Operation → List ℕ → Option Operation
named [] w = None
named (op ∷ ops) w = if bytes_eq w (operation_name op) then Some op else named ops w

-- The operation that a word names.
unfoldable pub operation_of : List ℕ → Option Operation
operation_of = named OPERATIONS
