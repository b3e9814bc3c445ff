-- The line of an instruction in the text of an image: its name, a blank, and its operands in the order of the
-- instruction table, with commas between them. Registers stand by their numbers, a number has a sign where its field
-- has one, and a jump names the address of its target. The form is this project's own.
use Rattle.std.specs.Prelude.{ℕ, ◌*◌, List, ◌++◌, codes}
use Rattle.mips_encoder.specs.declared.instruction.Instr.{Instr}
use Rattle.mips_encoder.specs.declared.instruction.Instr.TheVariants as i
use Rattle.mips_encoder.specs.declared.instruction.ImmediateOp.{ImmediateOp}
use Rattle.mips_encoder.specs.declared.instruction.ImmediateOp.TheVariants.{Addi, Addiu, Slti, Sltiu, Andi, Ori, Xori}
use Rattle.asm_print.specs.declared.operand.Operand.{Operand}
use Rattle.asm_print.specs.declared.operand.Operand.TheVariants.{Numbered, Signed, Unsigned, Address}
use Rattle.asm_print.specs.Numbers.{operand_text}
use Rattle.asm_print.specs.Names.{
  arithmetic_name,
  shift_name,
  shift_variable_name,
  move_from_name,
  move_to_name,
  multiply_divide_name,
  sign_name,
  sign_and_link_name,
  jump_name,
  equality_name,
  zero_comparison_name,
  immediate_name,
  memory_name,
}

-- a line with one operand, with two and with three
abbrev pub one : List ℕ → Operand → List ℕ
one name a = name ++ codes " " ++ operand_text a ++ codes "\n"

abbrev pub two : List ℕ → Operand → Operand → List ℕ
two name a b = name ++ codes " " ++ operand_text a ++ codes "," ++ operand_text b ++ codes "\n"

abbrev pub three : List ℕ → Operand → Operand → Operand → List ℕ
three name a b c =
    name ++ codes " " ++ operand_text a ++ codes "," ++ operand_text b ++ codes "," ++ operand_text c ++ codes "\n"

-- a line with a register, an offset and a base register in parentheses
abbrev pub based : List ℕ → Operand → Operand → Operand → List ℕ
based name a offset base =
    name ++ codes " " ++ operand_text a ++ codes "," ++ operand_text offset
    ++ codes "(" ++ operand_text base ++ codes ")\n"

-- the immediate of an operation: with a sign for sums and comparisons, without one for bitwise operations
abbrev pub immediate_operand : ImmediateOp → ℕ → Operand
immediate_operand Addi n = Signed n
immediate_operand Addiu n = Signed n
immediate_operand Slti n = Signed n
immediate_operand Sltiu n = Signed n
immediate_operand Andi n = Unsigned n
immediate_operand Ori n = Unsigned n
immediate_operand Xori n = Unsigned n

-- the line of an instruction
abbrev pub spelled : Instr → List ℕ
spelled (i.Arithmetic op rd rs rt) = three (arithmetic_name op) (Numbered rd) (Numbered rs) (Numbered rt)
spelled (i.Shift op rd rt shamt) = three (shift_name op) (Numbered rd) (Numbered rt) (Unsigned shamt)
spelled (i.ShiftVariable op rd rt rs) = three (shift_variable_name op) (Numbered rd) (Numbered rt) (Numbered rs)
spelled (i.JumpRegister rs) = one (codes "jr") (Numbered rs)
spelled (i.JumpAndLinkRegister p) = two (codes "jalr") (Numbered p.rd) (Numbered p.rs)
spelled i.Syscall = codes "syscall\n"
spelled (i.Break code) = one (codes "break") (Unsigned code)
spelled (i.MoveFrom source rd) = one (move_from_name source) (Numbered rd)
spelled (i.MoveTo target rs) = one (move_to_name target) (Numbered rs)
spelled (i.MultiplyDivide op rs rt) = two (multiply_divide_name op) (Numbered rs) (Numbered rt)
spelled (i.BranchOnSign test rs offset) = two (sign_name test) (Numbered rs) (Signed offset)
spelled (i.BranchOnSignAndLink test rs offset) = two (sign_and_link_name test) (Numbered rs) (Signed offset)
spelled (i.Jump op target) = one (jump_name op) (Address (4 * target))
spelled (i.BranchOnEquality op rs rt offset) = three (equality_name op) (Numbered rs) (Numbered rt) (Signed offset)
spelled (i.BranchOnZero op rs offset) = two (zero_comparison_name op) (Numbered rs) (Signed offset)
spelled (i.ImmediateArithmetic op rt rs imm) =
    three (immediate_name op) (Numbered rt) (Numbered rs) (immediate_operand op imm)
spelled (i.LoadUpperImmediate rt imm) = two (codes "lui") (Numbered rt) (Unsigned imm)
spelled (i.Memory op rt offset rs) = based (memory_name op) (Numbered rt) (Signed offset) (Numbered rs)
