-- The numbers of the operations, as the MIPS R2000 architecture manual gives them: the opcode of an instruction with an
-- opcode of its own,
-- the function field of one with opcode 0 (SPECIAL), and the field rt of one with opcode 1 (REGIMM).
use Rattle.std.specs.Prelude.{ℕ}
use Rattle.mips_encoder.specs.declared.instruction.ArithmeticOp.{ArithmeticOp}
use Rattle.mips_encoder.specs.declared.instruction.ArithmeticOp.TheVariants.{Add, Addu, Sub, Subu, And, Or, Xor, Nor}
use Rattle.mips_encoder.specs.declared.instruction.ArithmeticOp.TheVariants.{Slt, Sltu}
use Rattle.mips_encoder.specs.declared.instruction.ShiftOp.{ShiftOp}
use Rattle.mips_encoder.specs.declared.instruction.ShiftOp.TheVariants.{Sll, Srl, Sra}
use Rattle.mips_encoder.specs.declared.instruction.ShiftVariableOp.{ShiftVariableOp}
use Rattle.mips_encoder.specs.declared.instruction.ShiftVariableOp.TheVariants.{Sllv, Srlv, Srav}
use Rattle.mips_encoder.specs.declared.instruction.HiLo.{HiLo}
use Rattle.mips_encoder.specs.declared.instruction.HiLo.TheVariants.{Hi, Lo}
use Rattle.mips_encoder.specs.declared.instruction.MultiplyDivideOp.{MultiplyDivideOp}
use Rattle.mips_encoder.specs.declared.instruction.MultiplyDivideOp.TheVariants.{Mult, Multu, Div, Divu}
use Rattle.mips_encoder.specs.declared.instruction.SignTest.{SignTest}
use Rattle.mips_encoder.specs.declared.instruction.SignTest.TheVariants.{Negative, NonNegative}
use Rattle.mips_encoder.specs.declared.instruction.JumpOp.{JumpOp}
use Rattle.mips_encoder.specs.declared.instruction.JumpOp.TheVariants.{J, Jal}
use Rattle.mips_encoder.specs.declared.instruction.EqualityOp.{EqualityOp}
use Rattle.mips_encoder.specs.declared.instruction.EqualityOp.TheVariants.{Beq, Bne}
use Rattle.mips_encoder.specs.declared.instruction.ZeroComparisonOp.{ZeroComparisonOp}
use Rattle.mips_encoder.specs.declared.instruction.ZeroComparisonOp.TheVariants.{Blez, Bgtz}
use Rattle.mips_encoder.specs.declared.instruction.ImmediateOp.{ImmediateOp}
use Rattle.mips_encoder.specs.declared.instruction.ImmediateOp.TheVariants.{Addi, Addiu, Slti, Sltiu, Andi, Ori, Xori}
use Rattle.mips_encoder.specs.declared.instruction.MemoryOp.{MemoryOp}
use Rattle.mips_encoder.specs.declared.instruction.MemoryOp.TheVariants.{Lb, Lh, Lw, Lbu, Lhu, Sb, Sh, Sw}

abbrev pub arithmetic_code : ArithmeticOp → ℕ
arithmetic_code Add = 32
arithmetic_code Addu = 33
arithmetic_code Sub = 34
arithmetic_code Subu = 35
arithmetic_code And = 36
arithmetic_code Or = 37
arithmetic_code Xor = 38
arithmetic_code Nor = 39
arithmetic_code Slt = 42
arithmetic_code Sltu = 43

abbrev pub shift_code : ShiftOp → ℕ
shift_code Sll = 0
shift_code Srl = 2
shift_code Sra = 3

abbrev pub shift_variable_code : ShiftVariableOp → ℕ
shift_variable_code Sllv = 4
shift_variable_code Srlv = 6
shift_variable_code Srav = 7

abbrev pub move_from_code : HiLo → ℕ
move_from_code Hi = 16
move_from_code Lo = 18

abbrev pub move_to_code : HiLo → ℕ
move_to_code Hi = 17
move_to_code Lo = 19

abbrev pub multiply_divide_code : MultiplyDivideOp → ℕ
multiply_divide_code Mult = 24
multiply_divide_code Multu = 25
multiply_divide_code Div = 26
multiply_divide_code Divu = 27

abbrev pub sign_code : SignTest → ℕ
sign_code Negative = 0
sign_code NonNegative = 1

abbrev pub jump_code : JumpOp → ℕ
jump_code J = 2
jump_code Jal = 3

abbrev pub equality_code : EqualityOp → ℕ
equality_code Beq = 4
equality_code Bne = 5

abbrev pub zero_comparison_code : ZeroComparisonOp → ℕ
zero_comparison_code Blez = 6
zero_comparison_code Bgtz = 7

abbrev pub immediate_code : ImmediateOp → ℕ
immediate_code Addi = 8
immediate_code Addiu = 9
immediate_code Slti = 10
immediate_code Sltiu = 11
immediate_code Andi = 12
immediate_code Ori = 13
immediate_code Xori = 14

abbrev pub memory_code : MemoryOp → ℕ
memory_code Lb = 32
memory_code Lh = 33
memory_code Lw = 35
memory_code Lbu = 36
memory_code Lhu = 37
memory_code Sb = 40
memory_code Sh = 41
memory_code Sw = 43
