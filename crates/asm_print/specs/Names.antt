-- The names of operations in assembly text: the names of the MIPS R2000 architecture manual in lower case.
use Rattle.std.specs.Prelude.{ℕ, List, codes}
use Rattle.mips_encoder.specs.declared.instruction.ArithmeticOp.{ArithmeticOp}
use Rattle.mips_encoder.specs.declared.instruction.ArithmeticOp.TheVariants.{Add, Addu, Sub, Subu, And, Or, Xor, Nor}
use Rattle.mips_encoder.specs.declared.instruction.ArithmeticOp.TheVariants.{Slt, Sltu}
use Rattle.mips_encoder.specs.declared.instruction.ShiftOp.{ShiftOp}
use Rattle.mips_encoder.specs.declared.instruction.ShiftOp.TheVariants.{Sll, Srl, Sra}
use Rattle.mips_encoder.specs.declared.instruction.ShiftVariableOp.{ShiftVariableOp}
use Rattle.mips_encoder.specs.declared.instruction.ShiftVariableOp.TheVariants.{Sllv, Srlv, Srav}
use Rattle.mips_encoder.specs.declared.instruction.HiLo.{HiLo}
use Rattle.mips_encoder.specs.declared.instruction.HiLo.TheVariants.{Hi, Lo}
use Rattle.mips_encoder.specs.declared.instruction.MultiplyDivideOp.{MultiplyDivideOp}
use Rattle.mips_encoder.specs.declared.instruction.MultiplyDivideOp.TheVariants.{Mult, Multu, Div, Divu}
use Rattle.mips_encoder.specs.declared.instruction.SignTest.{SignTest}
use Rattle.mips_encoder.specs.declared.instruction.SignTest.TheVariants.{Negative, NonNegative}
use Rattle.mips_encoder.specs.declared.instruction.JumpOp.{JumpOp}
use Rattle.mips_encoder.specs.declared.instruction.JumpOp.TheVariants.{J, Jal}
use Rattle.mips_encoder.specs.declared.instruction.EqualityOp.{EqualityOp}
use Rattle.mips_encoder.specs.declared.instruction.EqualityOp.TheVariants.{Beq, Bne}
use Rattle.mips_encoder.specs.declared.instruction.ZeroComparisonOp.{ZeroComparisonOp}
use Rattle.mips_encoder.specs.declared.instruction.ZeroComparisonOp.TheVariants.{Blez, Bgtz}
use Rattle.mips_encoder.specs.declared.instruction.ImmediateOp.{ImmediateOp}
use Rattle.mips_encoder.specs.declared.instruction.ImmediateOp.TheVariants.{Addi, Addiu, Slti, Sltiu, Andi, Ori, Xori}
use Rattle.mips_encoder.specs.declared.instruction.MemoryOp.{MemoryOp}
use Rattle.mips_encoder.specs.declared.instruction.MemoryOp.TheVariants.{Lb, Lh, Lw, Lbu, Lhu, Sb, Sh, Sw}

abbrev pub arithmetic_name : ArithmeticOp → List ℕ
arithmetic_name Add = codes "add"
arithmetic_name Addu = codes "addu"
arithmetic_name Sub = codes "sub"
arithmetic_name Subu = codes "subu"
arithmetic_name And = codes "and"
arithmetic_name Or = codes "or"
arithmetic_name Xor = codes "xor"
arithmetic_name Nor = codes "nor"
arithmetic_name Slt = codes "slt"
arithmetic_name Sltu = codes "sltu"

abbrev pub shift_name : ShiftOp → List ℕ
shift_name Sll = codes "sll"
shift_name Srl = codes "srl"
shift_name Sra = codes "sra"

abbrev pub shift_variable_name : ShiftVariableOp → List ℕ
shift_variable_name Sllv = codes "sllv"
shift_variable_name Srlv = codes "srlv"
shift_variable_name Srav = codes "srav"

abbrev pub move_from_name : HiLo → List ℕ
move_from_name Hi = codes "mfhi"
move_from_name Lo = codes "mflo"

abbrev pub move_to_name : HiLo → List ℕ
move_to_name Hi = codes "mthi"
move_to_name Lo = codes "mtlo"

abbrev pub multiply_divide_name : MultiplyDivideOp → List ℕ
multiply_divide_name Mult = codes "mult"
multiply_divide_name Multu = codes "multu"
multiply_divide_name Div = codes "div"
multiply_divide_name Divu = codes "divu"

abbrev pub sign_name : SignTest → List ℕ
sign_name Negative = codes "bltz"
sign_name NonNegative = codes "bgez"

abbrev pub sign_and_link_name : SignTest → List ℕ
sign_and_link_name Negative = codes "bltzal"
sign_and_link_name NonNegative = codes "bgezal"

abbrev pub jump_name : JumpOp → List ℕ
jump_name J = codes "j"
jump_name Jal = codes "jal"

abbrev pub equality_name : EqualityOp → List ℕ
equality_name Beq = codes "beq"
equality_name Bne = codes "bne"

abbrev pub zero_comparison_name : ZeroComparisonOp → List ℕ
zero_comparison_name Blez = codes "blez"
zero_comparison_name Bgtz = codes "bgtz"

abbrev pub immediate_name : ImmediateOp → List ℕ
immediate_name Addi = codes "addi"
immediate_name Addiu = codes "addiu"
immediate_name Slti = codes "slti"
immediate_name Sltiu = codes "sltiu"
immediate_name Andi = codes "andi"
immediate_name Ori = codes "ori"
immediate_name Xori = codes "xori"

abbrev pub memory_name : MemoryOp → List ℕ
memory_name Lb = codes "lb"
memory_name Lh = codes "lh"
memory_name Lw = codes "lw"
memory_name Lbu = codes "lbu"
memory_name Lhu = codes "lhu"
memory_name Sb = codes "sb"
memory_name Sh = codes "sh"
memory_name Sw = codes "sw"
