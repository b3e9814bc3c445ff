-- The words of instructions that fit are words.
use Rattle.std.proofs.Common.{ℕ, zero, suc, ◌<◌, List, [], ◌∷◌, arith}
use Rattle.std.specs.Prelude.{slice_index}
use Rattle.mips_encoder.specs.Table.{Fits, word_of}
use Rattle.mips_encoder.specs.Codes.{arithmetic_code, shift_code, shift_variable_code, move_from_code, move_to_code}
use Rattle.mips_encoder.specs.Codes.{multiply_divide_code, sign_code, jump_code, equality_code, zero_comparison_code}
use Rattle.mips_encoder.specs.Codes.{immediate_code, memory_code}
use Rattle.mips_encoder.specs.declared.instruction.Instr.{Instr}
use Rattle.mips_encoder.specs.declared.instruction.Instr.TheVariants.{Arithmetic, Shift, ShiftVariable, JumpRegister}
use Rattle.mips_encoder.specs.declared.instruction.Instr.TheVariants.{JumpAndLinkRegister, Syscall, Break, MoveFrom}
use Rattle.mips_encoder.specs.declared.instruction.Instr.TheVariants.{MoveTo, MultiplyDivide, BranchOnSign}
use Rattle.mips_encoder.specs.declared.instruction.Instr.TheVariants.{BranchOnSignAndLink, Jump, BranchOnEquality}
use Rattle.mips_encoder.specs.declared.instruction.Instr.TheVariants.{BranchOnZero, ImmediateArithmetic}
use Rattle.mips_encoder.specs.declared.instruction.Instr.TheVariants.{LoadUpperImmediate, Memory}
use Rattle.mips_encoder.specs.declared.instruction.ArithmeticOp.{ArithmeticOp}
use Rattle.mips_encoder.specs.declared.instruction.ArithmeticOp.TheVariants as arithmetic
use Rattle.mips_encoder.specs.declared.instruction.ShiftOp.{ShiftOp}
use Rattle.mips_encoder.specs.declared.instruction.ShiftOp.TheVariants as shift
use Rattle.mips_encoder.specs.declared.instruction.ShiftVariableOp.{ShiftVariableOp}
use Rattle.mips_encoder.specs.declared.instruction.ShiftVariableOp.TheVariants as shift_variable
use Rattle.mips_encoder.specs.declared.instruction.HiLo.{HiLo}
use Rattle.mips_encoder.specs.declared.instruction.HiLo.TheVariants as half
use Rattle.mips_encoder.specs.declared.instruction.MultiplyDivideOp.{MultiplyDivideOp}
use Rattle.mips_encoder.specs.declared.instruction.MultiplyDivideOp.TheVariants as multiply_divide
use Rattle.mips_encoder.specs.declared.instruction.SignTest.{SignTest}
use Rattle.mips_encoder.specs.declared.instruction.SignTest.TheVariants as sign
use Rattle.mips_encoder.specs.declared.instruction.JumpOp.{JumpOp}
use Rattle.mips_encoder.specs.declared.instruction.JumpOp.TheVariants as jump
use Rattle.mips_encoder.specs.declared.instruction.EqualityOp.{EqualityOp}
use Rattle.mips_encoder.specs.declared.instruction.EqualityOp.TheVariants as equality
use Rattle.mips_encoder.specs.declared.instruction.ZeroComparisonOp.{ZeroComparisonOp}
use Rattle.mips_encoder.specs.declared.instruction.ZeroComparisonOp.TheVariants as zero_comparison
use Rattle.mips_encoder.specs.declared.instruction.ImmediateOp.{ImmediateOp}
use Rattle.mips_encoder.specs.declared.instruction.ImmediateOp.TheVariants as immediate
use Rattle.mips_encoder.specs.declared.instruction.MemoryOp.{MemoryOp}
use Rattle.mips_encoder.specs.declared.instruction.MemoryOp.TheVariants as memory
use Rattle.mips_model.proofs.Loaded.{AllFit}
use Rattle.icode_templates.specs.Words.{words}
use Rattle.icode_ir.specs.Sound.{Each}

arithmetic_low : (op : ArithmeticOp) → arithmetic_code op < 64
arithmetic_low arithmetic.Add = omega arith
arithmetic_low arithmetic.Addu = omega arith
arithmetic_low arithmetic.Sub = omega arith
arithmetic_low arithmetic.Subu = omega arith
arithmetic_low arithmetic.And = omega arith
arithmetic_low arithmetic.Or = omega arith
arithmetic_low arithmetic.Xor = omega arith
arithmetic_low arithmetic.Nor = omega arith
arithmetic_low arithmetic.Slt = omega arith
arithmetic_low arithmetic.Sltu = omega arith

shift_low : (op : ShiftOp) → shift_code op < 64
shift_low shift.Sll = omega arith
shift_low shift.Srl = omega arith
shift_low shift.Sra = omega arith

shift_variable_low : (op : ShiftVariableOp) → shift_variable_code op < 64
shift_variable_low shift_variable.Sllv = omega arith
shift_variable_low shift_variable.Srlv = omega arith
shift_variable_low shift_variable.Srav = omega arith

move_from_low : (op : HiLo) → move_from_code op < 64
move_from_low half.Hi = omega arith
move_from_low half.Lo = omega arith

move_to_low : (op : HiLo) → move_to_code op < 64
move_to_low half.Hi = omega arith
move_to_low half.Lo = omega arith

multiply_divide_low : (op : MultiplyDivideOp) → multiply_divide_code op < 64
multiply_divide_low multiply_divide.Mult = omega arith
multiply_divide_low multiply_divide.Multu = omega arith
multiply_divide_low multiply_divide.Div = omega arith
multiply_divide_low multiply_divide.Divu = omega arith

sign_low : (op : SignTest) → sign_code op < 2
sign_low sign.Negative = omega arith
sign_low sign.NonNegative = omega arith

jump_low : (op : JumpOp) → jump_code op < 64
jump_low jump.J = omega arith
jump_low jump.Jal = omega arith

equality_low : (op : EqualityOp) → equality_code op < 64
equality_low equality.Beq = omega arith
equality_low equality.Bne = omega arith

zero_comparison_low : (op : ZeroComparisonOp) → zero_comparison_code op < 64
zero_comparison_low zero_comparison.Blez = omega arith
zero_comparison_low zero_comparison.Bgtz = omega arith

immediate_low : (op : ImmediateOp) → immediate_code op < 64
immediate_low immediate.Addi = omega arith
immediate_low immediate.Addiu = omega arith
immediate_low immediate.Slti = omega arith
immediate_low immediate.Sltiu = omega arith
immediate_low immediate.Andi = omega arith
immediate_low immediate.Ori = omega arith
immediate_low immediate.Xori = omega arith

memory_low : (op : MemoryOp) → memory_code op < 64
memory_low memory.Lb = omega arith
memory_low memory.Lh = omega arith
memory_low memory.Lw = omega arith
memory_low memory.Lbu = omega arith
memory_low memory.Lhu = omega arith
memory_low memory.Sb = omega arith
memory_low memory.Sh = omega arith
memory_low memory.Sw = omega arith

word_low : (i : Instr) → Fits i → word_of i < 4294967296
word_low (Arithmetic op rd rs rt) f = omega (arith, f.0, f.1, f.2, arithmetic_low op)
word_low (Shift op rd rt shamt) f = omega (arith, f.0, f.1, f.2, shift_low op)
word_low (ShiftVariable op rd rt rs) f = omega (arith, f.0, f.1, f.2, shift_variable_low op)
word_low (JumpRegister rs) f = omega (arith, f)
word_low (JumpAndLinkRegister p) f = omega (arith, f.0, f.1)
word_low Syscall f = omega arith
word_low (Break code) f = omega (arith, f)
word_low (MoveFrom source rd) f = omega (arith, f, move_from_low source)
word_low (MoveTo source rs) f = omega (arith, f, move_to_low source)
word_low (MultiplyDivide op rs rt) f = omega (arith, f.0, f.1, multiply_divide_low op)
word_low (BranchOnSign test rs offset) f = omega (arith, f.0, f.1, sign_low test)
word_low (BranchOnSignAndLink test rs offset) f = omega (arith, f.0, f.1, sign_low test)
word_low (Jump op target) f = omega (arith, f, jump_low op)
word_low (BranchOnEquality op rs rt offset) f = omega (arith, f.0, f.1, f.2, equality_low op)
word_low (BranchOnZero op rs offset) f = omega (arith, f.0, f.1, zero_comparison_low op)
word_low (ImmediateArithmetic op rt rs imm) f = omega (arith, f.0, f.1, f.2, immediate_low op)
word_low (LoadUpperImmediate rt imm) f = omega (arith, f.0, f.1)
word_low (Memory op rt offset rs) f = omega (arith, f.0, f.1, f.2, memory_low op)

-- a list of words
abbrev pub AreWords : List ℕ → Type 0
AreWords ws = Each (λ w. w < 4294967296) ws

pub words_low : (is : List Instr) → AllFit is → AreWords (words is)
words_low [] fit = tt
words_low (i ∷ is) fit = (word_low i fit.0, words_low is fit.1)

pub word_at : (ws : List ℕ) (k : ℕ) → AreWords ws → slice_index ws k < 4294967296
word_at [] k h = omega arith
word_at (w ∷ ws) zero h = h.0
word_at (w ∷ ws) (suc k) h = word_at ws k h.1
