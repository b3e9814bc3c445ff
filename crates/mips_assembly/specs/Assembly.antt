-- Instructions by their names in assembly text, with their operands in that text's order, and the registers of the code
-- generator by their usual names. A register is its number, and an offset or immediate its 16 bits. The names are those
-- of the MIPS R2000 architecture manual; what the code generator does with a register is this project's own rule.
use Rattle.std.specs.Prelude.{ℕ, ◌/◌, ◌%◌, List, [], ◌∷◌}
use Rattle.mips_encoder.specs.declared.instruction.Instr.{Instr}
use Rattle.mips_encoder.specs.declared.instruction.Instr.TheVariants as instr
use Rattle.mips_encoder.specs.declared.instruction.ArithmeticOp.TheVariants as arithmetic
use Rattle.mips_encoder.specs.declared.instruction.ShiftOp.TheVariants as shift
use Rattle.mips_encoder.specs.declared.instruction.ShiftVariableOp.TheVariants as shift_variable
use Rattle.mips_encoder.specs.declared.instruction.MultiplyDivideOp.TheVariants as multiply_divide
use Rattle.mips_encoder.specs.declared.instruction.HiLo.TheVariants as half
use Rattle.mips_encoder.specs.declared.instruction.JumpOp.TheVariants as jump
use Rattle.mips_encoder.specs.declared.instruction.EqualityOp.TheVariants as equality
use Rattle.mips_encoder.specs.declared.instruction.ImmediateOp.TheVariants as immediate
use Rattle.mips_encoder.specs.declared.instruction.MemoryOp.TheVariants as memory

-- $at, for addresses of far slots
abbrev pub scratch : ℕ
scratch = 1

-- the answer of a call, and the number of a service
abbrev pub v0 : ℕ
v0 = 2

-- the arguments of services and of the run-time library's routines
abbrev pub a0 : ℕ
a0 = 4

abbrev pub a1 : ℕ
a1 = 5

abbrev pub a2 : ℕ
a2 = 6

-- the first operand, and what an op defines
abbrev pub t8 : ℕ
t8 = 24

-- the second operand
abbrev pub t9 : ℕ
t9 = 25

-- the function table, with the cells below it
abbrev pub gp : ℕ
gp = 28

-- the frame
abbrev pub sp : ℕ
sp = 29

-- the end of the frame's objects
abbrev pub fp : ℕ
fp = 30

-- the address to return to
abbrev pub ra : ℕ
ra = 31

abbrev pub addu : ℕ → ℕ → ℕ → Instr
addu d s t = instr.Arithmetic arithmetic.Addu d s t

abbrev pub subu : ℕ → ℕ → ℕ → Instr
subu d s t = instr.Arithmetic arithmetic.Subu d s t

abbrev pub and : ℕ → ℕ → ℕ → Instr
and d s t = instr.Arithmetic arithmetic.And d s t

abbrev pub or : ℕ → ℕ → ℕ → Instr
or d s t = instr.Arithmetic arithmetic.Or d s t

abbrev pub xor : ℕ → ℕ → ℕ → Instr
xor d s t = instr.Arithmetic arithmetic.Xor d s t

abbrev pub nor : ℕ → ℕ → ℕ → Instr
nor d s t = instr.Arithmetic arithmetic.Nor d s t

abbrev pub slt : ℕ → ℕ → ℕ → Instr
slt d s t = instr.Arithmetic arithmetic.Slt d s t

abbrev pub sltu : ℕ → ℕ → ℕ → Instr
sltu d s t = instr.Arithmetic arithmetic.Sltu d s t

abbrev pub sll : ℕ → ℕ → ℕ → Instr
sll d t bits = instr.Shift shift.Sll d t bits

abbrev pub srl : ℕ → ℕ → ℕ → Instr
srl d t bits = instr.Shift shift.Srl d t bits

abbrev pub sra : ℕ → ℕ → ℕ → Instr
sra d t bits = instr.Shift shift.Sra d t bits

abbrev pub sllv : ℕ → ℕ → ℕ → Instr
sllv d t s = instr.ShiftVariable shift_variable.Sllv d t s

abbrev pub srlv : ℕ → ℕ → ℕ → Instr
srlv d t s = instr.ShiftVariable shift_variable.Srlv d t s

abbrev pub srav : ℕ → ℕ → ℕ → Instr
srav d t s = instr.ShiftVariable shift_variable.Srav d t s

abbrev pub mult : ℕ → ℕ → Instr
mult s t = instr.MultiplyDivide multiply_divide.Mult s t

abbrev pub div : ℕ → ℕ → Instr
div s t = instr.MultiplyDivide multiply_divide.Div s t

abbrev pub divu : ℕ → ℕ → Instr
divu s t = instr.MultiplyDivide multiply_divide.Divu s t

abbrev pub mflo : ℕ → Instr
mflo d = instr.MoveFrom half.Lo d

abbrev pub mfhi : ℕ → Instr
mfhi d = instr.MoveFrom half.Hi d

abbrev pub addiu : ℕ → ℕ → ℕ → Instr
addiu t s imm = instr.ImmediateArithmetic immediate.Addiu t s imm

abbrev pub sltiu : ℕ → ℕ → ℕ → Instr
sltiu t s imm = instr.ImmediateArithmetic immediate.Sltiu t s imm

abbrev pub andi : ℕ → ℕ → ℕ → Instr
andi t s imm = instr.ImmediateArithmetic immediate.Andi t s imm

abbrev pub ori : ℕ → ℕ → ℕ → Instr
ori t s imm = instr.ImmediateArithmetic immediate.Ori t s imm

abbrev pub xori : ℕ → ℕ → ℕ → Instr
xori t s imm = instr.ImmediateArithmetic immediate.Xori t s imm

abbrev pub lui : ℕ → ℕ → Instr
lui t imm = instr.LoadUpperImmediate t imm

abbrev pub lb : ℕ → ℕ → ℕ → Instr
lb t offset base = instr.Memory memory.Lb t offset base

abbrev pub lbu : ℕ → ℕ → ℕ → Instr
lbu t offset base = instr.Memory memory.Lbu t offset base

abbrev pub lh : ℕ → ℕ → ℕ → Instr
lh t offset base = instr.Memory memory.Lh t offset base

abbrev pub lhu : ℕ → ℕ → ℕ → Instr
lhu t offset base = instr.Memory memory.Lhu t offset base

abbrev pub lw : ℕ → ℕ → ℕ → Instr
lw t offset base = instr.Memory memory.Lw t offset base

abbrev pub sb : ℕ → ℕ → ℕ → Instr
sb t offset base = instr.Memory memory.Sb t offset base

abbrev pub sh : ℕ → ℕ → ℕ → Instr
sh t offset base = instr.Memory memory.Sh t offset base

abbrev pub sw : ℕ → ℕ → ℕ → Instr
sw t offset base = instr.Memory memory.Sw t offset base

abbrev pub beq : ℕ → ℕ → ℕ → Instr
beq s t offset = instr.BranchOnEquality equality.Beq s t offset

abbrev pub bne : ℕ → ℕ → ℕ → Instr
bne s t offset = instr.BranchOnEquality equality.Bne s t offset

-- a jump to an address in bytes, a multiple of 4; the instruction holds the number of the word
abbrev pub j : ℕ → Instr
j address = instr.Jump jump.J (address / 4)

abbrev pub jal : ℕ → Instr
jal address = instr.Jump jump.Jal (address / 4)

abbrev pub jr : ℕ → Instr
jr s = instr.JumpRegister s

abbrev pub jalr : ℕ → ℕ → Instr
jalr d s = instr.JumpAndLinkRegister (record { rd = d; rs = s })

abbrev pub syscall : Instr
syscall = instr.Syscall

abbrev pub trap : ℕ → Instr
trap code = instr.Break code

-- sll $0,$0,0
abbrev pub nop : Instr
nop = sll 0 0 0

-- a word to a register
abbrev pub constant : ℕ → ℕ → List Instr
constant t word = lui t (word / 65536) ∷ ori t t (word % 65536) ∷ []
