-- The table of instructions read from the instructions: `word_of` gives the word of each, with 0 in the fields that its
-- form doesn't name, and `Fits` says which operands a form takes. The source is the MIPS R2000 architecture manual,
-- which also excludes that JALR, BLTZAL and BGEZAL read the register that they link. A word is in the table exactly
-- where it is the word of an instruction that fits.
use Rattle.std.specs.Prelude.{ℕ, ◌+◌, ◌*◌, ◌<◌, ◌≢◌}
use Rattle.mips_encoder.specs.declared.instruction.Instr.{Instr}
use Rattle.mips_encoder.specs.declared.instruction.Instr.TheVariants as i
use Rattle.mips_encoder.specs.Codes.{
  arithmetic_code,
  shift_code,
  shift_variable_code,
  move_from_code,
  move_to_code,
  multiply_divide_code,
  sign_code,
  jump_code,
  equality_code,
  zero_comparison_code,
  immediate_code,
  memory_code,
}

-- Opcode 0, with rs, rt, rd, shamt and funct.
abbrev pub special : (rs rt rd shamt funct : ℕ) → ℕ
special rs rt rd shamt funct = rs * 2097152 + rt * 65536 + rd * 2048 + shamt * 64 + funct

-- An opcode, rs, rt and an immediate of 16 bits.
abbrev pub with_immediate : (opcode rs rt immediate : ℕ) → ℕ
with_immediate opcode rs rt immediate = opcode * 67108864 + rs * 2097152 + rt * 65536 + immediate

-- The word of an instruction.
abbrev pub word_of : Instr → ℕ
word_of (i.Arithmetic op rd rs rt) = special rs rt rd 0 (arithmetic_code op)
word_of (i.Shift op rd rt shamt) = special 0 rt rd shamt (shift_code op)
word_of (i.ShiftVariable op rd rt rs) = special rs rt rd 0 (shift_variable_code op)
word_of (i.JumpRegister rs) = special rs 0 0 0 8
word_of (i.JumpAndLinkRegister p) = special p.rs 0 p.rd 0 9
word_of i.Syscall = 12
word_of (i.Break code) = code * 64 + 13
word_of (i.MoveFrom source rd) = special 0 0 rd 0 (move_from_code source)
word_of (i.MoveTo source rs) = special rs 0 0 0 (move_to_code source)
word_of (i.MultiplyDivide op rs rt) = special rs rt 0 0 (multiply_divide_code op)
word_of (i.BranchOnSign test rs offset) = with_immediate 1 rs (sign_code test) offset
word_of (i.BranchOnSignAndLink test rs offset) = with_immediate 1 rs (16 + sign_code test) offset
word_of (i.Jump op target) = jump_code op * 67108864 + target
word_of (i.BranchOnEquality op rs rt offset) = with_immediate (equality_code op) rs rt offset
word_of (i.BranchOnZero op rs offset) = with_immediate (zero_comparison_code op) rs 0 offset
word_of (i.ImmediateArithmetic op rt rs imm) = with_immediate (immediate_code op) rs rt imm
word_of (i.LoadUpperImmediate rt imm) = with_immediate 15 0 rt imm
word_of (i.Memory op rt offset rs) = with_immediate (memory_code op) rs rt offset

-- Each operand fits its field, and the registers are those that the form allows.
abbrev pub Fits : Instr → Type 0
Fits (i.Arithmetic op rd rs rt) = (rd < 32) × (rs < 32) × (rt < 32)
Fits (i.Shift op rd rt shamt) = (rd < 32) × (rt < 32) × (shamt < 32)
Fits (i.ShiftVariable op rd rt rs) = (rd < 32) × (rt < 32) × (rs < 32)
Fits (i.JumpRegister rs) = rs < 32
Fits (i.JumpAndLinkRegister p) = (p.rd < 32) × (p.rs < 32) × (p.rd ≢ p.rs)
Fits i.Syscall = Unit {0}
Fits (i.Break code) = code < 1048576
Fits (i.MoveFrom source rd) = rd < 32
Fits (i.MoveTo source rs) = rs < 32
Fits (i.MultiplyDivide op rs rt) = (rs < 32) × (rt < 32)
Fits (i.BranchOnSign test rs offset) = (rs < 32) × (offset < 65536)
Fits (i.BranchOnSignAndLink test rs offset) = (rs < 31) × (offset < 65536)
Fits (i.Jump op target) = target < 67108864
Fits (i.BranchOnEquality op rs rt offset) = (rs < 32) × (rt < 32) × (offset < 65536)
Fits (i.BranchOnZero op rs offset) = (rs < 32) × (offset < 65536)
Fits (i.ImmediateArithmetic op rt rs imm) = (rt < 32) × (rs < 32) × (imm < 65536)
Fits (i.LoadUpperImmediate rt imm) = (rt < 32) × (imm < 65536)
Fits (i.Memory op rt offset rs) = (rt < 32) × (offset < 65536) × (rs < 32)
