-- The table of instructions read from the words: for each word its instruction, or None where the table has no
-- instruction with this word.
-- The source is the MIPS R2000 architecture manual: the opcode chooses a row, or a second table by the function field
-- (SPECIAL)
-- or by the field rt (REGIMM), and each field that the chosen form doesn't name must be 0.
-- `decode` gives this instruction. By its clauses it is the inverse of `word_of` in Table.antt, so that page alone
-- needs to be believed.
use Rattle.std.specs.Prelude.{ℕ, ◌/◌, ◌%◌, List, [], ◌∷◌, Bool, ◌==◌, ◌&&◌, Option, Some, None, cond}
use Rattle.mips_encoder.specs.Fields.{opcode, rs, rt, rd, shamt, funct, immediate}
use Rattle.mips_encoder.specs.declared.instruction.Instr.{Instr}
use Rattle.mips_encoder.specs.declared.instruction.Instr.TheVariants as instr
use Rattle.mips_encoder.specs.declared.instruction.ArithmeticOp.TheVariants.{Add, Addu, Sub, Subu, And, Or, Xor, Nor}
use Rattle.mips_encoder.specs.declared.instruction.ArithmeticOp.TheVariants.{Slt, Sltu}
use Rattle.mips_encoder.specs.declared.instruction.ShiftOp.TheVariants.{Sll, Srl, Sra}
use Rattle.mips_encoder.specs.declared.instruction.ShiftVariableOp.TheVariants.{Sllv, Srlv, Srav}
use Rattle.mips_encoder.specs.declared.instruction.HiLo.TheVariants.{Hi, Lo}
use Rattle.mips_encoder.specs.declared.instruction.MultiplyDivideOp.TheVariants.{Mult, Multu, Div, Divu}
use Rattle.mips_encoder.specs.declared.instruction.SignTest.TheVariants.{Negative, NonNegative}
use Rattle.mips_encoder.specs.declared.instruction.JumpOp.TheVariants.{J, Jal}
use Rattle.mips_encoder.specs.declared.instruction.EqualityOp.TheVariants.{Beq, Bne}
use Rattle.mips_encoder.specs.declared.instruction.ZeroComparisonOp.TheVariants.{Blez, Bgtz}
use Rattle.mips_encoder.specs.declared.instruction.ImmediateOp.TheVariants.{Addi, Addiu, Slti, Sltiu, Andi, Ori, Xori}
use Rattle.mips_encoder.specs.declared.instruction.MemoryOp.TheVariants.{Lb, Lh, Lw, Lbu, Lhu, Sb, Sh, Sw}
use Rattle.mips_encoder.specs.declared.instruction.ArithmeticOp.{ArithmeticOp}
use Rattle.mips_encoder.specs.declared.instruction.ShiftOp.{ShiftOp}
use Rattle.mips_encoder.specs.declared.instruction.ShiftVariableOp.{ShiftVariableOp}
use Rattle.mips_encoder.specs.declared.instruction.HiLo.{HiLo}
use Rattle.mips_encoder.specs.declared.instruction.MultiplyDivideOp.{MultiplyDivideOp}
use Rattle.mips_encoder.specs.declared.instruction.SignTest.{SignTest}
use Rattle.mips_encoder.specs.declared.instruction.JumpOp.{JumpOp}
use Rattle.mips_encoder.specs.declared.instruction.EqualityOp.{EqualityOp}
use Rattle.mips_encoder.specs.declared.instruction.ZeroComparisonOp.{ZeroComparisonOp}
use Rattle.mips_encoder.specs.declared.instruction.ImmediateOp.{ImmediateOp}
use Rattle.mips_encoder.specs.declared.instruction.MemoryOp.{MemoryOp}

-- This instruction where the fields that it doesn't name are 0.
abbrev pub only : Bool → Instr → Option Instr
only b i = cond b (Some i) None

-- What stands beside a number in a table, or None where the number is not there.
abbrev pub row : List (ℕ × Option Instr) → ℕ → Option Instr
row [] code = None
row (r ∷ rs) code = cond (code == r.0) r.1 (row rs code)

abbrev pub arithmetic : ArithmeticOp → ℕ → Option Instr
arithmetic op w = only (shamt w == 0) (instr.Arithmetic op (rd w) (rs w) (rt w))

abbrev pub shift : ShiftOp → ℕ → Option Instr
shift op w = only (rs w == 0) (instr.Shift op (rd w) (rt w) (shamt w))

abbrev pub shift_variable : ShiftVariableOp → ℕ → Option Instr
shift_variable op w = only (shamt w == 0) (instr.ShiftVariable op (rd w) (rt w) (rs w))

abbrev pub multiply_divide : MultiplyDivideOp → ℕ → Option Instr
multiply_divide op w = only (w / 64 % 1024 == 0) (instr.MultiplyDivide op (rs w) (rt w))

abbrev pub move_from : HiLo → ℕ → Option Instr
move_from source w = only ((w / 65536 == 0) && (shamt w == 0)) (instr.MoveFrom source (rd w))

abbrev pub move_to : HiLo → ℕ → Option Instr
move_to source w = only (w / 64 % 32768 == 0) (instr.MoveTo source (rs w))

abbrev pub jump_and_link_register : ℕ → Option Instr
jump_and_link_register w =
    cond (rd w == rs w) None
    (only ((rt w == 0) && (shamt w == 0)) (instr.JumpAndLinkRegister (record { rd = rd w; rs = rs w })))

abbrev pub jump_register : ℕ → Option Instr
jump_register w = only (w / 64 % 32768 == 0) (instr.JumpRegister (rs w))

abbrev pub syscall : ℕ → Option Instr
syscall w = only (w == 12) instr.Syscall

-- Opcode 0, by the function field.
abbrev pub of_special : ℕ → Option Instr
of_special w = row
    ((0, shift Sll w) ∷ (2, shift Srl w) ∷ (3, shift Sra w)
    ∷ (4, shift_variable Sllv w) ∷ (6, shift_variable Srlv w) ∷ (7, shift_variable Srav w)
    ∷ (8, jump_register w) ∷ (9, jump_and_link_register w)
    ∷ (12, syscall w) ∷ (13, Some (instr.Break (w / 64 % 1048576)))
    ∷ (16, move_from Hi w) ∷ (17, move_to Hi w) ∷ (18, move_from Lo w) ∷ (19, move_to Lo w)
    ∷ (24, multiply_divide Mult w) ∷ (25, multiply_divide Multu w)
    ∷ (26, multiply_divide Div w) ∷ (27, multiply_divide Divu w)
    ∷ (32, arithmetic Add w) ∷ (33, arithmetic Addu w) ∷ (34, arithmetic Sub w) ∷ (35, arithmetic Subu w)
    ∷ (36, arithmetic And w) ∷ (37, arithmetic Or w) ∷ (38, arithmetic Xor w) ∷ (39, arithmetic Nor w)
    ∷ (42, arithmetic Slt w) ∷ (43, arithmetic Sltu w) ∷ [])
    (funct w)

abbrev pub branch_on_sign : SignTest → ℕ → Option Instr
branch_on_sign test w = Some (instr.BranchOnSign test (rs w) (immediate w))

abbrev pub branch_on_sign_and_link : SignTest → ℕ → Option Instr
branch_on_sign_and_link test w =
    cond (rs w == 31) None (Some (instr.BranchOnSignAndLink test (rs w) (immediate w)))

-- Opcode 1, by the field rt.
abbrev pub of_regimm : ℕ → Option Instr
of_regimm w = row
    ((0, branch_on_sign Negative w) ∷ (1, branch_on_sign NonNegative w)
    ∷ (16, branch_on_sign_and_link Negative w) ∷ (17, branch_on_sign_and_link NonNegative w) ∷ [])
    (rt w)

abbrev pub branch_on_equality : EqualityOp → ℕ → Option Instr
branch_on_equality op w = Some (instr.BranchOnEquality op (rs w) (rt w) (immediate w))

abbrev pub branch_on_zero : ZeroComparisonOp → ℕ → Option Instr
branch_on_zero op w = only (rt w == 0) (instr.BranchOnZero op (rs w) (immediate w))

abbrev pub immediate_arithmetic : ImmediateOp → ℕ → Option Instr
immediate_arithmetic op w = Some (instr.ImmediateArithmetic op (rt w) (rs w) (immediate w))

abbrev pub memory : MemoryOp → ℕ → Option Instr
memory op w = Some (instr.Memory op (rt w) (immediate w) (rs w))

abbrev pub jump : JumpOp → ℕ → Option Instr
jump op w = Some (instr.Jump op (w % 67108864))

abbrev pub load_upper_immediate : ℕ → Option Instr
load_upper_immediate w = only (rs w == 0) (instr.LoadUpperImmediate (rt w) (immediate w))

-- Every word, by its opcode.
abbrev pub instr_of : ℕ → Option Instr
instr_of w = row
    ((0, of_special w) ∷ (1, of_regimm w)
    ∷ (2, jump J w) ∷ (3, jump Jal w)
    ∷ (4, branch_on_equality Beq w) ∷ (5, branch_on_equality Bne w)
    ∷ (6, branch_on_zero Blez w) ∷ (7, branch_on_zero Bgtz w)
    ∷ (8, immediate_arithmetic Addi w) ∷ (9, immediate_arithmetic Addiu w)
    ∷ (10, immediate_arithmetic Slti w) ∷ (11, immediate_arithmetic Sltiu w)
    ∷ (12, immediate_arithmetic Andi w) ∷ (13, immediate_arithmetic Ori w) ∷ (14, immediate_arithmetic Xori w)
    ∷ (15, load_upper_immediate w)
    ∷ (32, memory Lb w) ∷ (33, memory Lh w) ∷ (35, memory Lw w) ∷ (36, memory Lbu w) ∷ (37, memory Lhu w)
    ∷ (40, memory Sb w) ∷ (41, memory Sh w) ∷ (43, memory Sw w) ∷ [])
    (opcode w)
