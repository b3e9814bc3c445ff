-- The instructions of each op. A template brings the op's operands to $t8 and $t9, works there, and brings what the op
-- defines from $t8 to its spot; an instruction that waits for a load, or stands behind a jump, is a nop. No register
-- but those of the places keeps a value from one op to the next. These are the project's own rules, in the manner of
-- the templates of ICODE and VCODE (Poletto, Hsieh, Engler and Kaashoek, TOPLAS 1999).
use Rattle.std.specs.Prelude.{ℕ, ◌+◌, ◌*◌, ◌/◌, ◌%◌, true, false, List, [], ◌∷◌, ◌++◌}
use Rattle.word32.specs.Words.{difference}
use Rattle.word32.specs.declared.width.Width.{Width}
use Rattle.word32.specs.declared.width.Width.TheVariants as width
use Rattle.mips_encoder.specs.declared.instruction.Instr.{Instr}
use Rattle.icode_ops.specs.Kinds.{sys_number, run_number, closure_number}
use Rattle.icode_ops.specs.declared.kind.BinKind.{BinKind}
use Rattle.icode_ops.specs.declared.kind.UnKind.{UnKind}
use Rattle.icode_ops.specs.declared.kind.BinKind.TheVariants as bin
use Rattle.icode_ops.specs.declared.kind.UnKind.TheVariants as un
use Rattle.icode_ops.specs.declared.op.Op.{Op}
use Rattle.icode_ops.specs.declared.op.Op.TheVariants.{Const, Move, Bin, CheckDivision, CheckZero, Un, FrameAddress}
use Rattle.icode_ops.specs.declared.op.Op.TheVariants.{Load, Store, Clear, Label, Jump, BranchZero, BranchNonzero}
use Rattle.icode_ops.specs.declared.op.Op.TheVariants.{Argument, GetParameter, Call, CallNumber, Result, Return}
use Rattle.icode_ops.specs.declared.op.Op.TheVariants.{ReturnZero, Sys, Run, New, Put}
use Rattle.mips_assembly.specs.Assembly.{scratch, v0, a0, a1, a2, t8, t9, gp, sp, fp, ra, addu, subu, and, or, xor}
use Rattle.mips_assembly.specs.Assembly.{nor, slt, sltu, sll, srl, sra, sllv, srlv, srav, mult, div, divu, mflo, mfhi}
use Rattle.mips_assembly.specs.Assembly.{addiu, sltiu, andi, ori, xori, lui, lb, lbu, lh, lhu, lw, sb, sh, sw, beq}
use Rattle.mips_assembly.specs.Assembly.{bne, j, jal, jalr, syscall, trap, nop, constant}
use Rattle.icode_templates.specs.Layout.{Spot, InRegister, InSlot, Layout, parameter_spot}
use Rattle.word32.specs.declared.map.TheConstants.{ROUTINE_BYTES, RT_NEW, START}

-- an offset in two halves, where the lower one is taken with its sign
abbrev pub upper : ℕ → ℕ
upper offset = (offset + 32768) / 65536

abbrev pub lower : ℕ → ℕ
lower offset = offset % 65536

-- to $at, so that the lower half of the offset reaches the slot from there
abbrev pub reach_code : ℕ → List Instr
reach_code offset = lui scratch (upper offset) ∷ addu scratch scratch sp ∷ []

-- a spot's value to the register t
abbrev pub load_code : ℕ → Spot → List Instr
load_code t (InRegister r) = addu t r 0 ∷ []
load_code t (InSlot false offset) = lw t offset sp ∷ []
load_code t (InSlot true offset) = reach_code offset ++ lw t (lower offset) scratch ∷ []

-- what a load is waited for with
abbrev pub wait_code : Spot → List Instr
wait_code (InRegister r) = []
wait_code (InSlot far offset) = nop ∷ []

-- one operand to $t8
abbrev pub in_code : Spot → List Instr
in_code a = load_code t8 a ++ wait_code a

-- two operands to $t8 and $t9
abbrev pub in_two_code : Spot → Spot → List Instr
in_two_code a b = load_code t8 a ++ (load_code t9 b ++ wait_code b)

-- $t8 to its spot
abbrev pub out_code : Spot → List Instr
out_code (InRegister r) = addu r t8 0 ∷ []
out_code (InSlot false offset) = sw t8 offset sp ∷ []
out_code (InSlot true offset) = reach_code offset ++ sw t8 (lower offset) scratch ∷ []

-- an operator on $t8 and $t9
abbrev pub bin_core : BinKind → List Instr
bin_core bin.Add = addu t8 t8 t9 ∷ []
bin_core bin.Subtract = subu t8 t8 t9 ∷ []
bin_core bin.Multiply = mult t8 t9 ∷ mflo t8 ∷ []
bin_core bin.DivideSigned = div t8 t9 ∷ mflo t8 ∷ []
bin_core bin.DivideUnsigned = divu t8 t9 ∷ mflo t8 ∷ []
bin_core bin.RemainderSigned = div t8 t9 ∷ mfhi t8 ∷ []
bin_core bin.RemainderUnsigned = divu t8 t9 ∷ mfhi t8 ∷ []
bin_core bin.And = and t8 t8 t9 ∷ []
bin_core bin.Or = or t8 t8 t9 ∷ []
bin_core bin.Xor = xor t8 t8 t9 ∷ []
bin_core bin.ShiftLeft = sllv t8 t8 t9 ∷ []
bin_core bin.ShiftRightSigned = srav t8 t8 t9 ∷ []
bin_core bin.ShiftRightUnsigned = srlv t8 t8 t9 ∷ []
bin_core bin.Equal = xor t8 t8 t9 ∷ sltiu t8 t8 1 ∷ []
bin_core bin.NotEqual = xor t8 t8 t9 ∷ sltu t8 0 t8 ∷ []
bin_core bin.LessSigned = slt t8 t8 t9 ∷ []
bin_core bin.LessUnsigned = sltu t8 t8 t9 ∷ []
bin_core bin.LessOrEqualSigned = slt t8 t9 t8 ∷ xori t8 t8 1 ∷ []
bin_core bin.LessOrEqualUnsigned = sltu t8 t9 t8 ∷ xori t8 t8 1 ∷ []
bin_core bin.GreaterSigned = slt t8 t9 t8 ∷ []
bin_core bin.GreaterUnsigned = sltu t8 t9 t8 ∷ []
bin_core bin.GreaterOrEqualSigned = slt t8 t8 t9 ∷ xori t8 t8 1 ∷ []
bin_core bin.GreaterOrEqualUnsigned = sltu t8 t8 t9 ∷ xori t8 t8 1 ∷ []

-- an operator on $t8
abbrev pub un_core : UnKind → List Instr
un_core un.Negate = subu t8 0 t8 ∷ []
un_core un.Complement = nor t8 t8 0 ∷ []
un_core un.IsZero = sltiu t8 t8 1 ∷ []
un_core un.SignedByte = sll t8 t8 24 ∷ sra t8 t8 24 ∷ []
un_core un.Byte = andi t8 t8 255 ∷ []
un_core un.SignedHalf = sll t8 t8 16 ∷ sra t8 t8 16 ∷ []
un_core un.Half = andi t8 t8 65535 ∷ []

-- a trap where the register s is 0, or where it isn't
abbrev pub trap_if_zero : ℕ → ℕ → List Instr
trap_if_zero s code = bne s 0 2 ∷ nop ∷ trap code ∷ []

abbrev pub trap_unless_zero : ℕ → ℕ → List Instr
trap_unless_zero s code = beq s 0 2 ∷ nop ∷ trap code ∷ []

-- traps where $t9 is 0, and where it is -1 and $t8 the least signed number
abbrev pub division_check : List Instr
division_check =
    trap_if_zero t9 7
    ++ addiu scratch 0 65535 ∷ bne t9 scratch 4 ∷ lui scratch 32768 ∷ bne t8 scratch 2 ∷ nop ∷ trap 6 ∷ []

-- a trap where the address in $t8 is not in the objects, of which the highest byte is 16
abbrev pub range_check : ℕ → List Instr
range_check r = srl r t8 24 ∷ xori r r 16 ∷ trap_unless_zero r 16

abbrev pub load_instruction : Width → Instr
load_instruction width.SignedByte = lb t8 0 t8
load_instruction width.Byte = lbu t8 0 t8
load_instruction width.SignedHalf = lh t8 0 t8
load_instruction width.Half = lhu t8 0 t8
load_instruction width.Word = lw t8 0 t8

-- a store takes a signed width as the unsigned one of its size
abbrev pub store_instruction : Width → Instr
store_instruction width.SignedByte = sb t9 0 t8
store_instruction width.Byte = sb t9 0 t8
store_instruction width.SignedHalf = sh t9 0 t8
store_instruction width.Half = sh t9 0 t8
store_instruction width.Word = sw t9 0 t8

-- what is added to $fp, which stands at the end of the frame's objects, for the address that is offset bytes into them
abbrev pub below_end : Layout → ℕ → ℕ
below_end layout offset = difference offset layout.objects

-- the address that is offset bytes into the frame's objects, to the register t
abbrev pub object_address : Layout → ℕ → ℕ → List Instr
object_address layout t offset = constant t (below_end layout offset) ++ addu t t fp ∷ []

-- zeros from $t8 up to $t9
abbrev pub clear_loop : List Instr
clear_loop = sw 0 0 t8 ∷ addiu t8 t8 4 ∷ bne t8 t9 65533 ∷ nop ∷ []

-- the row of the function that has the number in $t8: its address to $t8, and its count of parameters to $t9. The rows
-- of the function table stand from $gp up; a number above 65,535 has none, and goes to the trap of the check
abbrev pub number_row : List Instr
number_row =
    srl t9 t8 16 ∷ bne t9 0 7 ∷ sll t8 t8 3 ∷ addu t8 t8 gp ∷ lw t9 4 t8 ∷ lw t8 0 t8 ∷ []

-- a trap where the count in $t9 is not n
abbrev pub count_check : ℕ → List Instr
count_check n = xori t9 t9 n ∷ trap_unless_zero t9 17

-- a call of the function that has the number in $t8 and n parameters
abbrev pub number_call : ℕ → List Instr
number_call n = number_row ++ (count_check n ++ jalr ra t8 ∷ nop ∷ [])

-- the address of a routine of the run-time library: blocks of 64 words from the beginning of the text
abbrev pub routine_address : ℕ → ℕ
routine_address number = START + ROUTINE_BYTES * number

-- the routine that makes closures
abbrev pub new_address : ℕ
new_address = RT_NEW

-- a service of the machine, with $t8 as its argument and for its answer
abbrev pub service_code : ℕ → List Instr
service_code number = addu a0 t8 0 ∷ ori v0 0 number ∷ syscall ∷ addu t8 v0 0 ∷ []

-- a routine of the run-time library, with $t8 as its argument and for its answer
abbrev pub routine_code : ℕ → List Instr
routine_code number = addu a0 t8 0 ∷ jal (routine_address number) ∷ nop ∷ addu t8 v0 0 ∷ []

-- the captured word i of the newest closure, whose address stands in a cell below $gp; four words come before it
abbrev pub put_code : ℕ → List Instr
put_code i =
    lw t9 65504 gp ∷ lui scratch (upper (16 + 4 * i)) ∷ addu t9 t9 scratch ∷ sw t8 (lower (16 + 4 * i)) t9 ∷ []

-- where code goes within its function: to a label, or to the epilogue
pub data Aim : Type 0 where
  ToLabel : (label : ℕ) → Aim
  ToEpilogue : Aim

abbrev pub leave_code : (Aim → ℕ) → List Instr
leave_code address = j (address ToEpilogue) ∷ nop ∷ []

-- the instructions of an op, where each aim has an address
abbrev pub template : Layout → (Aim → ℕ) → Op → List Instr
template layout address (Const to word) = constant t8 word ++ out_code (layout.spot to)
template layout address (Move to from) = in_code (layout.spot from) ++ out_code (layout.spot to)
template layout address (Bin kind to left right) =
    in_two_code (layout.spot left) (layout.spot right) ++ (bin_core kind ++ out_code (layout.spot to))
template layout address (CheckDivision left right) =
    in_two_code (layout.spot left) (layout.spot right) ++ division_check
template layout address (CheckZero divisor) = in_code (layout.spot divisor) ++ trap_if_zero t8 7
template layout address (Un kind to from) =
    in_code (layout.spot from) ++ (un_core kind ++ out_code (layout.spot to))
template layout address (FrameAddress to offset) = object_address layout t8 offset ++ out_code (layout.spot to)
template layout address (Load width to from) =
    in_code (layout.spot from) ++ (range_check t9 ++ load_instruction width ∷ nop ∷ out_code (layout.spot to))
template layout address (Store width to value) =
    in_two_code (layout.spot to) (layout.spot value) ++ (range_check scratch ++ store_instruction width ∷ [])
template layout address (Clear offset words) =
    object_address layout t8 offset ++ (object_address layout t9 (offset + 4 * words) ++ clear_loop)
template layout address (Label label) = []
template layout address (Jump label) = j (address (ToLabel label)) ∷ nop ∷ []
template layout address (BranchZero test label) =
    in_code (layout.spot test) ++ bne t8 0 3 ∷ nop ∷ j (address (ToLabel label)) ∷ nop ∷ []
template layout address (BranchNonzero test label) =
    in_code (layout.spot test) ++ beq t8 0 3 ∷ nop ∷ j (address (ToLabel label)) ∷ nop ∷ []
template layout address (Argument index from) = in_code (layout.spot from) ++ sw t8 (4 * index) sp ∷ []
template layout address (GetParameter to index) =
    in_code (parameter_spot layout index) ++ out_code (layout.spot to)
template layout address (Call target) = jal target ∷ nop ∷ []
template layout address (CallNumber function count) = in_code (layout.spot function) ++ number_call count
template layout address (Result to) = addu t8 v0 0 ∷ out_code (layout.spot to)
template layout address (Return from) = in_code (layout.spot from) ++ addu v0 t8 0 ∷ leave_code address
template layout address ReturnZero = addu v0 0 0 ∷ leave_code address
template layout address (Sys kind to from) =
    in_code (layout.spot from) ++ (service_code (sys_number kind) ++ out_code (layout.spot to))
template layout address (Run routine to from) =
    in_code (layout.spot from) ++ (routine_code (run_number routine) ++ out_code (layout.spot to))
template layout address (New to code kind captures) =
    constant a0 code
    ++ (ori a1 0 (closure_number kind) ∷ constant a2 captures
    ++ jal new_address ∷ nop ∷ addu t8 v0 0 ∷ out_code (layout.spot to))
template layout address (Put index from) = in_code (layout.spot from) ++ put_code index
