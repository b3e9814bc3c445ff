-- What is read from a word fits.
use Rattle.std.proofs.Common.{◌≡◌, ◌≢◌, ℕ, ◌/◌, ◌%◌, ◌==◌, Bool, true, false, ◌&&◌, cond, Option, Some, None, refl}
use Rattle.std.proofs.Common.{arith, subst}
use Rattle.std.specs.Prelude.{IfSome}
use Rattle.std.proofs.lemmas.Bool.{eqb-false}
use Rattle.mips_encoder.specs.declared.instruction.Instr.{Instr}
use Rattle.mips_encoder.specs.declared.instruction.Instr.TheVariants as instr
use Rattle.mips_encoder.specs.Table.{Fits}
use Rattle.mips_encoder.specs.Decoded as decoded
use Rattle.mips_encoder.specs.Fields as field
use Rattle.mips_encoder.specs.declared.instruction.ArithmeticOp.TheVariants.{Add, Addu, Sub, Subu, And, Or, Xor, Nor}
use Rattle.mips_encoder.specs.declared.instruction.ArithmeticOp.TheVariants.{Slt, Sltu}
use Rattle.mips_encoder.specs.declared.instruction.ShiftOp.TheVariants.{Sll, Srl, Sra}
use Rattle.mips_encoder.specs.declared.instruction.ShiftVariableOp.TheVariants.{Sllv, Srlv, Srav}
use Rattle.mips_encoder.specs.declared.instruction.HiLo.TheVariants.{Hi, Lo}
use Rattle.mips_encoder.specs.declared.instruction.MultiplyDivideOp.TheVariants.{Mult, Multu, Div, Divu}
use Rattle.mips_encoder.specs.declared.instruction.SignTest.TheVariants.{Negative, NonNegative}
use Rattle.mips_encoder.specs.declared.instruction.JumpOp.TheVariants.{J, Jal}
use Rattle.mips_encoder.specs.declared.instruction.EqualityOp.TheVariants.{Beq, Bne}
use Rattle.mips_encoder.specs.declared.instruction.ZeroComparisonOp.TheVariants.{Blez, Bgtz}
use Rattle.mips_encoder.specs.declared.instruction.ImmediateOp.TheVariants.{Addi, Addiu, Slti, Sltiu, Andi, Ori, Xori}
use Rattle.mips_encoder.specs.declared.instruction.MemoryOp.TheVariants.{Lb, Lh, Lw, Lbu, Lhu, Sb, Sh, Sw}
use Rattle.mips_encoder.specs.declared.instruction.SignTest.{SignTest}

pub record Fitting (o : Option Instr) : Type 0 where
  pub fits : IfSome o Fits

nothing : Fitting None
nothing = record { fits = tt }

yes : (i : Instr) → Fits i → Fitting (Some i)
yes i h = record { fits = h }

only_by : (t : Bool) (i : Instr) → Fits i → Fitting (cond t (Some i) None)
only_by true i h = yes i h
only_by false i h = nothing

only_fits : (t : Bool) (i : Instr) → Fits i → Fitting (decoded.only t i)
only_fits t i h = only_by t i h

row_fits : (t : Bool) {x y : Option Instr} → Fitting x → Fitting y → Fitting (cond t x y)
row_fits true h k = h
row_fits false h k = k

unless : (t : Bool) {y : Option Instr} → (t ≡ false → Fitting y) → Fitting (cond t None y)
unless true h = nothing
unless false h = h refl

jalr_fits : (w : ℕ) → Fitting (decoded.jump_and_link_register w)
jalr_fits w =
    unless (field.rd w == field.rs w)
    (λ e. only_fits ((field.rt w == 0) && (field.shamt w == 0))
    (instr.JumpAndLinkRegister (record { rd = field.rd w; rs = field.rs w }))
    ((omega arith), (omega arith), eqb-false (field.rd w) (field.rs w) e))

link_fits : (test : SignTest) (w : ℕ) → Fitting (decoded.branch_on_sign_and_link test w)
link_fits test w =
    unless (field.rs w == 31)
    (λ e. let no : field.rs w ≢ 31 = eqb-false (field.rs w) 31 e in
    yes (instr.BranchOnSignAndLink test (field.rs w) (field.immediate w)) ((omega (arith, no)), (omega arith)))

special_fits : (w : ℕ) → Fitting (decoded.of_special w)
special_fits w =
    row_fits (field.funct w == 0)
    (only_fits (field.rs w == 0) (instr.Shift Sll (field.rd w) (field.rt w) (field.shamt w))
    ((omega arith), (omega arith), (omega arith))) (
    row_fits (field.funct w == 2)
    (only_fits (field.rs w == 0) (instr.Shift Srl (field.rd w) (field.rt w) (field.shamt w))
    ((omega arith), (omega arith), (omega arith))) (
    row_fits (field.funct w == 3)
    (only_fits (field.rs w == 0) (instr.Shift Sra (field.rd w) (field.rt w) (field.shamt w))
    ((omega arith), (omega arith), (omega arith))) (
    row_fits (field.funct w == 4)
    (only_fits (field.shamt w == 0) (instr.ShiftVariable Sllv (field.rd w) (field.rt w) (field.rs w))
    ((omega arith), (omega arith), (omega arith))) (
    row_fits (field.funct w == 6)
    (only_fits (field.shamt w == 0) (instr.ShiftVariable Srlv (field.rd w) (field.rt w) (field.rs w))
    ((omega arith), (omega arith), (omega arith))) (
    row_fits (field.funct w == 7)
    (only_fits (field.shamt w == 0) (instr.ShiftVariable Srav (field.rd w) (field.rt w) (field.rs w))
    ((omega arith), (omega arith), (omega arith))) (
    row_fits (field.funct w == 8) (only_fits (w / 64 % 32768 == 0) (instr.JumpRegister (field.rs w)) (omega arith)) (
    row_fits (field.funct w == 9) (jalr_fits w) (
    row_fits (field.funct w == 12) (only_fits (w == 12) instr.Syscall tt) (
    row_fits (field.funct w == 13) (yes (instr.Break (w / 64 % 1048576)) (omega arith)) (
    row_fits (field.funct w == 16)
    (only_fits ((w / 65536 == 0) && (field.shamt w == 0)) (instr.MoveFrom Hi (field.rd w)) (omega arith)) (
    row_fits (field.funct w == 17) (only_fits (w / 64 % 32768 == 0) (instr.MoveTo Hi (field.rs w)) (omega arith)) (
    row_fits (field.funct w == 18)
    (only_fits ((w / 65536 == 0) && (field.shamt w == 0)) (instr.MoveFrom Lo (field.rd w)) (omega arith)) (
    row_fits (field.funct w == 19) (only_fits (w / 64 % 32768 == 0) (instr.MoveTo Lo (field.rs w)) (omega arith)) (
    row_fits (field.funct w == 24)
    (only_fits (w / 64 % 1024 == 0) (instr.MultiplyDivide Mult (field.rs w) (field.rt w))
    ((omega arith), (omega arith))) (
    row_fits (field.funct w == 25)
    (only_fits (w / 64 % 1024 == 0) (instr.MultiplyDivide Multu (field.rs w) (field.rt w))
    ((omega arith), (omega arith))) (
    row_fits (field.funct w == 26)
    (only_fits (w / 64 % 1024 == 0) (instr.MultiplyDivide Div (field.rs w) (field.rt w))
    ((omega arith), (omega arith))) (
    row_fits (field.funct w == 27)
    (only_fits (w / 64 % 1024 == 0) (instr.MultiplyDivide Divu (field.rs w) (field.rt w))
    ((omega arith), (omega arith))) (
    row_fits (field.funct w == 32)
    (only_fits (field.shamt w == 0) (instr.Arithmetic Add (field.rd w) (field.rs w) (field.rt w))
    ((omega arith), (omega arith), (omega arith))) (
    row_fits (field.funct w == 33)
    (only_fits (field.shamt w == 0) (instr.Arithmetic Addu (field.rd w) (field.rs w) (field.rt w))
    ((omega arith), (omega arith), (omega arith))) (
    row_fits (field.funct w == 34)
    (only_fits (field.shamt w == 0) (instr.Arithmetic Sub (field.rd w) (field.rs w) (field.rt w))
    ((omega arith), (omega arith), (omega arith))) (
    row_fits (field.funct w == 35)
    (only_fits (field.shamt w == 0) (instr.Arithmetic Subu (field.rd w) (field.rs w) (field.rt w))
    ((omega arith), (omega arith), (omega arith))) (
    row_fits (field.funct w == 36)
    (only_fits (field.shamt w == 0) (instr.Arithmetic And (field.rd w) (field.rs w) (field.rt w))
    ((omega arith), (omega arith), (omega arith))) (
    row_fits (field.funct w == 37)
    (only_fits (field.shamt w == 0) (instr.Arithmetic Or (field.rd w) (field.rs w) (field.rt w))
    ((omega arith), (omega arith), (omega arith))) (
    row_fits (field.funct w == 38)
    (only_fits (field.shamt w == 0) (instr.Arithmetic Xor (field.rd w) (field.rs w) (field.rt w))
    ((omega arith), (omega arith), (omega arith))) (
    row_fits (field.funct w == 39)
    (only_fits (field.shamt w == 0) (instr.Arithmetic Nor (field.rd w) (field.rs w) (field.rt w))
    ((omega arith), (omega arith), (omega arith))) (
    row_fits (field.funct w == 42)
    (only_fits (field.shamt w == 0) (instr.Arithmetic Slt (field.rd w) (field.rs w) (field.rt w))
    ((omega arith), (omega arith), (omega arith))) (
    row_fits (field.funct w == 43)
    (only_fits (field.shamt w == 0) (instr.Arithmetic Sltu (field.rd w) (field.rs w) (field.rt w))
    ((omega arith), (omega arith), (omega arith))) (
    nothing))))))))))))))))))))))))))))

regimm_fits : (w : ℕ) → Fitting (decoded.of_regimm w)
regimm_fits w =
    row_fits (field.rt w == 0)
    (yes (instr.BranchOnSign Negative (field.rs w) (field.immediate w)) ((omega arith), (omega arith))) (
    row_fits (field.rt w == 1)
    (yes (instr.BranchOnSign NonNegative (field.rs w) (field.immediate w)) ((omega arith), (omega arith))) (
    row_fits (field.rt w == 16) (link_fits Negative w) (
    row_fits (field.rt w == 17) (link_fits NonNegative w) (
    nothing))))

pub instr_fits : (w : ℕ) → Fitting (decoded.instr_of w)
instr_fits w =
    row_fits (field.opcode w == 0) (special_fits w) (
    row_fits (field.opcode w == 1) (regimm_fits w) (
    row_fits (field.opcode w == 2) (yes (instr.Jump J (w % 67108864)) (omega arith)) (
    row_fits (field.opcode w == 3) (yes (instr.Jump Jal (w % 67108864)) (omega arith)) (
    row_fits (field.opcode w == 4)
    (yes (instr.BranchOnEquality Beq (field.rs w) (field.rt w) (field.immediate w))
    ((omega arith), (omega arith), (omega arith))) (
    row_fits (field.opcode w == 5)
    (yes (instr.BranchOnEquality Bne (field.rs w) (field.rt w) (field.immediate w))
    ((omega arith), (omega arith), (omega arith))) (
    row_fits (field.opcode w == 6)
    (only_fits (field.rt w == 0) (instr.BranchOnZero Blez (field.rs w) (field.immediate w))
    ((omega arith), (omega arith))) (
    row_fits (field.opcode w == 7)
    (only_fits (field.rt w == 0) (instr.BranchOnZero Bgtz (field.rs w) (field.immediate w))
    ((omega arith), (omega arith))) (
    row_fits (field.opcode w == 8)
    (yes (instr.ImmediateArithmetic Addi (field.rt w) (field.rs w) (field.immediate w))
    ((omega arith), (omega arith), (omega arith))) (
    row_fits (field.opcode w == 9)
    (yes (instr.ImmediateArithmetic Addiu (field.rt w) (field.rs w) (field.immediate w))
    ((omega arith), (omega arith), (omega arith))) (
    row_fits (field.opcode w == 10)
    (yes (instr.ImmediateArithmetic Slti (field.rt w) (field.rs w) (field.immediate w))
    ((omega arith), (omega arith), (omega arith))) (
    row_fits (field.opcode w == 11)
    (yes (instr.ImmediateArithmetic Sltiu (field.rt w) (field.rs w) (field.immediate w))
    ((omega arith), (omega arith), (omega arith))) (
    row_fits (field.opcode w == 12)
    (yes (instr.ImmediateArithmetic Andi (field.rt w) (field.rs w) (field.immediate w))
    ((omega arith), (omega arith), (omega arith))) (
    row_fits (field.opcode w == 13)
    (yes (instr.ImmediateArithmetic Ori (field.rt w) (field.rs w) (field.immediate w))
    ((omega arith), (omega arith), (omega arith))) (
    row_fits (field.opcode w == 14)
    (yes (instr.ImmediateArithmetic Xori (field.rt w) (field.rs w) (field.immediate w))
    ((omega arith), (omega arith), (omega arith))) (
    row_fits (field.opcode w == 15)
    (only_fits (field.rs w == 0) (instr.LoadUpperImmediate (field.rt w) (field.immediate w))
    ((omega arith), (omega arith))) (
    row_fits (field.opcode w == 32)
    (yes (instr.Memory Lb (field.rt w) (field.immediate w) (field.rs w))
    ((omega arith), (omega arith), (omega arith))) (
    row_fits (field.opcode w == 33)
    (yes (instr.Memory Lh (field.rt w) (field.immediate w) (field.rs w))
    ((omega arith), (omega arith), (omega arith))) (
    row_fits (field.opcode w == 35)
    (yes (instr.Memory Lw (field.rt w) (field.immediate w) (field.rs w))
    ((omega arith), (omega arith), (omega arith))) (
    row_fits (field.opcode w == 36)
    (yes (instr.Memory Lbu (field.rt w) (field.immediate w) (field.rs w))
    ((omega arith), (omega arith), (omega arith))) (
    row_fits (field.opcode w == 37)
    (yes (instr.Memory Lhu (field.rt w) (field.immediate w) (field.rs w))
    ((omega arith), (omega arith), (omega arith))) (
    row_fits (field.opcode w == 40)
    (yes (instr.Memory Sb (field.rt w) (field.immediate w) (field.rs w))
    ((omega arith), (omega arith), (omega arith))) (
    row_fits (field.opcode w == 41)
    (yes (instr.Memory Sh (field.rt w) (field.immediate w) (field.rs w))
    ((omega arith), (omega arith), (omega arith))) (
    row_fits (field.opcode w == 43)
    (yes (instr.Memory Sw (field.rt w) (field.immediate w) (field.rs w))
    ((omega arith), (omega arith), (omega arith))) (
    nothing))))))))))))))))))))))))

pub fits_back : (w : ℕ) (i : Instr) → decoded.instr_of w ≡ Some i → Fits i
fits_back w i e = (subst Fitting e (instr_fits w)).fits
