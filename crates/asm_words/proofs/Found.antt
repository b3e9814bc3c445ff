-- Each operation is found by its name.
use Rattle.std.proofs.Common.{◌≡◌, Some, refl}
use Rattle.asm_words.specs.declared.operation.Operation.{Operation}
use Rattle.asm_words.specs.declared.operation.Operation.TheVariants as i
use Rattle.mips_encoder.specs.declared.instruction.ArithmeticOp.TheVariants.{Add, Addu, Sub, Subu, And, Or, Xor, Nor}
use Rattle.mips_encoder.specs.declared.instruction.ArithmeticOp.TheVariants.{Slt, Sltu}
use Rattle.mips_encoder.specs.declared.instruction.ShiftOp.TheVariants.{Sll, Srl, Sra}
use Rattle.mips_encoder.specs.declared.instruction.ShiftVariableOp.TheVariants.{Sllv, Srlv, Srav}
use Rattle.mips_encoder.specs.declared.instruction.HiLo.TheVariants.{Hi, Lo}
use Rattle.mips_encoder.specs.declared.instruction.MultiplyDivideOp.TheVariants.{Mult, Multu, Div, Divu}
use Rattle.mips_encoder.specs.declared.instruction.SignTest.TheVariants.{Negative, NonNegative}
use Rattle.mips_encoder.specs.declared.instruction.JumpOp.TheVariants.{J, Jal}
use Rattle.mips_encoder.specs.declared.instruction.EqualityOp.TheVariants.{Beq, Bne}
use Rattle.mips_encoder.specs.declared.instruction.ZeroComparisonOp.TheVariants.{Blez, Bgtz}
use Rattle.mips_encoder.specs.declared.instruction.ImmediateOp.TheVariants.{Addi, Addiu, Slti, Sltiu, Andi, Ori, Xori}
use Rattle.mips_encoder.specs.declared.instruction.MemoryOp.TheVariants.{Lb, Lh, Lw, Lbu, Lhu, Sb, Sh, Sw}
use Rattle.asm_words.specs.Operations.{operation_name, operation_of}

pub found : (op : Operation) → operation_of (operation_name op) ≡ Some op
unfolding operation_of
found (i.Arithmetic Add) = refl
found (i.Arithmetic Addu) = refl
found (i.Arithmetic Sub) = refl
found (i.Arithmetic Subu) = refl
found (i.Arithmetic And) = refl
found (i.Arithmetic Or) = refl
found (i.Arithmetic Xor) = refl
found (i.Arithmetic Nor) = refl
found (i.Arithmetic Slt) = refl
found (i.Arithmetic Sltu) = refl
found (i.Shift Sll) = refl
found (i.Shift Srl) = refl
found (i.Shift Sra) = refl
found (i.ShiftVariable Sllv) = refl
found (i.ShiftVariable Srlv) = refl
found (i.ShiftVariable Srav) = refl
found i.JumpRegister = refl
found i.JumpAndLinkRegister = refl
found i.Syscall = refl
found i.Break = refl
found (i.MoveFrom Hi) = refl
found (i.MoveFrom Lo) = refl
found (i.MoveTo Hi) = refl
found (i.MoveTo Lo) = refl
found (i.MultiplyDivide Mult) = refl
found (i.MultiplyDivide Multu) = refl
found (i.MultiplyDivide Div) = refl
found (i.MultiplyDivide Divu) = refl
found (i.BranchOnSign Negative) = refl
found (i.BranchOnSign NonNegative) = refl
found (i.BranchOnSignAndLink Negative) = refl
found (i.BranchOnSignAndLink NonNegative) = refl
found (i.Jump J) = refl
found (i.Jump Jal) = refl
found (i.BranchOnEquality Beq) = refl
found (i.BranchOnEquality Bne) = refl
found (i.BranchOnZero Blez) = refl
found (i.BranchOnZero Bgtz) = refl
found (i.ImmediateArithmetic Addi) = refl
found (i.ImmediateArithmetic Addiu) = refl
found (i.ImmediateArithmetic Slti) = refl
found (i.ImmediateArithmetic Sltiu) = refl
found (i.ImmediateArithmetic Andi) = refl
found (i.ImmediateArithmetic Ori) = refl
found (i.ImmediateArithmetic Xori) = refl
found i.LoadUpperImmediate = refl
found (i.Memory Lb) = refl
found (i.Memory Lh) = refl
found (i.Memory Lw) = refl
found (i.Memory Lbu) = refl
found (i.Memory Lhu) = refl
found (i.Memory Sb) = refl
found (i.Memory Sh) = refl
found (i.Memory Sw) = refl
found i.NoOperation = refl
