-- The names of operations are words, and no directives.
use Rattle.std.proofs.Common.{◌≡◌, ◌<◌, List, length, refl, arith}
use Rattle.asm_words.specs.declared.operation.Operation.{Operation}
use Rattle.asm_words.specs.declared.operation.Operation.TheVariants as i
use Rattle.mips_encoder.specs.declared.instruction.ArithmeticOp.TheVariants.{Add, Addu, Sub, Subu, And, Or, Xor, Nor}
use Rattle.mips_encoder.specs.declared.instruction.ArithmeticOp.TheVariants.{Slt, Sltu}
use Rattle.mips_encoder.specs.declared.instruction.ShiftOp.TheVariants.{Sll, Srl, Sra}
use Rattle.mips_encoder.specs.declared.instruction.ShiftVariableOp.TheVariants.{Sllv, Srlv, Srav}
use Rattle.mips_encoder.specs.declared.instruction.HiLo.TheVariants.{Hi, Lo}
use Rattle.mips_encoder.specs.declared.instruction.MultiplyDivideOp.TheVariants.{Mult, Multu, Div, Divu}
use Rattle.mips_encoder.specs.declared.instruction.SignTest.TheVariants.{Negative, NonNegative}
use Rattle.mips_encoder.specs.declared.instruction.JumpOp.TheVariants.{J, Jal}
use Rattle.mips_encoder.specs.declared.instruction.EqualityOp.TheVariants.{Beq, Bne}
use Rattle.mips_encoder.specs.declared.instruction.ZeroComparisonOp.TheVariants.{Blez, Bgtz}
use Rattle.mips_encoder.specs.declared.instruction.ImmediateOp.TheVariants.{Addi, Addiu, Slti, Sltiu, Andi, Ori, Xori}
use Rattle.mips_encoder.specs.declared.instruction.MemoryOp.TheVariants.{Lb, Lh, Lw, Lbu, Lhu, Sb, Sh, Sw}
use Rattle.asm_words.specs.Operations.{operation_name, operation_of}
use Rattle.asm_lines.specs.declared.piece.Piece.{Piece}
use Rattle.asm_lines.specs.Lines.{statement_by, instruction}
use Rattle.mips_text_proof.proofs.Wordy.{Wordy}

pub wordy_name : (op : Operation) → Wordy (operation_name op)
wordy_name (i.Arithmetic Add) = record { parts = refl; feeds = refl }
wordy_name (i.Arithmetic Addu) = record { parts = refl; feeds = refl }
wordy_name (i.Arithmetic Sub) = record { parts = refl; feeds = refl }
wordy_name (i.Arithmetic Subu) = record { parts = refl; feeds = refl }
wordy_name (i.Arithmetic And) = record { parts = refl; feeds = refl }
wordy_name (i.Arithmetic Or) = record { parts = refl; feeds = refl }
wordy_name (i.Arithmetic Xor) = record { parts = refl; feeds = refl }
wordy_name (i.Arithmetic Nor) = record { parts = refl; feeds = refl }
wordy_name (i.Arithmetic Slt) = record { parts = refl; feeds = refl }
wordy_name (i.Arithmetic Sltu) = record { parts = refl; feeds = refl }
wordy_name (i.Shift Sll) = record { parts = refl; feeds = refl }
wordy_name (i.Shift Srl) = record { parts = refl; feeds = refl }
wordy_name (i.Shift Sra) = record { parts = refl; feeds = refl }
wordy_name (i.ShiftVariable Sllv) = record { parts = refl; feeds = refl }
wordy_name (i.ShiftVariable Srlv) = record { parts = refl; feeds = refl }
wordy_name (i.ShiftVariable Srav) = record { parts = refl; feeds = refl }
wordy_name i.JumpRegister = record { parts = refl; feeds = refl }
wordy_name i.JumpAndLinkRegister = record { parts = refl; feeds = refl }
wordy_name i.Syscall = record { parts = refl; feeds = refl }
wordy_name i.Break = record { parts = refl; feeds = refl }
wordy_name (i.MoveFrom Hi) = record { parts = refl; feeds = refl }
wordy_name (i.MoveFrom Lo) = record { parts = refl; feeds = refl }
wordy_name (i.MoveTo Hi) = record { parts = refl; feeds = refl }
wordy_name (i.MoveTo Lo) = record { parts = refl; feeds = refl }
wordy_name (i.MultiplyDivide Mult) = record { parts = refl; feeds = refl }
wordy_name (i.MultiplyDivide Multu) = record { parts = refl; feeds = refl }
wordy_name (i.MultiplyDivide Div) = record { parts = refl; feeds = refl }
wordy_name (i.MultiplyDivide Divu) = record { parts = refl; feeds = refl }
wordy_name (i.BranchOnSign Negative) = record { parts = refl; feeds = refl }
wordy_name (i.BranchOnSign NonNegative) = record { parts = refl; feeds = refl }
wordy_name (i.BranchOnSignAndLink Negative) = record { parts = refl; feeds = refl }
wordy_name (i.BranchOnSignAndLink NonNegative) = record { parts = refl; feeds = refl }
wordy_name (i.Jump J) = record { parts = refl; feeds = refl }
wordy_name (i.Jump Jal) = record { parts = refl; feeds = refl }
wordy_name (i.BranchOnEquality Beq) = record { parts = refl; feeds = refl }
wordy_name (i.BranchOnEquality Bne) = record { parts = refl; feeds = refl }
wordy_name (i.BranchOnZero Blez) = record { parts = refl; feeds = refl }
wordy_name (i.BranchOnZero Bgtz) = record { parts = refl; feeds = refl }
wordy_name (i.ImmediateArithmetic Addi) = record { parts = refl; feeds = refl }
wordy_name (i.ImmediateArithmetic Addiu) = record { parts = refl; feeds = refl }
wordy_name (i.ImmediateArithmetic Slti) = record { parts = refl; feeds = refl }
wordy_name (i.ImmediateArithmetic Sltiu) = record { parts = refl; feeds = refl }
wordy_name (i.ImmediateArithmetic Andi) = record { parts = refl; feeds = refl }
wordy_name (i.ImmediateArithmetic Ori) = record { parts = refl; feeds = refl }
wordy_name (i.ImmediateArithmetic Xori) = record { parts = refl; feeds = refl }
wordy_name i.LoadUpperImmediate = record { parts = refl; feeds = refl }
wordy_name (i.Memory Lb) = record { parts = refl; feeds = refl }
wordy_name (i.Memory Lh) = record { parts = refl; feeds = refl }
wordy_name (i.Memory Lw) = record { parts = refl; feeds = refl }
wordy_name (i.Memory Lbu) = record { parts = refl; feeds = refl }
wordy_name (i.Memory Lhu) = record { parts = refl; feeds = refl }
wordy_name (i.Memory Sb) = record { parts = refl; feeds = refl }
wordy_name (i.Memory Sh) = record { parts = refl; feeds = refl }
wordy_name (i.Memory Sw) = record { parts = refl; feeds = refl }
wordy_name i.NoOperation = record { parts = refl; feeds = refl }

pub some_name : (op : Operation) → 0 < length (operation_name op)
some_name (i.Arithmetic Add) = omega arith
some_name (i.Arithmetic Addu) = omega arith
some_name (i.Arithmetic Sub) = omega arith
some_name (i.Arithmetic Subu) = omega arith
some_name (i.Arithmetic And) = omega arith
some_name (i.Arithmetic Or) = omega arith
some_name (i.Arithmetic Xor) = omega arith
some_name (i.Arithmetic Nor) = omega arith
some_name (i.Arithmetic Slt) = omega arith
some_name (i.Arithmetic Sltu) = omega arith
some_name (i.Shift Sll) = omega arith
some_name (i.Shift Srl) = omega arith
some_name (i.Shift Sra) = omega arith
some_name (i.ShiftVariable Sllv) = omega arith
some_name (i.ShiftVariable Srlv) = omega arith
some_name (i.ShiftVariable Srav) = omega arith
some_name i.JumpRegister = omega arith
some_name i.JumpAndLinkRegister = omega arith
some_name i.Syscall = omega arith
some_name i.Break = omega arith
some_name (i.MoveFrom Hi) = omega arith
some_name (i.MoveFrom Lo) = omega arith
some_name (i.MoveTo Hi) = omega arith
some_name (i.MoveTo Lo) = omega arith
some_name (i.MultiplyDivide Mult) = omega arith
some_name (i.MultiplyDivide Multu) = omega arith
some_name (i.MultiplyDivide Div) = omega arith
some_name (i.MultiplyDivide Divu) = omega arith
some_name (i.BranchOnSign Negative) = omega arith
some_name (i.BranchOnSign NonNegative) = omega arith
some_name (i.BranchOnSignAndLink Negative) = omega arith
some_name (i.BranchOnSignAndLink NonNegative) = omega arith
some_name (i.Jump J) = omega arith
some_name (i.Jump Jal) = omega arith
some_name (i.BranchOnEquality Beq) = omega arith
some_name (i.BranchOnEquality Bne) = omega arith
some_name (i.BranchOnZero Blez) = omega arith
some_name (i.BranchOnZero Bgtz) = omega arith
some_name (i.ImmediateArithmetic Addi) = omega arith
some_name (i.ImmediateArithmetic Addiu) = omega arith
some_name (i.ImmediateArithmetic Slti) = omega arith
some_name (i.ImmediateArithmetic Sltiu) = omega arith
some_name (i.ImmediateArithmetic Andi) = omega arith
some_name (i.ImmediateArithmetic Ori) = omega arith
some_name (i.ImmediateArithmetic Xori) = omega arith
some_name i.LoadUpperImmediate = omega arith
some_name (i.Memory Lb) = omega arith
some_name (i.Memory Lh) = omega arith
some_name (i.Memory Lw) = omega arith
some_name (i.Memory Lbu) = omega arith
some_name (i.Memory Lhu) = omega arith
some_name (i.Memory Sb) = omega arith
some_name (i.Memory Sh) = omega arith
some_name (i.Memory Sw) = omega arith
some_name i.NoOperation = omega arith

pub by_name : (op : Operation) (z : List Piece) →
    statement_by (operation_name op) z ≡ instruction (operation_of (operation_name op)) z
by_name (i.Arithmetic Add) z = refl
by_name (i.Arithmetic Addu) z = refl
by_name (i.Arithmetic Sub) z = refl
by_name (i.Arithmetic Subu) z = refl
by_name (i.Arithmetic And) z = refl
by_name (i.Arithmetic Or) z = refl
by_name (i.Arithmetic Xor) z = refl
by_name (i.Arithmetic Nor) z = refl
by_name (i.Arithmetic Slt) z = refl
by_name (i.Arithmetic Sltu) z = refl
by_name (i.Shift Sll) z = refl
by_name (i.Shift Srl) z = refl
by_name (i.Shift Sra) z = refl
by_name (i.ShiftVariable Sllv) z = refl
by_name (i.ShiftVariable Srlv) z = refl
by_name (i.ShiftVariable Srav) z = refl
by_name i.JumpRegister z = refl
by_name i.JumpAndLinkRegister z = refl
by_name i.Syscall z = refl
by_name i.Break z = refl
by_name (i.MoveFrom Hi) z = refl
by_name (i.MoveFrom Lo) z = refl
by_name (i.MoveTo Hi) z = refl
by_name (i.MoveTo Lo) z = refl
by_name (i.MultiplyDivide Mult) z = refl
by_name (i.MultiplyDivide Multu) z = refl
by_name (i.MultiplyDivide Div) z = refl
by_name (i.MultiplyDivide Divu) z = refl
by_name (i.BranchOnSign Negative) z = refl
by_name (i.BranchOnSign NonNegative) z = refl
by_name (i.BranchOnSignAndLink Negative) z = refl
by_name (i.BranchOnSignAndLink NonNegative) z = refl
by_name (i.Jump J) z = refl
by_name (i.Jump Jal) z = refl
by_name (i.BranchOnEquality Beq) z = refl
by_name (i.BranchOnEquality Bne) z = refl
by_name (i.BranchOnZero Blez) z = refl
by_name (i.BranchOnZero Bgtz) z = refl
by_name (i.ImmediateArithmetic Addi) z = refl
by_name (i.ImmediateArithmetic Addiu) z = refl
by_name (i.ImmediateArithmetic Slti) z = refl
by_name (i.ImmediateArithmetic Sltiu) z = refl
by_name (i.ImmediateArithmetic Andi) z = refl
by_name (i.ImmediateArithmetic Ori) z = refl
by_name (i.ImmediateArithmetic Xori) z = refl
by_name i.LoadUpperImmediate z = refl
by_name (i.Memory Lb) z = refl
by_name (i.Memory Lh) z = refl
by_name (i.Memory Lw) z = refl
by_name (i.Memory Lbu) z = refl
by_name (i.Memory Lhu) z = refl
by_name (i.Memory Sb) z = refl
by_name (i.Memory Sh) z = refl
by_name (i.Memory Sw) z = refl
by_name i.NoOperation z = refl
