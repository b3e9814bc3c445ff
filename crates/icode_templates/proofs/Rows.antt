-- The definitions computed, row by row, against the words of the design of this code generator, which were written down
-- apart from the definitions: each row of instructions is what stands there. An edit of a definition breaks its rows.
use Rattle.std.specs.Prelude.{ℕ, ◌≡◌, [], ◌∷◌, refl}
use Rattle.mips_assembly.specs.Assembly.{addu, subu, and, or, xor, nor, slt, sltu, sll, srl, sra, sllv, srlv, srav}
use Rattle.mips_assembly.specs.Assembly.{mult, div, divu, mflo, mfhi, addiu, sltiu, andi, ori, xori, lui, lb, lbu, lh}
use Rattle.mips_assembly.specs.Assembly.{lhu, lw, sb, sh, sw, beq, bne, j, jal, jalr, syscall, trap}
use Rattle.icode_ops.specs.declared.kind.BinKind.TheVariants as bin
use Rattle.icode_ops.specs.declared.kind.UnKind.TheVariants as un
use Rattle.icode_ops.specs.declared.kind.SysKind.TheVariants as sys
use Rattle.icode_ops.specs.declared.kind.RunKind.TheVariants as run
use Rattle.icode_ops.specs.declared.kind.ClosureKind.TheVariants as closure
use Rattle.word32.specs.declared.width.Width.TheVariants as width
use Rattle.icode_ops.specs.declared.op.Op.TheVariants.{Const, Move, Bin, CheckDivision, CheckZero, Un, FrameAddress}
use Rattle.icode_ops.specs.declared.op.Op.TheVariants.{Load, Store, Clear, Label, Jump, BranchZero, BranchNonzero}
use Rattle.icode_ops.specs.declared.op.Op.TheVariants.{Argument, GetParameter, Call, CallNumber, Result, Return}
use Rattle.icode_ops.specs.declared.op.Op.TheVariants.{ReturnZero, Sys, Run, New, Put}
use Rattle.icode_templates.specs.Layout.{Layout, slot, spot_of}
use Rattle.icode_templates.specs.Templates.{Aim, ToLabel, ToEpilogue, template}
use Rattle.std.specs.Prelude.{◌+◌, ◌*◌}

abbrev in_registers : Layout
in_registers = record { spot = λ v. spot_of v v; frame = 1024; objects = 32 }

abbrev near : Layout
near = record { spot = λ v. spot_of 12 v; frame = 1024; objects = 32 }

abbrev far : Layout
far = record { spot = λ v. slot (36128 + 4 * v); frame = 65536; objects = 32 }

abbrev places_of_labels : Aim → ℕ
places_of_labels (ToLabel l) = 4194400
places_of_labels ToEpilogue = 4194500

const-registers : template in_registers places_of_labels (Const 0 305419896) ≡ lui 24 4660 ∷ ori 24 24 22136 ∷ addu 16
    24 0 ∷ []
const-registers = refl

const-near : template near places_of_labels (Const 0 305419896) ≡ lui 24 4660 ∷ ori 24 24 22136 ∷ sw 24 128 29 ∷ []
const-near = refl

const-far : template far places_of_labels (Const 0 305419896) ≡ lui 24 4660 ∷ ori 24 24 22136 ∷ lui 1 1 ∷ addu 1 1 29 ∷
    sw 24 36128 1 ∷ []
const-far = refl

move-registers : template in_registers places_of_labels (Move 0 1) ≡ addu 24 17 0 ∷ addu 16 24 0 ∷ []
move-registers = refl

move-near : template near places_of_labels (Move 0 1) ≡ lw 24 132 29 ∷ sll 0 0 0 ∷ sw 24 128 29 ∷ []
move-near = refl

move-far : template far places_of_labels (Move 0 1) ≡ lui 1 1 ∷ addu 1 1 29 ∷ lw 24 36132 1 ∷ sll 0 0 0 ∷ lui 1 1 ∷ addu
    1 1 29 ∷ sw 24 36128 1 ∷ []
move-far = refl

bin-add-registers : template in_registers places_of_labels (Bin bin.Add 0 1 2) ≡ addu 24 17 0 ∷ addu 25 18 0 ∷ addu 24
    24 25 ∷ addu 16 24 0 ∷ []
bin-add-registers = refl

bin-add-near : template near places_of_labels (Bin bin.Add 0 1 2) ≡ lw 24 132 29 ∷ lw 25 136 29 ∷ sll 0 0 0 ∷ addu 24 24
    25 ∷ sw 24 128 29 ∷ []
bin-add-near = refl

bin-add-far : template far places_of_labels (Bin bin.Add 0 1 2) ≡ lui 1 1 ∷ addu 1 1 29 ∷ lw 24 36132 1 ∷ lui 1 1 ∷ addu
    1 1 29 ∷ lw 25 36136 1 ∷ sll 0 0 0 ∷ addu 24 24 25 ∷ lui 1 1 ∷ addu 1 1 29 ∷ sw 24 36128 1 ∷ []
bin-add-far = refl

bin-subtract-registers : template in_registers places_of_labels (Bin bin.Subtract 0 1 2) ≡ addu 24 17 0 ∷ addu 25 18 0 ∷
    subu 24 24 25 ∷ addu 16 24 0 ∷ []
bin-subtract-registers = refl

bin-subtract-near : template near places_of_labels (Bin bin.Subtract 0 1 2) ≡ lw 24 132 29 ∷ lw 25 136 29 ∷ sll 0 0 0 ∷
    subu 24 24 25 ∷ sw 24 128 29 ∷ []
bin-subtract-near = refl

bin-subtract-far : template far places_of_labels (Bin bin.Subtract 0 1 2) ≡ lui 1 1 ∷ addu 1 1 29 ∷ lw 24 36132 1 ∷ lui
    1 1 ∷ addu 1 1 29 ∷ lw 25 36136 1 ∷ sll 0 0 0 ∷ subu 24 24 25 ∷ lui 1 1 ∷ addu 1 1 29 ∷ sw 24 36128 1 ∷ []
bin-subtract-far = refl

bin-multiply-registers : template in_registers places_of_labels (Bin bin.Multiply 0 1 2) ≡ addu 24 17 0 ∷ addu 25 18 0 ∷
    mult 24 25 ∷ mflo 24 ∷ addu 16 24 0 ∷ []
bin-multiply-registers = refl

bin-multiply-near : template near places_of_labels (Bin bin.Multiply 0 1 2) ≡ lw 24 132 29 ∷ lw 25 136 29 ∷ sll 0 0 0 ∷
    mult 24 25 ∷ mflo 24 ∷ sw 24 128 29 ∷ []
bin-multiply-near = refl

bin-multiply-far : template far places_of_labels (Bin bin.Multiply 0 1 2) ≡ lui 1 1 ∷ addu 1 1 29 ∷ lw 24 36132 1 ∷ lui
    1 1 ∷ addu 1 1 29 ∷ lw 25 36136 1 ∷ sll 0 0 0 ∷ mult 24 25 ∷ mflo 24 ∷ lui 1 1 ∷ addu 1 1 29 ∷ sw 24 36128 1 ∷ []
bin-multiply-far = refl

bin-divide_signed-registers : template in_registers places_of_labels (Bin bin.DivideSigned 0 1 2) ≡ addu 24 17 0 ∷ addu
    25 18 0 ∷ div 24 25 ∷ mflo 24 ∷ addu 16 24 0 ∷ []
bin-divide_signed-registers = refl

bin-divide_signed-near : template near places_of_labels (Bin bin.DivideSigned 0 1 2) ≡ lw 24 132 29 ∷ lw 25 136 29 ∷ sll
    0 0 0 ∷ div 24 25 ∷ mflo 24 ∷ sw 24 128 29 ∷ []
bin-divide_signed-near = refl

bin-divide_signed-far : template far places_of_labels (Bin bin.DivideSigned 0 1 2) ≡ lui 1 1 ∷ addu 1 1 29 ∷ lw 24 36132
    1 ∷ lui 1 1 ∷ addu 1 1 29 ∷ lw 25 36136 1 ∷ sll 0 0 0 ∷ div 24 25 ∷ mflo 24 ∷ lui 1 1 ∷ addu 1 1 29 ∷ sw 24 36128 1
    ∷
    []
bin-divide_signed-far = refl

bin-divide_unsigned-registers : template in_registers places_of_labels (Bin bin.DivideUnsigned 0 1 2) ≡ addu 24 17 0 ∷
    addu 25 18 0 ∷ divu 24 25 ∷ mflo 24 ∷ addu 16 24 0 ∷ []
bin-divide_unsigned-registers = refl

bin-divide_unsigned-near : template near places_of_labels (Bin bin.DivideUnsigned 0 1 2) ≡ lw 24 132 29 ∷ lw 25 136 29 ∷
    sll 0 0 0 ∷ divu 24 25 ∷ mflo 24 ∷ sw 24 128 29 ∷ []
bin-divide_unsigned-near = refl

bin-divide_unsigned-far : template far places_of_labels (Bin bin.DivideUnsigned 0 1 2) ≡ lui 1 1 ∷ addu 1 1 29 ∷ lw 24
    36132 1 ∷ lui 1 1 ∷ addu 1 1 29 ∷ lw 25 36136 1 ∷ sll 0 0 0 ∷ divu 24 25 ∷ mflo 24 ∷ lui 1 1 ∷ addu 1 1 29 ∷ sw 24
    36128 1 ∷ []
bin-divide_unsigned-far = refl

bin-remainder_signed-registers : template in_registers places_of_labels (Bin bin.RemainderSigned 0 1 2) ≡ addu 24 17 0 ∷
    addu 25 18 0 ∷ div 24 25 ∷ mfhi 24 ∷ addu 16 24 0 ∷ []
bin-remainder_signed-registers = refl

bin-remainder_signed-near : template near places_of_labels (Bin bin.RemainderSigned 0 1 2) ≡ lw 24 132 29 ∷ lw 25 136 29
    ∷ sll 0 0 0 ∷ div 24 25 ∷ mfhi 24 ∷ sw 24 128 29 ∷ []
bin-remainder_signed-near = refl

bin-remainder_signed-far : template far places_of_labels (Bin bin.RemainderSigned 0 1 2) ≡ lui 1 1 ∷ addu 1 1 29 ∷ lw 24
    36132 1 ∷ lui 1 1 ∷ addu 1 1 29 ∷ lw 25 36136 1 ∷ sll 0 0 0 ∷ div 24 25 ∷ mfhi 24 ∷ lui 1 1 ∷ addu 1 1 29 ∷ sw 24
    36128 1 ∷ []
bin-remainder_signed-far = refl

bin-remainder_unsigned-registers : template in_registers places_of_labels (Bin bin.RemainderUnsigned 0 1 2) ≡ addu 24 17
    0 ∷ addu 25 18 0 ∷ divu 24 25 ∷ mfhi 24 ∷ addu 16 24 0 ∷ []
bin-remainder_unsigned-registers = refl

bin-remainder_unsigned-near : template near places_of_labels (Bin bin.RemainderUnsigned 0 1 2) ≡ lw 24 132 29 ∷ lw 25
    136 29 ∷ sll 0 0 0 ∷ divu 24 25 ∷ mfhi 24 ∷ sw 24 128 29 ∷ []
bin-remainder_unsigned-near = refl

bin-remainder_unsigned-far : template far places_of_labels (Bin bin.RemainderUnsigned 0 1 2) ≡ lui 1 1 ∷ addu 1 1 29 ∷
    lw 24 36132 1 ∷ lui 1 1 ∷ addu 1 1 29 ∷ lw 25 36136 1 ∷ sll 0 0 0 ∷ divu 24 25 ∷ mfhi 24 ∷ lui 1 1 ∷ addu 1 1 29 ∷
    sw
    24 36128 1 ∷ []
bin-remainder_unsigned-far = refl

bin-and-registers : template in_registers places_of_labels (Bin bin.And 0 1 2) ≡ addu 24 17 0 ∷ addu 25 18 0 ∷ and 24 24
    25 ∷ addu 16 24 0 ∷ []
bin-and-registers = refl

bin-and-near : template near places_of_labels (Bin bin.And 0 1 2) ≡ lw 24 132 29 ∷ lw 25 136 29 ∷ sll 0 0 0 ∷ and 24 24
    25 ∷ sw 24 128 29 ∷ []
bin-and-near = refl

bin-and-far : template far places_of_labels (Bin bin.And 0 1 2) ≡ lui 1 1 ∷ addu 1 1 29 ∷ lw 24 36132 1 ∷ lui 1 1 ∷ addu
    1 1 29 ∷ lw 25 36136 1 ∷ sll 0 0 0 ∷ and 24 24 25 ∷ lui 1 1 ∷ addu 1 1 29 ∷ sw 24 36128 1 ∷ []
bin-and-far = refl

bin-or-registers : template in_registers places_of_labels (Bin bin.Or 0 1 2) ≡ addu 24 17 0 ∷ addu 25 18 0 ∷ or 24 24 25
    ∷ addu 16 24 0 ∷ []
bin-or-registers = refl

bin-or-near : template near places_of_labels (Bin bin.Or 0 1 2) ≡ lw 24 132 29 ∷ lw 25 136 29 ∷ sll 0 0 0 ∷ or 24 24 25
    ∷ sw 24 128 29 ∷ []
bin-or-near = refl

bin-or-far : template far places_of_labels (Bin bin.Or 0 1 2) ≡ lui 1 1 ∷ addu 1 1 29 ∷ lw 24 36132 1 ∷ lui 1 1 ∷ addu 1
    1 29 ∷ lw 25 36136 1 ∷ sll 0 0 0 ∷ or 24 24 25 ∷ lui 1 1 ∷ addu 1 1 29 ∷ sw 24 36128 1 ∷ []
bin-or-far = refl

bin-xor-registers : template in_registers places_of_labels (Bin bin.Xor 0 1 2) ≡ addu 24 17 0 ∷ addu 25 18 0 ∷ xor 24 24
    25 ∷ addu 16 24 0 ∷ []
bin-xor-registers = refl

bin-xor-near : template near places_of_labels (Bin bin.Xor 0 1 2) ≡ lw 24 132 29 ∷ lw 25 136 29 ∷ sll 0 0 0 ∷ xor 24 24
    25 ∷ sw 24 128 29 ∷ []
bin-xor-near = refl

bin-xor-far : template far places_of_labels (Bin bin.Xor 0 1 2) ≡ lui 1 1 ∷ addu 1 1 29 ∷ lw 24 36132 1 ∷ lui 1 1 ∷ addu
    1 1 29 ∷ lw 25 36136 1 ∷ sll 0 0 0 ∷ xor 24 24 25 ∷ lui 1 1 ∷ addu 1 1 29 ∷ sw 24 36128 1 ∷ []
bin-xor-far = refl

bin-shift_left-registers : template in_registers places_of_labels (Bin bin.ShiftLeft 0 1 2) ≡ addu 24 17 0 ∷ addu 25 18
    0 ∷ sllv 24 24 25 ∷ addu 16 24 0 ∷ []
bin-shift_left-registers = refl

bin-shift_left-near : template near places_of_labels (Bin bin.ShiftLeft 0 1 2) ≡ lw 24 132 29 ∷ lw 25 136 29 ∷ sll 0 0 0
    ∷ sllv 24 24 25 ∷ sw 24 128 29 ∷ []
bin-shift_left-near = refl

bin-shift_left-far : template far places_of_labels (Bin bin.ShiftLeft 0 1 2) ≡ lui 1 1 ∷ addu 1 1 29 ∷ lw 24 36132 1 ∷
    lui 1 1 ∷ addu 1 1 29 ∷ lw 25 36136 1 ∷ sll 0 0 0 ∷ sllv 24 24 25 ∷ lui 1 1 ∷ addu 1 1 29 ∷ sw 24 36128 1 ∷ []
bin-shift_left-far = refl

bin-shift_right_signed-registers : template in_registers places_of_labels (Bin bin.ShiftRightSigned 0 1 2) ≡ addu 24 17
    0 ∷ addu 25 18 0 ∷ srav 24 24 25 ∷ addu 16 24 0 ∷ []
bin-shift_right_signed-registers = refl

bin-shift_right_signed-near : template near places_of_labels (Bin bin.ShiftRightSigned 0 1 2) ≡ lw 24 132 29 ∷ lw 25 136
    29 ∷ sll 0 0 0 ∷ srav 24 24 25 ∷ sw 24 128 29 ∷ []
bin-shift_right_signed-near = refl

bin-shift_right_signed-far : template far places_of_labels (Bin bin.ShiftRightSigned 0 1 2) ≡ lui 1 1 ∷ addu 1 1 29 ∷ lw
    24 36132 1 ∷ lui 1 1 ∷ addu 1 1 29 ∷ lw 25 36136 1 ∷ sll 0 0 0 ∷ srav 24 24 25 ∷ lui 1 1 ∷ addu 1 1 29 ∷ sw 24 36128
    1
    ∷ []
bin-shift_right_signed-far = refl

bin-shift_right_unsigned-registers : template in_registers places_of_labels (Bin bin.ShiftRightUnsigned 0 1 2) ≡ addu 24
    17 0 ∷ addu 25 18 0 ∷ srlv 24 24 25 ∷ addu 16 24 0 ∷ []
bin-shift_right_unsigned-registers = refl

bin-shift_right_unsigned-near : template near places_of_labels (Bin bin.ShiftRightUnsigned 0 1 2) ≡ lw 24 132 29 ∷ lw 25
    136 29 ∷ sll 0 0 0 ∷ srlv 24 24 25 ∷ sw 24 128 29 ∷ []
bin-shift_right_unsigned-near = refl

bin-shift_right_unsigned-far : template far places_of_labels (Bin bin.ShiftRightUnsigned 0 1 2) ≡ lui 1 1 ∷ addu 1 1 29
    ∷ lw 24 36132 1 ∷ lui 1 1 ∷ addu 1 1 29 ∷ lw 25 36136 1 ∷ sll 0 0 0 ∷ srlv 24 24 25 ∷ lui 1 1 ∷ addu 1 1 29 ∷ sw 24
    36128 1 ∷ []
bin-shift_right_unsigned-far = refl

bin-equal-registers : template in_registers places_of_labels (Bin bin.Equal 0 1 2) ≡ addu 24 17 0 ∷ addu 25 18 0 ∷ xor
    24 24 25 ∷ sltiu 24 24 1 ∷ addu 16 24 0 ∷ []
bin-equal-registers = refl

bin-equal-near : template near places_of_labels (Bin bin.Equal 0 1 2) ≡ lw 24 132 29 ∷ lw 25 136 29 ∷ sll 0 0 0 ∷ xor 24
    24 25 ∷ sltiu 24 24 1 ∷ sw 24 128 29 ∷ []
bin-equal-near = refl

bin-equal-far : template far places_of_labels (Bin bin.Equal 0 1 2) ≡ lui 1 1 ∷ addu 1 1 29 ∷ lw 24 36132 1 ∷ lui 1 1 ∷
    addu 1 1 29 ∷ lw 25 36136 1 ∷ sll 0 0 0 ∷ xor 24 24 25 ∷ sltiu 24 24 1 ∷ lui 1 1 ∷ addu 1 1 29 ∷ sw 24 36128 1 ∷ []
bin-equal-far = refl

bin-not_equal-registers : template in_registers places_of_labels (Bin bin.NotEqual 0 1 2) ≡ addu 24 17 0 ∷ addu 25 18 0
    ∷ xor 24 24 25 ∷ sltu 24 0 24 ∷ addu 16 24 0 ∷ []
bin-not_equal-registers = refl

bin-not_equal-near : template near places_of_labels (Bin bin.NotEqual 0 1 2) ≡ lw 24 132 29 ∷ lw 25 136 29 ∷ sll 0 0 0 ∷
    xor 24 24 25 ∷ sltu 24 0 24 ∷ sw 24 128 29 ∷ []
bin-not_equal-near = refl

bin-not_equal-far : template far places_of_labels (Bin bin.NotEqual 0 1 2) ≡ lui 1 1 ∷ addu 1 1 29 ∷ lw 24 36132 1 ∷ lui
    1 1 ∷ addu 1 1 29 ∷ lw 25 36136 1 ∷ sll 0 0 0 ∷ xor 24 24 25 ∷ sltu 24 0 24 ∷ lui 1 1 ∷ addu 1 1 29 ∷ sw 24 36128 1
    ∷
    []
bin-not_equal-far = refl

bin-less_signed-registers : template in_registers places_of_labels (Bin bin.LessSigned 0 1 2) ≡ addu 24 17 0 ∷ addu 25
    18 0 ∷ slt 24 24 25 ∷ addu 16 24 0 ∷ []
bin-less_signed-registers = refl

bin-less_signed-near : template near places_of_labels (Bin bin.LessSigned 0 1 2) ≡ lw 24 132 29 ∷ lw 25 136 29 ∷ sll 0 0
    0 ∷ slt 24 24 25 ∷ sw 24 128 29 ∷ []
bin-less_signed-near = refl

bin-less_signed-far : template far places_of_labels (Bin bin.LessSigned 0 1 2) ≡ lui 1 1 ∷ addu 1 1 29 ∷ lw 24 36132 1 ∷
    lui 1 1 ∷ addu 1 1 29 ∷ lw 25 36136 1 ∷ sll 0 0 0 ∷ slt 24 24 25 ∷ lui 1 1 ∷ addu 1 1 29 ∷ sw 24 36128 1 ∷ []
bin-less_signed-far = refl

bin-less_unsigned-registers : template in_registers places_of_labels (Bin bin.LessUnsigned 0 1 2) ≡ addu 24 17 0 ∷ addu
    25 18 0 ∷ sltu 24 24 25 ∷ addu 16 24 0 ∷ []
bin-less_unsigned-registers = refl

bin-less_unsigned-near : template near places_of_labels (Bin bin.LessUnsigned 0 1 2) ≡ lw 24 132 29 ∷ lw 25 136 29 ∷ sll
    0 0 0 ∷ sltu 24 24 25 ∷ sw 24 128 29 ∷ []
bin-less_unsigned-near = refl

bin-less_unsigned-far : template far places_of_labels (Bin bin.LessUnsigned 0 1 2) ≡ lui 1 1 ∷ addu 1 1 29 ∷ lw 24 36132
    1 ∷ lui 1 1 ∷ addu 1 1 29 ∷ lw 25 36136 1 ∷ sll 0 0 0 ∷ sltu 24 24 25 ∷ lui 1 1 ∷ addu 1 1 29 ∷ sw 24 36128 1 ∷ []
bin-less_unsigned-far = refl

bin-less_or_equal_signed-registers : template in_registers places_of_labels (Bin bin.LessOrEqualSigned 0 1 2) ≡ addu 24
    17 0 ∷ addu 25 18 0 ∷ slt 24 25 24 ∷ xori 24 24 1 ∷ addu 16 24 0 ∷ []
bin-less_or_equal_signed-registers = refl

bin-less_or_equal_signed-near : template near places_of_labels (Bin bin.LessOrEqualSigned 0 1 2) ≡ lw 24 132 29 ∷ lw 25
    136 29 ∷ sll 0 0 0 ∷ slt 24 25 24 ∷ xori 24 24 1 ∷ sw 24 128 29 ∷ []
bin-less_or_equal_signed-near = refl

bin-less_or_equal_signed-far : template far places_of_labels (Bin bin.LessOrEqualSigned 0 1 2) ≡ lui 1 1 ∷ addu 1 1 29 ∷
    lw 24 36132 1 ∷ lui 1 1 ∷ addu 1 1 29 ∷ lw 25 36136 1 ∷ sll 0 0 0 ∷ slt 24 25 24 ∷ xori 24 24 1 ∷ lui 1 1 ∷ addu 1 1
    29 ∷ sw 24 36128 1 ∷ []
bin-less_or_equal_signed-far = refl

bin-less_or_equal_unsigned-registers : template in_registers places_of_labels (Bin bin.LessOrEqualUnsigned 0 1 2) ≡ addu
    24 17 0 ∷ addu 25 18 0 ∷ sltu 24 25 24 ∷ xori 24 24 1 ∷ addu 16 24 0 ∷ []
bin-less_or_equal_unsigned-registers = refl

bin-less_or_equal_unsigned-near : template near places_of_labels (Bin bin.LessOrEqualUnsigned 0 1 2) ≡ lw 24 132 29 ∷ lw
    25 136 29 ∷ sll 0 0 0 ∷ sltu 24 25 24 ∷ xori 24 24 1 ∷ sw 24 128 29 ∷ []
bin-less_or_equal_unsigned-near = refl

bin-less_or_equal_unsigned-far : template far places_of_labels (Bin bin.LessOrEqualUnsigned 0 1 2) ≡ lui 1 1 ∷ addu 1 1
    29 ∷ lw 24 36132 1 ∷ lui 1 1 ∷ addu 1 1 29 ∷ lw 25 36136 1 ∷ sll 0 0 0 ∷ sltu 24 25 24 ∷ xori 24 24 1 ∷ lui 1 1 ∷
    addu
    1 1 29 ∷ sw 24 36128 1 ∷ []
bin-less_or_equal_unsigned-far = refl

bin-greater_signed-registers : template in_registers places_of_labels (Bin bin.GreaterSigned 0 1 2) ≡ addu 24 17 0 ∷
    addu 25 18 0 ∷ slt 24 25 24 ∷ addu 16 24 0 ∷ []
bin-greater_signed-registers = refl

bin-greater_signed-near : template near places_of_labels (Bin bin.GreaterSigned 0 1 2) ≡ lw 24 132 29 ∷ lw 25 136 29 ∷
    sll 0 0 0 ∷ slt 24 25 24 ∷ sw 24 128 29 ∷ []
bin-greater_signed-near = refl

bin-greater_signed-far : template far places_of_labels (Bin bin.GreaterSigned 0 1 2) ≡ lui 1 1 ∷ addu 1 1 29 ∷ lw 24
    36132 1 ∷ lui 1 1 ∷ addu 1 1 29 ∷ lw 25 36136 1 ∷ sll 0 0 0 ∷ slt 24 25 24 ∷ lui 1 1 ∷ addu 1 1 29 ∷ sw 24 36128 1 ∷
    []
bin-greater_signed-far = refl

bin-greater_unsigned-registers : template in_registers places_of_labels (Bin bin.GreaterUnsigned 0 1 2) ≡ addu 24 17 0 ∷
    addu 25 18 0 ∷ sltu 24 25 24 ∷ addu 16 24 0 ∷ []
bin-greater_unsigned-registers = refl

bin-greater_unsigned-near : template near places_of_labels (Bin bin.GreaterUnsigned 0 1 2) ≡ lw 24 132 29 ∷ lw 25 136 29
    ∷ sll 0 0 0 ∷ sltu 24 25 24 ∷ sw 24 128 29 ∷ []
bin-greater_unsigned-near = refl

bin-greater_unsigned-far : template far places_of_labels (Bin bin.GreaterUnsigned 0 1 2) ≡ lui 1 1 ∷ addu 1 1 29 ∷ lw 24
    36132 1 ∷ lui 1 1 ∷ addu 1 1 29 ∷ lw 25 36136 1 ∷ sll 0 0 0 ∷ sltu 24 25 24 ∷ lui 1 1 ∷ addu 1 1 29 ∷ sw 24 36128 1
    ∷
    []
bin-greater_unsigned-far = refl

bin-greater_or_equal_signed-registers : template in_registers places_of_labels (Bin bin.GreaterOrEqualSigned 0 1 2) ≡
    addu 24 17 0 ∷ addu 25 18 0 ∷ slt 24 24 25 ∷ xori 24 24 1 ∷ addu 16 24 0 ∷ []
bin-greater_or_equal_signed-registers = refl

bin-greater_or_equal_signed-near : template near places_of_labels (Bin bin.GreaterOrEqualSigned 0 1 2) ≡ lw 24 132 29 ∷
    lw 25 136 29 ∷ sll 0 0 0 ∷ slt 24 24 25 ∷ xori 24 24 1 ∷ sw 24 128 29 ∷ []
bin-greater_or_equal_signed-near = refl

bin-greater_or_equal_signed-far : template far places_of_labels (Bin bin.GreaterOrEqualSigned 0 1 2) ≡ lui 1 1 ∷ addu 1
    1 29 ∷ lw 24 36132 1 ∷ lui 1 1 ∷ addu 1 1 29 ∷ lw 25 36136 1 ∷ sll 0 0 0 ∷ slt 24 24 25 ∷ xori 24 24 1 ∷ lui 1 1 ∷
    addu 1 1 29 ∷ sw 24 36128 1 ∷ []
bin-greater_or_equal_signed-far = refl

bin-greater_or_equal_unsigned-registers : template in_registers places_of_labels (Bin bin.GreaterOrEqualUnsigned 0 1 2)
    ≡ addu 24 17 0 ∷ addu 25 18 0 ∷ sltu 24 24 25 ∷ xori 24 24 1 ∷ addu 16 24 0 ∷ []
bin-greater_or_equal_unsigned-registers = refl

bin-greater_or_equal_unsigned-near : template near places_of_labels (Bin bin.GreaterOrEqualUnsigned 0 1 2) ≡ lw 24 132
    29 ∷ lw 25 136 29 ∷ sll 0 0 0 ∷ sltu 24 24 25 ∷ xori 24 24 1 ∷ sw 24 128 29 ∷ []
bin-greater_or_equal_unsigned-near = refl

bin-greater_or_equal_unsigned-far : template far places_of_labels (Bin bin.GreaterOrEqualUnsigned 0 1 2) ≡ lui 1 1 ∷
    addu 1 1 29 ∷ lw 24 36132 1 ∷ lui 1 1 ∷ addu 1 1 29 ∷ lw 25 36136 1 ∷ sll 0 0 0 ∷ sltu 24 24 25 ∷ xori 24 24 1 ∷ lui
    1
    1 ∷ addu 1 1 29 ∷ sw 24 36128 1 ∷ []
bin-greater_or_equal_unsigned-far = refl

check_division-registers : template in_registers places_of_labels (CheckDivision 1 2) ≡ addu 24 17 0 ∷ addu 25 18 0 ∷
    bne 25 0 2 ∷ sll 0 0 0 ∷ trap 7 ∷ addiu 1 0 65535 ∷ bne 25 1 4 ∷ lui 1 32768 ∷ bne 24 1 2 ∷ sll 0 0 0 ∷ trap 6 ∷ []
check_division-registers = refl

check_division-near : template near places_of_labels (CheckDivision 1 2) ≡ lw 24 132 29 ∷ lw 25 136 29 ∷ sll 0 0 0 ∷ bne
    25 0 2 ∷ sll 0 0 0 ∷ trap 7 ∷ addiu 1 0 65535 ∷ bne 25 1 4 ∷ lui 1 32768 ∷ bne 24 1 2 ∷ sll 0 0 0 ∷ trap 6 ∷ []
check_division-near = refl

check_division-far : template far places_of_labels (CheckDivision 1 2) ≡ lui 1 1 ∷ addu 1 1 29 ∷ lw 24 36132 1 ∷ lui 1 1
    ∷ addu 1 1 29 ∷ lw 25 36136 1 ∷ sll 0 0 0 ∷ bne 25 0 2 ∷ sll 0 0 0 ∷ trap 7 ∷ addiu 1 0 65535 ∷ bne 25 1 4 ∷ lui 1
    32768 ∷ bne 24 1 2 ∷ sll 0 0 0 ∷ trap 6 ∷ []
check_division-far = refl

check_zero-registers : template in_registers places_of_labels (CheckZero 2) ≡ addu 24 18 0 ∷ bne 24 0 2 ∷ sll 0 0 0 ∷
    trap 7 ∷ []
check_zero-registers = refl

check_zero-near : template near places_of_labels (CheckZero 2) ≡ lw 24 136 29 ∷ sll 0 0 0 ∷ bne 24 0 2 ∷ sll 0 0 0 ∷
    trap 7 ∷ []
check_zero-near = refl

check_zero-far : template far places_of_labels (CheckZero 2) ≡ lui 1 1 ∷ addu 1 1 29 ∷ lw 24 36136 1 ∷ sll 0 0 0 ∷ bne
    24 0 2 ∷ sll 0 0 0 ∷ trap 7 ∷ []
check_zero-far = refl

un-negate-registers : template in_registers places_of_labels (Un un.Negate 0 1) ≡ addu 24 17 0 ∷ subu 24 0 24 ∷ addu 16
    24 0 ∷ []
un-negate-registers = refl

un-negate-near : template near places_of_labels (Un un.Negate 0 1) ≡ lw 24 132 29 ∷ sll 0 0 0 ∷ subu 24 0 24 ∷ sw 24 128
    29 ∷ []
un-negate-near = refl

un-negate-far : template far places_of_labels (Un un.Negate 0 1) ≡ lui 1 1 ∷ addu 1 1 29 ∷ lw 24 36132 1 ∷ sll 0 0 0 ∷
    subu 24 0 24 ∷ lui 1 1 ∷ addu 1 1 29 ∷ sw 24 36128 1 ∷ []
un-negate-far = refl

un-complement-registers : template in_registers places_of_labels (Un un.Complement 0 1) ≡ addu 24 17 0 ∷ nor 24 24 0 ∷
    addu 16 24 0 ∷ []
un-complement-registers = refl

un-complement-near : template near places_of_labels (Un un.Complement 0 1) ≡ lw 24 132 29 ∷ sll 0 0 0 ∷ nor 24 24 0 ∷ sw
    24 128 29 ∷ []
un-complement-near = refl

un-complement-far : template far places_of_labels (Un un.Complement 0 1) ≡ lui 1 1 ∷ addu 1 1 29 ∷ lw 24 36132 1 ∷ sll 0
    0 0 ∷ nor 24 24 0 ∷ lui 1 1 ∷ addu 1 1 29 ∷ sw 24 36128 1 ∷ []
un-complement-far = refl

un-is_zero-registers : template in_registers places_of_labels (Un un.IsZero 0 1) ≡ addu 24 17 0 ∷ sltiu 24 24 1 ∷ addu
    16 24 0 ∷ []
un-is_zero-registers = refl

un-is_zero-near : template near places_of_labels (Un un.IsZero 0 1) ≡ lw 24 132 29 ∷ sll 0 0 0 ∷ sltiu 24 24 1 ∷ sw 24
    128 29 ∷ []
un-is_zero-near = refl

un-is_zero-far : template far places_of_labels (Un un.IsZero 0 1) ≡ lui 1 1 ∷ addu 1 1 29 ∷ lw 24 36132 1 ∷ sll 0 0 0 ∷
    sltiu 24 24 1 ∷ lui 1 1 ∷ addu 1 1 29 ∷ sw 24 36128 1 ∷ []
un-is_zero-far = refl

un-signed_byte-registers : template in_registers places_of_labels (Un un.SignedByte 0 1) ≡ addu 24 17 0 ∷ sll 24 24 24 ∷
    sra 24 24 24 ∷ addu 16 24 0 ∷ []
un-signed_byte-registers = refl

un-signed_byte-near : template near places_of_labels (Un un.SignedByte 0 1) ≡ lw 24 132 29 ∷ sll 0 0 0 ∷ sll 24 24 24 ∷
    sra 24 24 24 ∷ sw 24 128 29 ∷ []
un-signed_byte-near = refl

un-signed_byte-far : template far places_of_labels (Un un.SignedByte 0 1) ≡ lui 1 1 ∷ addu 1 1 29 ∷ lw 24 36132 1 ∷ sll
    0 0 0 ∷ sll 24 24 24 ∷ sra 24 24 24 ∷ lui 1 1 ∷ addu 1 1 29 ∷ sw 24 36128 1 ∷ []
un-signed_byte-far = refl

un-byte-registers : template in_registers places_of_labels (Un un.Byte 0 1) ≡ addu 24 17 0 ∷ andi 24 24 255 ∷ addu 16 24
    0 ∷ []
un-byte-registers = refl

un-byte-near : template near places_of_labels (Un un.Byte 0 1) ≡ lw 24 132 29 ∷ sll 0 0 0 ∷ andi 24 24 255 ∷ sw 24 128
    29 ∷ []
un-byte-near = refl

un-byte-far : template far places_of_labels (Un un.Byte 0 1) ≡ lui 1 1 ∷ addu 1 1 29 ∷ lw 24 36132 1 ∷ sll 0 0 0 ∷ andi
    24 24 255 ∷ lui 1 1 ∷ addu 1 1 29 ∷ sw 24 36128 1 ∷ []
un-byte-far = refl

un-signed_half-registers : template in_registers places_of_labels (Un un.SignedHalf 0 1) ≡ addu 24 17 0 ∷ sll 24 24 16 ∷
    sra 24 24 16 ∷ addu 16 24 0 ∷ []
un-signed_half-registers = refl

un-signed_half-near : template near places_of_labels (Un un.SignedHalf 0 1) ≡ lw 24 132 29 ∷ sll 0 0 0 ∷ sll 24 24 16 ∷
    sra 24 24 16 ∷ sw 24 128 29 ∷ []
un-signed_half-near = refl

un-signed_half-far : template far places_of_labels (Un un.SignedHalf 0 1) ≡ lui 1 1 ∷ addu 1 1 29 ∷ lw 24 36132 1 ∷ sll
    0 0 0 ∷ sll 24 24 16 ∷ sra 24 24 16 ∷ lui 1 1 ∷ addu 1 1 29 ∷ sw 24 36128 1 ∷ []
un-signed_half-far = refl

un-half-registers : template in_registers places_of_labels (Un un.Half 0 1) ≡ addu 24 17 0 ∷ andi 24 24 65535 ∷ addu 16
    24 0 ∷ []
un-half-registers = refl

un-half-near : template near places_of_labels (Un un.Half 0 1) ≡ lw 24 132 29 ∷ sll 0 0 0 ∷ andi 24 24 65535 ∷ sw 24 128
    29 ∷ []
un-half-near = refl

un-half-far : template far places_of_labels (Un un.Half 0 1) ≡ lui 1 1 ∷ addu 1 1 29 ∷ lw 24 36132 1 ∷ sll 0 0 0 ∷ andi
    24 24 65535 ∷ lui 1 1 ∷ addu 1 1 29 ∷ sw 24 36128 1 ∷ []
un-half-far = refl

frame_address-registers : template in_registers places_of_labels (FrameAddress 0 8) ≡ lui 24 65535 ∷ ori 24 24 65512 ∷
    addu 24 24 30 ∷ addu 16 24 0 ∷ []
frame_address-registers = refl

frame_address-near : template near places_of_labels (FrameAddress 0 8) ≡ lui 24 65535 ∷ ori 24 24 65512 ∷ addu 24 24 30
    ∷ sw 24 128 29 ∷ []
frame_address-near = refl

frame_address-far : template far places_of_labels (FrameAddress 0 8) ≡ lui 24 65535 ∷ ori 24 24 65512 ∷ addu 24 24 30 ∷
    lui 1 1 ∷ addu 1 1 29 ∷ sw 24 36128 1 ∷ []
frame_address-far = refl

load-signed_byte-registers : template in_registers places_of_labels (Load width.SignedByte 0 1) ≡ addu 24 17 0 ∷ srl 25
    24 24 ∷ xori 25 25 16 ∷ beq 25 0 2 ∷ sll 0 0 0 ∷ trap 16 ∷ lb 24 0 24 ∷ sll 0 0 0 ∷ addu 16 24 0 ∷ []
load-signed_byte-registers = refl

load-signed_byte-near : template near places_of_labels (Load width.SignedByte 0 1) ≡ lw 24 132 29 ∷ sll 0 0 0 ∷ srl 25
    24 24 ∷ xori 25 25 16 ∷ beq 25 0 2 ∷ sll 0 0 0 ∷ trap 16 ∷ lb 24 0 24 ∷ sll 0 0 0 ∷ sw 24 128 29 ∷ []
load-signed_byte-near = refl

load-signed_byte-far : template far places_of_labels (Load width.SignedByte 0 1) ≡ lui 1 1 ∷ addu 1 1 29 ∷ lw 24 36132 1
    ∷ sll 0 0 0 ∷ srl 25 24 24 ∷ xori 25 25 16 ∷ beq 25 0 2 ∷ sll 0 0 0 ∷ trap 16 ∷ lb 24 0 24 ∷ sll 0 0 0 ∷ lui 1 1 ∷
    addu 1 1 29 ∷ sw 24 36128 1 ∷ []
load-signed_byte-far = refl

load-byte-registers : template in_registers places_of_labels (Load width.Byte 0 1) ≡ addu 24 17 0 ∷ srl 25 24 24 ∷ xori
    25 25 16 ∷ beq 25 0 2 ∷ sll 0 0 0 ∷ trap 16 ∷ lbu 24 0 24 ∷ sll 0 0 0 ∷ addu 16 24 0 ∷ []
load-byte-registers = refl

load-byte-near : template near places_of_labels (Load width.Byte 0 1) ≡ lw 24 132 29 ∷ sll 0 0 0 ∷ srl 25 24 24 ∷ xori
    25 25 16 ∷ beq 25 0 2 ∷ sll 0 0 0 ∷ trap 16 ∷ lbu 24 0 24 ∷ sll 0 0 0 ∷ sw 24 128 29 ∷ []
load-byte-near = refl

load-byte-far : template far places_of_labels (Load width.Byte 0 1) ≡ lui 1 1 ∷ addu 1 1 29 ∷ lw 24 36132 1 ∷ sll 0 0 0
    ∷ srl 25 24 24 ∷ xori 25 25 16 ∷ beq 25 0 2 ∷ sll 0 0 0 ∷ trap 16 ∷ lbu 24 0 24 ∷ sll 0 0 0 ∷ lui 1 1 ∷ addu 1 1 29
    ∷
    sw 24 36128 1 ∷ []
load-byte-far = refl

load-signed_half-registers : template in_registers places_of_labels (Load width.SignedHalf 0 1) ≡ addu 24 17 0 ∷ srl 25
    24 24 ∷ xori 25 25 16 ∷ beq 25 0 2 ∷ sll 0 0 0 ∷ trap 16 ∷ lh 24 0 24 ∷ sll 0 0 0 ∷ addu 16 24 0 ∷ []
load-signed_half-registers = refl

load-signed_half-near : template near places_of_labels (Load width.SignedHalf 0 1) ≡ lw 24 132 29 ∷ sll 0 0 0 ∷ srl 25
    24 24 ∷ xori 25 25 16 ∷ beq 25 0 2 ∷ sll 0 0 0 ∷ trap 16 ∷ lh 24 0 24 ∷ sll 0 0 0 ∷ sw 24 128 29 ∷ []
load-signed_half-near = refl

load-signed_half-far : template far places_of_labels (Load width.SignedHalf 0 1) ≡ lui 1 1 ∷ addu 1 1 29 ∷ lw 24 36132 1
    ∷ sll 0 0 0 ∷ srl 25 24 24 ∷ xori 25 25 16 ∷ beq 25 0 2 ∷ sll 0 0 0 ∷ trap 16 ∷ lh 24 0 24 ∷ sll 0 0 0 ∷ lui 1 1 ∷
    addu 1 1 29 ∷ sw 24 36128 1 ∷ []
load-signed_half-far = refl

load-half-registers : template in_registers places_of_labels (Load width.Half 0 1) ≡ addu 24 17 0 ∷ srl 25 24 24 ∷ xori
    25 25 16 ∷ beq 25 0 2 ∷ sll 0 0 0 ∷ trap 16 ∷ lhu 24 0 24 ∷ sll 0 0 0 ∷ addu 16 24 0 ∷ []
load-half-registers = refl

load-half-near : template near places_of_labels (Load width.Half 0 1) ≡ lw 24 132 29 ∷ sll 0 0 0 ∷ srl 25 24 24 ∷ xori
    25 25 16 ∷ beq 25 0 2 ∷ sll 0 0 0 ∷ trap 16 ∷ lhu 24 0 24 ∷ sll 0 0 0 ∷ sw 24 128 29 ∷ []
load-half-near = refl

load-half-far : template far places_of_labels (Load width.Half 0 1) ≡ lui 1 1 ∷ addu 1 1 29 ∷ lw 24 36132 1 ∷ sll 0 0 0
    ∷ srl 25 24 24 ∷ xori 25 25 16 ∷ beq 25 0 2 ∷ sll 0 0 0 ∷ trap 16 ∷ lhu 24 0 24 ∷ sll 0 0 0 ∷ lui 1 1 ∷ addu 1 1 29
    ∷
    sw 24 36128 1 ∷ []
load-half-far = refl

load-word-registers : template in_registers places_of_labels (Load width.Word 0 1) ≡ addu 24 17 0 ∷ srl 25 24 24 ∷ xori
    25 25 16 ∷ beq 25 0 2 ∷ sll 0 0 0 ∷ trap 16 ∷ lw 24 0 24 ∷ sll 0 0 0 ∷ addu 16 24 0 ∷ []
load-word-registers = refl

load-word-near : template near places_of_labels (Load width.Word 0 1) ≡ lw 24 132 29 ∷ sll 0 0 0 ∷ srl 25 24 24 ∷ xori
    25 25 16 ∷ beq 25 0 2 ∷ sll 0 0 0 ∷ trap 16 ∷ lw 24 0 24 ∷ sll 0 0 0 ∷ sw 24 128 29 ∷ []
load-word-near = refl

load-word-far : template far places_of_labels (Load width.Word 0 1) ≡ lui 1 1 ∷ addu 1 1 29 ∷ lw 24 36132 1 ∷ sll 0 0 0
    ∷ srl 25 24 24 ∷ xori 25 25 16 ∷ beq 25 0 2 ∷ sll 0 0 0 ∷ trap 16 ∷ lw 24 0 24 ∷ sll 0 0 0 ∷ lui 1 1 ∷ addu 1 1 29 ∷
    sw 24 36128 1 ∷ []
load-word-far = refl

store-signed_byte-registers : template in_registers places_of_labels (Store width.SignedByte 1 2) ≡ addu 24 17 0 ∷ addu
    25 18 0 ∷ srl 1 24 24 ∷ xori 1 1 16 ∷ beq 1 0 2 ∷ sll 0 0 0 ∷ trap 16 ∷ sb 25 0 24 ∷ []
store-signed_byte-registers = refl

store-signed_byte-near : template near places_of_labels (Store width.SignedByte 1 2) ≡ lw 24 132 29 ∷ lw 25 136 29 ∷ sll
    0 0 0 ∷ srl 1 24 24 ∷ xori 1 1 16 ∷ beq 1 0 2 ∷ sll 0 0 0 ∷ trap 16 ∷ sb 25 0 24 ∷ []
store-signed_byte-near = refl

store-signed_byte-far : template far places_of_labels (Store width.SignedByte 1 2) ≡ lui 1 1 ∷ addu 1 1 29 ∷ lw 24 36132
    1 ∷ lui 1 1 ∷ addu 1 1 29 ∷ lw 25 36136 1 ∷ sll 0 0 0 ∷ srl 1 24 24 ∷ xori 1 1 16 ∷ beq 1 0 2 ∷ sll 0 0 0 ∷ trap 16
    ∷
    sb 25 0 24 ∷ []
store-signed_byte-far = refl

store-byte-registers : template in_registers places_of_labels (Store width.Byte 1 2) ≡ addu 24 17 0 ∷ addu 25 18 0 ∷ srl
    1 24 24 ∷ xori 1 1 16 ∷ beq 1 0 2 ∷ sll 0 0 0 ∷ trap 16 ∷ sb 25 0 24 ∷ []
store-byte-registers = refl

store-byte-near : template near places_of_labels (Store width.Byte 1 2) ≡ lw 24 132 29 ∷ lw 25 136 29 ∷ sll 0 0 0 ∷ srl
    1 24 24 ∷ xori 1 1 16 ∷ beq 1 0 2 ∷ sll 0 0 0 ∷ trap 16 ∷ sb 25 0 24 ∷ []
store-byte-near = refl

store-byte-far : template far places_of_labels (Store width.Byte 1 2) ≡ lui 1 1 ∷ addu 1 1 29 ∷ lw 24 36132 1 ∷ lui 1 1
    ∷ addu 1 1 29 ∷ lw 25 36136 1 ∷ sll 0 0 0 ∷ srl 1 24 24 ∷ xori 1 1 16 ∷ beq 1 0 2 ∷ sll 0 0 0 ∷ trap 16 ∷ sb 25 0 24
    ∷
    []
store-byte-far = refl

store-signed_half-registers : template in_registers places_of_labels (Store width.SignedHalf 1 2) ≡ addu 24 17 0 ∷ addu
    25 18 0 ∷ srl 1 24 24 ∷ xori 1 1 16 ∷ beq 1 0 2 ∷ sll 0 0 0 ∷ trap 16 ∷ sh 25 0 24 ∷ []
store-signed_half-registers = refl

store-signed_half-near : template near places_of_labels (Store width.SignedHalf 1 2) ≡ lw 24 132 29 ∷ lw 25 136 29 ∷ sll
    0 0 0 ∷ srl 1 24 24 ∷ xori 1 1 16 ∷ beq 1 0 2 ∷ sll 0 0 0 ∷ trap 16 ∷ sh 25 0 24 ∷ []
store-signed_half-near = refl

store-signed_half-far : template far places_of_labels (Store width.SignedHalf 1 2) ≡ lui 1 1 ∷ addu 1 1 29 ∷ lw 24 36132
    1 ∷ lui 1 1 ∷ addu 1 1 29 ∷ lw 25 36136 1 ∷ sll 0 0 0 ∷ srl 1 24 24 ∷ xori 1 1 16 ∷ beq 1 0 2 ∷ sll 0 0 0 ∷ trap 16
    ∷
    sh 25 0 24 ∷ []
store-signed_half-far = refl

store-half-registers : template in_registers places_of_labels (Store width.Half 1 2) ≡ addu 24 17 0 ∷ addu 25 18 0 ∷ srl
    1 24 24 ∷ xori 1 1 16 ∷ beq 1 0 2 ∷ sll 0 0 0 ∷ trap 16 ∷ sh 25 0 24 ∷ []
store-half-registers = refl

store-half-near : template near places_of_labels (Store width.Half 1 2) ≡ lw 24 132 29 ∷ lw 25 136 29 ∷ sll 0 0 0 ∷ srl
    1 24 24 ∷ xori 1 1 16 ∷ beq 1 0 2 ∷ sll 0 0 0 ∷ trap 16 ∷ sh 25 0 24 ∷ []
store-half-near = refl

store-half-far : template far places_of_labels (Store width.Half 1 2) ≡ lui 1 1 ∷ addu 1 1 29 ∷ lw 24 36132 1 ∷ lui 1 1
    ∷ addu 1 1 29 ∷ lw 25 36136 1 ∷ sll 0 0 0 ∷ srl 1 24 24 ∷ xori 1 1 16 ∷ beq 1 0 2 ∷ sll 0 0 0 ∷ trap 16 ∷ sh 25 0 24
    ∷
    []
store-half-far = refl

store-word-registers : template in_registers places_of_labels (Store width.Word 1 2) ≡ addu 24 17 0 ∷ addu 25 18 0 ∷ srl
    1 24 24 ∷ xori 1 1 16 ∷ beq 1 0 2 ∷ sll 0 0 0 ∷ trap 16 ∷ sw 25 0 24 ∷ []
store-word-registers = refl

store-word-near : template near places_of_labels (Store width.Word 1 2) ≡ lw 24 132 29 ∷ lw 25 136 29 ∷ sll 0 0 0 ∷ srl
    1 24 24 ∷ xori 1 1 16 ∷ beq 1 0 2 ∷ sll 0 0 0 ∷ trap 16 ∷ sw 25 0 24 ∷ []
store-word-near = refl

store-word-far : template far places_of_labels (Store width.Word 1 2) ≡ lui 1 1 ∷ addu 1 1 29 ∷ lw 24 36132 1 ∷ lui 1 1
    ∷ addu 1 1 29 ∷ lw 25 36136 1 ∷ sll 0 0 0 ∷ srl 1 24 24 ∷ xori 1 1 16 ∷ beq 1 0 2 ∷ sll 0 0 0 ∷ trap 16 ∷ sw 25 0 24
    ∷
    []
store-word-far = refl

clear-registers : template in_registers places_of_labels (Clear 8 3) ≡ lui 24 65535 ∷ ori 24 24 65512 ∷ addu 24 24 30 ∷
    lui 25 65535 ∷ ori 25 25 65524 ∷ addu 25 25 30 ∷ sw 0 0 24 ∷ addiu 24 24 4 ∷ bne 24 25 65533 ∷ sll 0 0 0 ∷ []
clear-registers = refl

clear-near : template near places_of_labels (Clear 8 3) ≡ lui 24 65535 ∷ ori 24 24 65512 ∷ addu 24 24 30 ∷ lui 25 65535
    ∷ ori 25 25 65524 ∷ addu 25 25 30 ∷ sw 0 0 24 ∷ addiu 24 24 4 ∷ bne 24 25 65533 ∷ sll 0 0 0 ∷ []
clear-near = refl

clear-far : template far places_of_labels (Clear 8 3) ≡ lui 24 65535 ∷ ori 24 24 65512 ∷ addu 24 24 30 ∷ lui 25 65535 ∷
    ori 25 25 65524 ∷ addu 25 25 30 ∷ sw 0 0 24 ∷ addiu 24 24 4 ∷ bne 24 25 65533 ∷ sll 0 0 0 ∷ []
clear-far = refl

label-registers : template in_registers places_of_labels (Label 0) ≡ []
label-registers = refl

label-near : template near places_of_labels (Label 0) ≡ []
label-near = refl

label-far : template far places_of_labels (Label 0) ≡ []
label-far = refl

jump-registers : template in_registers places_of_labels (Jump 3) ≡ j 4194400 ∷ sll 0 0 0 ∷ []
jump-registers = refl

jump-near : template near places_of_labels (Jump 3) ≡ j 4194400 ∷ sll 0 0 0 ∷ []
jump-near = refl

jump-far : template far places_of_labels (Jump 3) ≡ j 4194400 ∷ sll 0 0 0 ∷ []
jump-far = refl

branch_zero-registers : template in_registers places_of_labels (BranchZero 1 3) ≡ addu 24 17 0 ∷ bne 24 0 3 ∷ sll 0 0 0
    ∷ j 4194400 ∷ sll 0 0 0 ∷ []
branch_zero-registers = refl

branch_zero-near : template near places_of_labels (BranchZero 1 3) ≡ lw 24 132 29 ∷ sll 0 0 0 ∷ bne 24 0 3 ∷ sll 0 0 0 ∷
    j 4194400 ∷ sll 0 0 0 ∷ []
branch_zero-near = refl

branch_zero-far : template far places_of_labels (BranchZero 1 3) ≡ lui 1 1 ∷ addu 1 1 29 ∷ lw 24 36132 1 ∷ sll 0 0 0 ∷
    bne 24 0 3 ∷ sll 0 0 0 ∷ j 4194400 ∷ sll 0 0 0 ∷ []
branch_zero-far = refl

branch_nonzero-registers : template in_registers places_of_labels (BranchNonzero 1 3) ≡ addu 24 17 0 ∷ beq 24 0 3 ∷ sll
    0 0 0 ∷ j 4194400 ∷ sll 0 0 0 ∷ []
branch_nonzero-registers = refl

branch_nonzero-near : template near places_of_labels (BranchNonzero 1 3) ≡ lw 24 132 29 ∷ sll 0 0 0 ∷ beq 24 0 3 ∷ sll 0
    0 0 ∷ j 4194400 ∷ sll 0 0 0 ∷ []
branch_nonzero-near = refl

branch_nonzero-far : template far places_of_labels (BranchNonzero 1 3) ≡ lui 1 1 ∷ addu 1 1 29 ∷ lw 24 36132 1 ∷ sll 0 0
    0 ∷ beq 24 0 3 ∷ sll 0 0 0 ∷ j 4194400 ∷ sll 0 0 0 ∷ []
branch_nonzero-far = refl

argument-registers : template in_registers places_of_labels (Argument 3 1) ≡ addu 24 17 0 ∷ sw 24 12 29 ∷ []
argument-registers = refl

argument-near : template near places_of_labels (Argument 3 1) ≡ lw 24 132 29 ∷ sll 0 0 0 ∷ sw 24 12 29 ∷ []
argument-near = refl

argument-far : template far places_of_labels (Argument 3 1) ≡ lui 1 1 ∷ addu 1 1 29 ∷ lw 24 36132 1 ∷ sll 0 0 0 ∷ sw 24
    12 29 ∷ []
argument-far = refl

get_parameter-registers : template in_registers places_of_labels (GetParameter 0 3) ≡ lw 24 1036 29 ∷ sll 0 0 0 ∷ addu
    16 24 0 ∷ []
get_parameter-registers = refl

get_parameter-near : template near places_of_labels (GetParameter 0 3) ≡ lw 24 1036 29 ∷ sll 0 0 0 ∷ sw 24 128 29 ∷ []
get_parameter-near = refl

get_parameter-far : template far places_of_labels (GetParameter 0 3) ≡ lui 1 1 ∷ addu 1 1 29 ∷ lw 24 12 1 ∷ sll 0 0 0 ∷
    lui 1 1 ∷ addu 1 1 29 ∷ sw 24 36128 1 ∷ []
get_parameter-far = refl

call-registers : template in_registers places_of_labels (Call 4198400) ≡ jal 4198400 ∷ sll 0 0 0 ∷ []
call-registers = refl

call-near : template near places_of_labels (Call 4198400) ≡ jal 4198400 ∷ sll 0 0 0 ∷ []
call-near = refl

call-far : template far places_of_labels (Call 4198400) ≡ jal 4198400 ∷ sll 0 0 0 ∷ []
call-far = refl

result-registers : template in_registers places_of_labels (Result 0) ≡ addu 24 2 0 ∷ addu 16 24 0 ∷ []
result-registers = refl

result-near : template near places_of_labels (Result 0) ≡ addu 24 2 0 ∷ sw 24 128 29 ∷ []
result-near = refl

result-far : template far places_of_labels (Result 0) ≡ addu 24 2 0 ∷ lui 1 1 ∷ addu 1 1 29 ∷ sw 24 36128 1 ∷ []
result-far = refl

call_number-registers : template in_registers places_of_labels (CallNumber 1 3) ≡ addu 24 17 0 ∷ srl 25 24 16 ∷ bne 25 0
    7 ∷ sll 24 24 3 ∷ addu 24 24 28 ∷ lw 25 4 24 ∷ lw 24 0 24 ∷ xori 25 25 3 ∷ beq 25 0 2 ∷ sll 0 0 0 ∷ trap 17 ∷ jalr
    31
    24 ∷ sll 0 0 0 ∷ []
call_number-registers = refl

call_number-near : template near places_of_labels (CallNumber 1 3) ≡ lw 24 132 29 ∷ sll 0 0 0 ∷ srl 25 24 16 ∷ bne 25 0
    7 ∷ sll 24 24 3 ∷ addu 24 24 28 ∷ lw 25 4 24 ∷ lw 24 0 24 ∷ xori 25 25 3 ∷ beq 25 0 2 ∷ sll 0 0 0 ∷ trap 17 ∷ jalr
    31
    24 ∷ sll 0 0 0 ∷ []
call_number-near = refl

call_number-far : template far places_of_labels (CallNumber 1 3) ≡ lui 1 1 ∷ addu 1 1 29 ∷ lw 24 36132 1 ∷ sll 0 0 0 ∷
    srl 25 24 16 ∷ bne 25 0 7 ∷ sll 24 24 3 ∷ addu 24 24 28 ∷ lw 25 4 24 ∷ lw 24 0 24 ∷ xori 25 25 3 ∷ beq 25 0 2 ∷ sll
    0
    0 0 ∷ trap 17 ∷ jalr 31 24 ∷ sll 0 0 0 ∷ []
call_number-far = refl

return-registers : template in_registers places_of_labels (Return 1) ≡ addu 24 17 0 ∷ addu 2 24 0 ∷ j 4194500 ∷ sll 0 0
    0 ∷ []
return-registers = refl

return-near : template near places_of_labels (Return 1) ≡ lw 24 132 29 ∷ sll 0 0 0 ∷ addu 2 24 0 ∷ j 4194500 ∷ sll 0 0 0
    ∷ []
return-near = refl

return-far : template far places_of_labels (Return 1) ≡ lui 1 1 ∷ addu 1 1 29 ∷ lw 24 36132 1 ∷ sll 0 0 0 ∷ addu 2 24 0
    ∷ j 4194500 ∷ sll 0 0 0 ∷ []
return-far = refl

return_zero-registers : template in_registers places_of_labels (ReturnZero) ≡ addu 2 0 0 ∷ j 4194500 ∷ sll 0 0 0 ∷ []
return_zero-registers = refl

return_zero-near : template near places_of_labels (ReturnZero) ≡ addu 2 0 0 ∷ j 4194500 ∷ sll 0 0 0 ∷ []
return_zero-near = refl

return_zero-far : template far places_of_labels (ReturnZero) ≡ addu 2 0 0 ∷ j 4194500 ∷ sll 0 0 0 ∷ []
return_zero-far = refl

sys-put_byte-registers : template in_registers places_of_labels (Sys sys.PutByte 0 1) ≡ addu 24 17 0 ∷ addu 4 24 0 ∷ ori
    2 0 11 ∷ syscall ∷ addu 24 2 0 ∷ addu 16 24 0 ∷ []
sys-put_byte-registers = refl

sys-put_byte-near : template near places_of_labels (Sys sys.PutByte 0 1) ≡ lw 24 132 29 ∷ sll 0 0 0 ∷ addu 4 24 0 ∷ ori
    2 0 11 ∷ syscall ∷ addu 24 2 0 ∷ sw 24 128 29 ∷ []
sys-put_byte-near = refl

sys-put_byte-far : template far places_of_labels (Sys sys.PutByte 0 1) ≡ lui 1 1 ∷ addu 1 1 29 ∷ lw 24 36132 1 ∷ sll 0 0
    0 ∷ addu 4 24 0 ∷ ori 2 0 11 ∷ syscall ∷ addu 24 2 0 ∷ lui 1 1 ∷ addu 1 1 29 ∷ sw 24 36128 1 ∷ []
sys-put_byte-far = refl

run-malloc-registers : template in_registers places_of_labels (Run run.Malloc 0 1) ≡ addu 24 17 0 ∷ addu 4 24 0 ∷ jal
    4194560 ∷ sll 0 0 0 ∷ addu 24 2 0 ∷ addu 16 24 0 ∷ []
run-malloc-registers = refl

run-malloc-near : template near places_of_labels (Run run.Malloc 0 1) ≡ lw 24 132 29 ∷ sll 0 0 0 ∷ addu 4 24 0 ∷ jal
    4194560 ∷ sll 0 0 0 ∷ addu 24 2 0 ∷ sw 24 128 29 ∷ []
run-malloc-near = refl

run-malloc-far : template far places_of_labels (Run run.Malloc 0 1) ≡ lui 1 1 ∷ addu 1 1 29 ∷ lw 24 36132 1 ∷ sll 0 0 0
    ∷ addu 4 24 0 ∷ jal 4194560 ∷ sll 0 0 0 ∷ addu 24 2 0 ∷ lui 1 1 ∷ addu 1 1 29 ∷ sw 24 36128 1 ∷ []
run-malloc-far = refl

new-expression-registers : template in_registers places_of_labels (New 0 4202496 closure.Expression 2) ≡ lui 4 64 ∷ ori
    4 4 8192 ∷ ori 5 0 1 ∷ lui 6 0 ∷ ori 6 6 2 ∷ jal 4197632 ∷ sll 0 0 0 ∷ addu 24 2 0 ∷ addu 16 24 0 ∷ []
new-expression-registers = refl

new-expression-near : template near places_of_labels (New 0 4202496 closure.Expression 2) ≡ lui 4 64 ∷ ori 4 4 8192 ∷
    ori 5 0 1 ∷ lui 6 0 ∷ ori 6 6 2 ∷ jal 4197632 ∷ sll 0 0 0 ∷ addu 24 2 0 ∷ sw 24 128 29 ∷ []
new-expression-near = refl

new-expression-far : template far places_of_labels (New 0 4202496 closure.Expression 2) ≡ lui 4 64 ∷ ori 4 4 8192 ∷ ori
    5 0 1 ∷ lui 6 0 ∷ ori 6 6 2 ∷ jal 4197632 ∷ sll 0 0 0 ∷ addu 24 2 0 ∷ lui 1 1 ∷ addu 1 1 29 ∷ sw 24 36128 1 ∷ []
new-expression-far = refl

put-registers : template in_registers places_of_labels (Put 1 1) ≡ addu 24 17 0 ∷ lw 25 65504 28 ∷ lui 1 0 ∷ addu 25 25
    1 ∷ sw 24 20 25 ∷ []
put-registers = refl

put-near : template near places_of_labels (Put 1 1) ≡ lw 24 132 29 ∷ sll 0 0 0 ∷ lw 25 65504 28 ∷ lui 1 0 ∷ addu 25 25 1
    ∷ sw 24 20 25 ∷ []
put-near = refl

put-far : template far places_of_labels (Put 1 1) ≡ lui 1 1 ∷ addu 1 1 29 ∷ lw 24 36132 1 ∷ sll 0 0 0 ∷ lw 25 65504 28 ∷
    lui 1 0 ∷ addu 25 25 1 ∷ sw 24 20 25 ∷ []
put-far = refl
