-- Instructions as they are written, before labels have addresses: each operation takes the operands of its form in the
-- order of the instruction table of the MIPS R2000 architecture manual. Registers, numbers and labels stand where the
-- form has them, and whatever fits no field is still a number here. `nop` is `sll $0,$0,0`.
use Rattle.std.specs.Prelude.{ℕ, Bool, true, false, List, Option, Some, None}
use Rattle.mips_encoder.specs.declared.instruction.ShiftOp.TheVariants.{Sll}
use Rattle.asm_words.specs.declared.operation.Operation.{Operation}
use Rattle.asm_words.specs.declared.operation.Operation.TheVariants as op
use Rattle.asm_words.specs.Numbers.{number_of}
use Rattle.asm_words.specs.Registers.{register_of}
use Rattle.asm_lines.specs.declared.operand.Operands.{Operands}
use Rattle.asm_lines.specs.declared.operand.Operands.TheVariants.{Nothing, One, Two, Three, Based}
use Rattle.asm_lines.specs.declared.draft.Draft.{Draft}
use Rattle.asm_lines.specs.declared.draft.Draft.TheVariants as draft
use Rattle.asm_lines.specs.Operands.{◌>>=◌, pure, target_of}

-- One operand, two, three, and two with a third in parentheses, read by readers of words.
abbrev pub no_operands : {R : Type 0} → R → Operands → Option R
no_operands r Nothing = Some r
no_operands r z = None

abbrev pub one : {A R : Type 0} → (List ℕ → Option A) → (A → R) → Operands → Option R
one f r (One a) = do
  x ← f a
  pure (r x)
one f r z = None

abbrev pub two : {A B R : Type 0} → (List ℕ → Option A) → (List ℕ → Option B) → (A → B → R) → Operands → Option R
two f g r (Two a b) = do
  x ← f a
  y ← g b
  pure (r x y)
two f g r z = None

abbrev pub three :
    {A B C R : Type 0} →
    (List ℕ → Option A) → (List ℕ → Option B) → (List ℕ → Option C) → (A → B → C → R) → Operands → Option R
three f g h r (Three a b c) = do
  x ← f a
  y ← g b
  z ← h c
  pure (r x y z)
three f g h r z = None

abbrev pub based :
    {A B C R : Type 0} →
    (List ℕ → Option A) → (List ℕ → Option B) → (List ℕ → Option C) → (A → B → C → R) → Operands → Option R
based f g h r (Based a b c) = do
  x ← f a
  y ← g b
  z ← h c
  pure (r x y z)
based f g h r z = None

-- What is read, by itself.
abbrev pub single : {A : Type 0} → A → A
single x = x

abbrev pub pair : {A B : Type 0} → A → B → A × B
pair x y = (x, y)

abbrev pub triple : {A B C : Type 0} → A → B → C → A × B × C
triple x y z = (x, y, z)

-- Whether no operands stand there.
abbrev pub is_nothing : Operands → Bool
is_nothing Nothing = true
is_nothing z = false

abbrev pub nop : Draft
nop = draft.Shift Sll 0 0 (record { negative = false; magnitude = Some 0 })

-- The instruction of an operation with these operands.
unfoldable pub drafted : Operation → Operands → Option Draft
drafted (op.Arithmetic o) = three register_of register_of register_of (draft.Arithmetic o)
drafted (op.Shift o) = three register_of register_of number_of (draft.Shift o)
drafted (op.ShiftVariable o) = three register_of register_of register_of (draft.ShiftVariable o)
drafted op.JumpRegister = one register_of draft.JumpRegister
drafted op.JumpAndLinkRegister = two register_of register_of draft.JumpAndLinkRegister
drafted op.Syscall = no_operands draft.Syscall
drafted op.Break = one number_of draft.Break
drafted (op.MoveFrom o) = one register_of (draft.MoveFrom o)
drafted (op.MoveTo o) = one register_of (draft.MoveTo o)
drafted (op.MultiplyDivide o) = two register_of register_of (draft.MultiplyDivide o)
drafted (op.BranchOnSign o) = two register_of target_of (draft.BranchOnSign o)
drafted (op.BranchOnSignAndLink o) = two register_of target_of (draft.BranchOnSignAndLink o)
drafted (op.Jump o) = one target_of (draft.Jump o)
drafted (op.BranchOnEquality o) = three register_of register_of target_of (draft.BranchOnEquality o)
drafted (op.BranchOnZero o) = two register_of target_of (draft.BranchOnZero o)
drafted (op.ImmediateArithmetic o) = three register_of register_of number_of (draft.ImmediateArithmetic o)
drafted op.LoadUpperImmediate = two register_of number_of draft.LoadUpperImmediate
drafted (op.Memory o) = based register_of number_of register_of (draft.Memory o)
drafted op.NoOperation = no_operands nop
