-- The instruction that a line gives, or the fault in it: every operand has to fit its field, and the registers have to
-- be those that the form of the MIPS R2000 architecture manual allows. An offset of a branch is in words and counts
-- from its delay slot. Where a number and a label are both wrong, the number's fault counts.
use Rattle.std.specs.Prelude.{ℕ, ◌+◌, ◌-◌, ◌/◌, ◌%◌, true, false, ◌==◌, ◌&&◌, nat_lt, nat_le, cond, if◌then◌else◌, List}
use Rattle.std.specs.Prelude.{Option, Some, None, ok_or, Result, Ok, Err}
use Rattle.mips_encoder.specs.declared.instruction.Instr.{Instr}
use Rattle.mips_encoder.specs.declared.instruction.Instr.TheVariants as instr
use Rattle.mips_encoder.specs.declared.instruction.ImmediateOp.{ImmediateOp}
use Rattle.mips_encoder.specs.declared.instruction.ImmediateOp.TheVariants.{Addi, Addiu, Slti, Sltiu, Andi, Ori, Xori}
use Rattle.mips_encoder.specs.LinkRegisters.{LinkRegisters}
use Rattle.asm_words.specs.declared.number.Number.{Number}
use Rattle.asm_words.specs.Numbers.{unsigned, signed_half}
use Rattle.asm_lines.specs.declared.draft.Draft.{Draft}
use Rattle.asm_lines.specs.declared.draft.Draft.TheVariants as draft
use Rattle.asm_lines.specs.declared.operand.Target.{Target}
use Rattle.asm_lines.specs.declared.operand.Target.TheVariants as target
use Rattle.asm_passes.specs.declared.fault.AsmFaultKind.{AsmFaultKind}
use Rattle.asm_passes.specs.declared.fault.AsmFaultKind.TheVariants.{BadNumber, UnknownLabel}
use Rattle.asm_passes.specs.LabelPlace.{LabelPlace}
use Rattle.asm_passes.specs.Labels.{address}

abbrev pub Read : Type 0 → Type 0
Read A = Result A AsmFaultKind

-- One reading after another, or the first fault.
infixl 10 ◌>>=◌
abbrev pub ◌>>=◌ : {A B : Type 0} → Read A → (A → Read B) → Read B
Ok x >>= f = f x
Err e >>= f = Err e

abbrev pub pure : {A : Type 0} → A → Read A
pure x = Ok x

-- What fits, or BadNumber.
abbrev pub fitting : {A : Type 0} → Option A → Read A
fitting o = ok_or o BadNumber

-- ---- numbers

abbrev pub unsigned_below : ℕ → Option ℕ → Option ℕ
unsigned_below limit None = None
unsigned_below limit (Some n) = if nat_lt n limit then Some n else None

-- A number below a limit.
abbrev pub below : ℕ → Number → Read ℕ
below limit n = fitting (unsigned_below limit (unsigned n))

-- Sixteen bits with a sign.
abbrev pub signed : Number → Read ℕ
signed n = fitting (signed_half n)

-- The immediate of an operation: with a sign for sums and comparisons, without one for bitwise operations.
abbrev pub immediate : ImmediateOp → Number → Read ℕ
immediate Addi n = signed n
immediate Addiu n = signed n
immediate Slti n = signed n
immediate Sltiu n = signed n
immediate Andi n = below 65536 n
immediate Ori n = below 65536 n
immediate Xori n = below 65536 n

-- ---- registers

abbrev pub link_source : ℕ → Read ℕ
link_source rs = fitting (if nat_lt rs 31 then Some rs else None)

abbrev pub link_pair : ℕ → ℕ → Read LinkRegisters
link_pair rd rs = fitting (if rd == rs then None else Some (record { rd = rd; rs = rs }))

-- ---- labels

-- What finds labels by their names.
abbrev pub Find : Type 0
Find = List ℕ → Option LabelPlace

abbrev pub label_of : Find → List ℕ → Read LabelPlace
label_of find name = ok_or (find name) UnknownLabel

-- The address that a target is.
abbrev pub address_of : Find → Target → Read ℕ
address_of find (target.Number n) = fitting (unsigned n)
address_of find (target.Label name) = do
  l ← label_of find name
  pure (address l)

-- The number of words from one place to another, with a sign.
abbrev pub distance : ℕ → ℕ → Number
distance from to = if nat_le from to
    then record { negative = false; magnitude = Some (to - from) }
    else record { negative = true; magnitude = Some (from - to) }

-- The offset that a target is for the branch that is the word `at` of the text, counted from 0.
abbrev pub offset_of : Find → ℕ → Target → Read ℕ
offset_of find at (target.Number n) = signed n
offset_of find at (target.Label name) = do
  l ← label_of find name
  signed (distance (at + 1) l.words)

abbrev pub jump_index : ℕ → Option ℕ
jump_index a = cond (nat_lt a 0x10000000 && (a % 4 == 0)) (Some (a / 4)) None

-- The word that a jump goes to, counted from address 0.
abbrev pub jump_target : Find → Target → Read ℕ
jump_target find t = do
  a ← address_of find t
  fitting (jump_index a)

-- ---- instructions

-- The instruction of a line, where it is the word `at` of the text.
unfoldable pub instruction_of : Find → ℕ → Draft → Read Instr
instruction_of find at (draft.Arithmetic op rd rs rt) = Ok (instr.Arithmetic op rd rs rt)
instruction_of find at (draft.Shift op rd rt n) = do
  shamt ← below 32 n
  pure (instr.Shift op rd rt shamt)
instruction_of find at (draft.ShiftVariable op rd rt rs) = Ok (instr.ShiftVariable op rd rt rs)
instruction_of find at (draft.JumpRegister rs) = Ok (instr.JumpRegister rs)
instruction_of find at (draft.JumpAndLinkRegister rd rs) = do
  registers ← link_pair rd rs
  pure (instr.JumpAndLinkRegister registers)
instruction_of find at draft.Syscall = Ok instr.Syscall
instruction_of find at (draft.Break n) = do
  code ← below 1048576 n
  pure (instr.Break code)
instruction_of find at (draft.MoveFrom source rd) = Ok (instr.MoveFrom source rd)
instruction_of find at (draft.MoveTo to rs) = Ok (instr.MoveTo to rs)
instruction_of find at (draft.MultiplyDivide op rs rt) = Ok (instr.MultiplyDivide op rs rt)
instruction_of find at (draft.BranchOnSign test rs t) = do
  offset ← offset_of find at t
  pure (instr.BranchOnSign test rs offset)
instruction_of find at (draft.BranchOnSignAndLink test rs t) = do
  source ← link_source rs
  offset ← offset_of find at t
  pure (instr.BranchOnSignAndLink test source offset)
instruction_of find at (draft.Jump op t) = do
  index ← jump_target find t
  pure (instr.Jump op index)
instruction_of find at (draft.BranchOnEquality op rs rt t) = do
  offset ← offset_of find at t
  pure (instr.BranchOnEquality op rs rt offset)
instruction_of find at (draft.BranchOnZero op rs t) = do
  offset ← offset_of find at t
  pure (instr.BranchOnZero op rs offset)
instruction_of find at (draft.ImmediateArithmetic op rt rs n) = do
  bits ← immediate op n
  pure (instr.ImmediateArithmetic op rt rs bits)
instruction_of find at (draft.LoadUpperImmediate rt n) = do
  bits ← below 65536 n
  pure (instr.LoadUpperImmediate rt bits)
instruction_of find at (draft.Memory op rt n rs) = do
  offset ← signed n
  pure (instr.Memory op rt offset rs)
