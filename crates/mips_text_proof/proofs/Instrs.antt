-- What the line of each instruction says: the instruction with its operands as numbers.
use Rattle.std.proofs.Common.{◌≡◌, ℕ, ◌-◌, ◌*◌, ◌<◌, cond, List, [], ◌∷◌, ◌++◌, length, Some, refl, sym, ap, subst}
use Rattle.std.proofs.Common.{arith, codes, inl, inr, lt-ltb}
use Rattle.std.specs.Prelude.{decimal}
use Rattle.std.proofs.lemmas.Bool.{cases_lt, le-ltb}
use Rattle.mips_encoder.specs.declared.instruction.Instr.{Instr}
use Rattle.mips_encoder.specs.declared.instruction.Instr.TheVariants as instr
use Rattle.mips_encoder.specs.declared.instruction.ImmediateOp.{ImmediateOp}
use Rattle.mips_encoder.specs.declared.instruction.ImmediateOp.TheVariants.{Addi, Addiu, Slti, Sltiu, Andi, Ori, Xori}
use Rattle.mips_encoder.specs.Table.{Fits}
use Rattle.asm_print.specs.Numbers as print
use Rattle.asm_print.specs.Instructions.{spelled, immediate_operand}
use Rattle.asm_words.specs.declared.number.Number.{Number}
use Rattle.asm_words.specs.declared.operation.Operation.TheVariants as op
use Rattle.asm_words.specs.Numbers.{number_of}
use Rattle.asm_words.specs.Registers.{register_of}
use Rattle.asm_lines.specs.declared.draft.Draft.TheVariants as draft
use Rattle.asm_lines.specs.declared.line.Statement.TheVariants as statement
use Rattle.asm_lines.specs.declared.operand.Target.TheVariants as target
use Rattle.asm_lines.specs.Operands.{target_by, target_of}
use Rattle.asm_lines.specs.Drafts.{drafted}
use Rattle.asm_words.specs.Operations.{operation_of}
use Rattle.asm_lines.specs.Pieces.{pieces}
use Rattle.asm_lines.specs.Lines.{line_of, statement_of}
use Rattle.mips_text_proof.proofs.Feeds.{Says, says_line, plain}
use Rattle.mips_text_proof.proofs.Decimals.{number_decimal}
use Rattle.mips_text_proof.proofs.Hexadecimals.{number_word}
use Rattle.mips_text_proof.proofs.Registers.{register_again}
use Rattle.mips_text_proof.proofs.Halves.{half, number_half}
use Rattle.mips_text_proof.proofs.Rows.{written}
use Rattle.mips_text_proof.proofs.Again.{draft_of, immediate_number}
use Rattle.mips_text_proof.proofs.Wordy.{Wordy, wordy_decimal, some_decimal, wordy_word}
use Rattle.mips_text_proof.proofs.Spelled.{reg, wordy_reg, some_reg, one_is, two_is, three_is, based_is, says_one}
use Rattle.mips_text_proof.proofs.Spelled.{says_two, says_three, says_based}

-- ---- sixteen bits with a sign

wordy_minus : (w : List ℕ) → Wordy w → Wordy (codes "-" ++ w)
wordy_minus w h = record { parts = h.parts; feeds = h.feeds }

pub wordy_half : (n : ℕ) → n < 65536 → Wordy (print.signed_half n)
wordy_half n h =
    elim (cases_lt n 32768) [
      | inl lt ↦ subst Wordy (sym (ap (λ t. cond t (decimal n) (codes "-" ++ decimal (65536 - n))) (lt-ltb n 32768 lt)))
          (wordy_decimal n (omega arith))
      | inr le ↦ subst Wordy (sym (ap (λ t. cond t (decimal n) (codes "-" ++ decimal (65536 - n))) (le-ltb n 32768 le)))
          (wordy_minus (decimal (65536 - n)) (wordy_decimal (65536 - n) (omega arith)))
    ]

pub some_half : (n : ℕ) → n < 65536 → 0 < length (print.signed_half n)
some_half n h =
    elim (cases_lt n 32768) [
      | inl lt ↦ subst (λ w. 0 < length w)
          (sym (ap (λ t. cond t (decimal n) (codes "-" ++ decimal (65536 - n))) (lt-ltb n 32768 lt)))
          (some_decimal n (omega arith))
      | inr le ↦ subst (λ w. 0 < length w)
          (sym (ap (λ t. cond t (decimal n) (codes "-" ++ decimal (65536 - n))) (le-ltb n 32768 le))) (omega arith)
    ]

target_number : (w : List ℕ) (n : Number) → number_of w ≡ Some n → target_of w ≡ Some (target.Number n)
target_number w n e = ap (target_by w) e

-- ---- immediates

abbrev pub imm : ImmediateOp → ℕ → List ℕ
imm o n = print.operand_text (immediate_operand o n)

wordy_imm : (o : ImmediateOp) (n : ℕ) → n < 65536 → Wordy (imm o n)
wordy_imm Addi n h = wordy_half n h
wordy_imm Addiu n h = wordy_half n h
wordy_imm Slti n h = wordy_half n h
wordy_imm Sltiu n h = wordy_half n h
wordy_imm Andi n h = wordy_decimal n (omega arith)
wordy_imm Ori n h = wordy_decimal n (omega arith)
wordy_imm Xori n h = wordy_decimal n (omega arith)

some_imm : (o : ImmediateOp) (n : ℕ) → n < 65536 → 0 < length (imm o n)
some_imm Addi n h = some_half n h
some_imm Addiu n h = some_half n h
some_imm Slti n h = some_half n h
some_imm Sltiu n h = some_half n h
some_imm Andi n h = some_decimal n (omega arith)
some_imm Ori n h = some_decimal n (omega arith)
some_imm Xori n h = some_decimal n (omega arith)

number_imm : (o : ImmediateOp) (n : ℕ) → n < 65536 → number_of (imm o n) ≡ Some (immediate_number o n)
number_imm Addi n h = number_half n h
number_imm Addiu n h = number_half n h
number_imm Slti n h = number_half n h
number_imm Sltiu n h = number_half n h
number_imm Andi n h = number_decimal n (omega arith)
number_imm Ori n h = number_decimal n (omega arith)
number_imm Xori n h = number_decimal n (omega arith)

-- ---- each instruction

syscall_row : line_of (codes "syscall") ≡ plain (statement.Instruction draft.Syscall)
unfolding line_of statement_of pieces drafted operation_of
syscall_row = refl

pub says_instr : (i : Instr) → Fits i → Says (spelled i) (statement.Instruction (draft_of i) ∷ [])
unfolding drafted
says_instr (instr.Arithmetic o rd rs rt) h =
    says_three (op.Arithmetic o) (reg rd) (reg rs) (reg rt) (draft.Arithmetic o rd rs rt)
    (wordy_reg rd h.0) (some_reg rd) (wordy_reg rs h.1) (some_reg rs) (wordy_reg rt h.2) (some_reg rt)
    (three_is register_of register_of register_of (draft.Arithmetic o) (reg rd) (reg rs) (reg rt) rd rs rt
    (register_again rd h.0) (register_again rs h.1) (register_again rt h.2))
says_instr (instr.Shift o rd rt n) h =
    says_three (op.Shift o) (reg rd) (reg rt) (decimal n) (draft.Shift o rd rt (written n))
    (wordy_reg rd h.0) (some_reg rd) (wordy_reg rt h.1) (some_reg rt)
    (wordy_decimal n (let f = h.2 in omega (arith, f))) (some_decimal n (let f = h.2 in omega (arith, f)))
    (three_is register_of register_of number_of (draft.Shift o) (reg rd) (reg rt) (decimal n) rd rt (written n)
    (register_again rd h.0) (register_again rt h.1) (number_decimal n (let f = h.2 in omega (arith, f))))
says_instr (instr.ShiftVariable o rd rt rs) h =
    says_three (op.ShiftVariable o) (reg rd) (reg rt) (reg rs) (draft.ShiftVariable o rd rt rs)
    (wordy_reg rd h.0) (some_reg rd) (wordy_reg rt h.1) (some_reg rt) (wordy_reg rs h.2) (some_reg rs)
    (three_is register_of register_of register_of (draft.ShiftVariable o) (reg rd) (reg rt) (reg rs) rd rt rs
    (register_again rd h.0) (register_again rt h.1) (register_again rs h.2))
says_instr (instr.JumpRegister rs) h =
    says_one op.JumpRegister (reg rs) (draft.JumpRegister rs) (wordy_reg rs h) (some_reg rs)
    (one_is register_of draft.JumpRegister (reg rs) rs (register_again rs h))
says_instr (instr.JumpAndLinkRegister p) h =
    says_two op.JumpAndLinkRegister (reg p.rd) (reg p.rs) (draft.JumpAndLinkRegister p.rd p.rs)
    (wordy_reg p.rd h.0) (some_reg p.rd) (wordy_reg p.rs h.1) (some_reg p.rs)
    (two_is register_of register_of draft.JumpAndLinkRegister (reg p.rd) (reg p.rs) p.rd p.rs (register_again p.rd h.0)
    (register_again p.rs h.1))
says_instr instr.Syscall h = says_line (codes "syscall") (statement.Instruction draft.Syscall) refl syscall_row
says_instr (instr.Break n) h =
    says_one op.Break (decimal n) (draft.Break (written n)) (wordy_decimal n (omega (arith, h)))
    (some_decimal n (omega (arith, h)))
    (one_is number_of draft.Break (decimal n) (written n) (number_decimal n (omega (arith, h))))
says_instr (instr.MoveFrom o rd) h =
    says_one (op.MoveFrom o) (reg rd) (draft.MoveFrom o rd) (wordy_reg rd h) (some_reg rd)
    (one_is register_of (draft.MoveFrom o) (reg rd) rd (register_again rd h))
says_instr (instr.MoveTo o rs) h =
    says_one (op.MoveTo o) (reg rs) (draft.MoveTo o rs) (wordy_reg rs h) (some_reg rs)
    (one_is register_of (draft.MoveTo o) (reg rs) rs (register_again rs h))
says_instr (instr.MultiplyDivide o rs rt) h =
    says_two (op.MultiplyDivide o) (reg rs) (reg rt) (draft.MultiplyDivide o rs rt)
    (wordy_reg rs h.0) (some_reg rs) (wordy_reg rt h.1) (some_reg rt)
    (two_is register_of register_of (draft.MultiplyDivide o) (reg rs) (reg rt) rs rt (register_again rs h.0)
    (register_again rt h.1))
says_instr (instr.BranchOnSign o rs n) h =
    says_two (op.BranchOnSign o) (reg rs) (print.signed_half n) (draft.BranchOnSign o rs (target.Number (half n)))
    (wordy_reg rs h.0) (some_reg rs) (wordy_half n h.1) (some_half n h.1)
    (two_is register_of target_of (draft.BranchOnSign o) (reg rs) (print.signed_half n) rs (target.Number (half n))
    (register_again rs h.0) (target_number (print.signed_half n) (half n) (number_half n h.1)))
says_instr (instr.BranchOnSignAndLink o rs n) h =
    let low : rs < 32 = let f = h.0 in omega (arith, f) in
    says_two (op.BranchOnSignAndLink o) (reg rs) (print.signed_half n)
    (draft.BranchOnSignAndLink o rs (target.Number (half n)))
    (wordy_reg rs low) (some_reg rs) (wordy_half n h.1) (some_half n h.1)
    (two_is register_of target_of (draft.BranchOnSignAndLink o) (reg rs) (print.signed_half n) rs
    (target.Number (half n))
    (register_again rs low) (target_number (print.signed_half n) (half n) (number_half n h.1)))
says_instr (instr.Jump o n) h =
    let small : 4 * n < 4294967296 = omega (arith, h) in
    says_one (op.Jump o) (print.prefixed_word (4 * n)) (draft.Jump o (target.Number (written (4 * n))))
    (wordy_word (4 * n)) (omega arith)
    (one_is target_of (draft.Jump o) (print.prefixed_word (4 * n)) (target.Number (written (4 * n)))
    (target_number (print.prefixed_word (4 * n)) (written (4 * n)) (number_word (4 * n) small)))
says_instr (instr.BranchOnEquality o rs rt n) h =
    says_three (op.BranchOnEquality o) (reg rs) (reg rt) (print.signed_half n)
    (draft.BranchOnEquality o rs rt (target.Number (half n)))
    (wordy_reg rs h.0) (some_reg rs) (wordy_reg rt h.1) (some_reg rt) (wordy_half n h.2) (some_half n h.2)
    (three_is register_of register_of target_of (draft.BranchOnEquality o) (reg rs) (reg rt) (print.signed_half n) rs rt
    (target.Number (half n))
    (register_again rs h.0) (register_again rt h.1) (target_number (print.signed_half n) (half n) (number_half n h.2)))
says_instr (instr.BranchOnZero o rs n) h =
    says_two (op.BranchOnZero o) (reg rs) (print.signed_half n) (draft.BranchOnZero o rs (target.Number (half n)))
    (wordy_reg rs h.0) (some_reg rs) (wordy_half n h.1) (some_half n h.1)
    (two_is register_of target_of (draft.BranchOnZero o) (reg rs) (print.signed_half n) rs (target.Number (half n))
    (register_again rs h.0) (target_number (print.signed_half n) (half n) (number_half n h.1)))
says_instr (instr.ImmediateArithmetic o rt rs n) h =
    says_three (op.ImmediateArithmetic o) (reg rt) (reg rs) (imm o n)
    (draft.ImmediateArithmetic o rt rs (immediate_number o n))
    (wordy_reg rt h.0) (some_reg rt) (wordy_reg rs h.1) (some_reg rs) (wordy_imm o n h.2) (some_imm o n h.2)
    (three_is register_of register_of number_of (draft.ImmediateArithmetic o) (reg rt) (reg rs) (imm o n) rt rs
    (immediate_number o n)
    (register_again rt h.0) (register_again rs h.1) (number_imm o n h.2))
says_instr (instr.LoadUpperImmediate rt n) h =
    let small : n < 4294967296 = let f = h.1 in omega (arith, f) in
    says_two op.LoadUpperImmediate (reg rt) (decimal n) (draft.LoadUpperImmediate rt (written n))
    (wordy_reg rt h.0) (some_reg rt) (wordy_decimal n small) (some_decimal n small)
    (two_is register_of number_of draft.LoadUpperImmediate (reg rt) (decimal n) rt (written n) (register_again rt h.0)
    (number_decimal n small))
says_instr (instr.Memory o rt n rs) h =
    says_based (op.Memory o) (reg rt) (print.signed_half n) (reg rs) (draft.Memory o rt (half n) rs)
    (wordy_reg rt h.0) (some_reg rt) (wordy_half n h.1) (some_half n h.1) (wordy_reg rs h.2) (some_reg rs)
    (based_is register_of number_of register_of (draft.Memory o) (reg rt) (print.signed_half n) (reg rs) rt (half n) rs
    (register_again rt h.0) (number_half n h.1) (register_again rs h.2))
