-- An instruction, written with its operands as numbers, is this instruction again.
use Rattle.std.proofs.Common.{◌≡◌, ℕ, ◌*◌, ◌/◌, ◌%◌, ◌<◌, ◌==◌, true, ◌&&◌, nat_lt, cond, Some, None, Ok, refl, ap, ◌∙◌}
use Rattle.std.proofs.Common.{arith, lt-ltb}
use Rattle.std.proofs.lemmas.Bool.{ne_eqb}
use Rattle.mips_encoder.specs.declared.instruction.Instr.{Instr}
use Rattle.mips_encoder.specs.declared.instruction.Instr.TheVariants as instr
use Rattle.mips_encoder.specs.declared.instruction.ImmediateOp.{ImmediateOp}
use Rattle.mips_encoder.specs.declared.instruction.ImmediateOp.TheVariants.{Addi, Addiu, Slti, Sltiu, Andi, Ori, Xori}
use Rattle.mips_encoder.specs.Table.{Fits}
use Rattle.asm_words.specs.declared.number.Number.{Number}
use Rattle.asm_lines.specs.declared.draft.Draft.{Draft}
use Rattle.asm_lines.specs.declared.draft.Draft.TheVariants as draft
use Rattle.asm_lines.specs.declared.operand.Target.TheVariants as target
use Rattle.asm_passes.specs.Instructions.{◌>>=◌, pure, fitting, Find, signed, immediate, jump_index, instruction_of}
use Rattle.mips_text_proof.proofs.Rows.{written}
use Rattle.mips_text_proof.proofs.Halves.{half, signed_fits, below_fits}

-- The immediate of an operation as a number.
abbrev pub immediate_number : ImmediateOp → ℕ → Number
immediate_number Addi n = half n
immediate_number Addiu n = half n
immediate_number Slti n = half n
immediate_number Sltiu n = half n
immediate_number Andi n = written n
immediate_number Ori n = written n
immediate_number Xori n = written n

-- An instruction with its operands as numbers.
abbrev pub draft_of : Instr → Draft
draft_of (instr.Arithmetic op rd rs rt) = draft.Arithmetic op rd rs rt
draft_of (instr.Shift op rd rt shamt) = draft.Shift op rd rt (written shamt)
draft_of (instr.ShiftVariable op rd rt rs) = draft.ShiftVariable op rd rt rs
draft_of (instr.JumpRegister rs) = draft.JumpRegister rs
draft_of (instr.JumpAndLinkRegister p) = draft.JumpAndLinkRegister p.rd p.rs
draft_of instr.Syscall = draft.Syscall
draft_of (instr.Break code) = draft.Break (written code)
draft_of (instr.MoveFrom source rd) = draft.MoveFrom source rd
draft_of (instr.MoveTo to rs) = draft.MoveTo to rs
draft_of (instr.MultiplyDivide op rs rt) = draft.MultiplyDivide op rs rt
draft_of (instr.BranchOnSign test rs offset) = draft.BranchOnSign test rs (target.Number (half offset))
draft_of (instr.BranchOnSignAndLink test rs offset) = draft.BranchOnSignAndLink test rs (target.Number (half offset))
draft_of (instr.Jump op index) = draft.Jump op (target.Number (written (4 * index)))
draft_of (instr.BranchOnEquality op rs rt offset) = draft.BranchOnEquality op rs rt (target.Number (half offset))
draft_of (instr.BranchOnZero op rs offset) = draft.BranchOnZero op rs (target.Number (half offset))
draft_of (instr.ImmediateArithmetic op rt rs imm) = draft.ImmediateArithmetic op rt rs (immediate_number op imm)
draft_of (instr.LoadUpperImmediate rt imm) = draft.LoadUpperImmediate rt (written imm)
draft_of (instr.Memory op rt offset rs) = draft.Memory op rt (half offset) rs

immediate_fits : (op : ImmediateOp) (n : ℕ) → n < 65536 → immediate op (immediate_number op n) ≡ Ok n
immediate_fits Addi n h = signed_fits n h
immediate_fits Addiu n h = signed_fits n h
immediate_fits Slti n h = signed_fits n h
immediate_fits Sltiu n h = signed_fits n h
immediate_fits Andi n h = below_fits 65536 n h
immediate_fits Ori n h = below_fits 65536 n h
immediate_fits Xori n h = below_fits 65536 n h

index_again : (n : ℕ) → n < 67108864 → jump_index (4 * n) ≡ Some n
index_again n h =
    let low : nat_lt (4 * n) 0x10000000 ≡ true = lt-ltb (4 * n) 0x10000000 (omega arith) in
    let even : (4 * n % 4 == 0) ≡ true = ap (λ m. m == 0) (let z : 4 * n % 4 ≡ 0 = omega arith in z) in
    let quarter : 4 * n / 4 ≡ n = omega arith in
    ap (λ t. cond (t && (4 * n % 4 == 0)) (Some (4 * n / 4)) None) low
    ∙ ap (λ t. cond t (Some (4 * n / 4)) None) even
    ∙ ap Some quarter

pub again : (find : Find) (at : ℕ) (i : Instr) → Fits i → instruction_of find at (draft_of i) ≡ Ok i
unfolding instruction_of
again find at (instr.Arithmetic op rd rs rt) h = refl
again find at (instr.Shift op rd rt shamt) h =
    ap (λ r. r >>= (λ n. pure (instr.Shift op rd rt n))) (below_fits 32 shamt h.2)
again find at (instr.ShiftVariable op rd rt rs) h = refl
again find at (instr.JumpRegister rs) h = refl
again find at (instr.JumpAndLinkRegister p) h =
    ap (λ t. fitting (cond t None (Some (record { rd = p.rd; rs = p.rs }))) >>=
    (λ r. pure (instr.JumpAndLinkRegister r)))
    (ne_eqb p.rd p.rs h.2)
again find at instr.Syscall h = refl
again find at (instr.Break code) h = ap (λ r. r >>= (λ n. pure (instr.Break n))) (below_fits 1048576 code h)
again find at (instr.MoveFrom source rd) h = refl
again find at (instr.MoveTo to rs) h = refl
again find at (instr.MultiplyDivide op rs rt) h = refl
again find at (instr.BranchOnSign test rs offset) h =
    ap (λ r. r >>= (λ n. pure (instr.BranchOnSign test rs n))) (signed_fits offset h.1)
again find at (instr.BranchOnSignAndLink test rs offset) h =
    ap (λ t. fitting (cond t (Some rs) None) >>=
    (λ s. signed (half offset) >>= (λ n. pure (instr.BranchOnSignAndLink test s n)))) (lt-ltb rs 31 h.0)
    ∙ ap (λ r. r >>= (λ n. pure (instr.BranchOnSignAndLink test rs n))) (signed_fits offset h.1)
again find at (instr.Jump op index) h =
    ap (λ o. fitting o >>= (λ n. pure (instr.Jump op n))) (index_again index h)
again find at (instr.BranchOnEquality op rs rt offset) h =
    ap (λ r. r >>= (λ n. pure (instr.BranchOnEquality op rs rt n))) (signed_fits offset h.2)
again find at (instr.BranchOnZero op rs offset) h =
    ap (λ r. r >>= (λ n. pure (instr.BranchOnZero op rs n))) (signed_fits offset h.1)
again find at (instr.ImmediateArithmetic op rt rs imm) h =
    ap (λ r. r >>= (λ n. pure (instr.ImmediateArithmetic op rt rs n))) (immediate_fits op imm h.2)
again find at (instr.LoadUpperImmediate rt imm) h =
    ap (λ r. r >>= (λ n. pure (instr.LoadUpperImmediate rt n))) (below_fits 65536 imm h.1)
again find at (instr.Memory op rt offset rs) h =
    ap (λ r. r >>= (λ n. pure (instr.Memory op rt n rs))) (signed_fits offset h.1)
