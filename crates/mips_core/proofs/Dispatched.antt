-- What a word's instruction did, from what its row did: the tables of words, as functions of the code to look up.
use Rattle.std.proofs.Common.{◌≡◌, ◌≢◌, ℕ, ◌/◌, ◌%◌, ◌<◌, ◌≤◌, ◌⊎◌, List, [], ◌∷◌, Bool, true, false, nat_eq, Option}
use Rattle.std.proofs.Common.{Some, None, is_some, refl, sym, ap, subst, ◌∙◌, ◌==◌, ⊎_elim, arith, if◌then◌else◌}
use Rattle.std.proofs.lemmas.Bool.Decides.{nat_tests}
use Rattle.mips_encoder.specs.declared.instruction.Instr.{Instr}
use Rattle.mips_encoder.specs.declared.instruction.Instr.TheVariants.{Break, Syscall}
use Rattle.mips_encoder.specs.declared.instruction.ArithmeticOp.TheVariants.{Add, Addu, Sub, Subu, And, Or, Xor, Nor}
use Rattle.mips_encoder.specs.declared.instruction.ArithmeticOp.TheVariants.{Slt, Sltu}
use Rattle.mips_encoder.specs.declared.instruction.ShiftOp.TheVariants.{Sll, Srl, Sra}
use Rattle.mips_encoder.specs.declared.instruction.ShiftVariableOp.TheVariants.{Sllv, Srlv, Srav}
use Rattle.mips_encoder.specs.declared.instruction.HiLo.TheVariants.{Hi, Lo}
use Rattle.mips_encoder.specs.declared.instruction.MultiplyDivideOp.TheVariants.{Mult, Multu, Div, Divu}
use Rattle.mips_encoder.specs.declared.instruction.SignTest.TheVariants.{Negative, NonNegative}
use Rattle.mips_encoder.specs.declared.instruction.JumpOp.TheVariants.{J, Jal}
use Rattle.mips_encoder.specs.declared.instruction.EqualityOp.TheVariants.{Beq, Bne}
use Rattle.mips_encoder.specs.declared.instruction.ZeroComparisonOp.TheVariants.{Blez, Bgtz}
use Rattle.mips_encoder.specs.declared.instruction.ImmediateOp.TheVariants.{Addi, Addiu, Slti, Sltiu, Andi, Ori, Xori}
use Rattle.mips_encoder.specs.declared.instruction.MemoryOp.TheVariants.{Lb, Lh, Lw, Lbu, Lhu, Sb, Sh, Sw}
use Rattle.mips_encoder.specs.Decoded.{row, only, arithmetic, shift, shift_variable, multiply_divide, move_from}
use Rattle.mips_encoder.specs.Decoded.{move_to, jump_register, jump_and_link_register, syscall, of_special}
use Rattle.mips_encoder.specs.Decoded.{branch_on_sign, branch_on_sign_and_link, of_regimm, branch_on_equality}
use Rattle.mips_encoder.specs.Decoded.{branch_on_zero, memory, jump, immediate_arithmetic, instr_of}
use Rattle.mips_encoder.specs.Decoded.{load_upper_immediate}
use Rattle.host_edge.specs.declared.ending.MachineKind.TheVariants as kind
use Rattle.mips_model.specs.Steps.{faulted}
use Rattle.mips_core.specs.declared.halt.Went.{Went}
use Rattle.mips_core.specs.Core.{CoreKept, Becomes, Does, Executes, at, does, state_of}
use Rattle.mips_core.proofs.Rows.{becomes}

abbrev pub special : ℕ → ℕ → Option Instr
special w = row
    ((0, shift Sll w) ∷ (2, shift Srl w) ∷ (3, shift Sra w)
    ∷ (4, shift_variable Sllv w) ∷ (6, shift_variable Srlv w) ∷ (7, shift_variable Srav w)
    ∷ (8, jump_register w) ∷ (9, jump_and_link_register w)
    ∷ (12, syscall w) ∷ (13, Some (Break (w / 64 % 1048576)))
    ∷ (16, move_from Hi w) ∷ (17, move_to Hi w) ∷ (18, move_from Lo w) ∷ (19, move_to Lo w)
    ∷ (24, multiply_divide Mult w) ∷ (25, multiply_divide Multu w)
    ∷ (26, multiply_divide Div w) ∷ (27, multiply_divide Divu w)
    ∷ (32, arithmetic Add w) ∷ (33, arithmetic Addu w) ∷ (34, arithmetic Sub w) ∷ (35, arithmetic Subu w)
    ∷ (36, arithmetic And w) ∷ (37, arithmetic Or w) ∷ (38, arithmetic Xor w) ∷ (39, arithmetic Nor w)
    ∷ (42, arithmetic Slt w) ∷ (43, arithmetic Sltu w) ∷ [])

abbrev regimm : ℕ → ℕ → Option Instr
regimm w = row
    ((0, branch_on_sign Negative w) ∷ (1, branch_on_sign NonNegative w)
    ∷ (16, branch_on_sign_and_link Negative w) ∷ (17, branch_on_sign_and_link NonNegative w) ∷ [])

abbrev pub coded : ℕ → ℕ → Option Instr
coded w = row
    ((0, of_special w) ∷ (1, of_regimm w)
    ∷ (2, jump J w) ∷ (3, jump Jal w)
    ∷ (4, branch_on_equality Beq w) ∷ (5, branch_on_equality Bne w)
    ∷ (6, branch_on_zero Blez w) ∷ (7, branch_on_zero Bgtz w)
    ∷ (8, immediate_arithmetic Addi w) ∷ (9, immediate_arithmetic Addiu w)
    ∷ (10, immediate_arithmetic Slti w) ∷ (11, immediate_arithmetic Sltiu w)
    ∷ (12, immediate_arithmetic Andi w) ∷ (13, immediate_arithmetic Ori w) ∷ (14, immediate_arithmetic Xori w)
    ∷ (15, load_upper_immediate w)
    ∷ (32, memory Lb w) ∷ (33, memory Lh w) ∷ (35, memory Lw w) ∷ (36, memory Lbu w) ∷ (37, memory Lhu w)
    ∷ (40, memory Sb w) ∷ (41, memory Sh w) ∷ (43, memory Sw w) ∷ [])

-- a word of a row
pub by_register : {aside : Bool} {pc n : ℕ} {r : Went} {new : CoreKept} (k : CoreKept) (w : ℕ) →
    w / 65536 % 32 ≡ n → Does aside (regimm w n) pc k r new → Does aside (of_regimm w) pc k r new
by_register {aside} {pc} k w is b =
    becomes (ap (λ (m : ℕ). does (regimm w m) (state_of (at pc k))) (sym is)) b

pub by_opcode : {aside : Bool} {pc n : ℕ} {r : Went} {new : CoreKept} (k : CoreKept) (w : ℕ) →
    w / 67108864 ≡ n → Does aside (coded w n) pc k r new → Does aside (instr_of w) pc k r new
by_opcode {aside} {pc} k w is b = becomes (ap (λ (m : ℕ). does (coded w m) (state_of (at pc k))) (sym is)) b

-- the word isn't that of SYSCALL
pub by_function : {aside : Bool} {pc n : ℕ} {r : Went} {new : CoreKept} (k : CoreKept) (w : ℕ) →
    w % 64 ≡ n → nat_eq n 12 ≡ false → Does aside (special w n) pc k r new →
    Executes aside (of_special w) w pc k r new
by_function {aside} {pc} {n} k w is other b = record {
  service = λ so.
      let twelve : n ≡ 12 = sym is ∙ ap (λ (v : ℕ). v % 64) so in
      let not : true ≡ false = sym (ap (λ (m : ℕ). nat_eq m 12) twelve) ∙ other in
      absurd cc;
  other = λ not. becomes (ap (λ (m : ℕ). does (special w m) (state_of (at pc k))) (sym is)) b;
}

-- codes that the table hasn't
abbrev IsOne : ℕ → List ℕ → ℕ → Type 0
IsOne code [] n = n ≡ code
IsOne code (c ∷ cs) n = (n ≡ code) ⊎ IsOne c cs n

abbrev has_none : (ℕ → Option Instr) → List ℕ → Bool
has_none f [] = true
has_none f (code ∷ codes) = if is_some (f code) then false else has_none f codes

no_row : (o : Option Instr) (rest : Bool) → (if is_some o then false else rest) ≡ true → (o ≡ None) × (rest ≡ true)
no_row None rest is = (refl, is)
no_row (Some i) rest is = absurd cc

pub none_of : (f : ℕ → Option Instr) (code : ℕ) (codes : List ℕ) {n : ℕ} → IsOne code codes n →
    has_none f (code ∷ codes) ≡ true → f n ≡ None
none_of f code [] is all = ap f is ∙ (no_row (f code) true all).0
none_of f code (c ∷ cs) is all =
    let h = no_row (f code) (has_none f (c ∷ cs)) all in
    ⊎_elim (λ here. ap f here ∙ h.0) (λ later. none_of f c cs later h.1) is

pub no_opcode : {aside : Bool} {pc : ℕ} {r : Went} {new : CoreKept} (k : CoreKept) (w : ℕ) →
    coded w (w / 67108864) ≡ None → Becomes aside (faulted kind.Reserved (state_of (at pc k))) r pc new →
    Does aside (instr_of w) pc k r new
no_opcode {aside} {pc} k w none b = becomes (ap (λ (o : Option Instr). does o (state_of (at pc k))) (sym none)) b

pub no_function : {aside : Bool} {pc : ℕ} {r : Went} {new : CoreKept} (k : CoreKept) (w : ℕ) →
    special w (w % 64) ≡ None → Becomes aside (faulted kind.Reserved (state_of (at pc k))) r pc new →
    Executes aside (of_special w) w pc k r new
no_function {aside} {pc} k w none b = record {
  service = λ is.
      let syscall : special 12 12 ≡ None = subst (λ (v : ℕ). special v (v % 64) ≡ None) is none in
      absurd cc;
  other = λ not. becomes (ap (λ (o : Option Instr). does o (state_of (at pc k))) (sym none)) b;
}

pub no_syscall : (w : ℕ) → w % 64 ≡ 12 → w ≢ 12 → special w (w % 64) ≡ None
no_syscall w is not =
    let other : (w == 12) ≡ false = grind (arith, nat_tests, not) in
    ap (special w) is ∙ ap (λ (b : Bool). only b Syscall) other

-- a word below the others is one of the second table
pub executes_special : {aside : Bool} {pc : ℕ} {r : Went} {new : CoreKept} (k : CoreKept) (w : ℕ) →
    w < 67108864 → Executes aside (of_special w) w pc k r new → Executes aside (instr_of w) w pc k r new
executes_special {aside} {pc} k w low e = record {
  service = e.service;
  other = λ not. by_opcode {n = 0} k w (omega (arith, low)) (e.other not);
}

pub executes_coded : {aside : Bool} {pc : ℕ} {r : Went} {new : CoreKept} (k : CoreKept) (w : ℕ) →
    67108864 ≤ w → Does aside (instr_of w) pc k r new → Executes aside (instr_of w) w pc k r new
executes_coded k w high b = record {
  service = λ is. absurd (omega (arith, high, is));
  other = λ not. b;
}
