-- The two directions of the table are inverse: `instr_of-word_of` reads each instruction that fits back from its word,
-- and `word_of-instr_of` gives back each word that is read. Both are for every crate that makes or reads words. A
-- word's fields are found first, as a record of equations on numbers; the row of the table follows from them.
use Rattle.std.proofs.Common.{◌≡◌, ◌≢◌, ℕ, ◌+◌, ◌*◌, ◌/◌, ◌%◌, ◌<◌, Bool, true, false, Option, Some, None, cond, arith}
use Rattle.std.proofs.Common.{refl, sym, ap, subst, ◌∙◌, lit<}
use Rattle.std.proofs.lemmas.Bool.{cond_both, eqb-true}
use Rattle.std.specs.Prelude.{◌==◌, IfSome}
use Rattle.mips_encoder.specs.declared.instruction.Instr.{Instr}
use Rattle.mips_encoder.specs.declared.instruction.Instr.TheVariants as instr
use Rattle.mips_encoder.specs.Table.{word_of, Fits}
use Rattle.mips_encoder.specs.Table as table
use Rattle.mips_encoder.specs.Decoded as decoded
use Rattle.mips_encoder.specs.Fields as field
use Rattle.mips_encoder.specs.Codes.{
  arithmetic_code,
  shift_code,
  shift_variable_code,
  move_from_code,
  move_to_code,
  multiply_divide_code,
  sign_code,
  jump_code,
  equality_code,
  zero_comparison_code,
  immediate_code,
  memory_code,
}
use Rattle.mips_encoder.specs.declared.instruction.ArithmeticOp.{ArithmeticOp}
use Rattle.mips_encoder.specs.declared.instruction.ArithmeticOp.TheVariants.{
  Add,
  Addu,
  Sub,
  Subu,
  And,
  Or,
  Xor,
  Nor,
  Slt,
  Sltu,
}
use Rattle.mips_encoder.specs.declared.instruction.ShiftOp.{ShiftOp}
use Rattle.mips_encoder.specs.declared.instruction.ShiftOp.TheVariants.{Sll, Srl, Sra}
use Rattle.mips_encoder.specs.declared.instruction.ShiftVariableOp.{ShiftVariableOp}
use Rattle.mips_encoder.specs.declared.instruction.ShiftVariableOp.TheVariants.{Sllv, Srlv, Srav}
use Rattle.mips_encoder.specs.declared.instruction.HiLo.{HiLo}
use Rattle.mips_encoder.specs.declared.instruction.HiLo.TheVariants.{Hi, Lo}
use Rattle.mips_encoder.specs.declared.instruction.MultiplyDivideOp.{MultiplyDivideOp}
use Rattle.mips_encoder.specs.declared.instruction.MultiplyDivideOp.TheVariants.{Mult, Multu, Div, Divu}
use Rattle.mips_encoder.specs.declared.instruction.SignTest.{SignTest}
use Rattle.mips_encoder.specs.declared.instruction.SignTest.TheVariants.{Negative, NonNegative}
use Rattle.mips_encoder.specs.declared.instruction.JumpOp.{JumpOp}
use Rattle.mips_encoder.specs.declared.instruction.JumpOp.TheVariants.{J, Jal}
use Rattle.mips_encoder.specs.declared.instruction.EqualityOp.{EqualityOp}
use Rattle.mips_encoder.specs.declared.instruction.EqualityOp.TheVariants.{Beq, Bne}
use Rattle.mips_encoder.specs.declared.instruction.ZeroComparisonOp.{ZeroComparisonOp}
use Rattle.mips_encoder.specs.declared.instruction.ZeroComparisonOp.TheVariants.{Blez, Bgtz}
use Rattle.mips_encoder.specs.declared.instruction.ImmediateOp.{ImmediateOp}
use Rattle.mips_encoder.specs.declared.instruction.ImmediateOp.TheVariants.{Addi, Addiu, Slti, Sltiu, Andi, Ori, Xori}
use Rattle.mips_encoder.specs.declared.instruction.MemoryOp.{MemoryOp}
use Rattle.mips_encoder.specs.declared.instruction.MemoryOp.TheVariants.{Lb, Lh, Lw, Lbu, Lhu, Sb, Sh, Sw}

-- what the fields of a word are, at opcode 0 and at another one
pub record SpecialFields (w rs rt rd shamt funct : ℕ) : Type 0 where
  pub opcode : field.opcode w ≡ 0
  pub rs_is : field.rs w ≡ rs
  pub rt_is : field.rt w ≡ rt
  pub rd_is : field.rd w ≡ rd
  pub shamt_is : field.shamt w ≡ shamt
  pub funct_is : field.funct w ≡ funct
  pub tens : w / 64 % 1024 ≡ rd * 32 + shamt
  pub fifteen : w / 64 % 32768 ≡ rt * 1024 + rd * 32 + shamt
  pub whole : w / 65536 ≡ rs * 32 + rt

pub record ImmediateFields (w opcode rs rt immediate : ℕ) : Type 0 where
  pub opcode_is : field.opcode w ≡ opcode
  pub rs_is : field.rs w ≡ rs
  pub rt_is : field.rt w ≡ rt
  pub immediate_is : field.immediate w ≡ immediate

special_fields : (rs rt rd shamt funct : ℕ) → rs < 32 → rt < 32 → rd < 32 → shamt < 32 → funct < 64
    → SpecialFields (table.special rs rt rd shamt funct) rs rt rd shamt funct
special_fields rs rt rd shamt funct a b c d e = record {
  opcode = omega arith;
  rs_is = omega arith;
  rt_is = omega arith;
  rd_is = omega arith;
  shamt_is = omega arith;
  funct_is = omega arith;
  tens = omega arith;
  fifteen = omega arith;
  whole = omega arith;
}

immediate_fields : (opcode rs rt immediate : ℕ) → opcode < 64 → rs < 32 → rt < 32 → immediate < 65536
    → ImmediateFields (table.with_immediate opcode rs rt immediate) opcode rs rt immediate
immediate_fields opcode rs rt immediate a b c d = record {
  opcode_is = omega arith;
  rs_is = omega arith;
  rt_is = omega arith;
  immediate_is = omega arith;
}

arithmetic_code_small : (op : ArithmeticOp) → arithmetic_code op < 64
arithmetic_code_small Add = lit< tt
arithmetic_code_small Addu = lit< tt
arithmetic_code_small Sub = lit< tt
arithmetic_code_small Subu = lit< tt
arithmetic_code_small And = lit< tt
arithmetic_code_small Or = lit< tt
arithmetic_code_small Xor = lit< tt
arithmetic_code_small Nor = lit< tt
arithmetic_code_small Slt = lit< tt
arithmetic_code_small Sltu = lit< tt

arithmetic_at : (op : ArithmeticOp) (w rd rs rt : ℕ) → SpecialFields w rs rt rd 0 (arithmetic_code op)
    → decoded.instr_of w ≡ Some (instr.Arithmetic op rd rs rt)
arithmetic_at Add w rd rs rt h = grind arith
arithmetic_at Addu w rd rs rt h = grind arith
arithmetic_at Sub w rd rs rt h = grind arith
arithmetic_at Subu w rd rs rt h = grind arith
arithmetic_at And w rd rs rt h = grind arith
arithmetic_at Or w rd rs rt h = grind arith
arithmetic_at Xor w rd rs rt h = grind arith
arithmetic_at Nor w rd rs rt h = grind arith
arithmetic_at Slt w rd rs rt h = grind arith
arithmetic_at Sltu w rd rs rt h = grind arith

shift_code_small : (op : ShiftOp) → shift_code op < 64
shift_code_small Sll = lit< tt
shift_code_small Srl = lit< tt
shift_code_small Sra = lit< tt

shift_at : (op : ShiftOp) (w rd rt shamt : ℕ) → SpecialFields w 0 rt rd shamt (shift_code op)
    → decoded.instr_of w ≡ Some (instr.Shift op rd rt shamt)
shift_at Sll w rd rt shamt h = grind arith
shift_at Srl w rd rt shamt h = grind arith
shift_at Sra w rd rt shamt h = grind arith

shift_variable_code_small : (op : ShiftVariableOp) → shift_variable_code op < 64
shift_variable_code_small Sllv = lit< tt
shift_variable_code_small Srlv = lit< tt
shift_variable_code_small Srav = lit< tt

shift_variable_at : (op : ShiftVariableOp) (w rd rt rs : ℕ) → SpecialFields w rs rt rd 0 (shift_variable_code op)
    → decoded.instr_of w ≡ Some (instr.ShiftVariable op rd rt rs)
shift_variable_at Sllv w rd rt rs h = grind arith
shift_variable_at Srlv w rd rt rs h = grind arith
shift_variable_at Srav w rd rt rs h = grind arith

move_from_code_small : (op : HiLo) → move_from_code op < 64
move_from_code_small Hi = lit< tt
move_from_code_small Lo = lit< tt

move_from_at : (op : HiLo) (w rd : ℕ) → SpecialFields w 0 0 rd 0 (move_from_code op)
    → decoded.instr_of w ≡ Some (instr.MoveFrom op rd)
move_from_at Hi w rd h = grind arith
move_from_at Lo w rd h = grind arith

move_to_code_small : (op : HiLo) → move_to_code op < 64
move_to_code_small Hi = lit< tt
move_to_code_small Lo = lit< tt

move_to_at : (op : HiLo) (w rs : ℕ) → SpecialFields w rs 0 0 0 (move_to_code op) →
    decoded.instr_of w ≡ Some (instr.MoveTo op rs)
move_to_at Hi w rs h = grind arith
move_to_at Lo w rs h = grind arith

multiply_divide_code_small : (op : MultiplyDivideOp) → multiply_divide_code op < 64
multiply_divide_code_small Mult = lit< tt
multiply_divide_code_small Multu = lit< tt
multiply_divide_code_small Div = lit< tt
multiply_divide_code_small Divu = lit< tt

multiply_divide_at : (op : MultiplyDivideOp) (w rs rt : ℕ) → SpecialFields w rs rt 0 0 (multiply_divide_code op)
    → decoded.instr_of w ≡ Some (instr.MultiplyDivide op rs rt)
multiply_divide_at Mult w rs rt h = grind arith
multiply_divide_at Multu w rs rt h = grind arith
multiply_divide_at Div w rs rt h = grind arith
multiply_divide_at Divu w rs rt h = grind arith

equality_code_small : (op : EqualityOp) → equality_code op < 64
equality_code_small Beq = lit< tt
equality_code_small Bne = lit< tt

branch_on_equality_at : (op : EqualityOp) (w rs rt immediate : ℕ)
    → ImmediateFields w (equality_code op) rs rt immediate
    → decoded.instr_of w ≡ Some (instr.BranchOnEquality op rs rt immediate)
branch_on_equality_at Beq w rs rt immediate h = grind arith
branch_on_equality_at Bne w rs rt immediate h = grind arith

zero_comparison_code_small : (op : ZeroComparisonOp) → zero_comparison_code op < 64
zero_comparison_code_small Blez = lit< tt
zero_comparison_code_small Bgtz = lit< tt

branch_on_zero_at : (op : ZeroComparisonOp) (w rs immediate : ℕ)
    → ImmediateFields w (zero_comparison_code op) rs 0 immediate
    → decoded.instr_of w ≡ Some (instr.BranchOnZero op rs immediate)
branch_on_zero_at Blez w rs immediate h = grind arith
branch_on_zero_at Bgtz w rs immediate h = grind arith

immediate_code_small : (op : ImmediateOp) → immediate_code op < 64
immediate_code_small Addi = lit< tt
immediate_code_small Addiu = lit< tt
immediate_code_small Slti = lit< tt
immediate_code_small Sltiu = lit< tt
immediate_code_small Andi = lit< tt
immediate_code_small Ori = lit< tt
immediate_code_small Xori = lit< tt

immediate_arithmetic_at : (op : ImmediateOp) (w rt rs immediate : ℕ)
    → ImmediateFields w (immediate_code op) rs rt immediate
    → decoded.instr_of w ≡ Some (instr.ImmediateArithmetic op rt rs immediate)
immediate_arithmetic_at Addi w rt rs immediate h = grind arith
immediate_arithmetic_at Addiu w rt rs immediate h = grind arith
immediate_arithmetic_at Slti w rt rs immediate h = grind arith
immediate_arithmetic_at Sltiu w rt rs immediate h = grind arith
immediate_arithmetic_at Andi w rt rs immediate h = grind arith
immediate_arithmetic_at Ori w rt rs immediate h = grind arith
immediate_arithmetic_at Xori w rt rs immediate h = grind arith

memory_code_small : (op : MemoryOp) → memory_code op < 64
memory_code_small Lb = lit< tt
memory_code_small Lh = lit< tt
memory_code_small Lw = lit< tt
memory_code_small Lbu = lit< tt
memory_code_small Lhu = lit< tt
memory_code_small Sb = lit< tt
memory_code_small Sh = lit< tt
memory_code_small Sw = lit< tt

memory_at : (op : MemoryOp) (w rt immediate rs : ℕ) → ImmediateFields w (memory_code op) rs rt immediate
    → decoded.instr_of w ≡ Some (instr.Memory op rt immediate rs)
memory_at Lb w rt immediate rs h = grind arith
memory_at Lh w rt immediate rs h = grind arith
memory_at Lw w rt immediate rs h = grind arith
memory_at Lbu w rt immediate rs h = grind arith
memory_at Lhu w rt immediate rs h = grind arith
memory_at Sb w rt immediate rs h = grind arith
memory_at Sh w rt immediate rs h = grind arith
memory_at Sw w rt immediate rs h = grind arith

branch_on_sign_at : (op : SignTest) (w rs immediate : ℕ) → ImmediateFields w 1 rs (sign_code op) immediate
    → decoded.instr_of w ≡ Some (instr.BranchOnSign op rs immediate)
branch_on_sign_at Negative w rs immediate h = grind arith
branch_on_sign_at NonNegative w rs immediate h = grind arith

branch_on_sign_and_link_there : (op : SignTest) (w : ℕ) → field.opcode w ≡ 1 → field.rt w ≡ 16 + sign_code op
    → decoded.instr_of w ≡ decoded.branch_on_sign_and_link op w
branch_on_sign_and_link_there Negative w a b = grind arith
branch_on_sign_and_link_there NonNegative w a b = grind arith

branch_on_sign_and_link_some : (op : SignTest) (w rs immediate : ℕ) → rs < 31 → field.rs w ≡ rs
    → field.immediate w ≡ immediate
    → decoded.branch_on_sign_and_link op w ≡ Some (instr.BranchOnSignAndLink op rs immediate)
branch_on_sign_and_link_some op w rs immediate a b c = grind arith

branch_on_sign_and_link_at : (op : SignTest) (w rs immediate : ℕ) → rs < 31
    → ImmediateFields w 1 rs (16 + sign_code op) immediate
    → decoded.instr_of w ≡ Some (instr.BranchOnSignAndLink op rs immediate)
branch_on_sign_and_link_at op w rs immediate a h =
    branch_on_sign_and_link_there op w h.opcode_is h.rt_is
    ∙ branch_on_sign_and_link_some op w rs immediate a h.rs_is h.immediate_is

sign_code_small : (op : SignTest) → 16 + sign_code op < 32
sign_code_small Negative = lit< tt
sign_code_small NonNegative = lit< tt

jump_at : (op : JumpOp) (w target : ℕ) → field.opcode w ≡ jump_code op → w % 67108864 ≡ target
    → decoded.instr_of w ≡ Some (instr.Jump op target)
jump_at J w target a b = grind arith
jump_at Jal w target a b = grind arith

upper_at : (w rt immediate : ℕ) → ImmediateFields w 15 0 rt immediate
    → decoded.instr_of w ≡ Some (instr.LoadUpperImmediate rt immediate)
upper_at w rt immediate h = grind arith

jump_register_at : (w rs : ℕ) → SpecialFields w rs 0 0 0 8 → decoded.instr_of w ≡ Some (instr.JumpRegister rs)
jump_register_at w rs h = grind arith

jump_and_link_register_at : (w rd rs : ℕ) → rd ≢ rs → SpecialFields w rs 0 rd 0 9
    → decoded.instr_of w ≡ Some (instr.JumpAndLinkRegister (record { rd = rd; rs = rs }))
jump_and_link_register_at w rd rs d h = grind arith

break_at : (w code : ℕ) → field.opcode w ≡ 0 → field.funct w ≡ 13 → w / 64 % 1048576 ≡ code
    → decoded.instr_of w ≡ Some (instr.Break code)
break_at w code a b c = grind arith

-- each instruction is that of its word
pub instr_of-word_of : (i : Instr) → Fits i → decoded.instr_of (word_of i) ≡ Some i
instr_of-word_of (instr.Arithmetic op rd rs rt) (hrd, hrs, hrt) =
    arithmetic_at op _ rd rs rt
    (special_fields rs rt rd 0 (arithmetic_code op) hrs hrt hrd (lit< tt) (arithmetic_code_small op))
instr_of-word_of (instr.Shift op rd rt shamt) (hrd, hrt, hshamt) =
    shift_at op _ rd rt shamt
    (special_fields 0 rt rd shamt (shift_code op) (lit< tt) hrt hrd hshamt (shift_code_small op))
instr_of-word_of (instr.ShiftVariable op rd rt rs) (hrd, hrt, hrs) =
    shift_variable_at op _ rd rt rs
    (special_fields rs rt rd 0 (shift_variable_code op) hrs hrt hrd (lit< tt) (shift_variable_code_small op))
instr_of-word_of (instr.MoveFrom op rd) hrd =
    move_from_at op _ rd
    (special_fields 0 0 rd 0 (move_from_code op) (lit< tt) (lit< tt) hrd (lit< tt) (move_from_code_small op))
instr_of-word_of (instr.MoveTo op rs) hrs =
    move_to_at op _ rs
    (special_fields rs 0 0 0 (move_to_code op) hrs (lit< tt) (lit< tt) (lit< tt) (move_to_code_small op))
instr_of-word_of (instr.MultiplyDivide op rs rt) (hrs, hrt) =
    multiply_divide_at op _ rs rt
    (special_fields rs rt 0 0 (multiply_divide_code op) hrs hrt (lit< tt) (lit< tt) (multiply_divide_code_small op))
instr_of-word_of (instr.JumpRegister rs) a =
    jump_register_at _ rs (special_fields rs 0 0 0 8 a (lit< tt) (lit< tt) (lit< tt) (lit< tt))
instr_of-word_of (instr.JumpAndLinkRegister p) (a, b, c) =
    jump_and_link_register_at _ p.rd p.rs c (special_fields p.rs 0 p.rd 0 9 b (lit< tt) a (lit< tt) (lit< tt))
instr_of-word_of instr.Syscall a = refl
instr_of-word_of (instr.Break code) a = break_at (code * 64 + 13) code (omega arith) (omega arith) (omega arith)
instr_of-word_of (instr.BranchOnEquality op rs rt immediate) (hrs, hrt, hlow) =
    branch_on_equality_at op _ rs rt immediate
    (immediate_fields (equality_code op) rs rt immediate (equality_code_small op) hrs hrt hlow)
instr_of-word_of (instr.BranchOnZero op rs immediate) (hrs, hlow) =
    branch_on_zero_at op _ rs immediate
    (immediate_fields (zero_comparison_code op) rs 0 immediate (zero_comparison_code_small op) hrs (lit< tt) hlow)
instr_of-word_of (instr.ImmediateArithmetic op rt rs immediate) (hrt, hrs, hlow) =
    immediate_arithmetic_at op _ rt rs immediate
    (immediate_fields (immediate_code op) rs rt immediate (immediate_code_small op) hrs hrt hlow)
instr_of-word_of (instr.Memory op rt immediate rs) (hrt, hlow, hrs) =
    memory_at op _ rt immediate rs
    (immediate_fields (memory_code op) rs rt immediate (memory_code_small op) hrs hrt hlow)
instr_of-word_of (instr.BranchOnSign op rs immediate) (a, b) =
    branch_on_sign_at op _ rs immediate
    (immediate_fields 1 rs (sign_code op) immediate (lit< tt) a (omega (arith, sign_code_small op)) b)
instr_of-word_of (instr.BranchOnSignAndLink op rs immediate) (a, b) =
    branch_on_sign_and_link_at op _ rs immediate a
    (immediate_fields 1 rs (16 + sign_code op) immediate (lit< tt) (omega arith) (sign_code_small op) b)
instr_of-word_of (instr.LoadUpperImmediate rt immediate) (a, b) =
    upper_at _ rt immediate (immediate_fields 15 0 rt immediate (lit< tt) (lit< tt) a b)
instr_of-word_of (instr.Jump J target) a = jump_at J (2 * 67108864 + target) target (omega arith) (omega arith)
instr_of-word_of (instr.Jump Jal target) a = jump_at Jal (3 * 67108864 + target) target (omega arith) (omega arith)

abbrev pub Back : ℕ → Option Instr → Type 0
Back w None = Unit {0}
Back w (Some i) = word_of i ≡ w

back_only : (w : ℕ) (b : Bool) (i : Instr) → (b ≡ true → word_of i ≡ w) → Back w (decoded.only b i)
back_only w true i h = h refl
back_only w false i h = tt

back_row : (w code n : ℕ) (x y : Option Instr) → (code ≡ n → Back w x) → Back w y → Back w (cond (code == n) x y)
back_row w code n x y f g = cond_both (code == n) x y (Back w) (λ h. f (eqb-true code n h)) (λ h. g)

arithmetic_back : (op : ArithmeticOp) (w : ℕ) → field.opcode w ≡ 0 → field.funct w ≡ arithmetic_code op
    → Back w (decoded.arithmetic op w)
arithmetic_back op w a b =
    back_only w _ _ (λ h. let k : (field.shamt w) ≡ 0 = eqb-true (field.shamt w) 0 h in omega arith)

shift_back : (op : ShiftOp) (w : ℕ) → field.opcode w ≡ 0 → field.funct w ≡ shift_code op → Back w (decoded.shift op w)
shift_back op w a b = back_only w _ _ (λ h. let k : (field.rs w) ≡ 0 = eqb-true (field.rs w) 0 h in omega arith)

shift_variable_back : (op : ShiftVariableOp) (w : ℕ) → field.opcode w ≡ 0 → field.funct w ≡ shift_variable_code op
    → Back w (decoded.shift_variable op w)
shift_variable_back op w a b =
    back_only w _ _ (λ h. let k : (field.shamt w) ≡ 0 = eqb-true (field.shamt w) 0 h in omega arith)

move_from_back : (op : HiLo) (w : ℕ) → field.opcode w ≡ 0 → field.funct w ≡ move_from_code op
    → Back w (decoded.move_from op w)
move_from_back op w a b =
    back_only w _ _ (λ h. let k : (w / 65536 ≡ 0) × (field.shamt w ≡ 0) = grind (arith, h) in omega arith)

move_to_back : (op : HiLo) (w : ℕ) → field.opcode w ≡ 0 → field.funct w ≡ move_to_code op →
    Back w (decoded.move_to op w)
move_to_back op w a b = back_only w _ _
    (λ h. let k : (w / 64 % 32768) ≡ 0 = eqb-true (w / 64 % 32768) 0 h in omega arith)

multiply_divide_back : (op : MultiplyDivideOp) (w : ℕ) → field.opcode w ≡ 0
    → field.funct w ≡ multiply_divide_code op → Back w (decoded.multiply_divide op w)
multiply_divide_back op w a b =
    back_only w _ _ (λ h. let k : (w / 64 % 1024) ≡ 0 = eqb-true (w / 64 % 1024) 0 h in omega arith)

branch_on_equality_back : (op : EqualityOp) (w : ℕ) → field.opcode w ≡ equality_code op
    → Back w (decoded.branch_on_equality op w)
branch_on_equality_back op w a = omega arith

branch_on_zero_back : (op : ZeroComparisonOp) (w : ℕ) → field.opcode w ≡ zero_comparison_code op
    → Back w (decoded.branch_on_zero op w)
branch_on_zero_back op w a = back_only w _ _ (λ h. let k : field.rt w ≡ 0 = eqb-true (field.rt w) 0 h in omega arith)

immediate_arithmetic_back : (op : ImmediateOp) (w : ℕ) → field.opcode w ≡ immediate_code op
    → Back w (decoded.immediate_arithmetic op w)
immediate_arithmetic_back op w a = omega arith

memory_back : (op : MemoryOp) (w : ℕ) → field.opcode w ≡ memory_code op → Back w (decoded.memory op w)
memory_back op w a = omega arith

branch_on_sign_back : (op : SignTest) (w : ℕ) → field.opcode w ≡ 1 → field.rt w ≡ sign_code op
    → Back w (decoded.branch_on_sign op w)
branch_on_sign_back op w a b = omega arith

branch_on_sign_and_link_back : (op : SignTest) (w : ℕ) → field.opcode w ≡ 1 → field.rt w ≡ 16 + sign_code op
    → Back w (decoded.branch_on_sign_and_link op w)
branch_on_sign_and_link_back op w a b =
    cond_both (field.rs w == 31) None (Some (instr.BranchOnSignAndLink op (field.rs w) (field.immediate w))) (Back w)
    (λ h. tt) (λ h. omega arith)

jump_and_link_register_back : (w : ℕ) → field.opcode w ≡ 0 → field.funct w ≡ 9 →
    Back w (decoded.jump_and_link_register w)
jump_and_link_register_back w a b = cond_both (field.rd w == field.rs w) None _ (Back w) (λ h. tt)
    (λ h. back_only w _ _ (λ t. let k : (field.rt w ≡ 0) × (field.shamt w ≡ 0) = grind (arith, t) in omega arith))

jump_register_back : (w : ℕ) → field.opcode w ≡ 0 → field.funct w ≡ 8
    → Back w (decoded.only (w / 64 % 32768 == 0) (instr.JumpRegister (field.rs w)))
jump_register_back w a b =
    back_only w _ _ (λ h. let k : w / 64 % 32768 ≡ 0 = eqb-true (w / 64 % 32768) 0 h in omega arith)

break_back : (w : ℕ) → field.opcode w ≡ 0 → field.funct w ≡ 13 → Back w (Some (instr.Break (w / 64 % 1048576)))
break_back w a b = omega arith

upper_back : (w : ℕ) → field.opcode w ≡ 15
    → Back w (decoded.only (field.rs w == 0) (instr.LoadUpperImmediate (field.rt w) (field.immediate w)))
upper_back w a = back_only w _ _ (λ h. let k : field.rs w ≡ 0 = eqb-true (field.rs w) 0 h in omega arith)

of_special_back : (w : ℕ) → field.opcode w ≡ 0 → Back w (decoded.of_special w)
of_special_back w a =
    back_row w (field.funct w) 0 _ _ (λ h. shift_back Sll w a h) (
    back_row w (field.funct w) 2 _ _ (λ h. shift_back Srl w a h) (
    back_row w (field.funct w) 3 _ _ (λ h. shift_back Sra w a h) (
    back_row w (field.funct w) 4 _ _ (λ h. shift_variable_back Sllv w a h) (
    back_row w (field.funct w) 6 _ _ (λ h. shift_variable_back Srlv w a h) (
    back_row w (field.funct w) 7 _ _ (λ h. shift_variable_back Srav w a h) (
    back_row w (field.funct w) 8 _ _ (λ h. jump_register_back w a h) (
    back_row w (field.funct w) 9 _ _ (λ h. jump_and_link_register_back w a h) (
    back_row w (field.funct w) 12 _ _ (λ h. back_only w _ _ (λ t. sym (eqb-true w 12 t))) (
    back_row w (field.funct w) 13 _ _ (λ h. break_back w a h) (
    back_row w (field.funct w) 16 _ _ (λ h. move_from_back Hi w a h) (
    back_row w (field.funct w) 17 _ _ (λ h. move_to_back Hi w a h) (
    back_row w (field.funct w) 18 _ _ (λ h. move_from_back Lo w a h) (
    back_row w (field.funct w) 19 _ _ (λ h. move_to_back Lo w a h) (
    back_row w (field.funct w) 24 _ _ (λ h. multiply_divide_back Mult w a h) (
    back_row w (field.funct w) 25 _ _ (λ h. multiply_divide_back Multu w a h) (
    back_row w (field.funct w) 26 _ _ (λ h. multiply_divide_back Div w a h) (
    back_row w (field.funct w) 27 _ _ (λ h. multiply_divide_back Divu w a h) (
    back_row w (field.funct w) 32 _ _ (λ h. arithmetic_back Add w a h) (
    back_row w (field.funct w) 33 _ _ (λ h. arithmetic_back Addu w a h) (
    back_row w (field.funct w) 34 _ _ (λ h. arithmetic_back Sub w a h) (
    back_row w (field.funct w) 35 _ _ (λ h. arithmetic_back Subu w a h) (
    back_row w (field.funct w) 36 _ _ (λ h. arithmetic_back And w a h) (
    back_row w (field.funct w) 37 _ _ (λ h. arithmetic_back Or w a h) (
    back_row w (field.funct w) 38 _ _ (λ h. arithmetic_back Xor w a h) (
    back_row w (field.funct w) 39 _ _ (λ h. arithmetic_back Nor w a h) (
    back_row w (field.funct w) 42 _ _ (λ h. arithmetic_back Slt w a h) (
    back_row w (field.funct w) 43 _ _ (λ h. arithmetic_back Sltu w a h) (
    tt))))))))))))))))))))))))))))

of_regimm_back : (w : ℕ) → field.opcode w ≡ 1 → Back w (decoded.of_regimm w)
of_regimm_back w a =
    back_row w (field.rt w) 0 _ _ (λ h. branch_on_sign_back Negative w a h) (
    back_row w (field.rt w) 1 _ _ (λ h. branch_on_sign_back NonNegative w a h) (
    back_row w (field.rt w) 16 _ _ (λ h. branch_on_sign_and_link_back Negative w a h) (
    back_row w (field.rt w) 17 _ _ (λ h. branch_on_sign_and_link_back NonNegative w a h) (
    tt))))

jump_back : (op : JumpOp) (w : ℕ) → field.opcode w ≡ jump_code op → Back w (Some (instr.Jump op (w % 67108864)))
jump_back op w a = omega arith

instr_of_back : (w : ℕ) → Back w (decoded.instr_of w)
instr_of_back w =
    back_row w (field.opcode w) 0 _ _ (λ h. of_special_back w h) (
    back_row w (field.opcode w) 1 _ _ (λ h. of_regimm_back w h) (
    back_row w (field.opcode w) 2 _ _ (λ h. jump_back J w h) (
    back_row w (field.opcode w) 3 _ _ (λ h. jump_back Jal w h) (
    back_row w (field.opcode w) 4 _ _ (λ h. branch_on_equality_back Beq w h) (
    back_row w (field.opcode w) 5 _ _ (λ h. branch_on_equality_back Bne w h) (
    back_row w (field.opcode w) 6 _ _ (λ h. branch_on_zero_back Blez w h) (
    back_row w (field.opcode w) 7 _ _ (λ h. branch_on_zero_back Bgtz w h) (
    back_row w (field.opcode w) 8 _ _ (λ h. immediate_arithmetic_back Addi w h) (
    back_row w (field.opcode w) 9 _ _ (λ h. immediate_arithmetic_back Addiu w h) (
    back_row w (field.opcode w) 10 _ _ (λ h. immediate_arithmetic_back Slti w h) (
    back_row w (field.opcode w) 11 _ _ (λ h. immediate_arithmetic_back Sltiu w h) (
    back_row w (field.opcode w) 12 _ _ (λ h. immediate_arithmetic_back Andi w h) (
    back_row w (field.opcode w) 13 _ _ (λ h. immediate_arithmetic_back Ori w h) (
    back_row w (field.opcode w) 14 _ _ (λ h. immediate_arithmetic_back Xori w h) (
    back_row w (field.opcode w) 15 _ _ (λ h. upper_back w h) (
    back_row w (field.opcode w) 32 _ _ (λ h. memory_back Lb w h) (
    back_row w (field.opcode w) 33 _ _ (λ h. memory_back Lh w h) (
    back_row w (field.opcode w) 35 _ _ (λ h. memory_back Lw w h) (
    back_row w (field.opcode w) 36 _ _ (λ h. memory_back Lbu w h) (
    back_row w (field.opcode w) 37 _ _ (λ h. memory_back Lhu w h) (
    back_row w (field.opcode w) 40 _ _ (λ h. memory_back Sb w h) (
    back_row w (field.opcode w) 41 _ _ (λ h. memory_back Sh w h) (
    back_row w (field.opcode w) 43 _ _ (λ h. memory_back Sw w h) (
    tt))))))))))))))))))))))))

-- the word of an instruction that was read from a word is that word
pub word_of-instr_of : (w : ℕ) (i : Instr) → decoded.instr_of w ≡ Some i → word_of i ≡ w
word_of-instr_of w i h = subst (Back w) h (instr_of_back w)

pub some_back : (w : ℕ) (o : Option Instr) → o ≡ decoded.instr_of w → IfSome o (λ i. word_of i ≡ w)
some_back w None h = tt
some_back w (Some i) h = word_of-instr_of w i (sym h)

pub none_back : (w : ℕ) (o : Option Instr) → o ≡ decoded.instr_of w → o ≡ None → (i : Instr) → Fits i → word_of i ≢ w
none_back w o h n i fits e =
    let one : decoded.instr_of w ≡ Some i = ap decoded.instr_of (sym e) ∙ instr_of-word_of i fits in
    let two : decoded.instr_of w ≡ None = sym h ∙ n in
    let three : Some i ≡ None = sym one ∙ two in
    cc three
