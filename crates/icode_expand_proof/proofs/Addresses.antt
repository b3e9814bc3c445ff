-- The address of each op, and that its instructions stand there.
use Rattle.std.proofs.Common.{◌≡◌, ℕ, zero, suc, ◌+◌, ◌%◌, ◌≤◌, List, [], ◌∷◌, ◌++◌, Some, refl, sym, ap, ◌∙◌, subst}
use Rattle.std.proofs.Common.{arith, slice_get}
use Rattle.mips_encoder.specs.declared.instruction.Instr.{Instr}
use Rattle.mips_encoder.specs.Addresses.{past}
use Rattle.mips_model.specs.State.{Code}
use Rattle.mips_model.specs.Laws.{HasAt}
use Rattle.mips_model.proofs.Reach.{front, back, past_append}
use Rattle.icode_ops.specs.declared.op.Op.{Op}
use Rattle.icode_ops.specs.declared.op.Op.TheVariants.{Const, Move, Bin, CheckDivision, CheckZero, Un, FrameAddress}
use Rattle.icode_ops.specs.declared.op.Op.TheVariants.{Load, Store, Clear, Label, Jump, BranchZero, BranchNonzero}
use Rattle.icode_ops.specs.declared.op.Op.TheVariants.{Argument, GetParameter, Call, CallNumber, Result, Return}
use Rattle.icode_ops.specs.declared.op.Op.TheVariants.{ReturnZero, Sys, Run, New, Put}
use Rattle.icode_templates.specs.Layout.{Layout}
use Rattle.icode_templates.specs.Templates.{Aim, in_code, template}
use Rattle.icode_templates.specs.Expansion.{nowhere, templates, op_address}

-- a template's length doesn't depend on the addresses
past_behind : (a : ℕ) (is js js' : List Instr) → ((b : ℕ) → past b js ≡ past b js') → past a (is ++ js) ≡ past a
    (is ++ js')
past_behind a is js js' e = past_append a is js ∙ e (past a is) ∙ sym (past_append a is js')

pub past_template : (pl : Layout) (f g : Aim → ℕ) (a : ℕ) (o : Op) → past a (template pl f o) ≡ past a (template pl g o)
past_template pl f g a (Const to word) = refl
past_template pl f g a (Move to from) = refl
past_template pl f g a (Bin kind to x y) = refl
past_template pl f g a (CheckDivision x y) = refl
past_template pl f g a (CheckZero x) = refl
past_template pl f g a (Un kind to x) = refl
past_template pl f g a (FrameAddress to offset) = refl
past_template pl f g a (Load width to x) = refl
past_template pl f g a (Store width to x) = refl
past_template pl f g a (Clear offset words) = refl
past_template pl f g a (Label label) = refl
past_template pl f g a (Jump label) = refl
past_template pl f g a (BranchZero test label) = past_behind a (in_code (pl.spot test)) _ _ (λ b. refl)
past_template pl f g a (BranchNonzero test label) = past_behind a (in_code (pl.spot test)) _ _ (λ b. refl)
past_template pl f g a (Argument index x) = refl
past_template pl f g a (GetParameter to index) = refl
past_template pl f g a (Call address) = refl
past_template pl f g a (CallNumber x count) = refl
past_template pl f g a (Result to) = refl
past_template pl f g a (Return from) = past_behind a (in_code (pl.spot from)) _ _ (λ b. refl)
past_template pl f g a ReturnZero = refl
past_template pl f g a (Sys kind to x) = refl
past_template pl f g a (Run routine to x) = refl
past_template pl f g a (New to address kind captures) = refl
past_template pl f g a (Put index x) = refl

pub past_templates : (pl : Layout) (f g : Aim → ℕ) (a : ℕ) (ops : List Op) → past a (templates pl f ops) ≡ past a
    (templates pl g ops)
past_templates pl f g a [] = refl
past_templates pl f g a (o ∷ os) =
    past_append a (template pl f o) (templates pl f os) ∙ ap (λ b. past b (templates pl f os))
    (past_template pl f g a o)
    ∙ past_templates pl f g (past a (template pl g o)) os ∙ sym (past_append a (template pl g o) (templates pl g os))

pub address_zero : (pl : Layout) (a : ℕ) (ops : List Op) → op_address pl a ops 0 ≡ a
address_zero pl a [] = refl
address_zero pl a (o ∷ os) = refl

pub address_next : (pl : Layout) (f : Aim → ℕ) (a : ℕ) (ops : List Op) (i : ℕ) (o : Op) → slice_get ops i ≡ Some o
    → op_address pl a ops (suc i) ≡ past (op_address pl a ops i) (template pl f o)
address_next pl f a [] i o h = absurd cc
address_next pl f a (p ∷ os) zero o h =
    let e : p ≡ o = cc in
    address_zero pl (past a (template pl nowhere p)) os ∙ past_template pl nowhere f a p
    ∙ ap (λ x. past a (template pl f x)) e
address_next pl f a (p ∷ os) (suc i) o h = address_next pl f (past a (template pl nowhere p)) os i o h

pub op_stands : (pl : Layout) (f : Aim → ℕ) (c : Code) (a : ℕ) (ops : List Op) (i : ℕ) (o : Op)
    → slice_get ops i ≡ Some o → HasAt c a (templates pl f ops) → HasAt c (op_address pl a ops i) (template pl f o)
op_stands pl f c a [] i o h has = absurd cc
op_stands pl f c a (p ∷ os) zero o h has = let e : p ≡ o =
    cc in subst (λ x. HasAt c a (template pl f x)) e (front c a (template pl f p) (templates pl f os) has)
op_stands pl f c a (p ∷ os) (suc i) o h has =
    op_stands pl f c (past a (template pl nowhere p)) os i o h
    (subst (λ n. HasAt c n (templates pl f os)) (sym (past_template pl nowhere f a p))
    (back c a (template pl f p) (templates pl f os) has))

-- addresses rise by 4
pub past_even : (a : ℕ) (is : List Instr) → a % 4 ≡ 0 → past a is % 4 ≡ 0
past_even a [] e = e
past_even a (i ∷ is) e = past_even (a + 4) is (omega (arith, e))

pub past_rises : (a : ℕ) (is : List Instr) → a ≤ past a is
past_rises a [] = omega arith
past_rises a (i ∷ is) = omega (arith, past_rises (a + 4) is)

pub address_even : (pl : Layout) (a : ℕ) (ops : List Op) (i : ℕ) → a % 4 ≡ 0 → op_address pl a ops i % 4 ≡ 0
address_even pl a [] i e = e
address_even pl a (o ∷ os) zero e = e
address_even pl a (o ∷ os) (suc i) e =
    address_even pl (past a (template pl nowhere o)) os i
    (past_even a (template pl nowhere o) e)

-- an op's instructions end before the code of all does
pub address_low : (pl : Layout) (f : Aim → ℕ) (a : ℕ) (ops : List Op) (i : ℕ) (o : Op) → slice_get ops i ≡ Some o
    → past (op_address pl a ops i) (template pl f o) ≤ past a (templates pl f ops)
address_low pl f a [] i o h = absurd cc
address_low pl f a (p ∷ os) zero o h =
    let e : p ≡ o = cc in
    let r = past_rises (past a (template pl f p)) (templates pl f os) in
    subst (λ x. past a (template pl f x) ≤ past a (templates pl f (p ∷ os))) e
    (subst (λ n. past a (template pl f p) ≤ n) (sym (past_append a (template pl f p) (templates pl f os))) r)
address_low pl f a (p ∷ os) (suc i) o h =
    let ih = address_low pl f (past a (template pl nowhere p)) os i o h in
    let e = ap (λ b. past b (templates pl f os)) (past_template pl nowhere f a p)
    ∙ sym (past_append a (template pl f p) (templates pl f os)) in
    subst (λ n. past (op_address pl a (p ∷ os) (suc i)) (template pl f o) ≤ n) e ih
