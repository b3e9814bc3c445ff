-- How long templates are, which doesn't depend on the addresses of labels, and templates in their parts.
use Rattle.std.proofs.Common.{ℕ, ◌≡◌, ◌+◌, ◌*◌, ◌<◌, ◌≤◌, Option, Some, None, List, [], ◌∷◌, ◌++◌, length, take, drop}
use Rattle.std.proofs.Common.{refl, ap, sym, ◌∙◌, arith, append_assoc, length-append}
use Rattle.std.proofs.lemmas.List.{take_more, take-append-drop, append-nil}
use Rattle.mips_encoder.specs.declared.instruction.Instr.{Instr}
use Rattle.mips_encoder.specs.Addresses.{past}
use Rattle.icode_ops.specs.Flow.{goes_to, op_at}
use Rattle.icode_ops.specs.declared.op.Op.{Op}
use Rattle.icode_ops.specs.declared.op.Op.TheVariants.{Jump, BranchZero, BranchNonzero, Return, ReturnZero}
use Rattle.icode_templates.specs.Layout.{Layout}
use Rattle.icode_templates.specs.Templates.{Aim, ToLabel, ToEpilogue, template}
use Rattle.icode_templates.specs.Words.{words}
use Rattle.icode_templates.specs.Expansion.{templates}

pub length_words : (is : List Instr) → length (words is) ≡ length is
length_words [] = refl
length_words (i ∷ is) = omega (arith, length_words is)

pub past_is : (a : ℕ) (is : List Instr) → past a is ≡ a + 4 * length is
past_is a [] = omega arith
past_is a (i ∷ is) = past_is (a + 4) is ∙ omega arith

pub template_length : (l : Layout) (a b : Aim → ℕ) (op : Op) → length (template l a op) ≡ length (template l b op)
template_length l a b (BranchZero test label) = simp length-append
template_length l a b (BranchNonzero test label) = simp length-append
template_length l a b (Return from) = simp length-append
template_length l a b op = refl

-- where an op goes that goes to this label, or to none
abbrev pub aim_to : Option ℕ → Aim
aim_to None = ToEpilogue
aim_to (Some label) = ToLabel label

pub template_aim : (l : Layout) (a : Aim → ℕ) (op : Op) →
    template l a op ≡ template l (λ aim. a (aim_to (goes_to op))) op
template_aim l a (Jump label) = refl
template_aim l a op = refl

pub templates_append : (l : Layout) (a : Aim → ℕ) (xs ys : List Op) →
    templates l a (xs ++ ys) ≡ templates l a xs ++ templates l a ys
templates_append l a [] ys = refl
templates_append l a (x ∷ xs) ys =
    ap (λ (is : List Instr). template l a x ++ is) (templates_append l a xs ys)
    ∙ sym (append_assoc (template l a x) (templates l a xs) (templates l a ys))

pub templates_length : (l : Layout) (a b : Aim → ℕ) (ops : List Op) →
    length (templates l a ops) ≡ length (templates l b ops)
templates_length l a b [] = refl
templates_length l a b (x ∷ xs) =
    rw (length-append (template l a x) (templates l a xs), length-append (template l b x) (templates l b xs))
    (omega (arith, template_length l a b x, templates_length l a b xs))

-- the templates of one more op
pub templates_more : (l : Layout) (a : Aim → ℕ) (ops : List Op) (i : ℕ) → i < length ops
    → templates l a (take (i + 1) ops) ≡ templates l a (take i ops) ++ template l a (op_at ops i)
templates_more l a ops i h =
    ap (templates l a) (take_more ops i ReturnZero h)
    ∙ (templates_append l a (take i ops) (op_at ops i ∷ [])
    ∙ ap (λ (is : List Instr). templates l a (take i ops) ++ is) (append-nil (template l a (op_at ops i))))

-- those of a part are no longer than those of the whole
pub templates_part : (l : Layout) (a : Aim → ℕ) (ops : List Op) (i : ℕ) →
    length (templates l a (take i ops)) ≤ length (templates l a ops)
templates_part l a ops i =
    let e : length (templates l a ops) ≡ length (templates l a (take i ops)) + length (templates l a (drop i ops)) =
    ap (λ (xs : List Op). length (templates l a xs)) (sym (take-append-drop i ops))
    ∙ (ap length (templates_append l a (take i ops) (drop i ops)) ∙
    length-append (templates l a (take i ops)) (templates l a (drop i ops))) in
    omega (arith, e)

pub length_more : (l : Layout) (a : Aim → ℕ) (ops : List Op) (i : ℕ) (o : Op) → i < length ops → op_at ops i ≡ o
    → length (templates l a (take (i + 1) ops)) ≡ length (templates l a (take i ops)) + length (template l a o)
length_more l a ops i o h e =
    ap length (templates_more l a ops i h)
    ∙ (length-append (templates l a (take i ops)) (template l a (op_at ops i))
    ∙ ap (λ (op : Op). length (templates l a (take i ops)) + length (template l a op)) e)

-- a template where the op's aim has its address
pub template_at : (l : Layout) (a : Aim → ℕ) (op : Op) (v : ℕ) → v ≡ a (aim_to (goes_to op)) →
    template l (λ aim. v) op ≡ template l a op
template_at l a op v e = rw e (sym (template_aim l a op))
