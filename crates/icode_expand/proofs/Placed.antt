-- The table of labels' addresses, filled op by op.
use Rattle.std.proofs.Common.{ℕ, zero, suc, ◌≡◌, ◌≢◌, ◌+◌, ◌*◌, ◌<◌, ◌≤◌, Bool, true, false, Option, Some, None, nat_lt}
use Rattle.std.proofs.Common.{List, [], ◌∷◌, length, get_or, take, set, refl, ap, sym, ◌∙◌, subst, arith, length-append}
use Rattle.std.proofs.Common.{below_more}
use Rattle.std.proofs.Math.Seq.{take-nil}
use Rattle.std.proofs.lemmas.List.{get_or-set_same, get_or-set_other, get_or_past}
use Rattle.std.proofs.lemmas.Bool.Decides.{nat_tests}
use Rattle.limits.specs.declared.ops.TheConstants.{MOST_SLOTS}
use Rattle.icode_ops.specs.Finished.{Below, InRange, IsFinished}
use Rattle.icode_ops.specs.Flow.{goes_to, label_of, op_at, holds, defined, first_use, second_use}
use Rattle.icode_ops.specs.declared.op.Op.{Op}
use Rattle.icode_ops.specs.declared.op.Op.TheVariants.{ReturnZero}
use Rattle.icode_ops.specs.Labels.{label_index}
use Rattle.icode_templates.specs.Layout.{Layout}
use Rattle.icode_templates.specs.Templates.{Aim, template}
use Rattle.mips_encoder.specs.Addresses.{past}
use Rattle.icode_templates.specs.Expansion.{nowhere, templates, op_address, aims}
use Rattle.icode_expand.specs.Labels.{IsTable, with_label, target_of}
use Rattle.icode_expand.proofs.Lengths.{past_is, templates_part, aim_to}

-- the address of op p, counted in instructions
abbrev pub address_at : Layout → ℕ → List Op → ℕ → ℕ
address_at l start ops p = start + 4 * length (templates l nowhere (take p ops))

pub op_address_is : (l : Layout) (start : ℕ) (ops : List Op) (p : ℕ) →
    op_address l start ops p ≡ address_at l start ops p
op_address_is l start [] p = rw (take-nil {A = Op} p) (omega arith)
op_address_is l start (x ∷ xs) zero = omega arith
op_address_is l start (x ∷ xs) (suc p) =
    op_address_is l (past start (template l nowhere x)) xs p
    ∙ rw (past_is start (template l nowhere x), length-append (template l nowhere x) (templates l nowhere (take p xs)))
    (omega arith)

-- the labels of the first i ops have their addresses in the table
abbrev pub Placed : Layout → ℕ → List Op → ℕ → List ℕ → Type 0
Placed l start ops i labels =
    (p : ℕ) → p < i → (x : ℕ) → label_of (op_at ops p) ≡ Some x → get_or labels x 0 ≡ address_at l start ops p

more_by : (l : Layout) (start : ℕ) (ops : List Op) (n i : ℕ) (labels : List ℕ) → IsFinished ops n →
    Placed l start ops i labels
    → (o : Option ℕ) → label_of (op_at ops i) ≡ o → Below (length labels) o
    → Placed l start ops (i + 1) (with_label o (address_at l start ops i) labels)
more_by l start ops n i labels f h None e b =
    below_more (λ (p : ℕ). (x : ℕ) → label_of (op_at ops p) ≡ Some x → get_or labels x 0 ≡ address_at l start ops p) i h
    (λ (x : ℕ) (s : label_of (op_at ops i) ≡ Some x). cc)
more_by l start ops n i labels f h (Some y) e b =
    let A : ℕ = address_at l start ops i in
    below_more (λ (p : ℕ). (x : ℕ) → label_of (op_at ops p) ≡ Some x →
    get_or (set labels y A) x 0 ≡ address_at l start ops p) i
    (λ (p : ℕ) (q : p < i) (x : ℕ) (s : label_of (op_at ops p) ≡ Some x).
    let ne : x ≢ y = λ (t : x ≡ y).
    let s' : label_of (op_at ops p) ≡ Some y = cc in
    let same : p ≡ i = f.once p i y s' e in
    absurd (omega arith) in
    get_or-set_other labels y x A 0 ne ∙ h p q x s)
    (λ (x : ℕ) (s : label_of (op_at ops i) ≡ Some x).
    let t : x ≡ y = cc in
    rw t (get_or-set_same labels y A 0 b))

pub placed_more : (l : Layout) (start : ℕ) (ops : List Op) (n i : ℕ) (labels : List ℕ) → IsFinished ops n
    → Below (length labels) (label_of (op_at ops i)) → Placed l start ops i labels
    → Placed l start ops (i + 1) (with_label (label_of (op_at ops i)) (address_at l start ops i) labels)
placed_more l start ops n i labels f b h = more_by l start ops n i labels f h (label_of (op_at ops i)) refl b

in_list : (ops : List Op) (q x : ℕ) → label_of (op_at ops q) ≡ Some x → (b : Bool) → nat_lt q (length ops) ≡ b →
    q < length ops
in_list ops q x e true t = grind (arith, nat_tests, t)
in_list ops q x e false t =
    let h : length ops ≤ q = grind (arith, nat_tests, t) in
    let g : op_at ops q ≡ ReturnZero = get_or_past ops q ReturnZero h in
    let k : None ≡ Some x = sym (ap label_of g) ∙ e in
    absurd cc

holds_some : (x : ℕ) (o : Option ℕ) → holds x o ≡ true → o ≡ Some x
holds_some x None e = absurd cc
holds_some x (Some y) e = let s : x ≡ y = grind (arith, nat_tests, e) in cc

holds_of : (x : ℕ) (o : Option ℕ) → o ≡ Some x → holds x o ≡ true
holds_of x o e = rw e (grind (arith, nat_tests))

index_by : (x : ℕ) (op : Op) (ops : List Op) (b : Bool) → holds x (label_of op) ≡ b
    → (b ≡ false → label_of (op_at ops (label_index x ops)) ≡ Some x)
    → label_of (op_at (op ∷ ops) (label_index x (op ∷ ops))) ≡ Some x
index_by x op ops true e h = rw e (holds_some x (label_of op) e)
index_by x op ops false e h = rw e (h refl)

-- the label stands at its index
pub index_is : (ops : List Op) (x q : ℕ) → label_of (op_at ops q) ≡ Some x →
    label_of (op_at ops (label_index x ops)) ≡ Some x
index_is [] x q e =
    let g : op_at [] q ≡ ReturnZero = get_or_past [] q ReturnZero (omega arith) in
    let k : None ≡ Some x = sym (ap label_of g) ∙ e in
    absurd cc
index_is (op ∷ ops) x zero e =
    index_by x op ops (holds x (label_of op)) refl
    (λ (n : holds x (label_of op) ≡ false). let t : holds x (label_of op) ≡ true = holds_of x (label_of op) e in
    absurd cc)
index_is (op ∷ ops) x (suc q) e =
    index_by x op ops (holds x (label_of op)) refl (λ (n : holds x (label_of op) ≡ false). index_is ops x q e)

-- the table has what the ops need
pub table_made : (l : Layout) (start : ℕ) (ops : List Op) (n : ℕ) (labels : List ℕ) (end : ℕ) → IsFinished ops n
    → ((p : ℕ) → Below (length labels) (label_of (op_at ops p)))
    → Placed l start ops (length ops) labels → end ≡ start + 4 * length (templates l nowhere ops)
    → IsTable (aims l start ops) ops labels end
table_made l start ops n labels end f b h e = record {
  at_labels = λ (p label : ℕ) (g : goes_to (op_at ops p) ≡ Some label).
      let at_q : (q : ℕ) × (label_of (op_at ops q) ≡ Some label) = f.placed p label g in
      let q : ℕ = at_q.0 in
      let s : label_of (op_at ops q) ≡ Some label = at_q.1 in
      let B : Option ℕ → Type 0 = λ o. Below (length labels) o in
      let within : label < length labels = subst B s (b q) in
      let there : q < length ops = in_list ops q label s (nat_lt q (length ops)) refl in
      let value : get_or labels label 0 ≡ address_at l start ops q = h q there label s in
      let same : label_index label ops ≡ q = f.once (label_index label ops) q label (index_is ops label q s) s in
      let is : op_address l start ops (label_index label ops) ≡ address_at l start ops q =
      ap (op_address l start ops) same ∙ op_address_is l start ops q in
      (within, value ∙ sym is, omega (arith, value, e, templates_part l nowhere ops q));
  at_end = e ∙ sym (past_is start (templates l nowhere ops));
}

pub placed_step : (l : Layout) (start : ℕ) (ops : List Op) (n i : ℕ) (o : Op) (end : ℕ) (labels labels' : List ℕ) →
    IsFinished ops n
    → op_at ops i ≡ o → Below (length labels) (label_of (op_at ops i)) → end ≡ address_at l start ops i
    → labels' ≡ with_label (label_of o) end labels → Placed l start ops i labels → Placed l start ops (i + 1) labels'
placed_step l start ops n i o end labels labels' f e b d k h =
    let P : List ℕ → Type 0 = λ ls. Placed l start ops (i + 1) ls in
    let same : labels' ≡ with_label (label_of (op_at ops i)) (address_at l start ops i) labels =
    k ∙ (ap (λ (op : Op). with_label (label_of op) end labels) (sym e)
    ∙ ap (λ (x : ℕ). with_label (label_of (op_at ops i)) x labels) d) in
    subst P (sym same) (placed_more l start ops n i labels f b h)

below_more_room : (n m : ℕ) → n ≤ m → (o : Option ℕ) → Below n o → Below m o
below_more_room n m h None b = tt
below_more_room n m h (Some r) b = omega arith

-- the registers of an op of a finished list are low
pub low_registers : (ops : List Op) (n i : ℕ) (o : Op) → IsFinished ops n → op_at ops i ≡ o → InRange MOST_SLOTS o
low_registers ops n i o f e =
    let P : Op → Type 0 = λ op. InRange MOST_SLOTS op in
    let r : InRange n (op_at ops i) = f.in_range i in
    let m : n ≤ MOST_SLOTS = omega (arith, f.few_registers) in
    subst P e (
      below_more_room n MOST_SLOTS m (defined (op_at ops i)) r.0,
      below_more_room n MOST_SLOTS m (first_use (op_at ops i)) r.1,
      below_more_room n MOST_SLOTS m (second_use (op_at ops i)) r.2,
    )

-- where an op goes by the table
pub target_is : (a : Aim → ℕ) (ops : List Op) (labels : List ℕ) (epilogue : ℕ) → IsTable a ops labels epilogue → (p : ℕ)
    → (o : Option ℕ) → goes_to (op_at ops p) ≡ o → target_of o labels epilogue ≡ a (aim_to o)
target_is a ops labels epilogue t p None e = t.at_end
target_is a ops labels epilogue t p (Some x) e = (t.at_labels p x e).1
