-- Where the parts of a function stand.
use Rattle.std.proofs.Common.{◌≡◌, ℕ, suc, ◌+◌, ◌%◌, ◌<◌, List, [], ◌∷◌, ◌++◌, Some, sym, subst, arith, slice_get}
use Rattle.word32.specs.declared.map.TheConstants.{SEGMENT_BYTES}
use Rattle.mips_encoder.specs.declared.instruction.Instr.{Instr}
use Rattle.mips_encoder.specs.Addresses.{past}
use Rattle.mips_model.specs.State.{Code}
use Rattle.mips_model.specs.Laws.{HasAt}
use Rattle.mips_model.proofs.Reach.{front, back, past_append}
use Rattle.icode_ops.specs.declared.op.Op.{Op}
use Rattle.icode_templates.specs.Templates.{Aim, template}
use Rattle.icode_templates.specs.Expansion.{aims, body, nowhere}
use Rattle.icode_meaning.specs.State.{Function}
use Rattle.icode_expand_proof.specs.Standing.{leave_at, layout_of, front_code, back_code, Stands, OpsStand, ops_at}
use Rattle.icode_expand_proof.specs.Standing.{op_stands_at}
use Rattle.icode_expand_proof.proofs.Addresses.{past_templates, past_even, past_rises, address_next}
use Rattle.icode_expand_proof.proofs.Addresses.{address_low, address_zero, op_stands}

abbrev pub aims_of : Function → List ℕ → Aim → ℕ
aims_of f places = aims (layout_of f places) (ops_at f places) f.ops

abbrev pub op_code : Function → List ℕ → Op → List Instr
op_code f places o = template (layout_of f places) (aims_of f places) o

abbrev pub body_of : Function → List ℕ → List Instr
body_of f places = body (layout_of f places) (ops_at f places) f.ops

pub leave_is : (f : Function) (places : List ℕ) → leave_at f places ≡ past (ops_at f places) (body_of f places)
leave_is f places = past_templates (layout_of f places) nowhere (aims_of f places) (ops_at f places) f.ops

pub next_at : (f : Function) (places : List ℕ) (i : ℕ) (o : Op) → slice_get f.ops i ≡ Some o
    → op_stands_at f places (suc i) ≡ past (op_stands_at f places i) (op_code f places o)
next_at f places i o h = address_next (layout_of f places) (aims_of f places) (ops_at f places) f.ops i o h

-- what stands whole is what begins it and what runs behind that
pub both_stand : (c : Code) (a : ℕ) (is js : List Instr) → HasAt c a is → HasAt c (past a is) js → HasAt c a (is ++ js)
both_stand c a [] js first rest = rest
both_stand c a (i ∷ is) js first rest = (first.0, both_stand c (a + 4) is js first.1 rest)

pub front_stands : (c : Code) (f : Function) (places : List ℕ) → Stands c f places
    → HasAt c f.address (front_code f places)
front_stands c f places st = front c f.address (front_code f places) (body_of f places ++ back_code f places) st.code

pub ops_of : {c : Code} {f : Function} {places : List ℕ} → Stands c f places → OpsStand c f places
ops_of {c} {f} {places} st = record {
  suits = st.suits;
  code = back c f.address (front_code f places) (body_of f places ++ back_code f places) st.code;
}

pub whole_stands : (c : Code) (f : Function) (places : List ℕ) → HasAt c f.address (front_code f places)
    → OpsStand c f places → Stands c f places
whole_stands c f places first st = record {
  suits = st.suits;
  code = both_stand c f.address (front_code f places) (body_of f places ++ back_code f places) first st.code;
}

module _ (c : Code) (f : Function) (places : List ℕ) (st : OpsStand c f places) where
  pub one_stands : (i : ℕ) (o : Op) → slice_get f.ops i ≡ Some o → HasAt c (op_stands_at f places i)
      (op_code f places o)
  one_stands i o h = op_stands (layout_of f places) (aims_of f places) c (ops_at f places) f.ops i o h
      (front c (ops_at f places) (body_of f places) (back_code f places) st.code)

  pub back_stands : HasAt c (leave_at f places) (back_code f places)
  back_stands = subst (λ n. HasAt c n (back_code f places)) (sym (leave_is f places))
      (back c (ops_at f places) (body_of f places) (back_code f places) st.code)

  pub ops_even : ops_at f places % 4 ≡ 0
  ops_even = past_even f.address (front_code f places) st.suits.even

  pub leave_even : leave_at f places % 4 ≡ 0
  leave_even = subst (λ n. n % 4 ≡ 0) (sym (leave_is f places)) (past_even (ops_at f places) (body_of f places)
      ops_even)

  pub front_low : past f.address (front_code f places) < SEGMENT_BYTES
  front_low =
      let rest = body_of f places ++ back_code f places in
      let e = past_append f.address (front_code f places) rest in
      omega (arith, e, past_rises (past f.address (front_code f places)) rest, st.suits.low)

  pub code_low : (i : ℕ) (o : Op) → slice_get f.ops i ≡ Some o → past (op_stands_at f places i)
      (op_code f places o) < SEGMENT_BYTES
  code_low i o h =
      let front = front_code f places in
      let is = body_of f places in
      let e1 = past_append f.address front (is ++ back_code f places) in
      let e2 = past_append (past f.address front) is (back_code f places) in
      let r = past_rises (past (past f.address front) is) (back_code f places) in
      let low = address_low (layout_of f places) (aims_of f places) (ops_at f places) f.ops i o h in
      omega (arith, low, r, e1, e2, st.suits.low)

  pub start_at : op_stands_at f places 0 ≡ past f.address (front_code f places)
  start_at = address_zero (layout_of f places) (ops_at f places) f.ops
