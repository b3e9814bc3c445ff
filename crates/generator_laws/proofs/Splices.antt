-- What the words of captured variables and of captured specifications do.
use Rattle.std.proofs.Common.{◌≡◌, ℕ, ◌+◌, ◌*◌, ◌/◌, ◌%◌, ◌<◌, ◌≤◌, List, [], ◌∷◌, ◌++◌, Some, refl}
use Rattle.std.proofs.Common.{sym, ap, ◌∙◌, subst, arith}
use Rattle.std.proofs.lemmas.Bool.{ne_eqb}
use Rattle.word32.specs.Words.{wrap}
use Rattle.word32.specs.declared.map.TheConstants.{CLOSURES, CLOSURE_BYTES, EMIT_STACK, EMIT_STACK_BYTES, SPEC_ROWS}
use Rattle.word32.specs.declared.map.TheConstants.{SPEC_ROW_BYTES}
use Rattle.word32.specs.declared.map.TheConstants.{SEGMENT_BYTES}
use Rattle.mips_model.specs.State.{Code, Data}
use Rattle.mips_model.specs.Accesses.{Loads}
use Rattle.mips_model.specs.Steps.{going}
use Rattle.mips_model.specs.Laws.{HasAt, at, Reaches}
use Rattle.mips_encoder.specs.Addresses.{past}
use Rattle.mips_model.proofs.Reach.{front, back, reaches_on, step_acts}
use Rattle.icode_ir.specs.declared.build_op.BuildOp.{BuildOp}
use Rattle.icode_ir.specs.Decoded.{op_of}
use Rattle.mips_assembly.specs.Assembly.{lui, addu, sll, lw, nop, jalr}
use Rattle.icode_templates_proof.proofs.Leaves.{Leaves, leaves_on, leaves_run}
use Rattle.icode_templates_proof.proofs.Jumps.{in_slot, slot_runs}
use Rattle.icode_templates_proof.specs.Closures.{word_at, closure_of, row_place}
use Rattle.icode_templates_proof.proofs.Skips.{one_loads}
use Rattle.icode_templates_proof.proofs.Accesses.{load_closure, load_row}
use Rattle.generator_laws.specs.Calls.{issuing}
use Rattle.routine_spec.specs.Generator.{emit_code, captured_code, closure_code, key_code, splice_code}
use Rattle.generator_laws.specs.Laws.{others, Enters, Generates}
use Rattle.generator_laws.proofs.Runs.{runs_behind, runs_then, runs_counted}
use Rattle.generator_laws.proofs.Memory.{load_emits}
use Rattle.generator_laws.proofs.Issuing.{set, issued, emits, Inside, inside_on, Goes, offset, HasPlace, with_capture}
use Rattle.generator_laws.proofs.Issuing.{captured_leaves}

-- the number in $a1 becomes the address of its closure
abbrev pub row_5 : Data → Data
row_5 d =
    set 5 (wrap (wrap (d.registers 5 * 4) + SPEC_ROWS)) (set 1 SPEC_ROWS (set 5 (wrap (d.registers 5 * 4)) d))

abbrev pub found_5 : (number : ℕ) → Data → Data
found_5 number d = set 5 (closure_of d number) (row_5 d)

pub closure_leaves_5 : (number : ℕ) (d : Data) → d.registers 5 ≡ number → 0 < number → number ≤ SPEC_ROW_BYTES / 4 →
    Leaves (closure_code 5) 5 d 0 (found_5 number d)
closure_leaves_5 number d is from to =
    let m = row_5 d in
    leaves_on (nop ∷ sll 5 5 2 ∷ lui 1 (SPEC_ROWS / 65536) ∷ addu 5 5 1 ∷ []) (lw 5 65532 5 ∷ nop ∷ []) 5 0 0 d m
    (found_5 number d) (λ rest. refl)
    (leaves_on (lw 5 65532 5 ∷ []) (nop ∷ []) 0 5 0 m (found_5 number d) (found_5 number d)
    (one_loads (lw 5 65532 5) 0 5 m (found_5 number d) refl refl
    (load_row 5 65532 5 (row_place number) m (omega (arith, is, from, to)) (omega (arith, from))
    (omega (arith, from)) (omega (arith, from, to))))
    (λ rest. refl))

-- the number in $t4 becomes the address of its closure
abbrev pub row_12 : Data → Data
row_12 d =
    set 12 (wrap (wrap (d.registers 12 * 4) + SPEC_ROWS)) (set 1 SPEC_ROWS (set 12 (wrap (d.registers 12 * 4)) d))

abbrev pub found_12 : (number : ℕ) → Data → Data
found_12 number d = set 12 (closure_of d number) (row_12 d)

pub closure_leaves_12 : (number : ℕ) (d : Data) → d.registers 12 ≡ number → 0 < number → number ≤ SPEC_ROW_BYTES / 4 →
    Leaves (closure_code 12) 12 d 0 (found_12 number d)
closure_leaves_12 number d is from to =
    let m = row_12 d in
    leaves_on (nop ∷ sll 12 12 2 ∷ lui 1 (SPEC_ROWS / 65536) ∷ addu 12 12 1 ∷ []) (lw 12 65532 12 ∷ nop ∷ []) 12 0 0 d m
    (found_12 number d) (λ rest. refl)
    (leaves_on (lw 12 65532 12 ∷ []) (nop ∷ []) 0 12 0 m (found_12 number d) (found_12 number d)
    (one_loads (lw 12 65532 12) 0 12 m (found_12 number d) refl refl
    (load_row 12 65532 12 (row_place number) m (omega (arith, is, from, to)) (omega (arith, from))
    (omega (arith, from)) (omega (arith, from, to))))
    (λ rest. refl))

-- ---- a captured variable

abbrev keyed : (i number : ℕ) → Data → Data
keyed i number d =
    let m = found_5 number (with_capture 5 i d) in set 5 (word_at d.closures (closure_of d number)) m

key_leaves : (i number : ℕ) (d : Data) → HasPlace (d.registers 12) i →
    word_at d.closures (d.registers 12 + offset i) ≡ number → 0 < number → number ≤ SPEC_ROW_BYTES / 4 →
    CLOSURES ≤ closure_of d number → closure_of d number < CLOSURES + CLOSURE_BYTES → closure_of d number % 4 ≡ 0 →
    Leaves (key_code i) 0 d 5 (keyed i number d)
key_leaves i number d has is from to low high even =
    let m1 = with_capture 5 i d in
    let m2 = found_5 number m1 in
    leaves_on (captured_code 5 i) (closure_code 5 ++ lw 5 0 5 ∷ []) 0 5 5 d m1 (keyed i number d)
    (captured_leaves 5 i d refl has)
    (leaves_on (closure_code 5) (lw 5 0 5 ∷ []) 5 0 5 m1 m2 (keyed i number d)
    (closure_leaves_5 number m1 is from to)
    (one_loads (lw 5 0 5) 0 5 m2 (keyed i number d) refl refl
    (load_closure 5 0 5 (closure_of d number) m2 (omega (arith, low, high)) even low high)))

-- what a captured number stands for in memory
pub record HasNumber (a i number : ℕ) (d : Data) : Type 0 where
  pub place : HasPlace a i
  pub number_is : word_at d.closures (a + offset i) ≡ number
  pub positive : 0 < number
  pub few : number ≤ SPEC_ROW_BYTES / 4
  pub from : CLOSURES ≤ closure_of d number
  pub to : closure_of d number < CLOSURES + CLOSURE_BYTES
  pub even : closure_of d number % 4 ≡ 0

pub key_goes : (c : Code) (p code i number key : ℕ) (op : BuildOp) {a top ra : ℕ} {start d : Data} →
    Inside a top ra start d → HasNumber a i number d → word_at d.closures (closure_of d number) ≡ key →
    ((x y : ℕ) → x ≡ key → op_of code x y ≡ Some op) → HasAt c p (key_code i ++ emit_code code) →
    Goes (op ∷ []) 13 c p (past p (key_code i ++ emit_code code)) a top ra start d
key_goes c p code i number key op {a} {top} {ra} {start} {d} s has word is h =
    let m = keyed i number d in
    let there : HasPlace (d.registers 12) i = subst (λ n. HasPlace n i) (sym s.closure) has.place in
    let number_is = ap (λ n. word_at d.closures (n + offset i)) s.closure ∙ has.number_is in
    record {
      after = issued op code m;
      runs = runs_behind {k = 10} {n = 3}
          (leaves_run (key_code i) c 0 5 p d m
          (key_leaves i number d there number_is has.positive has.few has.from has.to has.even)
          (front c p (key_code i) (emit_code code) h)) refl
          (emits c code 5 (past p (key_code i)) op m refl (is (m.registers 5) (m.registers 6) word)
          (back c p (key_code i) (emit_code code) h));
      inside = inside_on s (issued op code m) refl refl refl refl (λ r k.
          let n1 = ne_eqb r 1 k.0.0 in let n2 = ne_eqb r 2 k.0.1 in let n4 = ne_eqb r 4 k.0.2 in
          let n5 = ne_eqb r 5 k.0.3 in rw (n1, n2, n4, n5) refl);
    }

-- ---- a captured specification

module _ (c : Code) (p i number g depth count : ℕ) (ops : List BuildOp) (a top ra : ℕ) (start d : Data) (s : Inside a
    top
    ra start d) (has : HasNumber a i number d) (first : word_at d.closures (closure_of d number) ≡ g) (from : EMIT_STACK
    ≤ top) (to : top + 8 + 8 * depth ≤ EMIT_STACK + EMIT_STACK_BYTES) (more : 0 < depth) (even : top % 4 ≡ 0) (low :
    past
    p (splice_code i) < SEGMENT_BYTES) (callee : (e : Data) → others e ≡ others d →
    e.registers 28 ≡ d.registers 28 → Enters number (top + 8) depth e →
    Generates ops count (top + 8) c g e) (h : HasAt c p (splice_code i)) where
  abbrev m1 : Data
  m1 = with_capture 12 i d

  abbrev m2 : Data
  m2 = found_12 number m1

  abbrev m3 : Data
  m3 = set 25 g m2

  -- where the callee is called from, and where it returns to
  abbrev call_at : ℕ
  call_at = p + 4 + 4 + 4 + 4 + 4 + 4 + 4 + 4 + 4 + 4 + 4

  abbrev back_to : ℕ
  back_to = call_at + 4 + 4

  abbrev entered : Data
  entered = set 31 back_to m3

  there : HasPlace (d.registers 12) i
  there = subst (λ n. HasPlace n i) (sym s.closure) has.place

  number_is : m1.registers 12 ≡ number
  number_is = ap (λ n. word_at d.closures (n + offset i)) s.closure ∙ has.number_is

  finds : Reaches 11 (at c p 0 d) (at c call_at 0 m3)
  finds =
      leaves_run (captured_code 12 i ++ (closure_code 12 ++ lw 25 0 12 ∷ nop ∷ [])) c 0 0 p d m3
      (leaves_on (captured_code 12 i) (closure_code 12 ++ lw 25 0 12 ∷ nop ∷ []) 0 12 0 d m1 m3
      (captured_leaves 12 i d refl there)
      (leaves_on (closure_code 12) (lw 25 0 12 ∷ nop ∷ []) 12 0 0 m1 m2 m3
      (closure_leaves_12 number m1 number_is has.positive has.few)
      (leaves_on (lw 25 0 12 ∷ []) (nop ∷ []) 0 25 0 m2 m3 m3
      (one_loads (lw 25 0 12) 0 25 m2 m3 refl refl
      (load_closure 25 0 12 (closure_of d number) m2 (omega (arith, has.from, has.to)) has.even has.from has.to
      ∙ ap (λ n. Loads 25 (set 25 n m2)) first))
      (λ rest. refl))))
      (front c p (captured_code 12 i ++ (closure_code 12 ++ lw 25 0 12 ∷ nop ∷ []))
      (jalr 31 25 ∷ nop ∷ lw 12 65532 15 ∷ nop ∷ []) h)

  tail : HasAt c call_at (jalr 31 25 ∷ nop ∷ lw 12 65532 15 ∷ nop ∷ [])
  tail = back c p (captured_code 12 i ++ (closure_code 12 ++ lw 25 0 12 ∷ nop ∷ []))
      (jalr 31 25 ∷ nop ∷ lw 12 65532 15 ∷ nop ∷ []) h

  calls : Reaches 2 (at c call_at 0 m3) (at c g 0 entered)
  calls =
      let back_is : (call_at + 4 + 4) % 4294967296 ≡ call_at + 4 + 4 = omega (arith, low) in
      slot_runs c call_at 0 g m3 entered
      (step_acts (jalr 31 25) (at c call_at 0 m3) tail.0 refl
      ∙ ap (λ x. going (in_slot c call_at g (set 31 x m3))) back_is) tail.1.0

  enters : Enters number (top + 8) depth entered
  enters = record {
    closure = refl;
    pointer = s.pointer;
    from = omega (arith, from);
    to = to;
    even = omega (arith, even);
  }

  y : Generates ops count (top + 8) c g entered
  y = callee entered refl refl enters

  abbrev after : Data
  after = set 12 a y.after

  pointer_is : y.after.registers 15 ≡ top + 8
  pointer_is =
      y.leaves.registers 15 (omega arith, omega arith, omega arith, omega arith, omega arith, omega arith) ∙ s.pointer

  closure_word : word_at y.after.emit_stack (top + 4) ≡ a
  closure_word = y.leaves.below ((top + 4) / 4) (omega (arith, even)) ∙ s.closure_kept

  link_word : word_at y.after.emit_stack top ≡ ra
  link_word = y.leaves.below (top / 4) (omega (arith, even)) ∙ s.link_kept

  returns : Reaches 2 (at c back_to 0 y.after) (at c (past p (splice_code i)) 0 after)
  returns =
      leaves_run (lw 12 65532 15 ∷ nop ∷ []) c 0 0 back_to y.after after
      (leaves_on (lw 12 65532 15 ∷ []) (nop ∷ []) 0 12 0 y.after after after
      (one_loads (lw 12 65532 15) 0 12 y.after after refl refl
      (load_emits 12 65532 15 (top + 4) y.after (omega (arith, pointer_is, from, to)) (omega (arith, even))
      (omega (arith, from)) (omega (arith, to, more)) ∙ ap (λ n. Loads 12 (set 12 n y.after)) closure_word))
      (λ rest. refl)) tail.1.1

  pub splice_goes : Goes ops (15 + count) c p (past p (splice_code i)) a top ra start d
  splice_goes = record {
    after = after;
    runs = runs_counted (omega arith)
        (runs_then {calls = issuing ops} {m = 13 + count} {k = 2}
        (runs_behind {calls = issuing ops} {k = 13} {n = count} (reaches_on {k = 11} {n = 2} finds calls) refl
        y.runs) returns refl);
    inside = record {
      closure = refl;
      pointer = pointer_is;
      link_kept = link_word;
      closure_kept = closure_word;
      registers = λ r k. let n1 = ne_eqb r 1 k.0.0 in let n12 = ne_eqb r 12 k.1 in let n25 = ne_eqb r 25 k.0.5 in
          let n31 = ne_eqb r 31 k.3 in let same : entered.registers r ≡ d.registers r = rw (n1, n12, n25, n31) refl in
          rw n12 (y.leaves.registers r k.0 ∙ same ∙ s.registers r k);
      below = λ n l. y.leaves.below n (omega (arith, l)) ∙ s.below n l;
      rest = y.leaves.rest ∙ s.rest;
    };
  }
