-- The middle part of the routine: the function is begun, gets its ops, and the value of an expression is returned.
use Rattle.std.proofs.Common.{◌≡◌, ◌≢◌, ◌⊎◌, append-nil, inl, inr, ℕ, ◌+◌, ◌*◌, ◌/◌, ◌%◌, ◌<◌, ◌≤◌, Bool, true, false}
use Rattle.std.proofs.Common.{List, []}
use Rattle.std.proofs.Common.{◌∷◌, ◌++◌, refl, sym, ap, ◌∙◌, subst, arith}
use Rattle.std.proofs.lemmas.Bool.{ne_eqb}
use Rattle.word32.specs.Words.{wrap}
use Rattle.word32.specs.declared.map.TheConstants.{CLOSURES, CLOSURE_BYTES, ARENA}
use Rattle.word32.specs.declared.map.TheConstants.{EMIT_STACK, EMIT_STACK_BYTES}
use Rattle.mips_encoder.specs.declared.instruction.Instr.{Instr}
use Rattle.mips_model.specs.State.{Code, Data}
use Rattle.mips_model.specs.Accesses.{Loads, Branches}
use Rattle.mips_model.specs.Effects.{effect}
use Rattle.mips_model.specs.Steps.{going, step}
use Rattle.mips_model.specs.Laws.{HasAt, at, Reaches}
use Rattle.mips_model.proofs.Reach.{front, back, step_acts}
use Rattle.icode_ir.specs.declared.build_op.BuildOp.{BuildOp}
use Rattle.icode_ir.specs.declared.build_op.BuildOp.TheVariants.{Return}
use Rattle.mips_assembly.specs.Assembly.{lw, sw, ori, addiu, jalr, bne, syscall}
use Rattle.icode_templates_proof.proofs.Leaves.{Leaves, leaves_on, leaves_run}
use Rattle.icode_templates_proof.proofs.Memory.{update_same, update_other}
use Rattle.icode_templates_proof.proofs.Jumps.{in_slot}
use Rattle.icode_templates_proof.specs.Closures.{word_at, with_word, closure_of}
use Rattle.icode_templates_proof.proofs.Skips.{one_loads, one_leaves}
use Rattle.icode_templates_proof.proofs.Accesses.{load_closure}
use Rattle.generator_laws.specs.Calls.{Begin, Emit, noted, RunsWith, issuing}
use Rattle.generator_laws.specs.Laws.{others, IsUntouched, Enters, Generates}
use Rattle.generator_laws.proofs.Runs.{runs_call, runs_on, runs_then, runs_behind, issuing_append}
use Rattle.generator_laws.proofs.Memory.{load_emits, store_emits}
use Rattle.generator_laws.proofs.Issuing.{set}
use Rattle.routine_spec.specs.Compile.{begin_code, generate_code, kind_again_code, value_test, return_code, build_code}
use Rattle.compile_routine.specs.Laws.{return_ops, compile_cost}
use Rattle.compile_routine.proofs.Tests.{branches}

-- ---- what is known behind the tests

pub record Tested (a kind parameters charge g ra : ℕ) (t : Data) : Type 0 where
  pub closure : t.registers 12 ≡ a
  pub charge_is : t.registers 5 ≡ charge
  pub pointer : t.registers 15 ≡ EMIT_STACK
  pub link : t.registers 31 ≡ ra
  pub parameters_is : word_at t.closures (a + 12) ≡ parameters
  pub first : word_at t.closures a ≡ g
  pub kind_is : word_at t.closures (a + 4) ≡ kind
  pub from : CLOSURES ≤ a
  pub to : a + 16 ≤ CLOSURES + CLOSURE_BYTES
  pub even : a % 4 ≡ 0

module _ (c : Code) (p a kind parameters charge g ra number depth cost : ℕ) (ops : List BuildOp) (t : Data) (w : Tested
    a
    kind parameters charge g ra t) (low : p + 64 ≤ ARENA) (place : closure_of t number ≡ a) (more : 0 < depth) (room :
    8 +
    8 * depth ≤ EMIT_STACK_BYTES) (callee : (e : Data) → others e ≡ others t → e.registers 28 ≡ t.registers 28 →
    Enters number (EMIT_STACK + 8) depth e → Generates ops cost (EMIT_STACK + 8) c g e) (h : HasAt c p build_code) where
  abbrev b1 : Data
  b1 = record t { emit_stack = with_word EMIT_STACK ra t.emit_stack }

  abbrev b2 : Data
  b2 = record b1 { emit_stack = with_word (EMIT_STACK + 4) charge b1.emit_stack }

  abbrev b3 : Data
  b3 = set 4 parameters b2

  abbrev b4 : Data
  b4 = set 25 g b3

  abbrev b5 : Data
  b5 = set 2 64 b4

  abbrev first_code : List Instr
  first_code = sw 31 0 15 ∷ sw 5 4 15 ∷ lw 4 12 12 ∷ lw 25 0 12 ∷ ori 2 0 64 ∷ []

  begins : Leaves first_code 0 t 0 b5
  begins =
      leaves_on (sw 31 0 15 ∷ []) (sw 5 4 15 ∷ lw 4 12 12 ∷ lw 25 0 12 ∷ ori 2 0 64 ∷ []) 0 0 0 t b1 b5
      (one_leaves (sw 31 0 15) 0 t b1 refl refl
      (store_emits 31 0 15 EMIT_STACK t (omega (arith, w.pointer)) refl (omega arith) (omega arith) ra w.link))
      (leaves_on (sw 5 4 15 ∷ []) (lw 4 12 12 ∷ lw 25 0 12 ∷ ori 2 0 64 ∷ []) 0 0 0 b1 b2 b5
      (one_leaves (sw 5 4 15) 0 b1 b2 refl refl
      (store_emits 5 4 15 (EMIT_STACK + 4) b1 (omega (arith, w.pointer)) refl (omega arith) (omega arith) charge
      w.charge_is))
      (leaves_on (lw 4 12 12 ∷ []) (lw 25 0 12 ∷ ori 2 0 64 ∷ []) 0 4 0 b2 b3 b5
      (one_loads (lw 4 12 12) 0 4 b2 b3 refl refl
      (load_closure 4 12 12 (a + 12) b2 (omega (arith, w.closure, w.from, w.to)) (omega (arith, w.even))
      (omega (arith, w.from)) (omega (arith, w.to)) ∙ ap (λ x. Loads 4 (set 4 x b2)) w.parameters_is))
      (leaves_on (lw 25 0 12 ∷ []) (ori 2 0 64 ∷ []) 4 25 0 b3 b4 b5
      (one_loads (lw 25 0 12) 4 25 b3 b4 refl refl
      (load_closure 25 0 12 a b3 (omega (arith, w.closure, w.from, w.to)) w.even w.from (omega (arith, w.to))
      ∙ ap (λ x. Loads 25 (set 25 x b3)) w.first))
      (λ rest. refl))))

  abbrev b6 : Data
  b6 = set 2 0 (noted (Begin parameters) b5)

  abbrev p5 : ℕ
  p5 = p + 4 + 4 + 4 + 4 + 4

  abbrev p6 : ℕ
  p6 = p5 + 4

  abbrev behind_begin : List Instr
  behind_begin = generate_code ++ (kind_again_code ++ (value_test ++ return_code))

  at6 : HasAt c p6 behind_begin
  at6 = back c p begin_code behind_begin h

  begun : RunsWith (Begin parameters ∷ []) 6 (at c p 0 t) (at c p6 0 b6)
  begun =
      runs_call (Begin parameters) {k = 5} {a = p5} {l = 0} {c = c} {d = b5} {s = at c p 0 t}
      (leaves_run first_code c 0 0 p t b5 begins (front c p first_code (syscall ∷ behind_begin) h)) refl
      (record { stands = (back c p first_code (syscall ∷ behind_begin) h).0; quiet = refl; called = (refl, refl) })

  abbrev p8 : ℕ
  p8 = p6 + 4 + 4

  -- the function of the tick is entered
  abbrev entered : Data
  entered = set 15 (EMIT_STACK + 8) (set 31 p8 b6)

  calls : Reaches 2 (at c p6 0 b6) (at c g 0 entered)
  calls =
      let back_is : (p6 + 4 + 4) % 4294967296 ≡ p8 = omega (arith, low) in
      let n : wrap (t.registers 15 + 8) ≡ EMIT_STACK + 8 = omega (arith, w.pointer) in
      let s = in_slot c p6 g (set 31 p8 b6) in
      record {
        by = ap step (step_acts (jalr 31 25) (at c p6 0 b6) at6.0 refl
            ∙ ap (λ x. going (in_slot c p6 g (set 31 x b6))) back_is)
            ∙ step_acts (addiu 15 15 8) s at6.1.0 refl ∙ (rw n refl);
      }

  enters : Enters number (EMIT_STACK + 8) depth entered
  enters = record {
    closure = w.closure ∙ sym place;
    pointer = refl;
    from = omega arith;
    to = omega (arith, room);
    even = refl;
  }

  y : Generates ops cost (EMIT_STACK + 8) c g entered
  y = callee entered refl refl enters

  -- back, the closure's kind and the charge are loaded
  abbrev l0 : Data
  l0 = y.after

  abbrev l1 : Data
  l1 = set 5 kind l0

  abbrev l2 : Data
  l2 = set 13 charge l1

  abbrev l3 : Data
  l3 = set 1 1 l2

  untouched : (q : ℕ) → IsUntouched q → l0.registers q ≡ entered.registers q
  untouched q k = y.leaves.registers q k

  closure_again : l0.registers 12 ≡ a
  closure_again =
      untouched 12 (omega arith, omega arith, omega arith, omega arith, omega arith, omega arith) ∙ w.closure

  pointer_again : l0.registers 15 ≡ EMIT_STACK + 8
  pointer_again = untouched 15 (omega arith, omega arith, omega arith, omega arith, omega arith, omega arith)

  same_closures : l0.closures ≡ t.closures
  same_closures = ap (λ (x : Data). x.closures) y.leaves.rest

  kind_word : word_at l0.closures (a + 4) ≡ kind
  kind_word = ap (λ (f : ℕ → ℕ). word_at f (a + 4)) same_closures ∙ w.kind_is

  charge_word : word_at l0.emit_stack (EMIT_STACK + 4) ≡ charge
  charge_word =
      y.leaves.below ((EMIT_STACK + 4) / 4) (omega arith)
      ∙ update_same ((EMIT_STACK + 4) / 4) charge b1.emit_stack

  link_word : word_at l0.emit_stack EMIT_STACK ≡ ra
  link_word =
      y.leaves.below (EMIT_STACK / 4) (omega arith)
      ∙ update_other ((EMIT_STACK + 4) / 4) charge b1.emit_stack (EMIT_STACK / 4) (omega arith)
      ∙ update_same (EMIT_STACK / 4) ra t.emit_stack

  loads : Leaves kind_again_code 0 l0 0 l3
  loads =
      leaves_on (lw 5 4 12 ∷ []) (lw 13 65532 15 ∷ ori 1 0 1 ∷ []) 0 5 0 l0 l1 l3
      (one_loads (lw 5 4 12) 0 5 l0 l1 refl refl
      (load_closure 5 4 12 (a + 4) l0 (omega (arith, closure_again, w.from, w.to)) (omega (arith, w.even))
      (omega (arith, w.from)) (omega (arith, w.to)) ∙ ap (λ x. Loads 5 (set 5 x l0)) kind_word))
      (leaves_on (lw 13 65532 15 ∷ []) (ori 1 0 1 ∷ []) 5 13 0 l1 l2 l3
      (one_loads (lw 13 65532 15) 5 13 l1 l2 refl refl
      (load_emits 13 65532 15 (EMIT_STACK + 4) l1 (omega (arith, pointer_again)) refl (omega arith) (omega arith)
      ∙ ap (λ x. Loads 13 (set 13 x l1)) charge_word))
      (λ rest. refl))

  abbrev p11 : ℕ
  p11 = p8 + 4 + 4 + 4

  abbrev p13 : ℕ
  p13 = p11 + 4 + 4

  abbrev p15 : ℕ
  p15 = p13 + 4 + 4

  abbrev l4 : Data
  l4 = set 2 65 l3

  abbrev l6 : Data
  l6 = set 2 0 (noted (Emit Return) (set 4 19 l4))

  at8 : HasAt c p8 (kind_again_code ++ (value_test ++ return_code))
  at8 = back c p6 generate_code (kind_again_code ++ (value_test ++ return_code)) at6

  at11 : HasAt c p11 (value_test ++ return_code)
  at11 = back c p8 kind_again_code (value_test ++ return_code) at8

  -- the ops of the specification are issued, and the test of the kind is reached
  issues : RunsWith (Begin parameters ∷ issuing ops) (6 + (2 + cost + 3)) (at c p 0 t) (at c p11 0 l3)
  issues =
      runs_on {xs = Begin parameters ∷ []} {m = 6} {n = 2 + cost + 3} begun
      (runs_then {m = 2 + cost} {k = 3} (runs_behind {k = 2} {n = cost} calls refl y.runs)
      (leaves_run kind_again_code c 0 0 p8 l0 l3 loads (front c p8 kind_again_code (value_test ++ return_code) at8))
      refl)

  pub record Built (is_value : Bool) : Type 0 where
    pub e : Data
    pub count : ℕ
    pub counted : 25 + (count + 21) ≡ compile_cost is_value cost
    pub runs : RunsWith (Begin parameters ∷ issuing (ops ++ return_ops is_value)) count (at c p 0 t) (at c p15 0 e)
    pub closure_is : e.registers 12 ≡ a
    pub charge_there : e.registers 13 ≡ charge
    pub pointer_there : e.registers 15 ≡ EMIT_STACK + 8
    pub link_there : word_at e.emit_stack EMIT_STACK ≡ ra
    pub rest : others e ≡ others t
    pub registers : (q : ℕ) → ((8 ≤ q) × (q < 12)) ⊎ ((16 ≤ q) × (q ≢ 25) × (q ≢ 31)) → e.registers q ≡ t.registers q

  -- the registers that stay
  stay : (q : ℕ) → ((8 ≤ q) × (q < 12)) ⊎ ((16 ≤ q) × (q ≢ 25) × (q ≢ 31)) → l4.registers q ≡ t.registers q
  stay q k =
      let n1 : q ≢ 1 = far 1 k (omega arith) in let n2 : q ≢ 2 = far 2 k (omega arith) in
      let n4 : q ≢ 4 = far 4 k (omega arith) in let n5 : q ≢ 5 = far 5 k (omega arith) in
      let n6 : q ≢ 6 = far 6 k (omega arith) in
      let n13 : q ≢ 13 = apart_13 k in let n15 : q ≢ 15 = apart_15 k in let n25 : q ≢ 25 = apart_25 k in
      let n31 : q ≢ 31 = apart_31 k in
      let e1 = ne_eqb q 1 n1 in let e2 = ne_eqb q 2 n2 in let e4 = ne_eqb q 4 n4 in let e5 = ne_eqb q 5 n5 in
      let e13 = ne_eqb q 13 n13 in let e15 = ne_eqb q 15 n15 in let e25 = ne_eqb q 25 n25 in
      let e31 = ne_eqb q 31 n31 in
      let before : entered.registers q ≡ t.registers q = rw (e2, e4, e15, e25, e31) refl in
      rw (e1, e2, e5, e13) (untouched q (n1, n2, n4, n5, n6, n25) ∙ before)
    where
      far : (r : ℕ) → ((8 ≤ q) × (q < 12)) ⊎ ((16 ≤ q) × (q ≢ 25) × (q ≢ 31)) → r < 8 → q ≢ r
      far r (inl x) l is = omega (arith, x.0, l, is)
      far r (inr x) l is = omega (arith, x.0, l, is)

      apart_13 : ((8 ≤ q) × (q < 12)) ⊎ ((16 ≤ q) × (q ≢ 25) × (q ≢ 31)) → q ≢ 13
      apart_13 (inl x) is = omega (arith, x.1, is)
      apart_13 (inr x) is = omega (arith, x.0, is)

      apart_15 : ((8 ≤ q) × (q < 12)) ⊎ ((16 ≤ q) × (q ≢ 25) × (q ≢ 31)) → q ≢ 15
      apart_15 (inl x) is = omega (arith, x.1, is)
      apart_15 (inr x) is = omega (arith, x.0, is)

      apart_25 : ((8 ≤ q) × (q < 12)) ⊎ ((16 ≤ q) × (q ≢ 25) × (q ≢ 31)) → q ≢ 25
      apart_25 (inl x) is = omega (arith, x.1, is)
      apart_25 (inr x) is = x.1 is

      apart_31 : ((8 ≤ q) × (q < 12)) ⊎ ((16 ≤ q) × (q ≢ 25) × (q ≢ 31)) → q ≢ 31
      apart_31 (inl x) is = omega (arith, x.1, is)
      apart_31 (inr x) is = x.2 is

  -- the value of an expression is returned
  pub built_value : kind ≡ 1 → Built true
  built_value one =
      let does : effect (bne 5 1 3) l3 ≡ Branches false 3 = rw one refl in
      let tests = branches (bne 5 1 3) (ori 2 0 65) c p11 3 p13 false l3 l4 refl refl does refl refl refl refl at11.0
      at11.1.0 in
      let rest = back c p11 value_test return_code at11 in
      let returned = runs_call (Emit Return) {k = 1} {a = p13 + 4} {l = 0} {c = c} {d = set 4 19 l4} {s = at c p13 0 l4}
      (leaves_run (ori 4 0 19 ∷ []) c 0 0 p13 l4 (set 4 19 l4) (λ more. refl) (rest.0, tt)) refl
      (record { stands = rest.1.0; quiet = refl; called = (refl, refl) }) in
      record {
        e = l6;
        count = 6 + (2 + cost + 3) + (2 + 2);
        counted = omega arith;
        runs = subst (λ calls. RunsWith calls (6 + (2 + cost + 3) + (2 + 2)) (at c p 0 t) (at c p15 0 l6))
            (ap (λ calls. Begin parameters ∷ calls) (sym (issuing_append ops (Return ∷ []))))
            (runs_on {xs = Begin parameters ∷ issuing ops} {m = 6 + (2 + cost + 3)} {n = 2 + 2} issues
            (runs_behind {k = 2} {n = 2} tests refl returned));
        closure_is = closure_again;
        charge_there = refl;
        pointer_there = pointer_again;
        link_there = link_word;
        rest = y.leaves.rest;
        registers = λ q k. (let e2 = ne_eqb q 2 (low_2 q k) in let e4 = ne_eqb q 4 (low_4 q k) in
            let before = stay q k in rw (e2, e4) (same_2 q (low_2 q k) before));
      }
    where
      low_2 : (q : ℕ) → ((8 ≤ q) × (q < 12)) ⊎ ((16 ≤ q) × (q ≢ 25) × (q ≢ 31)) → q ≢ 2
      low_2 q (inl x) is = omega (arith, x.0, is)
      low_2 q (inr x) is = omega (arith, x.0, is)

      low_4 : (q : ℕ) → ((8 ≤ q) × (q < 12)) ⊎ ((16 ≤ q) × (q ≢ 25) × (q ≢ 31)) → q ≢ 4
      low_4 q (inl x) is = omega (arith, x.0, is)
      low_4 q (inr x) is = omega (arith, x.0, is)

      same_2 : (q : ℕ) → q ≢ 2 → l4.registers q ≡ t.registers q → l3.registers q ≡ t.registers q
      same_2 q n e = sym (update_other 2 65 l3.registers q n) ∙ e

  -- a statement goes on at once
  pub built_statement : kind ≡ 2 → Built false
  built_statement two =
      let does : effect (bne 5 1 3) l3 ≡ Branches true 3 = rw two refl in
      let tests = branches (bne 5 1 3) (ori 2 0 65) c p11 3 p15 true l3 l4 refl refl does (omega (arith, low)) refl refl
      refl at11.0 at11.1.0 in
      record {
        e = l4;
        count = 6 + (2 + cost + 3) + 2;
        counted = omega arith;
        runs = subst (λ (xs : List BuildOp). RunsWith (Begin parameters ∷ issuing xs) (6 + (2 + cost + 3) + 2) (at c p
            0 t)
            (at c p15 0 l4)) (sym (append-nil ops)) (runs_then {m = 6 + (2 + cost + 3)} {k = 2} issues tests refl);
        closure_is = closure_again;
        charge_there = refl;
        pointer_there = pointer_again;
        link_there = link_word;
        rest = y.leaves.rest;
        registers = stay;
      }
