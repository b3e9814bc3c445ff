-- What the words of a piece do.
use Rattle.std.proofs.Common.{◌≡◌, ◌≢◌, inl, inr, ℕ, ◌+◌, ◌*◌, ◌/◌, ◌%◌, ◌<◌, ◌≤◌, true, false, List, [], ◌∷◌}
use Rattle.std.proofs.Common.{◌++◌, Some, refl, sym, ap, ◌∙◌, subst, arith, bit_or, nat_eq, nat_lt}
use Rattle.std.proofs.lemmas.Bool.{cases_lt, ne_eqb}
use Rattle.std.proofs.lemmas.Bool.Decides.{nat_tests}
use Rattle.std.specs.Int.Bits.{or_zero_l}
use Rattle.word32.specs.Words.{wrap, widened_half}
use Rattle.word32.specs.Space.{update}
use Rattle.word32.specs.declared.map.TheConstants.{CLOSURES, CLOSURE_BYTES}
use Rattle.mips_encoder.specs.declared.instruction.Instr.{Instr}
use Rattle.mips_model.specs.State.{Code, Data}
use Rattle.mips_model.specs.Steps.{load_hazard}
use Rattle.mips_model.specs.Laws.{HasAt, at}
use Rattle.mips_encoder.specs.Addresses.{past}
use Rattle.mips_model.proofs.Reach.{front, back}
use Rattle.icode_ir.specs.declared.build_op.BuildOp.{BuildOp}
use Rattle.icode_ir.specs.declared.build_op.BuildOp.TheVariants.{Const}
use Rattle.icode_ir.specs.Codes.{IsServed, code_of, first_of, second_of}
use Rattle.icode_ir.specs.Decoded.{op_of}
use Rattle.icode_ir.proofs.Inverse.{codes-are-read-back}
use Rattle.mips_assembly.specs.Assembly.{constant, lui, ori, addu, lw}
use Rattle.icode_templates.specs.Templates.{upper, lower}
use Rattle.icode_templates_proof.proofs.Leaves.{Leaves, leaves_on, leaves_run}
use Rattle.icode_templates_proof.proofs.Keeping.{with_registers}
use Rattle.icode_templates_proof.proofs.Templates.{constant_parts}
use Rattle.icode_templates_proof.specs.Closures.{word_at}
use Rattle.icode_templates_proof.proofs.Skips.{one_loads}
use Rattle.icode_templates_proof.proofs.Accesses.{load_closure}
use Rattle.generator_laws.specs.Calls.{Emit, noted, RunsWith, issuing}
use Rattle.routine_spec.specs.Generator.{emit_code, op_code, captured_code}
use Rattle.generator_laws.specs.Laws.{IsUntouched, others}
use Rattle.generator_laws.proofs.Runs.{runs_call, runs_behind}

abbrev pub set : ℕ → ℕ → Data → Data
set r x d = with_registers (update r x d.registers) d

-- behind the two instructions that name service and code
abbrev pub asking : ℕ → Data → Data
asking code d = set 2 65 (set 4 code d)

-- and behind the service
abbrev pub issued : BuildOp → ℕ → Data → Data
issued op code d = set 2 0 (noted (Emit op) (asking code d))

names : (code l : ℕ) (d : Data) → load_hazard l (ori 4 0 code) ≡ false →
    Leaves (ori 4 0 code ∷ ori 2 0 65 ∷ []) l d 0 (asking code d)
names code l d quiet rest = let z = or_zero_l code in rw (quiet, z) refl

pub emits : (c : Code) (code l a : ℕ) (op : BuildOp) (d : Data) → load_hazard l (ori 4 0 code) ≡ false →
    op_of code (d.registers 5) (d.registers 6) ≡ Some op → HasAt c a (emit_code code) →
    RunsWith (issuing (op ∷ [])) 3 (at c a l d) (at c (a + 4 + 4 + 4) 0 (issued op code d))
emits c code l a op d quiet is h =
    runs_call (Emit op) {k = 2} {a = a + 4 + 4} {l = 0} {c = c} {d = asking code d} {s = at c a l d}
    (leaves_run (ori 4 0 code ∷ ori 2 0 65 ∷ []) c l 0 a d (asking code d) (names code l d quiet) (h.0, (h.1.0, tt)))
    refl
    (record { stands = h.1.1.0; quiet = refl; called = (refl, is) })

-- ---- between the words of two pieces

-- registers that neither the function's entry nor its pieces write
abbrev pub IsAside : ℕ → Type 0
IsAside r = IsUntouched r × (r ≢ 12) × (r ≢ 15) × (r ≢ 31)

-- the closure's address in $t4, the top of the emit stack in $t7, and below it $ra and $t4 as they were at entry
pub record Inside (a top ra : ℕ) (start d : Data) : Type 0 where
  pub closure : d.registers 12 ≡ a
  pub pointer : d.registers 15 ≡ top + 8
  pub link_kept : word_at d.emit_stack top ≡ ra
  pub closure_kept : word_at d.emit_stack (top + 4) ≡ a
  pub registers : (r : ℕ) → IsAside r → d.registers r ≡ start.registers r
  pub below : (n : ℕ) → n < top / 4 → d.emit_stack n ≡ start.emit_stack n
  pub rest : others d ≡ others start

pub inside_on : {a top ra : ℕ} {start d : Data} → Inside a top ra start d → (after : Data) →
    after.registers 12 ≡ d.registers 12 → after.registers 15 ≡ d.registers 15 → after.emit_stack ≡ d.emit_stack →
    others after ≡ others d → ((r : ℕ) → IsAside r → after.registers r ≡ d.registers r) → Inside a top ra start after
inside_on {a} {top} {ra} {start} {d} i after t4 t7 stack rest same = record {
  closure = t4 ∙ i.closure;
  pointer = t7 ∙ i.pointer;
  link_kept = ap (λ (f : ℕ → ℕ). word_at f top) stack ∙ i.link_kept;
  closure_kept = ap (λ (f : ℕ → ℕ). word_at f (top + 4)) stack ∙ i.closure_kept;
  registers = λ r k. same r k ∙ i.registers r k;
  below = λ n l. ap (λ (f : ℕ → ℕ). f n) stack ∙ i.below n l;
  rest = rest ∙ i.rest;
}

-- a stretch that issues ops
pub record Goes (ops : List BuildOp) (count : ℕ) (c : Code) (p q a top ra : ℕ) (start d : Data) : Type 0 where
  pub after : Data
  pub runs : RunsWith (issuing ops) count (at c p 0 d) (at c q 0 after)
  pub inside : Inside a top ra start after

-- ---- an op

-- two halves of a word, as they come to a register
abbrev halves : ℕ → ℕ
halves x = bit_or (x / 65536 * 65536) (x % 65536)

abbrev arguments : BuildOp → Data → Data
arguments op d =
    set 6 (halves (second_of op)) (set 6 (second_of op / 65536 * 65536) (set 5 (halves (first_of op))
    (set 5 (first_of op / 65536 * 65536) d)))

abbrev argument_code : BuildOp → List Instr
argument_code op = constant 5 (first_of op) ++ constant 6 (second_of op)

brings_arguments : (op : BuildOp) (d : Data) → Leaves (argument_code op) 0 d 0 (arguments op d)
brings_arguments op d rest = refl

pub op_goes : (c : Code) (p : ℕ) (op : BuildOp) {a top ra : ℕ} {start d : Data} → Inside a top ra start d →
    IsServed op →
    HasAt c p (op_code op) → Goes (op ∷ []) 7 c p (past p (op_code op)) a top ra start d
op_goes c p op {a} {top} {ra} {start} {d} i served h =
    let e1 = constant_parts (first_of op) in
    let e2 = constant_parts (second_of op) in
    let m = arguments op d in
    let is : op_of (code_of op) (m.registers 5) (m.registers 6) ≡ Some op = rw (e1, e2) (codes-are-read-back op served)
    in
    record {
      after = issued op (code_of op) m;
      runs = runs_behind {k = 4} {n = 3}
          (leaves_run (argument_code op) c 0 0 p d m (brings_arguments op d)
          (front c p (argument_code op) (emit_code (code_of op)) h)) refl
          (emits c (code_of op) 0 (p + 4 + 4 + 4 + 4) op m refl is
          (back c p (argument_code op) (emit_code (code_of op)) h));
      inside = inside_on i (issued op (code_of op) m) refl refl refl refl (λ r k.
          let n2 = ne_eqb r 2 k.0.1 in let n4 = ne_eqb r 4 k.0.2 in let n5 = ne_eqb r 5 k.0.3 in
          let n6 = ne_eqb r 6 k.0.4 in rw (n2, n4, n5, n6) refl);
    }

-- ---- a captured word

abbrev pub offset : ℕ → ℕ
offset i = 16 + 4 * i

place_is : (n o : ℕ) → n + o < 2147483648 → wrap (wrap (upper o * 65536 + n) + widened_half (lower o)) ≡ n + o
place_is n o h =
    elim (cases_lt (lower o) 32768) [
      | inl l ↦ let t : nat_lt (lower o) 32768 ≡ true = grind (arith, nat_tests) in rw t (omega (arith, h))
      | inr l ↦ let t : nat_lt (lower o) 32768 ≡ false = grind (arith, nat_tests) in rw t (omega (arith, h))
    ]

-- $at, from which the captured word is reached
abbrev pub reaching : ℕ → Data → Data
reaching i d = set 1 (wrap (upper (offset i) * 65536 + d.registers 12)) (set 1 (upper (offset i) * 65536) d)

-- the place of a captured word
pub record HasPlace (a i : ℕ) : Type 0 where
  pub from : CLOSURES ≤ a
  pub to : a + offset i < CLOSURES + CLOSURE_BYTES
  pub even : a % 4 ≡ 0

abbrev pub with_capture : (t i : ℕ) → Data → Data
with_capture t i d = set t (word_at d.closures (d.registers 12 + offset i)) (reaching i d)

pub captured_leaves : (t i : ℕ) (d : Data) → nat_eq t 0 ≡ false → HasPlace (d.registers 12) i →
    Leaves (captured_code t i) 0 d t (with_capture t i d)
captured_leaves t i d n0 has =
    let m = reaching i d in
    let far = place_is (d.registers 12) (offset i) (omega (arith, has.to)) in
    leaves_on (lui 1 (upper (offset i)) ∷ addu 1 1 12 ∷ []) (lw t (lower (offset i)) 1 ∷ []) 0 0 t d m
    (with_capture t i d) (λ rest. refl)
    (one_loads (lw t (lower (offset i)) 1) 0 t m (with_capture t i d) refl refl
    (load_closure t (lower (offset i)) 1 (d.registers 12 + offset i) m far (omega (arith, has.even))
    (omega (arith, has.from)) has.to ∙ rw n0 refl))

pub captured_goes : (c : Code) (p i x : ℕ) {a top ra : ℕ} {start d : Data} → Inside a top ra start d → HasPlace a i →
    word_at d.closures (a + offset i) ≡ x → HasAt c p (captured_code 5 i ++ emit_code 1) →
    Goes (Const x ∷ []) 6 c p (past p (captured_code 5 i ++ emit_code 1)) a top ra start d
captured_goes c p i x {a} {top} {ra} {start} {d} s has is h =
    let m = with_capture 5 i d in
    let there : HasPlace (d.registers 12) i = subst (λ n. HasPlace n i) (sym s.closure) has in
    let word : m.registers 5 ≡ x = ap (λ n. word_at d.closures (n + offset i)) s.closure ∙ is in
    record {
      after = issued (Const x) 1 m;
      runs = runs_behind {k = 3} {n = 3}
          (leaves_run (captured_code 5 i) c 0 5 p d m (captured_leaves 5 i d refl there)
          (front c p (captured_code 5 i) (emit_code 1) h)) refl
          (emits c 1 5 (p + 4 + 4 + 4) (Const x) m refl (ap (λ n. Some (Const n)) word)
          (back c p (captured_code 5 i) (emit_code 1) h));
      inside = inside_on s (issued (Const x) 1 m) refl refl refl refl (λ r k.
          let n1 = ne_eqb r 1 k.0.0 in let n2 = ne_eqb r 2 k.0.1 in let n4 = ne_eqb r 4 k.0.2 in
          let n5 = ne_eqb r 5 k.0.3 in rw (n1, n2, n4, n5) refl);
    }
