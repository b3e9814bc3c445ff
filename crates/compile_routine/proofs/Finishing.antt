-- The last part of the routine: the function is finished, flushed and published, and the cells move on.
use Rattle.std.proofs.Common.{◌≡◌, ◌≢◌, inl, inr, ℕ, suc, ◌+◌, ◌*◌, ◌/◌, ◌%◌, ◌<◌, ◌≤◌, true, List, [], ◌∷◌, ◌++◌}
use Rattle.std.proofs.Common.{length, refl, ap, ◌∙◌, arith, nat_lt}
use Rattle.std.proofs.lemmas.Bool.{lt-ltb, ne_eqb}
use Rattle.limits.specs.declared.program.TheConstants.{SIZE_LIMIT}
use Rattle.word32.specs.Words.{wrap}
use Rattle.word32.specs.declared.map.TheConstants.{ARENA, ARENA_BYTES, CLOSURES, CLOSURE_BYTES, GLOBAL_POINTER}
use Rattle.word32.specs.declared.map.TheConstants.{NEXT_ARENA_CELL, NEXT_FUNCTION_CELL}
use Rattle.word32.specs.declared.map.TheConstants.{EMIT_STACK}
use Rattle.mips_encoder.specs.declared.instruction.Instr.{Instr}
use Rattle.mips_model.specs.State.{Code, Data}
use Rattle.mips_model.specs.Accesses.{Loads}
use Rattle.mips_model.specs.Steps.{fetch, step}
use Rattle.mips_model.specs.Laws.{HasAt, at, Reaches}
use Rattle.mips_encoder.specs.Addresses.{past}
use Rattle.mips_model.proofs.Reach.{front, back, reaches_on, step_acts}
use Rattle.meaning_state.specs.Rows.{arena_words}
use Rattle.mips_assembly.specs.Assembly.{lw, sw, srl, addiu, addu, ori, jr, syscall}
use Rattle.icode_templates_proof.proofs.Leaves.{Leaves, leaves_on, leaves_run}
use Rattle.icode_templates_proof.proofs.Memory.{update_other}
use Rattle.icode_templates_proof.proofs.Jumps.{in_slot}
use Rattle.icode_templates_proof.specs.Closures.{word_at, with_word}
use Rattle.icode_templates_proof.proofs.Skips.{one_loads, one_leaves}
use Rattle.icode_templates_proof.proofs.Accesses.{load_closure, load_cell, store_cell}
use Rattle.generator_laws.specs.Calls.{Call, Finish, Flush, Publish, Asks, Own, code_behind, data_behind, RunsWith}
use Rattle.generator_laws.specs.Laws.{others}
use Rattle.generator_laws.proofs.Runs.{runs_call, runs_on, runs_then}
use Rattle.generator_laws.proofs.Memory.{load_emits}
use Rattle.generator_laws.proofs.Issuing.{set}
use Rattle.routine_spec.specs.Compile.{finish_code, flush_code, publish_code, answer_code, back_code, make_code}
use Rattle.compile_routine.specs.Laws.{frame_bytes, made_data, KeepsRegister}

-- ---- the text doesn't change where the arena does

same_fetch : (call : Call) (c : Code) (a : ℕ) → a < ARENA → fetch (code_behind call c) a ≡ fetch c a
same_fetch call c a low = let t : nat_lt a ARENA ≡ true = lt-ltb a ARENA low in rw t refl

pub text_stays : (call : Call) (c : Code) (a : ℕ) (is : List Instr) → past a is ≤ ARENA → HasAt c a is →
    HasAt (code_behind call c) a is
text_stays call c a [] low h = tt
text_stays call c a (i ∷ is) low h =
    let r = rises (a + 4) is in
    (same_fetch call c a (omega (arith, r, low)) ∙ h.0, text_stays call c (a + 4) is low h.1)
  where
    rises : (a : ℕ) (is : List Instr) → a ≤ past a is
    rises a [] = omega arith
    rises a (i ∷ is) = let r = rises (a + 4) is in omega (arith, r)

-- ---- the parts behind the finish, and behind the flush

abbrev rest6 : List Instr
rest6 = flush_code ++ (publish_code ++ (answer_code ++ back_code))

abbrev pub tail_code : List Instr
tail_code = publish_code ++ (answer_code ++ back_code)

-- ---- what is known where the function is finished

pub record Ready (a function next size parameters ra : ℕ) (e : Data) : Type 0 where
  pub closure : e.registers 12 ≡ a
  pub charge : e.registers 13 ≡ 768 * size + 256
  pub pointer : e.registers 15 ≡ EMIT_STACK + 8
  pub global : e.registers 28 ≡ GLOBAL_POINTER
  pub link : word_at e.emit_stack EMIT_STACK ≡ ra
  pub function_is : word_at e.cells NEXT_FUNCTION_CELL ≡ function
  pub next_is : word_at e.cells NEXT_ARENA_CELL ≡ next
  pub parameters_is : word_at e.closures (a + 12) ≡ parameters
  pub from : CLOSURES ≤ a
  pub to : a + 16 ≤ CLOSURES + CLOSURE_BYTES
  pub even : a % 4 ≡ 0
  pub small : size ≤ SIZE_LIMIT
  pub near : next + (768 * size + 256) ≤ ARENA + ARENA_BYTES
  pub row : function < 65536

module _ (a function next size parameters ra : ℕ) (words : List ℕ) (e : Data) (r : Ready a function next size parameters
    ra e) (few : length words ≤ arena_words size) where
  -- finish
  abbrev f1 : Data
  f1 = set 4 next e

  abbrev f2 : Data
  f2 = set 2 66 (set 6 (frame_bytes size) (set 6 ((768 * size + 256) / 16) (set 5 (arena_words size) f1)))

  abbrev pub finish_call : Call
  finish_call = Finish next (arena_words size) (frame_bytes size) words

  finishes : Leaves (lw 4 65516 28 ∷ srl 5 13 2 ∷ srl 6 13 4 ∷ addiu 6 6 112 ∷ ori 2 0 66 ∷ []) 0 e 0 f2
  finishes =
      let c1 : e.registers 13 / 4 ≡ arena_words size = omega (arith, r.charge) in
      let c2 : e.registers 13 / 16 ≡ (768 * size + 256) / 16 = ap (λ n. n / 16) r.charge in
      let c3 : wrap ((768 * size + 256) / 16 + 112) ≡ frame_bytes size = omega (arith, r.small) in
      leaves_on (lw 4 65516 28 ∷ []) (srl 5 13 2 ∷ srl 6 13 4 ∷ addiu 6 6 112 ∷ ori 2 0 66 ∷ []) 0 4 0 e f1 f2
      (one_loads (lw 4 65516 28) 0 4 e f1 refl refl
      (load_cell 4 65516 28 NEXT_ARENA_CELL e (omega (arith, r.global)) refl (omega arith) (omega arith)
      ∙ ap (λ x. Loads 4 (set 4 x e)) r.next_is))
      (λ rest. rw (c1, c2, c3) refl)

  -- flush
  abbrev f3 : Data
  f3 = data_behind finish_call f2

  abbrev pub f4 : Data
  f4 = set 2 67 (set 5 (length words) f3)

  flushes : Leaves (addu 5 2 0 ∷ ori 2 0 67 ∷ []) 0 f3 0 f4
  flushes rest =
      let e : (length words + 0) % 4294967296 ≡ length words = omega (arith, few, r.small) in rw e refl

  -- publish: the flush's answer, and what it noted
  abbrev pub f5 : Data
  f5 = data_behind (Flush next (length words)) f4

  abbrev f6 : Data
  f6 = set 13 (next + 4 * arena_words size) (set 5 next f5)

  abbrev f7 : Data
  f7 = record f6 { cells = with_word NEXT_ARENA_CELL (next + 4 * arena_words size) f6.cells }

  abbrev f8 : Data
  f8 = set 4 function f7

  abbrev f9 : Data
  f9 = set 6 parameters f8

  abbrev pub f10 : Data
  f10 = set 2 68 f9

  same_function : word_at f7.cells NEXT_FUNCTION_CELL ≡ function
  same_function =
      update_other (NEXT_ARENA_CELL / 4) (next + 4 * arena_words size) e.cells (NEXT_FUNCTION_CELL / 4) (omega arith)
      ∙ r.function_is

  publishes : Leaves (addu 5 4 0 ∷ addu 13 13 4 ∷ sw 13 65516 28 ∷ lw 4 65520 28 ∷ lw 6 12 12 ∷ ori 2 0 68 ∷ []) 0 f5 0
      f10
  publishes =
      let n : (next + 0) % 4294967296 ≡ next = omega (arith, r.near) in
      let m : wrap (e.registers 13 + next) ≡ next + 4 * arena_words size = omega (arith, r.charge, r.near) in
      leaves_on (addu 5 4 0 ∷ addu 13 13 4 ∷ []) (sw 13 65516 28 ∷ lw 4 65520 28 ∷ lw 6 12 12 ∷ ori 2 0 68
      ∷ []) 0 0 0 f5
      f6 f10 (λ rest. rw (n, m) refl)
      (leaves_on (sw 13 65516 28 ∷ []) (lw 4 65520 28 ∷ lw 6 12 12 ∷ ori 2 0 68 ∷ []) 0 0 0 f6 f7 f10
      (one_leaves (sw 13 65516 28) 0 f6 f7 refl refl
      (store_cell 13 65516 28 NEXT_ARENA_CELL f6 (omega (arith, r.global)) refl (next + 4 * arena_words size) refl
      (omega arith) (omega arith)))
      (leaves_on (lw 4 65520 28 ∷ []) (lw 6 12 12 ∷ ori 2 0 68 ∷ []) 0 4 0 f7 f8 f10
      (one_loads (lw 4 65520 28) 0 4 f7 f8 refl refl
      (load_cell 4 65520 28 NEXT_FUNCTION_CELL f7 (omega (arith, r.global)) refl (omega arith) (omega arith)
      ∙ ap (λ x. Loads 4 (set 4 x f7)) same_function))
      (leaves_on (lw 6 12 12 ∷ []) (ori 2 0 68 ∷ []) 4 6 0 f8 f9 f10
      (one_loads (lw 6 12 12) 4 6 f8 f9 refl refl
      (load_closure 6 12 12 (a + 12) f8 (omega (arith, r.closure, r.from, r.to)) (omega (arith, r.even))
      (omega (arith, r.from)) (omega (arith, r.to)) ∙ ap (λ x. Loads 6 (set 6 x f8)) r.parameters_is))
      (λ rest. refl))))

  -- the answer
  abbrev f11 : Data
  f11 = data_behind (Publish function next parameters) f10

  abbrev f12 : Data
  f12 = set 31 ra f11

  abbrev f13 : Data
  f13 = set 5 (suc function) f12

  abbrev f14 : Data
  f14 = record f13 { cells = with_word NEXT_FUNCTION_CELL (suc function) f13.cells }

  answers : Leaves answer_code 0 f11 0 f14
  answers =
      let n : wrap (function + 1) ≡ suc function = omega (arith, r.row) in
      leaves_on (lw 31 65528 15 ∷ []) (addiu 5 4 1 ∷ sw 5 65520 28 ∷ []) 0 31 0 f11 f12 f14
      (one_loads (lw 31 65528 15) 0 31 f11 f12 refl refl
      (load_emits 31 65528 15 EMIT_STACK f11 (omega (arith, r.pointer)) refl (omega arith) (omega arith)
      ∙ ap (λ x. Loads 31 (set 31 x f11)) r.link))
      (leaves_on (addiu 5 4 1 ∷ []) (sw 5 65520 28 ∷ []) 31 0 0 f12 f13 f14 (λ rest. rw n refl)
      (one_leaves (sw 5 65520 28) 0 f13 f14 refl refl
      (store_cell 5 65520 28 NEXT_FUNCTION_CELL f13 (omega (arith, r.global)) refl (suc function) refl (omega arith)
      (omega arith))))

  -- and back
  abbrev pub f15 : Data
  f15 = set 2 function f14

  returns : (c : Code) (p : ℕ) → HasAt c p back_code → Reaches 2 (at c p 0 f14) (at c ra 0 f15)
  returns c p h =
      let t = in_slot c p ra f14 in
      let n : wrap (function + 0) ≡ function = omega (arith, r.row) in
      record {
        by = ap step (step_acts (jr 31) (at c p 0 f14) h.0 refl) ∙ step_acts (addu 2 4 0) t h.1.0 refl
            ∙ (rw n refl);
      }

  abbrev pub c1 : Code → Code
  c1 c = code_behind finish_call c

  abbrev pub c2 : Code → Code
  c2 c = code_behind (Flush next (length words)) (c1 c)

  abbrev pub flush_call : Call
  flush_call = Flush next (length words)

  -- up to the service that flushes, with the function finished
  abbrev pub p8 : ℕ → ℕ
  p8 p = p + 4 + 4 + 4 + 4 + 4 + 4 + 4 + 4

  behind_finish : (c : Code) (p : ℕ) → HasAt c p make_code → past p make_code ≤ ARENA →
      HasAt (c1 c) (p + 4 + 4 + 4 + 4 + 4 + 4) rest6
  behind_finish c p h low =
      text_stays finish_call c (p + 4 + 4 + 4 + 4 + 4 + 4) rest6 low (back c p finish_code rest6 h)

  pub finish_goes : (c : Code) (p : ℕ) → HasAt c p make_code → past p make_code ≤ ARENA →
      RunsWith (finish_call ∷ []) 8 (at c p 0 e) (at (c1 c) (p8 p) 0 f4)
  finish_goes c p h low =
      let p6 = p + 4 + 4 + 4 + 4 + 4 + 4 in
      let r1 = runs_call finish_call {k = 5} {a = p + 4 + 4 + 4 + 4 + 4} {l = 0} {c = c} {d = f2} {s = at c p 0 e}
      (leaves_run (lw 4 65516 28 ∷ srl 5 13 2 ∷ srl 6 13 4 ∷ addiu 6 6 112 ∷ ori 2 0 66 ∷ []) c 0 0 p e f2 finishes
      (front c p (lw 4 65516 28 ∷ srl 5 13 2 ∷ srl 6 13 4 ∷ addiu 6 6 112 ∷ ori 2 0 66 ∷ []) (syscall ∷ rest6) h)) refl
      (record {
        stands = (back c p (lw 4 65516 28 ∷ srl 5 13 2 ∷ srl 6 13 4 ∷ addiu 6 6 112 ∷ ori 2 0 66 ∷ []) (syscall ∷ rest6)
            h).0;
        quiet = refl;
        called = (refl, refl, refl, refl);
      }) in
      runs_then {m = 6} {k = 2} r1
      (leaves_run (addu 5 2 0 ∷ ori 2 0 67 ∷ []) (c1 c) 0 0 p6 f3 f4 flushes
      (front (c1 c) p6 (addu 5 2 0 ∷ ori 2 0 67 ∷ []) (syscall ∷ tail_code) (behind_finish c p h low))) refl

  pub flush_asks : (c : Code) (p : ℕ) → HasAt c p make_code → past p make_code ≤ ARENA →
      Asks flush_call (c1 c) (p8 p) 0 f4
  flush_asks c p h low = record {
    stands = (back (c1 c) (p + 4 + 4 + 4 + 4 + 4 + 4) (addu 5 2 0 ∷ ori 2 0 67 ∷ []) (syscall ∷ tail_code)
        (behind_finish c p h low)).0;
    quiet = refl;
    called = (refl, refl, refl);
  }

  pub tail_stands : (c : Code) (p : ℕ) → HasAt c p make_code → past p make_code ≤ ARENA →
      HasAt (c2 c) (p8 p + 4) tail_code
  tail_stands c p h low =
      text_stays flush_call (c1 c) (p8 p + 4) tail_code low
      (back (c1 c) (p + 4 + 4 + 4 + 4 + 4 + 4) flush_code tail_code (behind_finish c p h low))

  -- and behind it, up to the service that publishes
  pub publish_comes : (k : Code) (p : ℕ) → HasAt k p tail_code →
      Own 6 (at k p 0 f5) (at k (p + 4 + 4 + 4 + 4 + 4 + 4) 0 f10)
  publish_comes k p h = record {
    by = leaves_run (addu 5 4 0 ∷ addu 13 13 4 ∷ sw 13 65516 28 ∷ lw 4 65520 28 ∷ lw 6 12 12 ∷ ori 2 0 68 ∷ []) k 0 0
        p f5 f10 publishes
        (front k p (addu 5 4 0 ∷ addu 13 13 4 ∷ sw 13 65516 28 ∷ lw 4 65520 28 ∷ lw 6 12 12 ∷ ori 2 0 68 ∷ [])
        (syscall ∷ (answer_code ++ back_code)) h);
    kept = refl;
  }

  pub tail_goes : (k : Code) (p : ℕ) → HasAt k p tail_code →
      RunsWith (Publish function next parameters ∷ []) 12 (at k p 0 f5) (at k ra 0 f15)
  tail_goes k p h =
      let p16 = p + 4 + 4 + 4 + 4 + 4 + 4 + 4 in
      let p19 = p16 + 4 + 4 + 4 in
      let h16 : HasAt k p16 (answer_code ++ back_code) = back k p publish_code (answer_code ++ back_code) h in
      let r3 = runs_call (Publish function next parameters) {k = 6} {a = p + 4 + 4 + 4 + 4 + 4 + 4} {l = 0} {c = k}
      {d = f10} {s = at k p 0 f5}
      (publish_comes k p h).by refl
      (record {
        stands = (back k p (addu 5 4 0 ∷ addu 13 13 4 ∷ sw 13 65516 28 ∷ lw 4 65520 28 ∷ lw 6 12 12 ∷ ori 2 0 68 ∷ [])
            (syscall ∷ (answer_code ++ back_code)) h).0;
        quiet = refl;
        called = (refl, refl, refl, refl);
      }) in
      let r4 = reaches_on {k = 3} {n = 2}
      (leaves_run answer_code k 0 0 p16 f11 f14 answers (front k p16 answer_code back_code h16))
      (returns k p19 (back k p16 answer_code back_code h16)) in
      runs_then {m = 7} {k = 5} r3 r4 refl

  pub make_goes : (c : Code) (p : ℕ) → HasAt c p make_code → past p make_code ≤ ARENA →
      RunsWith (Finish next (arena_words size) (frame_bytes size) words ∷ Flush next (length words)
      ∷ Publish function next parameters ∷ []) 21 (at c p 0 e) (at (c2 c) ra 0 f15)
  make_goes c p h low =
      let called = runs_call flush_call {k = 0} {a = p8 p} {l = 0} {c = c1 c} {d = f4} {s = at (c1 c) (p8 p) 0 f4}
      (record { by = refl }) refl (flush_asks c p h low) in
      runs_on {xs = finish_call ∷ []} {m = 8} {n = 13} (finish_goes c p h low)
      (runs_on {xs = flush_call ∷ []} {m = 1} {n = 12} called
      (tail_goes (c2 c) (p8 p + 4) (tail_stands c p h low)))

  pub kept : (q : ℕ) → KeepsRegister q → f15.registers q ≡ e.registers q
  kept q k =
      let t2 = ne_eqb q 2 (away q 2 k (omega arith)) in
      let t4 = ne_eqb q 4 (away q 4 k (omega arith)) in
      let t5 = ne_eqb q 5 (away q 5 k (omega arith)) in
      let t6 = ne_eqb q 6 (away q 6 k (omega arith)) in
      let t13 = ne_eqb q 13 (λ is. not_13 k is) in
      let t31 = ne_eqb q 31 (λ is. not_31 k is) in
      rw (t2, t4, t5, t6, t13, t31) refl
    where
      away : (q t : ℕ) → KeepsRegister q → t < 8 → q ≢ t
      away q t (inl a) l is = omega (arith, a.0, l, is)
      away q t (inr (inl a)) l is = omega (arith, a.0, l, is)
      away q t (inr (inr a)) l is = omega (arith, a.0, l, is)

      not_13 : KeepsRegister q → q ≡ 13 → ⊥
      not_13 (inl a) is = omega (arith, a.1, is)
      not_13 (inr (inl a)) is = omega (arith, a.0, is)
      not_13 (inr (inr a)) is = omega (arith, a.0, is)

      not_31 : KeepsRegister q → q ≡ 31 → ⊥
      not_31 (inl a) is = omega (arith, a.1, is)
      not_31 (inr (inl a)) is = omega (arith, a.1, is)
      not_31 (inr (inr a)) is = a.1 is

  pub left : others f15 ≡ made_data function next parameters size e
  left = refl
