-- An op that calls the routine of malloc.
use Rattle.std.proofs.Common.{◌≡◌, inl, inr, ℕ, ◌+◌, ◌-◌, ◌*◌, ◌/◌, ◌%◌, ◌<◌, ◌≤◌, List, [], ◌∷◌, ◌++◌, refl, sym, ap}
use Rattle.std.proofs.Common.{◌∙◌, subst, arith, nat_le}
use Rattle.std.proofs.lemmas.Bool.{cases_Bool}
use Rattle.word32.specs.Space.{update}
use Rattle.word32.specs.declared.map.TheConstants.{FRAMES, NEXT_HEAP_CELL, SEGMENT_BYTES}
use Rattle.mips_encoder.specs.declared.instruction.Instr.{Instr}
use Rattle.mips_encoder.specs.Addresses.{past}
use Rattle.mips_model.specs.State.{Code, Data}
use Rattle.mips_model.specs.Laws.{HasAt, at, Reaches}
use Rattle.mips_model.specs.Steps.{going}
use Rattle.mips_model.proofs.Reach.{front, back, past_append, step_acts}
use Rattle.icode_ops.specs.Kinds.{run_number}
use Rattle.icode_ops.specs.declared.kind.RunKind.TheVariants.{Malloc}
use Rattle.meaning_state.specs.Shared.{Shared, malloc_answer}
use Rattle.icode_templates.specs.Layout.{Spot}
use Rattle.mips_assembly.specs.Assembly.{addu, jal, nop}
use Rattle.icode_templates.specs.Templates.{in_code, out_code, routine_code, routine_address}
use Rattle.icode_templates_proof.specs.Spots.{pointer, value, Framed, Usable, KeepsSpots}
use Rattle.icode_templates_proof.specs.Moves.{Runs, Writes}
use Rattle.icode_templates_proof.proofs.Leaves.{Leaves, leaves_run, runs_on, runs_within, runs_to}
use Rattle.icode_templates_proof.proofs.Keeping.{with_registers, keeps_on, keeps_write, not_24}
use Rattle.icode_templates_proof.proofs.Operands.{one_in, in_leaves, keeps_one, in_between}
use Rattle.icode_templates_proof.proofs.Serving.{argument, argument_is}
use Rattle.icode_templates_proof.proofs.Templates.{finish}
use Rattle.icode_templates_proof.proofs.Jumps.{in_slot, slot_runs}
use Rattle.icode_templates_proof.specs.Malloc.{malloc_code, allotted}
use Rattle.icode_templates_proof.specs.MallocLaws.{Answers, HasHeap, linked, return_address}
use Rattle.icode_templates_proof.proofs.Kept.{and_write, allotted_keeps, allotted_registers, linked_keeps}
use Rattle.icode_templates_proof.proofs.Answered.{malloc_answered}

-- a call of a routine leaves its return address in $ra
pub call_reaches : (c : Code) (a target : ℕ) (d : Data) → a + 4 + 4 < SEGMENT_BYTES → target < SEGMENT_BYTES →
    target % 4 ≡ 0 → HasAt c a (jal target ∷ nop ∷ []) →
    Reaches 2 (at c a 0 d) (at c target 0 (linked (a + 4 + 4) d))
call_reaches c a target d low near even h =
    let e : (a + 4) / SEGMENT_BYTES * SEGMENT_BYTES + 4 * (target / 4) ≡ target = omega (arith, low, even) in
    let e' : (a + 4 + 4) % 4294967296 ≡ a + 4 + 4 = omega (arith, low) in
    slot_runs c a 0 target d (linked (a + 4 + 4) d) (step_acts (jal target) (at c a 0 d) h.0 refl
    ∙ ap (λ t. going (in_slot c a t (linked ((a + 4 + 4) % 4294967296) d))) e
    ∙ ap (λ n. going (in_slot c a target (linked n d))) e') h.1.0

-- the answer is a word
pub answer_word : (x : ℕ) (shared : Shared) → shared.heap ≤ FRAMES → malloc_answer x shared < 4294967296
answer_word x shared h = elim (cases_Bool (nat_le x (FRAMES - shared.heap))) [
  | inl t ↦ rw t (omega (arith, h))
  | inr t ↦ rw t (omega arith)
]

-- an answer from $v0 to $t8
abbrev pub brought : Data → Data
brought d = with_registers (update 24 ((d.registers 2 + 0) % 4294967296) d.registers) d

module _ (c : Code) (a bytes : ℕ) (shared : Shared) (d : Data) (w v : Spot) (low : past a (in_code v) + 12 <
    SEGMENT_BYTES) (f : Framed (pointer d) bytes) (u : Usable bytes w) (u' : Usable bytes v) (b : value d v <
    4294967296) (has : HasHeap shared.heap d) (stands : HasAt c (routine_address (run_number Malloc)) malloc_code) (h :
    HasAt c a (in_code v ++ (routine_code (run_number Malloc) ++ out_code w))) where
  abbrev here : ℕ
  here = past a (in_code v)

  abbrev block : ℕ
  block = routine_address (run_number Malloc)

  abbrev to : ℕ
  to = return_address a v

  -- the argument came in, and then to $a0
  abbrev mid : Data
  mid = one_in v d

  abbrev passed : Data
  passed = with_registers (update 4 (argument mid) mid.registers) mid

  -- the routine is entered
  abbrev entered : Data
  entered = linked to passed

  abbrev base : Data
  base = allotted (value d v) (linked to d)

  tail : HasAt c here (routine_code (run_number Malloc) ++ out_code w)
  tail = back c a (in_code v) (routine_code (run_number Malloc) ++ out_code w) h

  passed_keeps : KeepsSpots d passed
  passed_keeps = and_write 4 (argument mid) mid (omega arith) (keeps_one v d)

  entered_keeps : KeepsSpots (linked to d) entered
  entered_keeps = linked_keeps to passed_keeps

  moves : Leaves (addu 4 24 0 ∷ []) 0 mid 0 passed
  moves rest = refl

  comes : Runs 4 7 (at c a 0 d) (at c block 0 entered)
  comes =
      let n = in_between v in
      let first = leaves_run (in_code v) c 0 0 a d mid (in_leaves d bytes v f u' b)
      (front c a (in_code v) (routine_code (run_number Malloc) ++ out_code w) h) in
      let second = leaves_run (addu 4 24 0 ∷ []) c 0 0 here mid passed moves (tail.0, tt) in
      let third = call_reaches c (here + 4) block passed (omega (arith, low)) (omega arith) refl
      (tail.1.0, (tail.1.1.0, tt)) in
      runs_on {l = 2} {m = 5}
      (runs_on {l = 1} {m = 4} (runs_within n.over n.under first)
      (runs_within {l = 1} {m = 1} (omega arith) (omega arith) second))
      (runs_within {l = 2} {m = 2} (omega arith) (omega arith) third)

  has_heap : HasHeap shared.heap entered
  has_heap = record {
    global = passed_keeps.registers 28 (omega arith, omega arith, omega arith) ∙ has.global;
    cell = ap (λ (f : ℕ → ℕ). f (NEXT_HEAP_CELL / 4)) passed_keeps.world.cells ∙ has.cell;
    within = has.within;
  }

  given : argument mid ≡ value d v
  given = argument_is v d b

  answers : Answers (malloc_answer (value d v) shared) 9 15 (at c block 0 entered) c to
      (allotted (value d v) entered)
  answers =
      subst (λ x. Answers (malloc_answer x shared) 9 15 (at c block 0 entered) c to (allotted x entered)) given
      (malloc_answered c block shared entered (omega arith) has_heap (subst (λ n. n < 4294967296) (sym given) b)
      stands)

  pub malloc_called :
      Writes w (malloc_answer (value d v) shared) 15 26 (at c a 0 d) c
      (past a (in_code v ++ (routine_code (run_number Malloc) ++ out_code w))) base
  malloc_called =
      let x = malloc_answer (value d v) shared in
      let word = answer_word (value d v) shared has.within in
      let last = answers.after in
      let is : List Instr = addu 24 2 0 ∷ [] in
      let leaves : Leaves is 0 last 0 (brought last) = λ rest. refl in
      let kept : KeepsSpots base last = keeps_on (allotted_keeps (value d v) entered_keeps) answers.keeps in
      let same : (last.registers 2 + 0) % 4294967296 ≡ x = omega (arith, answers.answer, word) in
      let done : Writes w x 2 4 (at c to 0 last) c (past to (is ++ out_code w)) base =
      finish (is ++ out_code w) is 1 1 c to bytes last base (brought last) w x refl
      (subst (λ (r : ℕ → ℕ). Framed (r 29) bytes) (sym (allotted_registers (value d v) (linked to d))) f) u word
      (record { over = omega arith; under = omega arith }) leaves
      (keeps_on kept (keeps_write 24 ((last.registers 2 + 0) % 4294967296) last not_24)) same tail.1.1.1 in
      record {
        after = done.after;
        runs = runs_to {d = done.after}
            (sym (past_append a (in_code v) (routine_code (run_number Malloc) ++ out_code w)))
            (runs_on {l = 13} {m = 22} {s2 = at c (past to (is ++ out_code w)) 0 done.after}
            (runs_on {l = 4} {m = 7} comes answers.runs) done.runs);
        puts = done.puts;
      }
