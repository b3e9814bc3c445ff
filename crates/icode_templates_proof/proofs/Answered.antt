-- The routine of malloc, whole.
use Rattle.std.proofs.Common.{◌≡◌, inl, inr, ℕ, ◌+◌, ◌-◌, ◌*◌, ◌/◌, ◌%◌, ◌<◌, ◌≤◌, true, false, ◌++◌, refl, ap, ◌∙◌}
use Rattle.std.proofs.Common.{sym, subst, arith, nat_lt, nat_le}
use Rattle.std.proofs.lemmas.Bool.{cases_lt}
use Rattle.std.proofs.lemmas.Bool.Decides.{nat_tests}
use Rattle.word32.specs.Space.{update}
use Rattle.word32.specs.declared.map.TheConstants.{FRAMES, SEGMENT_BYTES}
use Rattle.mips_model.specs.State.{Code, Data}
use Rattle.mips_model.specs.Accesses.{Branches}
use Rattle.mips_model.specs.Arithmetic.{bit}
use Rattle.mips_model.specs.Effects.{effect}
use Rattle.mips_encoder.specs.Addresses.{past}
use Rattle.mips_model.specs.Laws.{HasAt, at, Reaches}
use Rattle.mips_model.proofs.Reach.{front, back, reaches_on}
use Rattle.meaning_state.specs.Shared.{Shared, malloc_answer}
use Rattle.mips_assembly.specs.Assembly.{bne}
use Rattle.icode_templates_proof.specs.Spots.{KeepsSpots}
use Rattle.icode_templates_proof.proofs.Leaves.{leaves_run, runs_within}
use Rattle.icode_templates_proof.proofs.Keeping.{with_registers, keeps_same}
use Rattle.icode_templates_proof.proofs.Jumps.{branch_reaches}
use Rattle.icode_templates_proof.specs.Malloc.{measure_code, pass_code, take_code, return_code, malloc_code, heap_of}
use Rattle.icode_templates_proof.specs.Malloc.{with_heap}
use Rattle.icode_templates_proof.specs.Malloc.{allotted}
use Rattle.icode_templates_proof.specs.MallocLaws.{Answers, HasHeap}
use Rattle.icode_templates_proof.proofs.Blocks.{rest_of, measured, measure_leaves, more, eights, rounded, moved, taken}
use Rattle.icode_templates_proof.proofs.Blocks.{take_leaves, return_reaches}
use Rattle.icode_templates_proof.proofs.Kept.{and_write, heap_keeps}

-- what the stretches keep
measured_keeps : (d : Data) → KeepsSpots d (measured d)
measured_keeps d =
    let d1 = with_registers (update 3 (heap_of d) d.registers) d in
    let d2 = with_registers (update 2 FRAMES d1.registers) d in
    let d3 = with_registers (update 2 (rest_of d) d2.registers) d in
    let d4 = with_registers (update 1 (bit (nat_lt (rest_of d) (d.registers 4))) d3.registers) d in
    and_write 2 0 d4 (omega arith)
    (and_write 1 (bit (nat_lt (rest_of d) (d.registers 4))) d3 (omega arith)
    (and_write 2 (rest_of d) d2 (omega arith) (and_write 2 FRAMES d1 (omega arith)
    (and_write 3 (heap_of d) d (omega arith) (keeps_same d)))))

taken_keeps : (x : ℕ) (before d : Data) → moved d ≡ x → KeepsSpots before d → KeepsSpots (with_heap x before) (taken d)
taken_keeps x before d e k =
    let d1 = with_registers (update 2 ((d.registers 3 + 0) % 4294967296) d.registers) d in
    let d2 = with_registers (update 4 (more d) d1.registers) d in
    let d3 = with_registers (update 4 (eights d) d2.registers) d in
    let d4 = with_registers (update 4 (rounded d) d3.registers) d in
    heap_keeps x (moved d) e
    (and_write 4 (moved d) d4 (omega arith) (and_write 4 (rounded d) d3 (omega arith)
    (and_write 4 (eights d) d2 (omega arith) (and_write 4 (more d) d1 (omega arith)
    (and_write 2 ((d.registers 3 + 0) % 4294967296) d (omega arith) k)))))

-- the place behind what was taken is no larger than a word
place_behind : (bytes heap : ℕ) → bytes ≤ FRAMES - heap → heap ≤ FRAMES →
    ((bytes + 7) % 4294967296 / 8 * 8 % 4294967296 + heap) % 4294967296 ≡ heap + (bytes + 7) / 8 * 8
place_behind bytes heap room within = omega (arith, room, within)

module _ (c : Code) (entry heap : ℕ) (d : Data) (low : entry < SEGMENT_BYTES) (has : HasHeap heap d) (b : d.registers 4
    < 4294967296) (h : HasAt c entry malloc_code) where
  abbrev bytes : ℕ
  bytes = d.registers 4

  abbrev branch_at : ℕ
  branch_at = past entry measure_code

  abbrev take_at : ℕ
  take_at = past branch_at pass_code

  abbrev return_at : ℕ
  return_at = past take_at take_code

  in_cell : heap_of d ≤ FRAMES
  in_cell = subst (λ n. n ≤ FRAMES) (sym has.cell) has.within

  tail : HasAt c branch_at (pass_code ++ (take_code ++ return_code))
  tail = back c entry measure_code (pass_code ++ (take_code ++ return_code)) h

  taking : HasAt c take_at (take_code ++ return_code)
  taking = back c branch_at pass_code (take_code ++ return_code) tail

  returning : HasAt c return_at return_code
  returning = back c take_at take_code return_code taking

  measures : Reaches 5 (at c entry 0 d) (at c branch_at 0 (measured d))
  measures =
      leaves_run measure_code c 0 0 entry d (measured d) (measure_leaves d has.global)
      (front c entry measure_code (pass_code ++ (take_code ++ return_code)) h)

  rest_is : rest_of d ≡ FRAMES - heap_of d
  rest_is = omega (arith, in_cell)

  -- there is room
  takes : bytes ≤ FRAMES - heap_of d →
      Answers (heap_of d) 9 15 (at c entry 0 d) c (d.registers 31) (with_heap (heap_of d + (bytes + 7) / 8 * 8) d)
  takes room =
      let m = measured d in
      let l : nat_lt (rest_of d) bytes ≡ false = grind (arith, nat_tests, rest_is, room) in
      let t : effect (bne 1 0 7) m ≡ Branches false 7 = rw l refl in
      let first = branch_reaches (bne 1 0 7) c branch_at 7 take_at false m refl refl t refl tail.0 tail.1.0 in
      let second = leaves_run take_code c 0 0 take_at m (taken m) (take_leaves m has.global)
      (front c take_at take_code return_code taking) in
      let third = return_reaches c return_at (taken m) returning in
      record {
        after = taken m;
        runs = runs_within {k = 15} (omega arith) (omega arith)
            (reaches_on (reaches_on measures first) (reaches_on second third));
        answer = omega (arith, in_cell);
        keeps = taken_keeps (heap_of d + (bytes + 7) / 8 * 8) d m (place_behind bytes (heap_of d) room in_cell)
            (measured_keeps d);
      }

  -- there is none
  passes : FRAMES - heap_of d < bytes → Answers 0 9 15 (at c entry 0 d) c (d.registers 31) d
  passes full =
      let m = measured d in
      let l : nat_lt (rest_of d) bytes ≡ true = grind (arith, nat_tests, rest_is, full) in
      let t : effect (bne 1 0 7) m ≡ Branches true 7 = rw l refl in
      let to : (branch_at + 4 + 28) % 4294967296 ≡ return_at = omega (arith, low) in
      let first = branch_reaches (bne 1 0 7) c branch_at 7 return_at true m refl refl t to tail.0 tail.1.0 in
      let second = return_reaches c return_at m returning in
      record {
        after = m;
        runs = runs_within {k = 9} (omega arith) (omega arith) (reaches_on (reaches_on measures first) second);
        answer = refl;
        keeps = measured_keeps d;
      }

pub malloc_answered : (c : Code) (entry : ℕ) (shared : Shared) (d : Data) → entry < SEGMENT_BYTES →
    HasHeap shared.heap d → d.registers 4 < 4294967296 → HasAt c entry malloc_code
    → Answers (malloc_answer (d.registers 4) shared) 9 15 (at c entry 0 d) c (d.registers 31)
    (allotted (d.registers 4) d)
malloc_answered c entry shared d low has b h =
    elim (cases_lt (FRAMES - heap_of d) (d.registers 4)) [
      | inl full ↦ let e : nat_le (d.registers 4) (FRAMES - heap_of d) ≡ false = grind (arith, nat_tests, full) in
          let e' : nat_le (d.registers 4) (FRAMES - shared.heap) ≡ false =
          ap (λ n. nat_le (d.registers 4) (FRAMES - n)) (sym has.cell) ∙ e in
          rw (e, e') (passes c entry shared.heap d low has b h full)
      | inr room ↦ let e : nat_le (d.registers 4) (FRAMES - heap_of d) ≡ true = grind (arith, nat_tests, room) in
          let e' : nat_le (d.registers 4) (FRAMES - shared.heap) ≡ true =
          ap (λ n. nat_le (d.registers 4) (FRAMES - n)) (sym has.cell) ∙ e in
          rw (e, e') (subst (λ x. Answers x 9 15 (at c entry 0 d) c (d.registers 31)
          (with_heap (heap_of d + (d.registers 4 + 7) / 8 * 8) d)) has.cell
          (takes c entry shared.heap d low has b h room))
    ]
