-- The prologue within the limit of the stack, and the exit behind main.
use Rattle.std.proofs.Common.{◌≡◌, ◌≢◌, ℕ, ◌+◌, ◌-◌, ◌*◌, ◌/◌, ◌%◌, ◌<◌, ◌≤◌, true, false, List, [], ◌∷◌, ◌++◌}
use Rattle.std.proofs.Common.{length, refl, sym, ap, ◌∙◌, subst, arith, nat_lt}
use Rattle.std.specs.Fn.{iterate}
use Rattle.std.proofs.lemmas.Bool.Decides.{nat_tests}
use Rattle.word32.specs.declared.map.TheConstants.{SEGMENT_BYTES, STACK, STACK_BYTES}
use Rattle.pace.proofs.Runs.{iterate_add}
use Rattle.word32.specs.Words.{difference}
use Rattle.word32.specs.Space.{update}
use Rattle.host_edge.specs.declared.ending.Ending.TheVariants.{Done}
use Rattle.history.specs.Events.{Ended}
use Rattle.mips_encoder.specs.declared.instruction.Instr.{Instr}
use Rattle.mips_encoder.specs.Addresses.{past}
use Rattle.mips_model.specs.State.{Code, Data}
use Rattle.mips_model.specs.Arithmetic.{bit}
use Rattle.mips_model.specs.Accesses.{Branches}
use Rattle.mips_model.specs.Effects.{effect}
use Rattle.mips_model.specs.Steps.{Is, step, going, ended, fetch}
use Rattle.mips_model.specs.Laws.{HasAt, at, Reaches}
use Rattle.mips_model.proofs.Reach.{step_acts, reaches_on}
use Rattle.mips_assembly.specs.Assembly.{addu, subu, sltu, ori, lui, sw, beq, jr, syscall, nop, constant}
use Rattle.icode_templates.specs.Frames.{saves, take_frame}
use Rattle.icode_saves.specs.Laws.{AllPlaces}
use Rattle.icode_templates_proof.specs.Spots.{pointer, frame_word, Framed, IsKept, SameWorld, KeepsSpots}
use Rattle.icode_templates_proof.proofs.Memory.{update_same, update_other}
use Rattle.icode_templates_proof.proofs.Leaves.{Leaves, leaves_on, leaves_run}
use Rattle.icode_templates_proof.proofs.Keeping.{with_registers, keeps_on, keeps_write, not_1, not_24, not_25}
use Rattle.icode_templates_proof.proofs.Jumps.{slot_runs, branch_reaches}
use Rattle.icode_templates_proof.proofs.Templates.{constant_parts}
use Rattle.icode_expand_proof.specs.Standing.{exit_code}
use Rattle.icode_expand_proof.proofs.Saving.{word_put, store_leaves, saved_all, saves_leave}
use Rattle.icode_expand_proof.proofs.Saving.{saves_registers, saves_world, saves_above}

-- the charge to $at, and the test of the new stack pointer
abbrev pub test_code : ℕ → List Instr
test_code frame = constant 1 frame ++ (subu 24 29 1 ∷ lui 25 32512 ∷ sltu 25 24 25 ∷ [])

abbrev tested : ℕ → ℕ → Data → Data
tested h x d = with_registers (update 25 (bit (nat_lt (difference (pointer d) x) STACK))
    (update 25 STACK (update 24 (difference (pointer d) x) (update 1 x (update 1 h d.registers))))) d

abbrev pub charged : ℕ → Data → Data
charged frame d = tested (frame / 65536 * 65536) frame d

pub frame_tests : (frame : ℕ) (d : Data) → Leaves (test_code frame) 0 d 0 (charged frame d)
frame_tests frame d = subst (λ x. Leaves (test_code frame) 0 d 0 (tested (frame / 65536 * 65536) x d))
    (constant_parts frame) (λ rest. refl)

-- code but for its first instruction, and the data behind that
abbrev pub rest_of : List Instr → List Instr
rest_of [] = []
rest_of (i ∷ is) = is

abbrev pub begun_first : ℕ → Data → Data
begun_first frame d = with_registers (update 1 (frame / 65536 * 65536) d.registers) d

pub frame_tests_on : (frame : ℕ) (d : Data)
    → Leaves (rest_of (test_code frame)) 0 (begun_first frame d) 0 (charged frame d)
frame_tests_on frame d = subst (λ x. Leaves (rest_of (test_code frame)) 0 (begun_first frame d) 0
    (tested (frame / 65536 * 65536) x d)) (constant_parts frame) (λ rest. refl)

pub first_reaches : (frame : ℕ) (c : Code) (a : ℕ) (d : Data) → fetch c a ≡ Is (lui 1 (frame / 65536))
    → step (going (at c a 0 d)) ≡ going (at c (a + 4) 0 (begun_first frame d))
first_reaches frame c a d stands = step_acts (lui 1 (frame / 65536)) (at c a 0 d) stands refl

charged_keeps : (frame : ℕ) (d : Data) → KeepsSpots d (charged frame d)
charged_keeps frame d =
    let h = frame / 65536 * 65536 in
    let x = difference (pointer d) frame in
    let d1 = with_registers (update 1 h d.registers) d in
    let d2 = with_registers (update 1 frame d1.registers) d in
    let d3 = with_registers (update 24 x d2.registers) d in
    let d4 = with_registers (update 25 STACK d3.registers) d in
    keeps_on (keeps_write 1 h d not_1)
    (keeps_on (keeps_write 1 frame d1 not_1)
    (keeps_on (keeps_write 24 x d2 not_24) (keeps_on (keeps_write 25 STACK d3 not_25)
    (keeps_write 25 (bit (nat_lt x STACK)) d4 not_25))))

-- what the prologue leaves: the frame is taken, and its caller's address saved
pub record Entered (frame : ℕ) (d after : Data) : Type 0 where
  pub pointer_is : pointer after ≡ pointer d - frame
  pub address : frame_word after 80 ≡ d.registers 31
  pub registers : (r : ℕ) → IsKept r → r ≢ 29 → after.registers r ≡ d.registers r
  pub stack : (n : ℕ) → pointer d / 4 ≤ n → after.stack n ≡ d.stack n
  pub world : SameWorld d after

abbrev moved : ℕ → Data → Data
moved sp d = with_registers (update 29 sp d.registers) d

abbrev taken : ℕ → ℕ → Data → Data
taken sp frame d = word_put 80 (d.registers 31) (moved sp (charged frame d))

abbrev pub behind_test : List ℕ → List Instr
behind_test kept = addu 29 24 0 ∷ sw 31 80 29 ∷ saves kept

-- the data behind the prologue
abbrev pub enters_with : ℕ → List ℕ → Data → Data
enters_with frame kept d = saved_all kept (taken (pointer d - frame) frame d)

module _ (frame : ℕ) (kept : List ℕ) (c : Code) (a : ℕ) (d : Data) (all : AllPlaces kept) (big : 128 ≤ frame)
    (small : frame ≤ STACK_BYTES) (whole : frame % 4 ≡ 0) (low : a < SEGMENT_BYTES) (over : frame + STACK ≤ pointer d)
    (top : pointer d ≤ 2147483648) (even : pointer d % 4 ≡ 0) (h : HasAt c a (take_frame frame ++ saves kept)) where
  abbrev sp : ℕ
  sp = pointer d - frame

  sp_is : difference (pointer d) frame ≡ sp
  sp_is = omega (arith, over, top, small)

  framed : Framed sp frame
  framed = record { from = omega (arith, over); to = omega (arith, over, top); even = omega (arith, even, whole, over) }

  test_passes : effect (beq 25 0 2) (charged frame d) ≡ Branches true 2
  test_passes =
      let e : nat_lt (difference (pointer d) frame) STACK ≡ false = grind (arith, nat_tests, sp_is, over) in
      rw e refl

  abbrev behind : Data
  behind = saved_all kept (taken sp frame d)

  move_leaves : Leaves (addu 29 24 0 ∷ []) 0 (charged frame d) 0 (moved sp (charged frame d))
  move_leaves rest =
      let e : (difference (pointer d) frame + 0) % 4294967296 ≡ sp = omega (arith, sp_is, top) in rw e refl

  moved_pointer : pointer (moved sp (charged frame d)) ≡ sp
  moved_pointer = update_same 29 sp (charged frame d).registers

  framed_moved : Framed (pointer (moved sp (charged frame d))) frame
  framed_moved = subst (λ n. Framed n frame) (sym moved_pointer) framed

  rest_leaves : Leaves (behind_test kept) 0 (charged frame d) 0 behind
  rest_leaves =
      leaves_on (addu 29 24 0 ∷ []) (sw 31 80 29 ∷ saves kept) 0 0 0 (charged frame d) (moved sp (charged frame d))
      behind move_leaves
      (leaves_on (sw 31 80 29 ∷ []) (saves kept) 0 0 0 (moved sp (charged frame d)) (taken sp frame d) behind
      (store_leaves 31 80 frame (moved sp (charged frame d)) refl framed_moved (omega arith) (omega (arith, big)) refl)
      (saves_leave kept frame (taken sp frame d) all framed_moved big))

  abbrev branch_at : ℕ
  branch_at = a + 4 + 4 + 4 + 4 + 4

  tests : Reaches 5 (at c a 0 d) (at c branch_at 0 (charged frame d))
  tests = leaves_run (test_code frame) c 0 0 a d (charged frame d) (frame_tests frame d)
      (h.0, (h.1.0, (h.1.1.0, (h.1.1.1.0, (h.1.1.1.1.0, tt)))))

  passes : Reaches 2 (at c branch_at 0 (charged frame d)) (at c (branch_at + 4 + 4 + 4) 0 (charged frame d))
  passes = branch_reaches (beq 25 0 2) c branch_at 2 (branch_at + 4 + 4 + 4) true (charged frame d) refl refl
      test_passes (omega (arith, low)) h.1.1.1.1.1.0 h.1.1.1.1.1.1.0

  saves_run : Reaches (length (behind_test kept)) (at c (branch_at + 4 + 4 + 4) 0 (charged frame d))
      (at c (past a (take_frame frame ++ saves kept)) 0 behind)
  saves_run = leaves_run (behind_test kept) c 0 0 (branch_at + 4 + 4 + 4) (charged frame d) behind rest_leaves
      h.1.1.1.1.1.1.1.1

  pub prologue_reaches : Reaches (5 + 2 + length (behind_test kept)) (at c a 0 d)
      (at c (past a (take_frame frame ++ saves kept)) 0 behind)
  prologue_reaches = reaches_on (reaches_on tests passes) saves_run

  -- behind the first instruction, on any code that has the others alone
  module _ (k : Code) (g : HasAt k (a + 4) (rest_of (take_frame frame ++ saves kept))) where
    tests_on : Reaches 4 (at k (a + 4) 0 (begun_first frame d)) (at k branch_at 0 (charged frame d))
    tests_on = leaves_run (rest_of (test_code frame)) k 0 0 (a + 4) (begun_first frame d) (charged frame d)
        (frame_tests_on frame d) (g.0, (g.1.0, (g.1.1.0, (g.1.1.1.0, tt))))

    passes_on : Reaches 2 (at k branch_at 0 (charged frame d)) (at k (branch_at + 4 + 4 + 4) 0 (charged frame d))
    passes_on = branch_reaches (beq 25 0 2) k branch_at 2 (branch_at + 4 + 4 + 4) true (charged frame d) refl refl
        test_passes (omega (arith, low)) g.1.1.1.1.0 g.1.1.1.1.1.0

    saves_on : Reaches (length (behind_test kept)) (at k (branch_at + 4 + 4 + 4) 0 (charged frame d))
        (at k (past a (take_frame frame ++ saves kept)) 0 behind)
    saves_on = leaves_run (behind_test kept) k 0 0 (branch_at + 4 + 4 + 4) (charged frame d) behind rest_leaves
        g.1.1.1.1.1.1.1

    pub prologue_on : Reaches (4 + 2 + length (behind_test kept)) (at k (a + 4) 0 (begun_first frame d))
        (at k (past a (take_frame frame ++ saves kept)) 0 behind)
    prologue_on = reaches_on (reaches_on tests_on passes_on) saves_on

  same_pointer : pointer behind ≡ sp
  same_pointer = ap (λ (f : ℕ → ℕ). f 29) (saves_registers kept (taken sp frame d)) ∙ moved_pointer

  pub prologue_enters : Entered frame d behind
  prologue_enters = record {
    pointer_is = same_pointer;
    address =
        let k = charged_keeps frame d in
        ap (λ n. behind.stack ((n + 80) / 4)) same_pointer
        ∙ saves_above kept (taken sp frame d) ((sp + 80) / 4) all (omega (arith, moved_pointer))
        ∙ ap (λ n. (taken sp frame d).stack ((n + 80) / 4)) (sym moved_pointer)
        ∙ update_same ((pointer (moved sp (charged frame d)) + 80) / 4) ((moved sp (charged frame d)).registers 31)
        d.stack
        ∙ update_other 29 sp (charged frame d).registers 31 (omega arith)
        ∙ k.registers 31 (omega arith, omega arith, omega arith);
    registers = λ r k ne. ap (λ (f : ℕ → ℕ). f r) (saves_registers kept (taken sp frame d))
        ∙ update_other 29 sp (charged frame d).registers r ne ∙ (charged_keeps frame d).registers r k;
    stack = λ n le. saves_above kept (taken sp frame d) n all (omega (arith, moved_pointer, le, big, over))
        ∙ update_other ((pointer (moved sp (charged frame d)) + 80) / 4) ((moved sp (charged frame d)).registers 31)
        d.stack n (omega (arith, moved_pointer, le, big, over));
    world =
        let w = saves_world kept (taken sp frame d) in
        record {
          objects = w.objects;
          closures = w.closures;
          spec_rows = w.spec_rows;
          cells = w.cells;
          emit_stack = w.emit_stack;
          table = w.table;
          outside = w.outside;
        };
  }

abbrev pub free_code : ℕ → List Instr
free_code frame = constant 1 frame ++ (addu 29 29 1 ∷ [])

pub return_reaches : (c : Code) (a : ℕ) (d : Data) → HasAt c a (jr 31 ∷ nop ∷ [])
    → Reaches 2 (at c a 0 d) (at c (d.registers 31) 0 d)
return_reaches c a d h = slot_runs c a 0 (d.registers 31) d d (step_acts (jr 31) (at c a 0 d) h.0 refl) h.1.0

-- the start exits with the answer
abbrev exit_data : Data → Data
exit_data d = with_registers (update 2 10 (update 4 ((d.registers 2 + 0) % 4294967296) d.registers)) d

pub exits : (c : Code) (a : ℕ) (d : Data) → HasAt c a exit_code → iterate step 3 (going (at c a 0 d)) ≡ ended
    (Ended (Done ((d.registers 2 + 0) % 4294967296 % 256))) (at c (a + 4 + 4) 0 (exit_data d))
exits c a d h =
    let go = leaves_run (addu 4 2 0 ∷ ori 2 0 10 ∷ []) c 0 0 a d (exit_data d) (λ rest. refl) (h.0, (h.1.0, tt)) in
    iterate_add step 2 1 (going (at c a 0 d)) ∙ ap step go.by ∙ step_acts syscall (at c (a + 4 + 4) 0 (exit_data d))
    h.1.1.0 refl
