-- A call by a number: the number's row has the function's address and its count of parameters.
use Rattle.std.proofs.Common.{◌≡◌, ◌≢◌, ℕ, ◌+◌, ◌-◌, ◌*◌, ◌/◌, ◌%◌, ◌<◌, ◌≤◌, Bool, true, false, [], ◌∷◌, refl, ap, ◌∙◌}
use Rattle.std.proofs.Common.{arith, nat_eq, nat_lt, nat_le, bit_xor}
use Rattle.std.proofs.lemmas.Bool.{eq-eqb, ne_eqb}
use Rattle.std.proofs.lemmas.Bool.Decides.{nat_tests}
use Rattle.word32.specs.Space.{update}
use Rattle.word32.specs.declared.width.Width.TheVariants.{Word}
use Rattle.flat_memory.specs.Map.{InFunctionTable, region_of}
use Rattle.mips_encoder.specs.declared.instruction.Instr.{Instr}
use Rattle.mips_model.specs.State.{Code, Data}
use Rattle.mips_model.specs.Accesses.{Plain, Loads, Branches, load, load_in, table_word}
use Rattle.mips_model.specs.Effects.{effect}
use Rattle.mips_model.specs.Steps.{Is, fetch, going, step, apply, is_hazard, load_hazard, recent_behind, branch_target}
use Rattle.mips_model.specs.Laws.{HasAt, at, Reaches}
use Rattle.mips_model.proofs.Reach.{step_acts, reaches_on}
use Rattle.mips_assembly.specs.Assembly.{lw, srl, sll, bne, beq, addu, xori, trap, jalr}
use Rattle.icode_templates.specs.Templates.{number_call}
use Rattle.host_edge.specs.declared.ending.Ending.TheVariants.{Trap}
use Rattle.host_edge.specs.declared.ending.TrapKind.TheVariants.{BadCall}
use Rattle.history.specs.Events.{Ended}
use Rattle.mips_model.specs.Steps.{ended}
use Rattle.std.specs.Int.Bits.{xor_add_and, xor_self}
use Rattle.std.proofs.lemmas.Nat.{and_le_l, and_le_r}
use Rattle.word32.specs.declared.map.TheConstants.{ARENA, ARENA_BYTES, FUNCTION_TABLE, FUNCTION_TABLE_BYTES}
use Rattle.word32.specs.declared.map.TheConstants.{GLOBAL_POINTER, OBJECTS, OBJECTS_END, SEGMENT_BYTES, STACK, TEXT}
use Rattle.icode_expand_proof.proofs.Prologue.{ends_in, ends_late}
use Rattle.icode_templates_proof.specs.Moves.{EndsIn}
use Rattle.icode_templates_proof.proofs.Keeping.{with_registers}
use Rattle.icode_templates_proof.proofs.Leaves.{Leaves, leaves_on, leaves_run}
use Rattle.icode_templates_proof.proofs.Jumps.{in_slot, slot_runs, branch_reaches}

region_is : (a : ℕ) → FUNCTION_TABLE ≤ a → a < (FUNCTION_TABLE + FUNCTION_TABLE_BYTES) → region_of a ≡ InFunctionTable
region_is a lo hi =
    let t1 : nat_le STACK a ≡ false = grind (arith, nat_tests) in
    let t2 : nat_le OBJECTS a ≡ true = grind (arith, nat_tests) in
    let t3 : nat_lt a OBJECTS_END ≡ false = grind (arith, nat_tests) in
    let t4 : nat_le 542175232 a ≡ true = grind (arith, nat_tests) in
    let t5 : nat_lt a FUNCTION_TABLE ≡ false = grind (arith, nat_tests) in
    let t6 : nat_le 536870912 a ≡ true = grind (arith, nat_tests) in
    let t7 : nat_lt a 541065216 ≡ false = grind (arith, nat_tests) in
    let t8 : nat_le 541065216 a ≡ true = grind (arith, nat_tests) in
    let t9 : nat_lt a 542113792 ≡ false = grind (arith, nat_tests) in
    let s1 : nat_le 543162368 a ≡ false = grind (arith, nat_tests) in
    let s2 : nat_le TEXT a ≡ true = grind (arith, nat_tests) in
    let s3 : nat_lt a 67108864 ≡ false = grind (arith, nat_tests) in
    let s4 : nat_le 67108864 a ≡ true = grind (arith, nat_tests) in
    let s5 : nat_lt a (ARENA + ARENA_BYTES) ≡ false = grind (arith, nat_tests) in
    let s6 : nat_le FUNCTION_TABLE a ≡ true = grind (arith, nat_tests) in
    let s7 : nat_lt a (FUNCTION_TABLE + FUNCTION_TABLE_BYTES) ≡ true = grind (arith, nat_tests) in
    rw (t1, t2, t3, t4, t5, t6, t7, t8, t9, s1, s2, s3, s4, s5, s6, s7) refl

pub table_load : (t a n : ℕ) (d : Data) → nat_eq t 0 ≡ false → a ≡ FUNCTION_TABLE + 4 * n → n < FUNCTION_TABLE_BYTES / 4
    → load t a Word d ≡ Loads t (with_registers (update t (table_word d.table n) d.registers) d)
table_load t a n d n0 e l =
    let r = region_is a (omega (arith, e)) (omega (arith, e, l)) in
    let even : nat_eq (a % 4) 0 ≡ true = grind (arith, nat_tests, e) in
    let k : a / 4 - 135544832 ≡ n = omega (arith, e) in
    ap (λ z. load_in z t a Word d) r ∙ (rw (even, n0, k) refl)

pub row_address : (table : ℕ → ℕ × ℕ) (v : ℕ) → table_word table (2 * v) ≡ (table v).0
row_address table v =
    let t : nat_eq (2 * v % 2) 0 ≡ true = grind (arith, nat_tests) in
    let h : 2 * v / 2 ≡ v = omega arith in rw (t, h) refl

pub row_count : (table : ℕ → ℕ × ℕ) (v : ℕ) → table_word table (2 * v + 1) ≡ (table v).1
row_count table v =
    let t : nat_eq ((2 * v + 1) % 2) 0 ≡ false = grind (arith, nat_tests) in
    let h : (2 * v + 1) / 2 ≡ v = omega arith in rw (t, h) refl

-- one load behind another instruction
pub loads_leave : (t offset base l : ℕ) (d after : Data) → load_hazard l (lw t offset base) ≡ false
    → effect (lw t offset base) d ≡ Loads t after → Leaves (lw t offset base ∷ []) l d t after
loads_leave t offset base l d after hz e rest = rw (hz, e) refl

-- a branch with an instruction in its slot
slot_acts : (i j : Instr) (c : Code) (a offset target : ℕ) (taken : Bool) (d d1 : Data) → is_hazard i (at c a 0 d)
    ≡ false → recent_behind i 0 ≡ 0 → effect i d ≡ Branches taken offset → branch_target taken offset (at c a 0 d)
    ≡ target → fetch c a ≡ Is i → fetch c (a + 4) ≡ Is j
    → is_hazard j (in_slot c a target d) ≡ false → recent_behind j 0 ≡ 0 → effect j d ≡ Plain d1
    → Reaches 2 (at c a 0 d) (at c target 0 d1)
slot_acts i j c a offset target taken d d1 quiet rec does goes h slot quiet' rec' does' =
    let s = at c a 0 d in
    let s1 = in_slot c a target d in
    let first : step (going s) ≡ going s1 = step_acts i s h quiet ∙ ap (λ e. apply e (recent_behind i 0) s) does
    ∙ ap (λ r. apply (Branches taken offset) r s) rec ∙ ap (λ t. going (in_slot c a t d)) goes in
    record {
      by = ap step first ∙ step_acts j s1 slot quiet' ∙ ap (λ e. apply e (recent_behind j 0) s1) does'
          ∙ ap (λ r. apply (Plain d1) r s1) rec';
    }

abbrev pub set : ℕ → ℕ → Data → Data
set r x d = with_registers (update r x d.registers) d

-- behind the row's loads
abbrev pub row_data : ℕ → ℕ → Data → Data
row_data v n d =
    let d2 = set 24 (8 * v) (set 25 (v / 65536) d) in
    let d3 = set 24 (FUNCTION_TABLE + 8 * v) d2 in
    let d4 = set 25 (d.table v).1 d3 in
    let d5 = set 24 (d.table v).0 d4 in
    set 25 (bit_xor (d.table v).1 n) d5

module _ (c : Code) (b n : ℕ) (d : Data) (low : b + 48 < SEGMENT_BYTES) (global : d.registers 28 ≡ GLOBAL_POINTER)
    (word : d.registers 24 < 4294967296) (h : HasAt c b (number_call n)) where
  abbrev v : ℕ
  v = d.registers 24

  abbrev third : ℕ
  third = b + 4 + 4 + 4

  abbrev seventh : ℕ
  seventh = third + 4 + 4 + 4 + 4

  abbrev ninth : ℕ
  ninth = seventh + 4 + 4

  abbrev tenth : ℕ
  tenth = ninth + 4

  abbrev d1 : Data
  d1 = set 25 (v / 65536) d

  shifts : Reaches 1 (at c b 0 d) (at c (b + 4) 0 d1)
  shifts = leaves_run (srl 25 24 16 ∷ []) c 0 0 b d d1 (λ rest. refl) (h.0, tt)

  -- no row at all
  pub none_ends : 65536 ≤ v → EndsIn 4 4 (Ended (Trap BadCall)) (at c b 0 d) c d.outside
  none_ends more =
      let some : nat_eq (v / 65536) 0 ≡ false = ne_eqb (v / 65536) 0 (λ e. absurd (omega (arith, e, more))) in
      let goes : effect (bne 25 0 7) d1 ≡ Branches true 7 = rw some refl in
      let d2 = set 24 ((v * 8) % 4294967296) d1 in
      let to : branch_target true 7 (at c (b + 4) 0 d1) ≡ ninth = omega (arith, low) in
      let r = slot_acts (bne 25 0 7) (sll 24 24 3) c (b + 4) 7 ninth true d1 d2 refl refl goes to h.1.0 h.1.1.0 refl
      refl refl in
      let last = at c ninth 0 d2 in
      let stops : step (going last) ≡ ended (Ended (Trap BadCall)) last =
      step_acts (trap 17) last h.1.1.1.1.1.1.1.1.1.0 refl in
      ends_late 3 1 1 (Ended (Trap BadCall)) (at c b 0 d) last c d.outside
      (reaches_on {k = 1} {n = 2} shifts r) (ends_in 1 (Ended (Trap BadCall)) last c ninth d2 stops)

  -- the row
  abbrev d2 : Data
  d2 = set 24 (8 * v) d1

  abbrev d3 : Data
  d3 = set 24 (FUNCTION_TABLE + 8 * v) d2

  abbrev d4 : Data
  d4 = set 25 (d.table v).1 d3

  abbrev d5 : Data
  d5 = set 24 (d.table v).0 d4

  abbrev d6 : Data
  d6 = set 25 (bit_xor (d.table v).1 n) d5

  loads : v < 65536 → Leaves (addu 24 24 28 ∷ lw 25 4 24 ∷ lw 24 0 24 ∷ xori 25 25 n ∷ []) 0 d2 0 d6
  loads less =
      let m : (8 * v + d.registers 28) % 4294967296 ≡ FUNCTION_TABLE + 8 * v = omega (arith, global, less) in
      let sum : Leaves (addu 24 24 28 ∷ []) 0 d2 0 d3 = λ rest. rw m refl in
      let a1 : (FUNCTION_TABLE + 8 * v + 4) % 4294967296 ≡ FUNCTION_TABLE + 4 * (2 * v + 1) = omega (arith, less) in
      let a0 : (FUNCTION_TABLE + 8 * v + 0) % 4294967296 ≡ FUNCTION_TABLE + 4 * (2 * v) = omega (arith, less) in
      let e1 : effect (lw 25 4 24) d3 ≡ Loads 25 d4 =
      table_load 25 ((FUNCTION_TABLE + 8 * v + 4) % 4294967296) (2 * v + 1)
      d3 refl a1 (omega (arith, less)) ∙ ap (λ x. Loads 25 (set 25 x d3)) (row_count d.table v) in
      let e0 : effect (lw 24 0 24) d4 ≡ Loads 24 d5 =
      table_load 24 ((FUNCTION_TABLE + 8 * v + 0) % 4294967296) (2 * v) d4
      refl a0 (omega (arith, less)) ∙ ap (λ x. Loads 24 (set 24 x d4)) (row_address d.table v) in
      leaves_on (addu 24 24 28 ∷ []) (lw 25 4 24 ∷ lw 24 0 24 ∷ xori 25 25 n ∷ []) 0 0 0 d2 d3 d6 sum
      (leaves_on (lw 25 4 24 ∷ []) (lw 24 0 24 ∷ xori 25 25 n ∷ []) 0 25 0 d3 d4 d6
      (loads_leave 25 4 24 0 d3 d4 refl e1)
      (leaves_on (lw 24 0 24 ∷ []) (xori 25 25 n ∷ []) 25 24 0 d4 d5 d6 (loads_leave 24 0 24 25 d4 d5 refl e0)
      (λ rest. refl)))

  pub row_reads : v < 65536 → Reaches 7 (at c b 0 d) (at c seventh 0 d6)
  row_reads less =
      let none : nat_eq (v / 65536) 0 ≡ true = eq-eqb (v / 65536) 0 (omega (arith, less)) in
      let stays : effect (bne 25 0 7) d1 ≡ Branches false 7 = rw none refl in
      let e : (v * 8) % 4294967296 ≡ 8 * v = omega (arith, less) in
      let slot : effect (sll 24 24 3) d1 ≡ Plain d2 = ap (λ x. Plain (set 24 x d1)) e in
      let r = slot_acts (bne 25 0 7) (sll 24 24 3) c (b + 4) 7 third false d1 d2 refl refl stays refl h.1.0 h.1.1.0
      refl refl slot in
      let s = leaves_run (addu 24 24 28 ∷ lw 25 4 24 ∷ lw 24 0 24 ∷ xori 25 25 n ∷ []) c 0 0 third d2 d6 (loads less)
      (h.1.1.1.0, (h.1.1.1.1.0, (h.1.1.1.1.1.0, (h.1.1.1.1.1.1.0, tt)))) in
      reaches_on {k = 3} {n = 4} (reaches_on {k = 1} {n = 2} shifts r) s

  abbrev counts : ℕ
  counts = bit_xor (d.table v).1 n

  -- another count
  pub other_ends : v < 65536 → (d.table v).1 ≢ n → EndsIn 10 10 (Ended (Trap BadCall)) (at c b 0 d) c d.outside
  other_ends less ne =
      let some : nat_eq counts 0 ≡ false =
      ne_eqb counts 0 (λ e. ne (let s = xor_add_and (d.table v).1 n in let l = and_le_l (d.table v).1 n in let r =
      and_le_r (d.table v).1 n in omega (arith, e, s, l, r))) in
      let stays : effect (beq 25 0 2) d6 ≡ Branches false 2 = rw some refl in
      let r = branch_reaches (beq 25 0 2) c seventh 2 ninth false d6 refl refl stays refl h.1.1.1.1.1.1.1.0
      h.1.1.1.1.1.1.1.1.0 in
      let last = at c ninth 0 d6 in
      let stops : step (going last) ≡ ended (Ended (Trap BadCall)) last =
      step_acts (trap 17) last h.1.1.1.1.1.1.1.1.1.0 refl in
      ends_late 9 1 1 (Ended (Trap BadCall)) (at c b 0 d) last c d.outside
      (reaches_on {k = 7} {n = 2} (row_reads less) r) (ends_in 1 (Ended (Trap BadCall)) last c ninth d6 stops)

  -- the same count: control goes to the address
  pub row_goes : v < 65536 → (d.table v).1 ≡ n → Reaches 11 (at c b 0 d)
      (at c (d.table v).0 0 (set 31 (tenth + 4 + 4) d6))
  row_goes less same =
      let none : nat_eq counts 0 ≡ true = eq-eqb counts 0 (ap (λ x. bit_xor x n) same ∙ xor_self n) in
      let goes : effect (beq 25 0 2) d6 ≡ Branches true 2 = rw none refl in
      let to : branch_target true 2 (at c seventh 0 d6) ≡ tenth = omega (arith, low) in
      let r = branch_reaches (beq 25 0 2) c seventh 2 tenth true d6 refl refl goes to h.1.1.1.1.1.1.1.0
      h.1.1.1.1.1.1.1.1.0 in
      let back : (tenth + 4 + 4) % 4294967296 ≡ tenth + 4 + 4 = omega (arith, low) in
      let jump = slot_runs c tenth 0 (d.table v).0 d6 (set 31 (tenth + 4 + 4) d6)
      (step_acts (jalr 31 24) (at c tenth 0 d6) h.1.1.1.1.1.1.1.1.1.1.0 refl
      ∙ ap (λ x. going (in_slot c tenth (d.table v).0 (set 31 x d6))) back) h.1.1.1.1.1.1.1.1.1.1.1.0 in
      reaches_on {k = 9} {n = 2} (reaches_on {k = 7} {n = 2} (row_reads less) r) jump
