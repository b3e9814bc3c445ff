-- The tests of the routine, and its traps.
use Rattle.std.proofs.Common.{◌≡◌, ◌≢◌, ℕ, ◌+◌, ◌*◌, ◌/◌, ◌%◌, ◌<◌, ◌≤◌, Bool, true, false}
use Rattle.std.proofs.Common.{List, [], ◌∷◌, ◌++◌, refl, ap, ◌∙◌, arith, nat_eq}
use Rattle.std.proofs.Common.{nat_lt}
use Rattle.std.proofs.lemmas.Bool.{ne_eqb}
use Rattle.limits.specs.declared.program.TheConstants.{SIZE_LIMIT}
use Rattle.word32.specs.Words.{wrap}
use Rattle.word32.specs.declared.map.TheConstants.{ARENA_BYTES, CLOSURES, CLOSURE_BYTES, GLOBAL_POINTER}
use Rattle.word32.specs.declared.map.TheConstants.{SPEC_COUNT_CELL, SPEC_ROWS, SPEC_ROW_BYTES}
use Rattle.word32.specs.declared.map.TheConstants.{ARENA, NEXT_FUNCTION_CELL, NEXT_ARENA_CELL, EMIT_STACK}
use Rattle.host_edge.specs.declared.ending.Ending.TheVariants.{Trap}
use Rattle.host_edge.specs.declared.ending.TrapKind.TheVariants.{BadSpec, TableLimit, ArenaLimit}
use Rattle.history.specs.Events.{Ended}
use Rattle.mips_encoder.specs.declared.instruction.Instr.{Instr}
use Rattle.mips_model.specs.State.{Code, Data}
use Rattle.mips_model.specs.Accesses.{Plain, Loads, Branches}
use Rattle.mips_model.specs.Arithmetic.{bit}
use Rattle.mips_model.specs.Effects.{effect, jumps, reads_hilo}
use Rattle.mips_model.specs.Steps.{Is, fetch, going, apply, is_hazard, recent_behind, step, branch_target}
use Rattle.mips_model.specs.Laws.{HasAt, at, Reaches}
use Rattle.mips_encoder.specs.Addresses.{past}
use Rattle.mips_model.proofs.Reach.{front, back, reaches_on, step_acts}
use Rattle.mips_assembly.specs.Assembly.{beq, bne, lui, addu, addiu, lw, sll, srl, sltu, sltiu}
use Rattle.icode_templates_proof.specs.Moves.{EndsIn}
use Rattle.icode_templates_proof.proofs.Leaves.{Leaves, leaves_on, leaves_run, runs_within}
use Rattle.icode_templates_proof.proofs.Jumps.{in_slot}
use Rattle.icode_templates_proof.proofs.Endings.{ends_behind}
use Rattle.icode_templates_proof.specs.Closures.{word_at, closure_of, row_count, row_place}
use Rattle.icode_templates_proof.proofs.Skips.{one_loads, break_ends}
use Rattle.icode_templates_proof.proofs.Accesses.{load_closure, load_row, load_cell}
use Rattle.generator_laws.proofs.Issuing.{set}
use Rattle.routine_spec.specs.Compile.{live_code, live_test, kind_code, kind_test, table_test, charge_code, arena_test}
use Rattle.routine_spec.specs.Compile.{tests_code, build_code, make_code, traps_code, compile_code}

-- ---- a branch with an instruction in its slot that changes the data

pub branches : (i slot : Instr) (c : Code) (a offset target : ℕ) (taken : Bool) (d after : Data) →
    is_hazard i (at c a 0 d) ≡ false → recent_behind i 0 ≡ 0 → effect i d ≡ Branches taken offset →
    branch_target taken offset (at c a 0 d) ≡ target → jumps slot ≡ false → reads_hilo slot ≡ false →
    effect slot d ≡ Plain after → fetch c a ≡ Is i → fetch c (a + 4) ≡ Is slot →
    Reaches 2 (at c a 0 d) (at c target 0 after)
branches i slot c a offset target taken d after quiet rec does goes calm still leaves h h' =
    let s = at c a 0 d in
    let first : step (going s) ≡ going (in_slot c a target d) =
    step_acts i s h quiet ∙ ap (λ e. apply e (recent_behind i 0) s) does ∙
    ap (λ r. apply (Branches taken offset) r s) rec ∙ ap (λ t. going (in_slot c a t d)) goes in
    let t = in_slot c a target d in
    let slot_quiet : is_hazard slot t ≡ false = rw calm refl in
    let second : step (going t) ≡ going (at c target 0 after) =
    step_acts slot t h' slot_quiet ∙ ap (λ e. apply e (recent_behind slot 0) t) leaves ∙ (rw still refl) in
    record { by = ap step first ∙ second }

-- ---- the places of the parts

abbrev pub behind_tests : List Instr
behind_tests = build_code ++ (make_code ++ traps_code)

abbrev pub body_code : List Instr
body_code = tests_code ++ (build_code ++ make_code)

module _ (c : Code) (entry : ℕ) (h : HasAt c entry compile_code) where
  abbrev p3 : ℕ
  p3 = entry + 4 + 4 + 4

  abbrev p5 : ℕ
  p5 = p3 + 4 + 4

  abbrev p12 : ℕ
  p12 = p5 + 4 + 4 + 4 + 4 + 4 + 4 + 4

  abbrev p14 : ℕ
  p14 = p12 + 4 + 4

  abbrev p16 : ℕ
  p16 = p14 + 4 + 4

  abbrev p23 : ℕ
  p23 = p16 + 4 + 4 + 4 + 4 + 4 + 4 + 4

  abbrev pub p25 : ℕ
  p25 = p23 + 4 + 4

  abbrev pub traps_at : ℕ
  traps_at = past entry body_code

  tests_stand : HasAt c entry tests_code
  tests_stand = front c entry tests_code behind_tests h

  at3 : HasAt c p3 (live_test ++ (kind_code ++ (kind_test ++ (table_test ++ (charge_code ++ arena_test)))))
  at3 = back c entry live_code (live_test ++ (kind_code ++ (kind_test ++ (table_test ++ (charge_code ++ arena_test)))))
      tests_stand

  at5 : HasAt c p5 (kind_code ++ (kind_test ++ (table_test ++ (charge_code ++ arena_test))))
  at5 = back c p3 live_test (kind_code ++ (kind_test ++ (table_test ++ (charge_code ++ arena_test)))) at3

  at12 : HasAt c p12 (kind_test ++ (table_test ++ (charge_code ++ arena_test)))
  at12 = back c p5 kind_code (kind_test ++ (table_test ++ (charge_code ++ arena_test))) at5

  at14 : HasAt c p14 (table_test ++ (charge_code ++ arena_test))
  at14 = back c p12 kind_test (table_test ++ (charge_code ++ arena_test)) at12

  at16 : HasAt c p16 (charge_code ++ arena_test)
  at16 = back c p14 table_test (charge_code ++ arena_test) at14

  at23 : HasAt c p23 arena_test
  at23 = back c p16 charge_code arena_test at16

  pub at25 : HasAt c p25 behind_tests
  at25 = back c entry tests_code behind_tests h

  traps_stand : HasAt c traps_at traps_code
  traps_stand = back c entry body_code traps_code h

-- ---- the data between the parts

abbrev number_of : Data → ℕ
number_of d = d.registers 4

-- one less than the number, as a word
abbrev pub less : Data → ℕ
less d = (d.registers 4 + 4294967295) % 4294967296

abbrev n1 : Data → Data
n1 d = set 6 (bit (nat_lt (less d) (row_count d))) (set 6 (less d) (set 5 (row_count d) d))

abbrev n2 : Data → Data
n2 d = set 12 (wrap (d.registers 4 * 4)) (n1 d)

lives : (d : Data) → d.registers 28 ≡ GLOBAL_POINTER → Leaves live_code 0 d 0 (n1 d)
lives d g =
    let m = set 5 (row_count d) d in
    leaves_on (lw 5 65524 28 ∷ []) (addiu 6 4 65535 ∷ sltu 6 6 5 ∷ []) 0 5 0 d m (n1 d)
    (one_loads (lw 5 65524 28) 0 5 d m refl refl
    (load_cell 5 65524 28 SPEC_COUNT_CELL d (omega (arith, g)) refl (omega arith) (omega arith)))
    (λ rest. refl)

module _ (c : Code) (entry : ℕ) (low : entry + 256 ≤ ARENA) (h : HasAt c entry compile_code) (d : Data) (g : d.registers
    28 ≡ GLOBAL_POINTER) where
  first : Reaches 3 (at c entry 0 d) (at c (p3 c entry h) 0 (n1 d))
  first = leaves_run live_code c 0 0 entry d (n1 d) (lives d g)
      (front c entry live_code (live_test ++ (kind_code ++ (kind_test ++ (table_test ++ (charge_code ++ arena_test)))))
      (tests_stand c entry h))

  -- the number is none that is live
  pub dead_ends : nat_lt (less d) (row_count d) ≡ false →
      EndsIn 6 6 (Ended (Trap BadSpec)) (at c entry 0 d) c d.outside
  dead_ends t =
      let a = p3 c entry h in
      let does : effect (beq 6 0 57) (n1 d) ≡ Branches true 57 = rw t refl in
      let go = branches (beq 6 0 57) (sll 12 4 2) c a 57 (traps_at c entry h) true (n1 d) (n2 d) refl refl does
      (omega (arith, low)) refl refl refl (at3 c entry h).0 (at3 c entry h).1.0 in
      ends_behind {l = 5} {m = 5} {l' = 1} {m' = 1}
      (runs_within {k = 5} (omega arith) (omega arith) (reaches_on {k = 3} {n = 2} first go))
      (break_ends 18 BadSpec c (traps_at c entry h) (n2 d) refl (traps_stand c entry h).0)

  pub goes_live : nat_lt (less d) (row_count d) ≡ true → Reaches 5 (at c entry 0 d) (at c (p5 c entry h) 0 (n2 d))
  goes_live t =
      let a = p3 c entry h in
      let does : effect (beq 6 0 57) (n1 d) ≡ Branches false 57 = rw t refl in
      reaches_on {k = 3} {n = 2} first
      (branches (beq 6 0 57) (sll 12 4 2) c a 57 (p5 c entry h) false (n1 d) (n2 d) refl refl does refl refl refl refl
      (at3 c entry h).0 (at3 c entry h).1.0)

-- ---- a live number: its closure, the next function's number and the next address

pub record Sees (d : Data) (a kind size function next : ℕ) : Type 0 where
  pub from : CLOSURES ≤ a
  pub to : a + 16 ≤ CLOSURES + CLOSURE_BYTES
  pub even : a % 4 ≡ 0
  pub kind_is : word_at d.closures (a + 4) ≡ kind
  pub size_is : word_at d.closures (a + 8) ≡ size
  pub function_is : word_at d.cells NEXT_FUNCTION_CELL ≡ function
  pub next_is : word_at d.cells NEXT_ARENA_CELL ≡ next
  pub positive : 0 < d.registers 4
  pub few : d.registers 4 ≤ SPEC_ROW_BYTES / 4
  pub place : closure_of d (d.registers 4) ≡ a

module _ (a kind size function next : ℕ) (d : Data) (sees : Sees d a kind size function next) (g : d.registers 28 ≡
    GLOBAL_POINTER) where
  abbrev n3 : Data
  n3 = set 12 (wrap (wrap (d.registers 4 * 4) + SPEC_ROWS)) (set 1 SPEC_ROWS (n2 d))

  abbrev n4 : Data
  n4 = set 12 a n3

  abbrev n5 : Data
  n5 = set 7 function n4

  abbrev n6 : Data
  n6 = set 5 kind n5

  abbrev n7 : Data
  n7 = set 6 size n6

  abbrev n8 : Data
  n8 = set 5 (bit (nat_lt kind 3)) n7

  finds : Leaves kind_code 0 (n2 d) 0 n8
  finds =
      let number = d.registers 4 in
      leaves_on (lui 1 8256 ∷ addu 12 12 1 ∷ []) (lw 12 65532 12 ∷ lw 7 65520 28 ∷ lw 5 4 12 ∷ lw 6 8 12 ∷ sltiu 5 5 3 ∷
      []) 0 0 0 (n2 d) n3 n8 (λ rest. refl)
      (leaves_on (lw 12 65532 12 ∷ []) (lw 7 65520 28 ∷ lw 5 4 12 ∷ lw 6 8 12 ∷ sltiu 5 5 3 ∷ []) 0 12 0 n3 n4 n8
      (one_loads (lw 12 65532 12) 0 12 n3 n4 refl refl
      (load_row 12 65532 12 (row_place number) n3 (omega (arith, sees.positive, sees.few))
      (omega (arith, sees.positive)) (omega (arith, sees.positive)) (omega (arith, sees.positive, sees.few))
      ∙ ap (λ x. Loads 12 (set 12 x n3)) sees.place))
      (leaves_on (lw 7 65520 28 ∷ []) (lw 5 4 12 ∷ lw 6 8 12 ∷ sltiu 5 5 3 ∷ []) 12 7 0 n4 n5 n8
      (one_loads (lw 7 65520 28) 12 7 n4 n5 refl refl
      (load_cell 7 65520 28 NEXT_FUNCTION_CELL n4 (omega (arith, g)) refl (omega arith) (omega arith)
      ∙ ap (λ x. Loads 7 (set 7 x n4)) sees.function_is))
      (leaves_on (lw 5 4 12 ∷ []) (lw 6 8 12 ∷ sltiu 5 5 3 ∷ []) 7 5 0 n5 n6 n8
      (one_loads (lw 5 4 12) 7 5 n5 n6 refl refl
      (load_closure 5 4 12 (a + 4) n5 (omega (arith, sees.from, sees.to)) (omega (arith, sees.even))
      (omega (arith, sees.from)) (omega (arith, sees.to)) ∙ ap (λ x. Loads 5 (set 5 x n5)) sees.kind_is))
      (leaves_on (lw 6 8 12 ∷ []) (sltiu 5 5 3 ∷ []) 5 6 0 n6 n7 n8
      (one_loads (lw 6 8 12) 5 6 n6 n7 refl refl
      (load_closure 6 8 12 (a + 8) n6 (omega (arith, sees.from, sees.to)) (omega (arith, sees.even))
      (omega (arith, sees.from)) (omega (arith, sees.to)) ∙ ap (λ x. Loads 6 (set 6 x n6)) sees.size_is))
      (λ rest. refl)))))

  -- the slots of the two tests behind
  abbrev n9 : Data
  n9 = set 5 (function / 65536) n8

  abbrev n10 : Data
  n10 = set 5 (wrap (size * 512)) n9

  abbrev charge : ℕ
  charge = 768 * size + 256

  abbrev over : Bool
  over = nat_lt (ARENA + ARENA_BYTES) (next + charge)

  abbrev n11 : Data
  n11 = set 5 (wrap (size * 512 % 4294967296 + size * 256 % 4294967296)) (set 6 (wrap (size * 256)) n10)

  abbrev n12 : Data
  n12 = set 6 next n11

  abbrev n13 : Data
  n13 = set 5 charge n12

  abbrev n14 : Data
  n14 = set 1 (bit over) (set 1 (ARENA + ARENA_BYTES) (set 6 (next + charge) n13))

  pub charges : size ≤ SIZE_LIMIT → next ≤ (ARENA + ARENA_BYTES) → Leaves charge_code 0 n10 0 n14
  charges small near =
      let e1 : wrap (wrap (size * 512 % 4294967296 + size * 256 % 4294967296) + 256) ≡ charge = omega (arith, small) in
      let e2 : wrap (next + charge) ≡ next + charge = omega (arith, small, near) in
      leaves_on (sll 6 6 8 ∷ addu 5 5 6 ∷ []) (lw 6 65516 28 ∷ addiu 5 5 256 ∷ addu 6 6 5 ∷ lui 1 1536
      ∷ sltu 1 1 6 ∷ [])
      0 0 0 n10 n11 n14 (λ rest. refl)
      (leaves_on (lw 6 65516 28 ∷ []) (addiu 5 5 256 ∷ addu 6 6 5 ∷ lui 1 1536 ∷ sltu 1 1 6 ∷ []) 0 6 0 n11 n12 n14
      (one_loads (lw 6 65516 28) 0 6 n11 n12 refl refl
      (load_cell 6 65516 28 NEXT_ARENA_CELL n11 (omega (arith, g)) refl (omega arith) (omega arith)
      ∙ ap (λ x. Loads 6 (set 6 x n11)) sees.next_is))
      (leaves_on (addiu 5 5 256 ∷ []) (addu 6 6 5 ∷ lui 1 1536 ∷ sltu 1 1 6 ∷ []) 6 0 0 n12 n13 n14
      (λ rest. rw e1 refl) (λ rest. rw e2 refl)))

-- ---- the tests behind that of the number

module _ (c : Code) (entry : ℕ) (low : entry + 256 ≤ ARENA) (h : HasAt c entry compile_code) (d : Data) (g : d.registers
    28 ≡ GLOBAL_POINTER) (t : nat_lt (less d) (row_count d) ≡ true) (a kind size function next : ℕ)
    (sees : Sees d a kind size function next) where
  abbrev m8 : Data
  m8 = n8 a kind size function next d sees g

  abbrev m9 : Data
  m9 = n9 a kind size function next d sees g

  abbrev m10 : Data
  m10 = n10 a kind size function next d sees g

  abbrev m14 : Data
  m14 = n14 a kind size function next d sees g

  abbrev pub m15 : Data
  m15 = set 15 EMIT_STACK m14

  at_kind : Reaches 12 (at c entry 0 d) (at c (p12 c entry h) 0 m8)
  at_kind =
      reaches_on {k = 5} {n = 7} (goes_live c entry low h d g t)
      (leaves_run kind_code c 0 0 (p5 c entry h) (n2 d) m8 (finds a kind size function next d sees g)
      (front c (p5 c entry h) kind_code (kind_test ++ (table_test ++ (charge_code ++ arena_test))) (at5 c entry h)))

  pub kind_ends : nat_lt kind 3 ≡ false → EndsIn 15 15 (Ended (Trap BadSpec)) (at c entry 0 d) c d.outside
  kind_ends k =
      let does : effect (beq 5 0 48) m8 ≡ Branches true 48 = rw k refl in
      ends_behind {l = 14} {m = 14} {l' = 1} {m' = 1}
      (runs_within {k = 14} (omega arith) (omega arith) (reaches_on {k = 12} {n = 2} at_kind
      (branches (beq 5 0 48) (srl 5 7 16) c (p12 c entry h) 48 (traps_at c entry h) true m8 m9 refl refl does
      (omega (arith, low)) refl refl refl (at12 c entry h).0 (at12 c entry h).1.0)))
      (break_ends 18 BadSpec c (traps_at c entry h) m9 refl (traps_stand c entry h).0)

  module _ (k : nat_lt kind 3 ≡ true) where
    at_table : Reaches 14 (at c entry 0 d) (at c (p14 c entry h) 0 m9)
    at_table =
        let does : effect (beq 5 0 48) m8 ≡ Branches false 48 = rw k refl in
        reaches_on {k = 12} {n = 2} at_kind
        (branches (beq 5 0 48) (srl 5 7 16) c (p12 c entry h) 48 (p14 c entry h) false m8 m9 refl refl does refl refl
        refl refl (at12 c entry h).0 (at12 c entry h).1.0)

    pub table_ends : function / 65536 ≢ 0 →
        EndsIn 17 17 (Ended (Trap TableLimit)) (at c entry 0 d) c d.outside
    table_ends ne =
        let e : nat_eq (function / 65536) 0 ≡ false = ne_eqb (function / 65536) 0 ne in
        let does : effect (bne 5 0 47) m9 ≡ Branches true 47 = rw e refl in
        ends_behind {l = 16} {m = 16} {l' = 1} {m' = 1}
        (runs_within {k = 16} (omega arith) (omega arith) (reaches_on {k = 14} {n = 2} at_table
        (branches (bne 5 0 47) (sll 5 6 9) c (p14 c entry h) 47 (traps_at c entry h + 4) true m9 m10 refl refl does
        (omega (arith, low)) refl refl refl (at14 c entry h).0 (at14 c entry h).1.0)))
        (break_ends 25 TableLimit c (traps_at c entry h + 4) m10 refl (traps_stand c entry h).1.0)

    module _ (zero : function / 65536 ≡ 0) (small : size ≤ SIZE_LIMIT) (near : next ≤ (ARENA + ARENA_BYTES)) where
      at_arena : Reaches 23 (at c entry 0 d) (at c (p23 c entry h) 0 m14)
      at_arena =
          let does : effect (bne 5 0 47) m9 ≡ Branches false 47 = rw zero refl in
          reaches_on {k = 16} {n = 7}
          (reaches_on {k = 14} {n = 2} at_table
          (branches (bne 5 0 47) (sll 5 6 9) c (p14 c entry h) 47 (p16 c entry h) false m9 m10 refl refl does refl refl
          refl refl (at14 c entry h).0 (at14 c entry h).1.0))
          (leaves_run charge_code c 0 0 (p16 c entry h) m10 m14 (charges a kind size function next d sees g small near)
          (front c (p16 c entry h) charge_code arena_test (at16 c entry h)))

      pub arena_ends : nat_lt (ARENA + ARENA_BYTES) (next + (768 * size + 256)) ≡ true →
          EndsIn 26 26 (Ended (Trap ArenaLimit)) (at c entry 0 d) c d.outside
      arena_ends full =
          let does : effect (bne 1 0 39) m14 ≡ Branches true 39 = rw full refl in
          ends_behind {l = 25} {m = 25} {l' = 1} {m' = 1}
          (runs_within {k = 25} (omega arith) (omega arith) (reaches_on {k = 23} {n = 2} at_arena
          (branches (bne 1 0 39) (lui 15 8288) c (p23 c entry h) 39 (traps_at c entry h + 4 + 4) true m14 m15 refl refl
          does (omega (arith, low)) refl refl refl (at23 c entry h).0 (at23 c entry h).1.0)))
          (break_ends 24 ArenaLimit c (traps_at c entry h + 4 + 4) m15 refl (traps_stand c entry h).1.1.0)

      pub passes : nat_lt (ARENA + ARENA_BYTES) (next + (768 * size + 256)) ≡ false →
          Reaches 25 (at c entry 0 d) (at c (p25 c entry h) 0 m15)
      passes room =
          let does : effect (bne 1 0 39) m14 ≡ Branches false 39 = rw room refl in
          reaches_on {k = 23} {n = 2} at_arena
          (branches (bne 1 0 39) (lui 15 8288) c (p23 c entry h) 39 (p25 c entry h) false m14 m15 refl refl does refl
          refl refl refl (at23 c entry h).0 (at23 c entry h).1.0)
