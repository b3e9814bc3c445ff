-- The routines that make a specification of a tick and of a variable.
use Rattle.std.proofs.Common.{◌≡◌, inl, inr, ℕ, suc, ◌+◌, ◌%◌, ◌<◌, ◌≤◌, ◌⊎◌, List, []}
use Rattle.std.proofs.Common.{◌∷◌, ◌++◌}
use Rattle.std.proofs.Common.{Some, None, refl, sym, ap, ◌∙◌, subst, arith, nat_lt, nat_le}
use Rattle.std.proofs.lemmas.Bool.{cases_Bool}
use Rattle.std.proofs.lemmas.Bool.Decides.{nat_tests}
use Rattle.limits.specs.declared.program.TheConstants.{SIZE_LIMIT}
use Rattle.limits.specs.declared.ops.TheConstants.{MOST_CAPTURES}
use Rattle.word32.specs.Space.{update}
use Rattle.word32.specs.declared.map.TheConstants.{SIZE_CELL}
use Rattle.word32.specs.declared.map.TheConstants.{PARAMETERS_CELL}
use Rattle.host_edge.specs.declared.ending.Ending.TheVariants.{Trap}
use Rattle.host_edge.specs.declared.ending.TrapKind.{TrapKind}
use Rattle.host_edge.specs.declared.ending.TrapKind.TheVariants.{SizeLimit, BadParam}
use Rattle.history.specs.Events.{Ended}
use Rattle.mips_encoder.specs.declared.instruction.Instr.{Instr}
use Rattle.mips_encoder.specs.Addresses.{past}
use Rattle.mips_model.specs.State.{Code, Data, State}
use Rattle.mips_model.specs.Arithmetic.{bit}
use Rattle.mips_model.specs.Laws.{HasAt, at, Reaches}
use Rattle.mips_model.proofs.Reach.{front, back, reaches_on}
use Rattle.meaning_state.specs.Shared.{Shared}
use Rattle.meaning_state.specs.Rows.{closure_trap, next_number}
use Rattle.mips_assembly.specs.Assembly.{scratch, lw, ori, sltiu, sltu}
use Rattle.icode_templates.specs.Templates.{trap_if_zero, trap_unless_zero}
use Rattle.icode_templates_proof.specs.Spots.{IsKept}
use Rattle.icode_templates_proof.specs.Moves.{EndsIn}
use Rattle.icode_templates_proof.proofs.Leaves.{Leaves, leaves_on, leaves_run, runs_on, runs_within}
use Rattle.icode_templates_proof.proofs.Keeping.{with_registers}
use Rattle.icode_templates_proof.proofs.Endings.{ends_behind, ends_wider}
use Rattle.icode_templates_proof.specs.MallocLaws.{Answers}
use Rattle.icode_templates_proof.specs.Closures.{Head, local_head, parameter_head, row_count, size_so_far}
use Rattle.icode_templates_proof.specs.Closures.{parameters_so_far}
use Rattle.icode_templates_proof.specs.Closures.{appended}
use Rattle.icode_templates_proof.specs.Routines.{size_limit, bad_parameter, measure_size_code, new_code, append_code}
use Rattle.icode_templates_proof.specs.Routines.{local_head_code, local_code, parameter_head_code, parameter_code}
use Rattle.icode_templates_proof.specs.RoutineLaws.{IsBlock, HasRows, new_trap, parameter_trap, new_head}
use Rattle.icode_templates_proof.proofs.Skips.{one_loads, zero_goes, zero_ends, other_ends}
use Rattle.icode_templates_proof.proofs.Accesses.{load_cell}
use Rattle.icode_templates_proof.proofs.Appending.{is_below, not_below, bit_is_one, apart, append_answered, append_ends}
use Rattle.icode_templates_proof.proofs.Checks.{other_passes}

-- Registers that no op relies on were written before a specification was appended.
behind_registers : (k : Head) (captures x l r : ℕ) (s : State) (c : Code) (mid ra : ℕ) (f : ℕ → ℕ) (d : Data) →
    ((q : ℕ) → IsKept q → f q ≡ d.registers q) → Reaches l s (at c mid 0 (with_registers f d))
    → Answers x r r (at c mid 0 (with_registers f d)) c ra (appended k captures (with_registers f d))
    → Answers x (l + r) (l + r) s c ra (appended k captures d)
behind_registers k captures x l r s c mid ra f d kept first y = record {
  after = y.after;
  runs = runs_on {l = l} {m = l} {l' = r} {m' = r} (runs_within {k = l} (omega arith) (omega arith) first) y.runs;
  answer = y.answer;
  keeps = record {
    registers = λ q h. y.keeps.registers q h ∙ kept q h;
    stack = y.keeps.stack;
    world = record {
      objects = y.keeps.world.objects;
      closures = y.keeps.world.closures;
      spec_rows = y.keeps.world.spec_rows;
      cells = y.keeps.world.cells;
      emit_stack = y.keeps.world.emit_stack;
      table = y.keeps.world.table;
      outside = y.keeps.world.outside;
    };
  };
}

-- the rows are as they were
rows_behind : (shared : Shared) (f : ℕ → ℕ) (d : Data) → f 28 ≡ d.registers 28 → HasRows shared d →
    HasRows shared (with_registers f d)
rows_behind shared f d e h = record {
  global = e ∙ h.global;
  count = h.count;
  next = h.next;
  within = h.within;
  even = h.even;
  few = h.few;
}

-- the first of two traps
module _ (shared : Shared) where
  size_fits : (size captures : ℕ) → new_trap size captures shared ≡ None →
      (size ≤ SIZE_LIMIT) × (closure_trap captures shared ≡ None)
  size_fits size captures e = elim (cases_Bool (nat_le size SIZE_LIMIT)) [
    | inl t ↦ (let same : new_trap size captures shared ≡ closure_trap captures shared = rw t refl in
        (grind (arith, nat_tests, t), sym same ∙ e))
    | inr t ↦ (let some : new_trap size captures shared ≡ Some SizeLimit = rw t refl in let x : ⊥ = cc in absurd x)
  ]

  size_traps : (size captures : ℕ) (kind : TrapKind) → new_trap size captures shared ≡ Some kind →
      ((SIZE_LIMIT < size) × (kind ≡ SizeLimit)) ⊎ ((size ≤ SIZE_LIMIT) × (closure_trap captures shared ≡ Some kind))
  size_traps size captures kind e = elim (cases_Bool (nat_le size SIZE_LIMIT)) [
    | inl t ↦ (let same : new_trap size captures shared ≡ closure_trap captures shared = rw t refl in
        inr (grind (arith, nat_tests, t), sym same ∙ e))
    | inr t ↦ (let some : new_trap size captures shared ≡ Some SizeLimit = rw t refl in
        inl (grind (arith, nat_tests, t), cc))
  ]

  index_fits : (index : ℕ) → parameter_trap index shared ≡ None → (index < 8) × (closure_trap 0 shared ≡ None)
  index_fits index e = elim (cases_Bool (nat_le index 7)) [
    | inl t ↦ (let same : parameter_trap index shared ≡ closure_trap 0 shared = rw t refl in
        (grind (arith, nat_tests, t), sym same ∙ e))
    | inr t ↦ (let some : parameter_trap index shared ≡ Some BadParam = rw t refl in let x : ⊥ = cc in absurd x)
  ]

  index_traps : (index : ℕ) (kind : TrapKind) → parameter_trap index shared ≡ Some kind →
      ((8 ≤ index) × (kind ≡ BadParam)) ⊎ ((index < 8) × (closure_trap 0 shared ≡ Some kind))
  index_traps index kind e = elim (cases_Bool (nat_le index 7)) [
    | inl t ↦ (let same : parameter_trap index shared ≡ closure_trap 0 shared = rw t refl in
        inr (grind (arith, nat_tests, t), sym same ∙ e))
    | inr t ↦ (let some : parameter_trap index shared ≡ Some BadParam = rw t refl in
        inl (grind (arith, nat_tests, t), cc))
  ]

-- ---- a tick's specification

module _ (c : Code) (entry : ℕ) (shared : Shared) (d : Data) (low : IsBlock entry) (has : HasRows shared d) (few :
    d.registers 6 ≤ MOST_CAPTURES) (h : HasAt c entry new_code) where
  abbrev size : ℕ
  size = size_so_far d

  abbrev n1 : Data
  n1 = with_registers (update 3 size d.registers) d

  abbrev n2 : Data
  n2 = with_registers (update 7 (parameters_so_far d) n1.registers) n1

  abbrev n3 : Data
  n3 = with_registers (update 1 (bit (nat_lt SIZE_LIMIT size)) (update 1 SIZE_LIMIT n2.registers)) n2

  size_leaves : Leaves measure_size_code 0 d 0 n3
  size_leaves =
      leaves_on (lw 3 65512 28 ∷ []) (lw 7 65508 28 ∷ ori 1 0 SIZE_LIMIT ∷ sltu 1 1 3 ∷ []) 0 3 0 d n1 n3
      (one_loads (lw 3 65512 28) 0 3 d n1 refl refl
      (load_cell 3 65512 28 SIZE_CELL d (omega (arith, has.global)) refl (omega arith) (omega arith)))
      (leaves_on (lw 7 65508 28 ∷ []) (ori 1 0 SIZE_LIMIT ∷ sltu 1 1 3 ∷ []) 3 7 0 n1 n2 n3
      (one_loads (lw 7 65508 28) 3 7 n1 n2 refl refl
      (load_cell 7 65508 28 PARAMETERS_CELL n1 (omega (arith, has.global)) refl (omega arith) (omega arith)))
      (λ rest. refl))

  abbrev behind_size : List Instr
  behind_size = trap_unless_zero scratch size_limit ++ append_code

  abbrev trap_at : ℕ
  trap_at = past entry measure_size_code

  measures_size : Reaches 4 (at c entry 0 d) (at c trap_at 0 n3)
  measures_size =
      leaves_run measure_size_code c 0 0 entry d n3 size_leaves (front c entry measure_size_code behind_size h)

  size_tail : HasAt c trap_at behind_size
  size_tail = back c entry measure_size_code behind_size h

  size_test : HasAt c trap_at (trap_unless_zero scratch size_limit)
  size_test = front c trap_at (trap_unless_zero scratch size_limit) append_code size_tail

  -- where it fits, the stretch that appends is entered
  passes_size : size ≤ SIZE_LIMIT → Reaches 6 (at c entry 0 d) (at c (trap_at + 4 + 4 + 4) 0 n3)
  passes_size fits =
      reaches_on {k = 4} {n = 2} measures_size
      (zero_goes 1 23 SizeLimit c trap_at n3 refl refl (omega (arith, low)) size_test
      (ap bit (not_below SIZE_LIMIT size fits)))

  pub new_answered : new_trap size (d.registers 6) shared ≡ None →
      Answers (next_number shared) 30 30 (at c entry 0 d) c (d.registers 31) (appended (new_head d) (d.registers 6) d)
  new_answered none =
      let fits = size_fits shared size (d.registers 6) none in
      let mid = trap_at + 4 + 4 + 4 in
      behind_registers (new_head d) (d.registers 6) (next_number shared) 6 24 (at c entry 0 d) c mid (d.registers 31)
      n3.registers d (λ q k. let q1 = apart 1 q (omega arith) k in let q3 = apart 3 q (omega arith) k in
      let q7 = apart 7 q (omega arith) k in rw (q1, q3, q7) refl) (passes_size fits.0)
      (append_answered c mid shared (new_head d) (d.registers 6) n3 (omega (arith, low))
      (rows_behind shared n3.registers d refl has) few refl refl refl refl refl
      (back c trap_at (trap_unless_zero scratch size_limit) append_code size_tail) fits.1)

  pub new_ends : (kind : TrapKind) → new_trap size (d.registers 6) shared ≡ Some kind →
      EndsIn 7 15 (Ended (Trap kind)) (at c entry 0 d) c d.outside
  new_ends kind some = elim (size_traps shared size (d.registers 6) kind some) [
    | inl over ↦ subst (λ t. EndsIn 7 15 (Ended (Trap t)) (at c entry 0 d) c d.outside) (sym over.1)
        (ends_wider {l = 7} {m = 7} (omega arith) (omega arith)
        (ends_behind {l = 4} {m = 4} {l' = 3} {m' = 3} (runs_within {k = 4} (omega arith) (omega arith) measures_size)
        (other_ends 1 23 SizeLimit c trap_at n3 refl refl (omega (arith, low)) size_test
        (bit_is_one (nat_lt SIZE_LIMIT size) (is_below SIZE_LIMIT size over.0)))))
    | inr full ↦ ends_wider {l = 15} {m = 15} (omega arith) (omega arith)
        (ends_behind {l = 6} {m = 6} {l' = 9} {m' = 9} (runs_within {k = 6} (omega arith) (omega arith)
        (passes_size full.0))
        (append_ends c (trap_at + 4 + 4 + 4) shared (new_head d) (d.registers 6) n3 (omega (arith, low))
        (rows_behind shared n3.registers d refl has) few refl refl refl refl refl
        (back c trap_at (trap_unless_zero scratch size_limit) append_code size_tail) kind full.1))
  ]

-- ---- variables of generated code

module _ (c : Code) (entry : ℕ) (shared : Shared) (d : Data) (low : IsBlock entry) (has : HasRows shared d) (h : HasAt c
    entry local_code) where
  abbrev l1 : Data
  l1 = with_registers
      (update 6 0 (update 7 0 (update 3 0 (update 4 ((row_count d + 8) % 4294967296) (update 5 3 (update 4 (row_count d)
      d.registers))))))
      d

  local_leaves : Leaves local_head_code 0 d 0 l1
  local_leaves rest = rw has.global refl

  abbrev append_at : ℕ
  append_at = past entry local_head_code

  heads : Reaches 6 (at c entry 0 d) (at c append_at 0 l1)
  heads =
      leaves_run local_head_code c 0 0 entry d l1 local_leaves (front c entry local_head_code append_code h)

  key_is : (row_count d + 8) % 4294967296 ≡ 7 + next_number shared
  key_is = omega (arith, has.count, has.few, has.within)

  pub local_answered : closure_trap 0 shared ≡ None →
      Answers (next_number shared) 30 30 (at c entry 0 d) c (d.registers 31)
      (appended (local_head (next_number shared)) 0 d)
  local_answered none =
      behind_registers (local_head (next_number shared)) 0 (next_number shared) 6 24 (at c entry 0 d) c append_at
      (d.registers 31) l1.registers d (λ q k. let q3 = apart 3 q (omega arith) k in
      let q4 = apart 4 q (omega arith) k in let q5 = apart 5 q (omega arith) k in let q6 = apart 6 q (omega arith) k in
      let q7 = apart 7 q (omega arith) k in rw (q3, q4, q5, q6, q7) refl) heads
      (append_answered c append_at shared (local_head (next_number shared)) 0 l1 (omega (arith, low))
      (rows_behind shared l1.registers d refl has) (omega arith) refl key_is refl refl refl
      (back c entry local_head_code append_code h) none)

  pub local_ends : (kind : TrapKind) → closure_trap 0 shared ≡ Some kind →
      EndsIn 15 15 (Ended (Trap kind)) (at c entry 0 d) c d.outside
  local_ends kind some =
      ends_behind {l = 6} {m = 6} {l' = 9} {m' = 9} (runs_within {k = 6} (omega arith) (omega arith) heads)
      (append_ends c append_at shared (local_head (next_number shared)) 0 l1 (omega (arith, low))
      (rows_behind shared l1.registers d refl has) (omega arith) refl key_is refl refl refl
      (back c entry local_head_code append_code h) kind some)

module _ (c : Code) (entry : ℕ) (shared : Shared) (d : Data) (low : IsBlock entry) (has : HasRows shared d) (h : HasAt c
    entry parameter_code) where
  abbrev index : ℕ
  index = d.registers 4

  abbrev p1 : Data
  p1 = with_registers (update 1 (bit (nat_lt index 8)) d.registers) d

  abbrev p2 : Data
  p2 = with_registers
      (update 6 0 (update 3 0 (update 7 ((index + 1) % 4294967296) (update 5 4 p1.registers))))
      p1

  abbrev test_code : List Instr
  test_code = sltiu scratch 4 8 ∷ []

  abbrev behind_head : List Instr
  behind_head = parameter_head_code ++ append_code

  abbrev behind_test : List Instr
  behind_test = trap_if_zero scratch bad_parameter ++ behind_head

  abbrev test_at : ℕ
  test_at = entry + 4

  abbrev head_at : ℕ
  head_at = test_at + 4 + 4 + 4

  abbrev append_place : ℕ
  append_place = past head_at parameter_head_code

  tests : Reaches 1 (at c entry 0 d) (at c test_at 0 p1)
  tests = leaves_run test_code c 0 0 entry d p1 (λ rest. refl) (h.0, tt)

  index_test : HasAt c test_at (trap_if_zero scratch bad_parameter)
  index_test = front c test_at (trap_if_zero scratch bad_parameter) behind_head h.1

  head_stands : HasAt c head_at behind_head
  head_stands = back c test_at (trap_if_zero scratch bad_parameter) behind_head h.1

  append_stands : HasAt c append_place append_code
  append_stands = back c head_at parameter_head_code append_code head_stands

  passes_index : index < 8 → Reaches 7 (at c entry 0 d) (at c append_place 0 p2)
  passes_index fits =
      reaches_on {k = 3} {n = 4}
      (reaches_on {k = 1} {n = 2} tests (other_passes 1 19 c test_at p1 refl (omega (arith, low)) index_test
      (bit_is_one (nat_lt index 8) (is_below index 8 fits))))
      (leaves_run parameter_head_code c 0 0 head_at p1 p2 (λ rest. refl)
      (front c head_at parameter_head_code append_code head_stands))

  more_is : index < 8 → (index + 1) % 4294967296 ≡ suc index
  more_is fits = omega (arith, fits)

  pub parameter_answered : parameter_trap index shared ≡ None →
      Answers (next_number shared) 31 31 (at c entry 0 d) c (d.registers 31) (appended (parameter_head index) 0 d)
  parameter_answered none =
      let fits = index_fits shared index none in
      behind_registers (parameter_head index) 0 (next_number shared) 7 24 (at c entry 0 d) c append_place
      (d.registers 31) p2.registers d (λ q k. let q1 = apart 1 q (omega arith) k in
      let q3 = apart 3 q (omega arith) k in let q5 = apart 5 q (omega arith) k in let q6 = apart 6 q (omega arith) k in
      let q7 = apart 7 q (omega arith) k in rw (q1, q3, q5, q6, q7) refl) (passes_index fits.0)
      (append_answered c append_place shared (parameter_head index) 0 p2 (omega (arith, low))
      (rows_behind shared p2.registers d refl has) (omega arith) refl refl refl refl (more_is fits.0) append_stands
      fits.1)

  pub parameter_ends : (kind : TrapKind) → parameter_trap index shared ≡ Some kind →
      EndsIn 4 16 (Ended (Trap kind)) (at c entry 0 d) c d.outside
  parameter_ends kind some = elim (index_traps shared index kind some) [
    | inl over ↦ subst (λ t. EndsIn 4 16 (Ended (Trap t)) (at c entry 0 d) c d.outside) (sym over.1)
        (ends_wider {l = 4} {m = 4} (omega arith) (omega arith)
        (ends_behind {l = 1} {m = 1} {l' = 3} {m' = 3} (runs_within {k = 1} (omega arith) (omega arith) tests)
        (zero_ends 1 19 BadParam c test_at p1 refl refl (omega (arith, low)) index_test
        (ap bit (not_below index 8 over.0)))))
    | inr full ↦ ends_wider {l = 16} {m = 16} (omega arith) (omega arith)
        (ends_behind {l = 7} {m = 7} {l' = 9} {m' = 9} (runs_within {k = 7} (omega arith) (omega arith)
        (passes_index full.0))
        (append_ends c append_place shared (parameter_head index) 0 p2 (omega (arith, low))
        (rows_behind shared p2.registers d refl has) (omega arith) refl refl refl refl (more_is full.0) append_stands
        kind full.1))
  ]
