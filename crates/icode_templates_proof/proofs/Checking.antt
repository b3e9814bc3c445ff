-- The routine that begins a tick's specification, and those that check a captured one and add it up.
use Rattle.std.proofs.Common.{◌≡◌, ◌≢◌, inl, inr, ℕ, zero, suc, ◌+◌, ◌*◌, ◌/◌, ◌%◌, ◌<◌, ◌≤◌, ◌⊎◌, Bool, true, false}
use Rattle.std.proofs.Common.{List, [], ◌∷◌, ◌++◌, length, Option, Some, None, refl, sym, ap, ◌∙◌, subst, arith}
use Rattle.std.proofs.Common.{nat_eq, nat_lt, nat_le, slice_get, if◌then◌else◌}
use Rattle.std.proofs.lemmas.Bool.{cases_Bool, cases_lt, eq-eqb}
use Rattle.std.proofs.lemmas.Bool.Decides.{nat_tests}
use Rattle.std.proofs.lemmas.Option.{slice_get_past}
use Rattle.word32.specs.Space.{update}
use Rattle.word32.specs.declared.map.TheConstants.{CLOSURES, CLOSURE_BYTES, GLOBAL_POINTER, PARAMETERS_CELL}
use Rattle.word32.specs.declared.map.TheConstants.{SPEC_ROW_BYTES}
use Rattle.word32.specs.declared.map.TheConstants.{SIZE_CELL, SPEC_ROWS}
use Rattle.host_edge.specs.declared.ending.Ending.TheVariants.{Trap}
use Rattle.host_edge.specs.declared.ending.TrapKind.{TrapKind}
use Rattle.host_edge.specs.declared.ending.TrapKind.TheVariants.{BadSpec}
use Rattle.history.specs.Events.{Ended}
use Rattle.mips_encoder.specs.declared.instruction.Instr.{Instr}
use Rattle.mips_encoder.specs.Addresses.{past}
use Rattle.mips_model.specs.State.{Code, Data, set_register}
use Rattle.mips_model.specs.Accesses.{Loads, Branches}
use Rattle.mips_model.specs.Arithmetic.{bit}
use Rattle.mips_model.specs.Effects.{effect}
use Rattle.mips_model.specs.Steps.{load_hazard}
use Rattle.mips_model.specs.Laws.{HasAt, at, Reaches}
use Rattle.mips_model.proofs.Reach.{front, back, reaches_on}
use Rattle.meaning_state.specs.Rows.{numbered}
use Rattle.mips_assembly.specs.Assembly.{scratch, addu, beq, lw, nop, sltu, sw}
use Rattle.icode_templates.specs.Templates.{trap_if_zero, trap_unless_zero}
use Rattle.icode_templates_proof.specs.Spots.{IsKept}
use Rattle.icode_templates_proof.specs.Moves.{EndsIn}
use Rattle.icode_templates_proof.proofs.Leaves.{Leaves, leaves_on, leaves_run, runs_within}
use Rattle.icode_templates_proof.proofs.Keeping.{with_registers, keeps_same}
use Rattle.icode_templates_proof.proofs.Memory.{update_other}
use Rattle.icode_templates_proof.proofs.Checks.{other_passes}
use Rattle.icode_templates_proof.proofs.Endings.{ends_behind, ends_wider}
use Rattle.icode_templates_proof.proofs.Jumps.{branch_reaches}
use Rattle.icode_templates_proof.specs.Malloc.{return_code}
use Rattle.icode_templates_proof.specs.MallocLaws.{Answers}
use Rattle.icode_templates_proof.specs.Closures.{Closure, word_at, with_word, row_place, closure_of, row_count}
use Rattle.icode_templates_proof.specs.Closures.{size_so_far, parameters_so_far, with_so_far, Stands, bytes_of}
use Rattle.icode_templates_proof.specs.Closures.{HasClosures}
use Rattle.icode_templates_proof.specs.Routines.{begin_code, bad_spec, Named, AnExpression, AStatement, AVariable}
use Rattle.icode_templates_proof.specs.Routines.{test_kind}
use Rattle.icode_templates_proof.specs.Routines.{live_code, find_code, load_row_code, load_kind_code, load_sizes_code}
use Rattle.icode_templates_proof.specs.Routines.{add_size_code, raise_code, store_parameters_code, add_code}
use Rattle.icode_templates_proof.specs.Routines.{check_code}
use Rattle.icode_templates_proof.specs.RoutineLaws.{IsBlock, is_named, named_trap, more_of, added}
use Rattle.icode_templates_proof.proofs.Blocks.{return_reaches}
use Rattle.icode_templates_proof.proofs.Kept.{not_low, and_write}
use Rattle.icode_templates_proof.proofs.Skips.{one_leaves, one_loads, zero_goes, zero_ends, other_ends}
use Rattle.icode_templates_proof.proofs.Accesses.{load_closure, load_row, load_cell, store_cell}
use Rattle.icode_templates_proof.proofs.Appending.{is_below, not_below, bit_is_one, apart}

-- ---- begin

module _ (c : Code) (entry : ℕ) (d : Data) (g : d.registers 28 ≡ GLOBAL_POINTER) (h : HasAt c entry begin_code) where
  abbrev b1 : Data
  b1 = record d { cells = with_word SIZE_CELL (d.registers 4) d.cells }

  abbrev b2 : Data
  b2 = record b1 { cells = with_word PARAMETERS_CELL 0 b1.cells }

  abbrev b3 : Data
  b3 = with_registers (update 2 0 d.registers) b2

  abbrev begun_code : List Instr
  begun_code = sw 4 65512 28 ∷ sw 0 65508 28 ∷ addu 2 0 0 ∷ []

  begins : Leaves begun_code 0 d 0 b3
  begins =
      leaves_on (sw 4 65512 28 ∷ []) (sw 0 65508 28 ∷ addu 2 0 0 ∷ []) 0 0 0 d b1 b3
      (one_leaves (sw 4 65512 28) 0 d b1 refl refl
      (store_cell 4 65512 28 SIZE_CELL d (omega (arith, g)) refl (d.registers 4) refl (omega arith) (omega arith)))
      (leaves_on (sw 0 65508 28 ∷ []) (addu 2 0 0 ∷ []) 0 0 0 b1 b2 b3
      (one_leaves (sw 0 65508 28) 0 b1 b2 refl refl
      (store_cell 0 65508 28 PARAMETERS_CELL b1 (omega (arith, g)) refl 0 refl (omega arith) (omega arith)))
      (λ rest. refl))

  pub begin_answered : Answers 0 5 5 (at c entry 0 d) c (d.registers 31) (with_so_far (d.registers 4) 0 d)
  begin_answered = record {
    after = b3;
    runs = runs_within {k = 5} (omega arith) (omega arith)
        (reaches_on {k = 3} {n = 2} (leaves_run begun_code c 0 0 entry d b3 begins
        (front c entry begun_code return_code h))
        (return_reaches c (past entry begun_code) b3 (back c entry begun_code return_code h)));
    answer = refl;
    keeps = and_write 2 0 b2 (omega arith) (keeps_same b2);
  }

-- ---- live numbers

pub get_below : {A : Type 0} (xs : List A) (i : ℕ) (x : A) → slice_get xs i ≡ Some x → i < length xs
get_below xs i x e = elim (cases_lt i (length xs)) [
  | inl l ↦ l
  | inr past ↦ (let none = slice_get_past xs i past in let z : ⊥ = cc in absurd z)
]

-- a closure with this number is there
pub record Live (number : ℕ) (ks : List Closure) (k : Closure) : Type 0 where
  pub index : ℕ
  pub number_is : number ≡ suc index
  pub there : slice_get ks index ≡ Some k
  pub below : index < length ks

pub is_live : (number : ℕ) (ks : List Closure) (k : Closure) → numbered number ks ≡ Some k → Live number ks k
is_live zero ks k e = let x : ⊥ = cc in absurd x
is_live (suc n) ks k e = record { index = n; number_is = refl; there = e; below = get_below ks n k e }

pub is_dead : (number : ℕ) (ks : List Closure) → numbered number ks ≡ None → (number ≡ 0) ⊎ (length ks < number)
is_dead zero ks e = inl refl
is_dead (suc n) ks e = elim (cases_lt n (length ks)) [
  | inl l ↦ absurd (got ks n l e)
  | inr past ↦ inr (omega (arith, past))
]
  where
    got : (ks : List Closure) (n : ℕ) → n < length ks → slice_get ks n ≡ None → ⊥
    got [] n l e = omega (arith, l)
    got (k ∷ ks) zero l e = cc
    got (k ∷ ks) (suc n) l e = got ks n (omega (arith, l)) e

pub bytes_least : (ks : List Closure) → 16 * length ks ≤ bytes_of ks
bytes_least [] = omega arith
bytes_least (k ∷ ks) = let ih = bytes_least ks in omega (arith, ih)

-- tests of numbers
equal : (x n : ℕ) → nat_eq x n ≡ true → x ≡ n
equal x n e = grind (arith, nat_tests, e)

differ : (x n : ℕ) → nat_eq x n ≡ false → x ≢ n
differ x n e is = let t : nat_eq x n ≡ true = eq-eqb x n is in let z : ⊥ = cc in z

at_least : (x n : ℕ) → nat_le n x ≡ true → n ≤ x
at_least x n e = grind (arith, nat_tests, e)

fewer : (x n : ℕ) → nat_le n x ≡ false → x < n
fewer x n e = grind (arith, nat_tests, e)

-- what the test makes of a kind
abbrev pub tested : Named → ℕ → ℕ
tested AnExpression kind = (kind + 4294967295) % 4294967296
tested AStatement kind = (kind + 4294967294) % 4294967296
tested AVariable kind = bit (nat_lt kind 3)

pub tested_zero : (named : Named) (kind : ℕ) → is_named named kind ≡ true → tested named kind ≡ 0
tested_zero AnExpression kind e = let is : kind ≡ 1 = equal kind 1 e in omega (arith, is)
tested_zero AStatement kind e = let is : kind ≡ 2 = equal kind 2 e in omega (arith, is)
tested_zero AVariable kind e = ap bit (not_below kind 3 (at_least kind 3 e))

pub tested_other : (named : Named) (kind : ℕ) → kind < 4294967296 → is_named named kind ≡ false →
    tested named kind ≢ 0
tested_other AnExpression kind b e z =
    let z' : (kind + 4294967295) % 4294967296 ≡ 0 = z in differ kind 1 e (omega (arith, b, z'))
tested_other AStatement kind b e z =
    let z' : (kind + 4294967294) % 4294967296 ≡ 0 = z in differ kind 2 e (omega (arith, b, z'))
tested_other AVariable kind b e z = bit_is_one (nat_lt kind 3) (is_below kind 3 (fewer kind 3 e)) z

test_leaves : (named : Named) (d : Data) →
    Leaves (test_kind named ∷ []) 0 d 0 (with_registers (update 3 (tested named (d.registers 3)) d.registers) d)
test_leaves AnExpression d rest = refl
test_leaves AStatement d rest = refl
test_leaves AVariable d rest = refl

nop_leaves : (l : ℕ) (d : Data) → load_hazard l nop ≡ false → Leaves (nop ∷ []) l d 0 d
nop_leaves l d quiet = one_leaves nop l d d quiet refl refl

-- ---- the stretches

module _ (named : Named) (c : Code) (entry : ℕ) (ks : List Closure) (d : Data) (low : IsBlock entry) (has : HasClosures
    ks d) (b : d.registers 4 < 4294967296) (h : HasAt c entry (check_code named)) where
  abbrev less : ℕ
  less = (d.registers 4 + 4294967295) % 4294967296

  abbrev m1 : Data
  m1 = with_registers
      (update 1 (bit (nat_lt less (row_count d))) (update 2 less (update 3 (row_count d) d.registers)))
      d

  live_leaves : Leaves live_code 0 d 0 m1
  live_leaves rest = rw has.global refl

  abbrev trap_at : ℕ
  trap_at = past entry live_code

  abbrev find_at : ℕ
  find_at = trap_at + 4 + 4 + 4

  -- what is found, up to the test of the kind
  abbrev kind_front : List Instr
  kind_front = load_kind_code ++ (test_kind named ∷ [])

  abbrev found_code : List Instr
  found_code = find_code ++ (load_row_code ++ kind_front)

  abbrev behind_found : List Instr
  behind_found = trap_unless_zero 3 bad_spec ++ add_code

  abbrev behind_live : List Instr
  behind_live = trap_if_zero scratch bad_spec ++ (found_code ++ behind_found)

  lives : Reaches 3 (at c entry 0 d) (at c trap_at 0 m1)
  lives = leaves_run live_code c 0 0 entry d m1 live_leaves (front c entry live_code behind_live h)

  live_tail : HasAt c trap_at behind_live
  live_tail = back c entry live_code behind_live h

  live_test : HasAt c trap_at (trap_if_zero scratch bad_spec)
  live_test = front c trap_at (trap_if_zero scratch bad_spec) (found_code ++ behind_found) live_tail

  found_stands : HasAt c find_at (found_code ++ behind_found)
  found_stands = back c trap_at (trap_if_zero scratch bad_spec) (found_code ++ behind_found) live_tail

  -- the number is none that is live
  dead_is : (d.registers 4 ≡ 0) ⊎ (length ks < d.registers 4) → row_count d ≤ less
  dead_is dead =
      let least = bytes_least ks in
      elim dead [
        | inl z ↦ omega (arith, z, least, has.count, has.within)
        | inr over ↦ omega (arith, over, b, has.count)
      ]

  dead_ends : numbered (d.registers 4) ks ≡ None →
      EndsIn 6 6 (Ended (Trap BadSpec)) (at c entry 0 d) c d.outside
  dead_ends none =
      ends_behind {l = 3} {m = 3} {l' = 3} {m' = 3} (runs_within {k = 3} (omega arith) (omega arith) lives)
      (zero_ends 1 18 BadSpec c trap_at m1 refl refl (omega (arith, low)) live_test
      (ap bit (not_below less (row_count d) (dead_is (is_dead (d.registers 4) ks none)))))

  module _ (k : Closure) (v : Live (d.registers 4) ks k) where
    abbrev n : ℕ
    n = v.index

    abbrev a : ℕ
    a = closure_of d (suc n)

    stands : Stands d (suc n) k
    stands = has.stand n k v.there

    few : n < SPEC_ROW_BYTES / 4
    few = let least = bytes_least ks in omega (arith, v.below, least, has.within)

    less_is : less ≡ n
    less_is = omega (arith, b, v.number_is)

    to : a + 16 ≤ CLOSURES + CLOSURE_BYTES
    to = omega (arith, stands.to, has.next, has.within)

    -- the words of the closure
    kind_word : word_at d.closures (a + 4) ≡ k.head.kind
    kind_word = ap (λ x. x.head.kind) stands.reads

    size_word : word_at d.closures (a + 8) ≡ k.head.size
    size_word = ap (λ x. x.head.size) stands.reads

    parameters_word : word_at d.closures (a + 12) ≡ k.head.parameters
    parameters_word = ap (λ x. x.head.parameters) stands.reads

    kind_low : k.head.kind < 4294967296
    kind_low = subst (λ x. x < 4294967296) kind_word (has.words ((a + 4) / 4))

    parameters_low : k.head.parameters < 4294967296
    parameters_low = subst (λ x. x < 4294967296) parameters_word (has.words ((a + 12) / 4))

    abbrev m2 : Data
    m2 = with_registers
        (update 2 ((less * 4 % 4294967296 + SPEC_ROWS) % 4294967296) (update 1 SPEC_ROWS
        (update 2 (less * 4 % 4294967296) m1.registers)))
        d

    abbrev m3 : Data
    m3 = with_registers (update 2 a m2.registers) d

    abbrev m4 : Data
    m4 = with_registers (update 3 k.head.kind m3.registers) d

    abbrev m5 : Data
    m5 = with_registers (update 3 (tested named k.head.kind) m4.registers) d

    row_leaves : Leaves load_row_code 0 m2 0 m3
    row_leaves =
        leaves_on (lw 2 0 2 ∷ []) (nop ∷ []) 0 2 0 m2 m3 m3
        (one_loads (lw 2 0 2) 0 2 m2 m3 refl refl
        (load_row 2 0 2 (row_place (suc n)) m2 (omega (arith, less_is, few)) (omega arith) (omega arith)
        (omega (arith, few)))) (nop_leaves 2 m3 refl)

    kind_leaves : Leaves load_kind_code 0 m3 0 m4
    kind_leaves =
        leaves_on (lw 3 4 2 ∷ []) (nop ∷ []) 0 3 0 m3 m4 m4
        (one_loads (lw 3 4 2) 0 3 m3 m4 refl refl
        (load_closure 3 4 2 (a + 4) m3 (omega (arith, to)) (omega (arith, stands.even)) (omega (arith, stands.from))
        (omega (arith, to)) ∙ ap (λ x. Loads 3 (set_register 3 x m3)) kind_word)) (nop_leaves 3 m4 refl)

    found_leaves : Leaves found_code 0 m1 0 m5
    found_leaves =
        leaves_on find_code (load_row_code ++ kind_front) 0 0 0 m1 m2 m5 (λ rest. refl)
        (leaves_on load_row_code kind_front 0 0 0 m2 m3 m5 row_leaves
        (leaves_on load_kind_code (test_kind named ∷ []) 0 0 0 m3 m4 m5 kind_leaves (test_leaves named m4)))

    abbrev kind_at : ℕ
    kind_at = past find_at found_code

    comes : Reaches 13 (at c entry 0 d) (at c kind_at 0 m5)
    comes =
        reaches_on {k = 5} {n = 8}
        (reaches_on {k = 3} {n = 2} lives
        (other_passes 1 18 c trap_at m1 refl (omega (arith, low)) live_test
        (bit_is_one (nat_lt less (row_count d))
        (is_below less (row_count d) (omega (arith, less_is, v.below, has.count))))))
        (leaves_run found_code c 0 0 find_at m1 m5 found_leaves (front c find_at found_code behind_found found_stands))

    kind_stands : HasAt c kind_at behind_found
    kind_stands = back c find_at found_code behind_found found_stands

    kind_test : HasAt c kind_at (trap_unless_zero 3 bad_spec)
    kind_test = front c kind_at (trap_unless_zero 3 bad_spec) add_code kind_stands

    other_kind_ends : is_named named k.head.kind ≡ false →
        EndsIn 16 16 (Ended (Trap BadSpec)) (at c entry 0 d) c d.outside
    other_kind_ends other =
        ends_behind {l = 13} {m = 13} {l' = 3} {m' = 3} (runs_within {k = 13} (omega arith) (omega arith) comes)
        (other_ends 3 18 BadSpec c kind_at m5 refl refl (omega (arith, low)) kind_test
        (tested_other named k.head.kind kind_low other))

    -- ---- size and parameters are added

    abbrev so_far : ℕ
    so_far = parameters_so_far d

    abbrev own : ℕ
    own = k.head.parameters

    abbrev m6 : Data
    m6 = with_registers (update 5 k.head.size m5.registers) d

    abbrev m7 : Data
    m7 = with_registers (update 7 own m6.registers) d

    abbrev m8 : Data
    m8 = with_registers (update 6 (size_so_far d) m7.registers) d

    abbrev m9 : Data
    m9 = with_registers (update 3 so_far m8.registers) d

    abbrev m10 : Data
    m10 = with_registers (update 5 ((k.head.size + size_so_far d) % 4294967296) m9.registers) d

    abbrev m11 : Data
    m11 = record m10 { cells = with_word SIZE_CELL (size_so_far d + k.head.size) d.cells }

    abbrev m12 : Data
    m12 = with_registers (update 1 (bit (nat_lt so_far own)) m10.registers) m11

    sizes_leaves : Leaves load_sizes_code 0 m5 7 m7
    sizes_leaves =
        leaves_on (lw 5 8 2 ∷ []) (lw 7 12 2 ∷ []) 0 5 7 m5 m6 m7
        (one_loads (lw 5 8 2) 0 5 m5 m6 refl refl
        (load_closure 5 8 2 (a + 8) m5 (omega (arith, to)) (omega (arith, stands.even)) (omega (arith, stands.from))
        (omega (arith, to)) ∙ ap (λ x. Loads 5 (set_register 5 x m5)) size_word))
        (one_loads (lw 7 12 2) 5 7 m6 m7 refl refl
        (load_closure 7 12 2 (a + 12) m6 (omega (arith, to)) (omega (arith, stands.even)) (omega (arith, stands.from))
        (omega (arith, to)) ∙ ap (λ x. Loads 7 (set_register 7 x m6)) parameters_word))

    module _ (small : size_so_far d + k.head.size < 4294967296) where
      add_leaves : Leaves add_size_code 7 m7 0 m12
      add_leaves =
          leaves_on (lw 6 65512 28 ∷ []) (lw 3 65508 28 ∷ addu 5 5 6 ∷ sw 5 65512 28 ∷ sltu 1 3 7 ∷ []) 7 6 0 m7 m8 m12
          (one_loads (lw 6 65512 28) 7 6 m7 m8 refl refl
          (load_cell 6 65512 28 SIZE_CELL m7 (omega (arith, has.global)) refl (omega arith) (omega arith)))
          (leaves_on (lw 3 65508 28 ∷ []) (addu 5 5 6 ∷ sw 5 65512 28 ∷ sltu 1 3 7 ∷ []) 6 3 0 m8 m9 m12
          (one_loads (lw 3 65508 28) 6 3 m8 m9 refl refl
          (load_cell 3 65508 28 PARAMETERS_CELL m8 (omega (arith, has.global)) refl (omega arith) (omega arith)))
          (leaves_on (addu 5 5 6 ∷ []) (sw 5 65512 28 ∷ sltu 1 3 7 ∷ []) 3 0 0 m9 m10 m12 (λ rest. refl)
          (leaves_on (sw 5 65512 28 ∷ []) (sltu 1 3 7 ∷ []) 0 0 0 m10 m11 m12
          (one_leaves (sw 5 65512 28) 0 m10 m11 refl refl
          (store_cell 5 65512 28 SIZE_CELL m10 (omega (arith, has.global)) refl (size_so_far d + k.head.size)
          (omega (arith, small)) (omega arith) (omega arith)))
          (λ rest. refl))))

      abbrev sums_code : List Instr
      sums_code = load_sizes_code ++ add_size_code

      abbrev last_code : List Instr
      last_code = store_parameters_code ++ return_code

      abbrev behind_sums : List Instr
      behind_sums = raise_code ++ last_code

      abbrev add_at : ℕ
      add_at = kind_at + 4 + 4 + 4

      abbrev raise_at : ℕ
      raise_at = past add_at sums_code

      abbrev last_at : ℕ
      last_at = raise_at + 4 + 4 + 4

      add_stands : HasAt c add_at (sums_code ++ behind_sums)
      add_stands = back c kind_at (trap_unless_zero 3 bad_spec) add_code kind_stands

      raise_stands : HasAt c raise_at behind_sums
      raise_stands = back c add_at sums_code behind_sums add_stands

      last_stands : HasAt c last_at last_code
      last_stands = back c raise_at raise_code last_code raise_stands

      sums : is_named named k.head.kind ≡ true → Reaches 22 (at c entry 0 d) (at c raise_at 0 m12)
      sums fits =
          reaches_on {k = 15} {n = 7}
          (reaches_on {k = 13} {n = 2} comes
          (zero_goes 3 18 BadSpec c kind_at m5 refl refl (omega (arith, low)) kind_test
          (tested_zero named k.head.kind fits)))
          (leaves_run sums_code c 0 0 add_at m5 m12
          (leaves_on load_sizes_code add_size_code 0 7 0 m5 m7 m12 sizes_leaves add_leaves)
          (front c add_at sums_code behind_sums add_stands))

      -- the parameters so far are stored
      module _ (f : ℕ → ℕ) (f3 : f 3 ≡ more_of so_far own) (f28 : f 28 ≡ GLOBAL_POINTER) (f31 : f 31 ≡ d.registers 31)
          (kept : (q : ℕ) → IsKept q → f q ≡ d.registers q) where
        abbrev r0 : Data
        r0 = with_registers f m11

        abbrev r1 : Data
        r1 = record r0 { cells = with_word PARAMETERS_CELL (more_of so_far own) m11.cells }

        abbrev r2 : Data
        r2 = with_registers (update 2 0 f) r1

        last_leaves : Leaves store_parameters_code 0 r0 0 r2
        last_leaves =
            leaves_on (sw 3 65508 28 ∷ []) (addu 2 0 0 ∷ []) 0 0 0 r0 r1 r2
            (one_leaves (sw 3 65508 28) 0 r0 r1 refl refl
            (store_cell 3 65508 28 PARAMETERS_CELL r0 (omega (arith, f28)) refl (more_of so_far own) f3 (omega arith)
            (omega arith)))
            (λ rest. refl)

        ends_well : (j : ℕ) → 24 ≤ j → j ≤ 25 → Reaches j (at c entry 0 d) (at c last_at 0 r0) →
            Answers 0 28 29 (at c entry 0 d) c (d.registers 31) (added k.head d)
        ends_well j least most first =
            let second = leaves_run store_parameters_code c 0 0 last_at r0 r2 last_leaves
            (front c last_at store_parameters_code return_code last_stands) in
            let third = return_reaches c (past last_at store_parameters_code) r2
            (back c last_at store_parameters_code return_code last_stands) in
            let whole : Reaches (j + 4) (at c entry 0 d) (at c (d.registers 31) 0 r2) =
            subst (λ z. Reaches (j + 4) (at c entry 0 d) (at c z 0 r2)) f31
            (reaches_on {k = j} {n = 4} first (reaches_on {k = 2} {n = 2} second third)) in
            record {
              after = r2;
              runs = runs_within {k = j + 4} (omega (arith, least)) (omega (arith, most)) whole;
              answer = refl;
              keeps = record {
                registers = λ q z. let q2 = apart 2 q (omega arith) z in rw q2 (kept q z);
                stack = refl;
                world = record {
                  objects = refl;
                  closures = refl;
                  spec_rows = refl;
                  cells = refl;
                  emit_stack = refl;
                  table = refl;
                  outside = refl;
                };
              };
            }

      kept_12 : (q : ℕ) → IsKept q → m12.registers q ≡ d.registers q
      kept_12 q z =
          let q1 = apart 1 q (omega arith) z in let q2 = apart 2 q (omega arith) z in
          let q3 = apart 3 q (omega arith) z in let q5 = apart 5 q (omega arith) z in
          let q6 = apart 6 q (omega arith) z in let q7 = apart 7 q (omega arith) z in
          rw (q1, q2, q3, q5, q6, q7) refl

      abbrev raised : ℕ → ℕ
      raised = update 3 ((own + 0) % 4294967296) m12.registers

      kept_raised : (q : ℕ) → IsKept q → raised q ≡ d.registers q
      kept_raised q z =
          update_other 3 ((own + 0) % 4294967296) m12.registers q (not_low 3 (omega arith) q z) ∙ kept_12 q z

      -- its own are more
      rises : is_named named k.head.kind ≡ true → nat_lt so_far own ≡ true →
          Answers 0 28 29 (at c entry 0 d) c (d.registers 31) (added k.head d)
      rises fits l =
          let t : effect (beq 1 0 2) m12 ≡ Branches false 2 = ap (λ (x : Bool). Branches (nat_eq (bit x) 0) 2) l in
          let same : (own + 0) % 4294967296 ≡ own = omega (arith, parameters_low) in
          let more : (own + 0) % 4294967296 ≡ more_of so_far own =
          same ∙ sym (ap (λ (x : Bool). if x then own else so_far) l) in
          ends_well raised more has.global refl kept_raised 25 (omega arith) (omega arith)
          (reaches_on {k = 22} {n = 3} (sums fits)
          (reaches_on {k = 2} {n = 1}
          (branch_reaches (beq 1 0 2) c raise_at 2 (raise_at + 4 + 4) false m12 refl refl t refl raise_stands.0
          raise_stands.1.0)
          (leaves_run (addu 3 7 0 ∷ []) c 0 0 (raise_at + 4 + 4) m12 (with_registers raised m11) (λ rest. refl)
          (raise_stands.1.1.0, tt))))

      stays : is_named named k.head.kind ≡ true → nat_lt so_far own ≡ false →
          Answers 0 28 29 (at c entry 0 d) c (d.registers 31) (added k.head d)
      stays fits l =
          let t : effect (beq 1 0 2) m12 ≡ Branches true 2 = ap (λ (x : Bool). Branches (nat_eq (bit x) 0) 2) l in
          ends_well m12.registers (sym (ap (λ (x : Bool). if x then own else so_far) l)) has.global refl kept_12 24
          (omega arith) (omega arith)
          (reaches_on {k = 22} {n = 2} (sums fits)
          (branch_reaches (beq 1 0 2) c raise_at 2 last_at true m12 refl refl t (omega (arith, low)) raise_stands.0
          raise_stands.1.0))

      adds : is_named named k.head.kind ≡ true →
          Answers 0 28 29 (at c entry 0 d) c (d.registers 31) (added k.head d)
      adds fits = elim (cases_Bool (nat_lt so_far own)) [
        | inl l ↦ rises fits l
        | inr l ↦ stays fits l
      ]

-- ---- whole

pub check_answered : (named : Named) (c : Code) (entry : ℕ) (ks : List Closure) (k : Closure) (d : Data)
    → IsBlock entry → HasClosures ks d → d.registers 4 < 4294967296 → numbered (d.registers 4) ks ≡ Some k
    → is_named named k.head.kind ≡ true → size_so_far d + k.head.size < 4294967296
    → HasAt c entry (check_code named)
    → Answers 0 28 29 (at c entry 0 d) c (d.registers 31) (added k.head d)
check_answered named c entry ks k d low has b e fits small h =
    adds named c entry ks d low has b h k (is_live (d.registers 4) ks k e) small fits

-- no trap but BadSpec
same_kind : (kind : TrapKind) → Some BadSpec ≡ Some kind → BadSpec ≡ kind
same_kind kind e = cc

no_kind : (kind : TrapKind) → None ≡ Some kind → ⊥
no_kind kind e = cc

module _ (named : Named) (c : Code) (entry : ℕ) (ks : List Closure) (d : Data) (kind : TrapKind) (low : IsBlock entry)
    (has : HasClosures ks d) (b : d.registers 4 < 4294967296) (h : HasAt c entry (check_code named)) where
  abbrev EndsAs : TrapKind → Type 0
  EndsAs t = EndsIn 6 16 (Ended (Trap t)) (at c entry 0 d) c d.outside

  by_kind : (k : Closure) → numbered (d.registers 4) ks ≡ Some k → (fits : Bool) → is_named named k.head.kind ≡ fits →
      (if fits then None else Some BadSpec) ≡ Some kind → EndsAs kind
  by_kind k e true is some = absurd (no_kind kind some)
  by_kind k e false is some =
      subst EndsAs (same_kind kind some)
      (ends_wider {l = 16} {m = 16} (omega arith) (omega arith)
      (other_kind_ends named c entry ks d low has b h k (is_live (d.registers 4) ks k e) is))

  by_row : (o : Option Closure) → numbered (d.registers 4) ks ≡ o → named_trap named o ≡ Some kind → EndsAs kind
  by_row None e some =
      subst EndsAs (same_kind kind some)
      (ends_wider {l = 6} {m = 6} (omega arith) (omega arith) (dead_ends named c entry ks d low has b h e))
  by_row (Some k) e some = by_kind k e (is_named named k.head.kind) refl some

  pub check_ends : named_trap named (numbered (d.registers 4) ks) ≡ Some kind → EndsAs kind
  check_ends some = by_row (numbered (d.registers 4) ks) refl some
