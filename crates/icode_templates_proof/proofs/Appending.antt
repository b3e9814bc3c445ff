-- The stretch that appends a specification: where there is room, its closure, its row and the cells are written.
use Rattle.std.proofs.Common.{◌/◌, ◌≡◌, ◌≢◌, inl, inr, ℕ, suc, ◌+◌, ◌*◌, ◌%◌, ◌<◌, ◌≤◌, Bool, true, false, List, []}
use Rattle.std.proofs.Common.{◌∷◌, ◌++◌}
use Rattle.std.proofs.Common.{Some, None, refl, sym, ap, subst, arith, nat_eq, nat_lt, nat_le}
use Rattle.std.proofs.lemmas.Bool.{cases_Bool, ne_eqb}
use Rattle.std.proofs.lemmas.Bool.Decides.{nat_tests}
use Rattle.word32.specs.Space.{update}
use Rattle.word32.specs.declared.map.TheConstants.{CLOSURES, CLOSURE_BYTES, GLOBAL_POINTER, SEGMENT_BYTES, SPEC_ROWS}
use Rattle.word32.specs.declared.map.TheConstants.{SPEC_ROW_BYTES}
use Rattle.word32.specs.declared.map.TheConstants.{NEXT_CLOSURE_CELL, SPEC_COUNT_CELL, CLOSURE_CELL}
use Rattle.host_edge.specs.declared.ending.Ending.TheVariants.{Trap}
use Rattle.host_edge.specs.declared.ending.TrapKind.{TrapKind}
use Rattle.host_edge.specs.declared.ending.TrapKind.TheVariants.{SpecLimit}
use Rattle.history.specs.Events.{Ended}
use Rattle.mips_encoder.specs.declared.instruction.Instr.{Instr}
use Rattle.mips_encoder.specs.Addresses.{past}
use Rattle.mips_model.specs.State.{Code, Data}
use Rattle.mips_model.specs.Arithmetic.{bit}
use Rattle.mips_model.specs.Laws.{HasAt, at, Reaches}
use Rattle.mips_model.proofs.Reach.{front, back, reaches_on}
use Rattle.meaning_state.specs.Shared.{Shared}
use Rattle.meaning_state.specs.Rows.{closure_bytes, closure_trap, next_number}
use Rattle.mips_assembly.specs.Assembly.{addiu, addu, sw, scratch}
use Rattle.icode_templates.specs.Templates.{trap_unless_zero}
use Rattle.icode_templates_proof.specs.Spots.{IsKept}
use Rattle.icode_templates_proof.specs.Moves.{EndsIn}
use Rattle.icode_templates_proof.proofs.Leaves.{Leaves, leaves_on, leaves_run, runs_within}
use Rattle.icode_templates_proof.proofs.Keeping.{with_registers}
use Rattle.icode_templates_proof.proofs.Endings.{ends_behind}
use Rattle.icode_templates_proof.specs.Malloc.{return_code}
use Rattle.icode_templates_proof.specs.MallocLaws.{Answers}
use Rattle.icode_templates_proof.specs.Closures.{Head, with_word, row_place, row_count, next_closure, appended}
use Rattle.icode_templates_proof.specs.Routines.{spec_limit, room_code, head_code, row_code, store_row_code, count_code}
use Rattle.icode_templates_proof.specs.Routines.{write_code, append_code}
use Rattle.icode_templates_proof.specs.RoutineLaws.{HasRows}
use Rattle.icode_templates_proof.proofs.Blocks.{return_reaches}
use Rattle.icode_templates_proof.proofs.Kept.{not_low}
use Rattle.icode_templates_proof.proofs.Skips.{one_leaves, zero_goes, other_ends}
use Rattle.icode_templates_proof.proofs.Accesses.{store_closure, store_row, store_cell}

-- tests of numbers and what comes of them, where nothing else is in sight
pub is_below : (x n : ℕ) → x < n → nat_lt x n ≡ true
is_below x n h = grind (arith, nat_tests)

pub not_below : (x n : ℕ) → n ≤ x → nat_lt x n ≡ false
not_below x n h = grind (arith, nat_tests)

pub bit_is_one : (b : Bool) → b ≡ true → bit b ≢ 0
bit_is_one true e z = let x : ⊥ = cc in x
bit_is_one false e z = let x : ⊥ = cc in x

-- a register that is kept is none of the low ones
pub apart : (t r : ℕ) → t ≤ 7 → IsKept r → nat_eq r t ≡ false
apart t r h k = ne_eqb r t (not_low t h r k)

-- ---- what is written

module _ (a behind n : ℕ) (k : Head) (d : Data) (g : d.registers 28 ≡ GLOBAL_POINTER) (e2 : d.registers 2 ≡ a) (e3 :
    d.registers 3 ≡ k.size) (e4 : d.registers 4 ≡ k.first) (e5 : d.registers 5 ≡ k.kind) (e6 : d.registers 6 ≡ behind)
    (e7 : d.registers 7 ≡ k.parameters) (count : row_count d ≡ n) (from : CLOSURES ≤ a) (to : a + 16 ≤ CLOSURES +
    CLOSURE_BYTES) (even : a % 4 ≡ 0) (few : n < SPEC_ROW_BYTES / 4) where
  abbrev w1 : Data
  w1 = record d { closures = with_word a k.first d.closures }

  abbrev w2 : Data
  w2 = record w1 { closures = with_word (a + 4) k.kind w1.closures }

  abbrev w3 : Data
  w3 = record w2 { closures = with_word (a + 8) k.size w2.closures }

  abbrev w4 : Data
  w4 = record w3 { closures = with_word (a + 12) k.parameters w3.closures }

  head_leaves : Leaves head_code 0 d 0 w4
  head_leaves =
      leaves_on (sw 4 0 2 ∷ []) (sw 5 4 2 ∷ sw 3 8 2 ∷ sw 7 12 2 ∷ []) 0 0 0 d w1 w4
      (one_leaves (sw 4 0 2) 0 d w1 refl refl
      (store_closure 4 0 2 a d (omega (arith, e2, to)) even k.first e4 from (omega (arith, to))))
      (leaves_on (sw 5 4 2 ∷ []) (sw 3 8 2 ∷ sw 7 12 2 ∷ []) 0 0 0 w1 w2 w4
      (one_leaves (sw 5 4 2) 0 w1 w2 refl refl
      (store_closure 5 4 2 (a + 4) w1 (omega (arith, e2, to)) (omega (arith, even)) k.kind e5 (omega (arith, from))
      (omega (arith, to))))
      (leaves_on (sw 3 8 2 ∷ []) (sw 7 12 2 ∷ []) 0 0 0 w2 w3 w4
      (one_leaves (sw 3 8 2) 0 w2 w3 refl refl
      (store_closure 3 8 2 (a + 8) w2 (omega (arith, e2, to)) (omega (arith, even)) k.size e3 (omega (arith, from))
      (omega (arith, to))))
      (one_leaves (sw 7 12 2) 0 w3 w4 refl refl
      (store_closure 7 12 2 (a + 12) w3 (omega (arith, e2, to)) (omega (arith, even)) k.parameters e7
      (omega (arith, from)) (omega (arith, to))))))

  -- the place of the row is in $at
  abbrev fours : ℕ
  fours = row_count d * 4 % 4294967296

  abbrev w5 : Data
  w5 = with_registers
      (update 1 ((SPEC_ROWS + fours) % 4294967296) (update 4 fours (update 1 SPEC_ROWS (update 3 (row_count d)
      d.registers))))
      w4

  row_leaves : Leaves row_code 0 w4 0 w5
  row_leaves rest = rw g refl

  abbrev w6 : Data
  w6 = record w5 { spec_rows = with_word (row_place (suc n)) a d.spec_rows }

  store_row_leaves : Leaves store_row_code 0 w5 0 w6
  store_row_leaves =
      one_leaves (sw 2 0 1) 0 w5 w6 refl refl
      (store_row 2 0 1 (row_place (suc n)) w5 (omega (arith, count, few)) (omega arith) a e2 (omega arith)
      (omega (arith, few)))

  -- the cells
  abbrev number : ℕ
  number = (row_count d + 1) % 4294967296

  abbrev w7 : Data
  w7 = with_registers (update 3 number w5.registers) w6

  abbrev w8 : Data
  w8 = record w7 { cells = with_word SPEC_COUNT_CELL (suc n) d.cells }

  abbrev w9 : Data
  w9 = record w8 { cells = with_word NEXT_CLOSURE_CELL behind w8.cells }

  abbrev w10 : Data
  w10 = record w9 { cells = with_word CLOSURE_CELL a w9.cells }

  abbrev w11 : Data
  w11 = with_registers (update 2 ((number + 0) % 4294967296) w7.registers) w10

  count_leaves : Leaves count_code 0 w6 0 w11
  count_leaves =
      leaves_on (addiu 3 3 1 ∷ []) (sw 3 65524 28 ∷ sw 6 65528 28 ∷ sw 2 65504 28 ∷ addu 2 3 0 ∷ []) 0 0 0 w6 w7 w11
      (λ rest. refl)
      (leaves_on (sw 3 65524 28 ∷ []) (sw 6 65528 28 ∷ sw 2 65504 28 ∷ addu 2 3 0 ∷ []) 0 0 0 w7 w8 w11
      (one_leaves (sw 3 65524 28) 0 w7 w8 refl refl
      (store_cell 3 65524 28 SPEC_COUNT_CELL w7 (omega (arith, g)) refl (suc n) (omega (arith, count, few))
      (omega arith) (omega arith)))
      (leaves_on (sw 6 65528 28 ∷ []) (sw 2 65504 28 ∷ addu 2 3 0 ∷ []) 0 0 0 w8 w9 w11
      (one_leaves (sw 6 65528 28) 0 w8 w9 refl refl
      (store_cell 6 65528 28 NEXT_CLOSURE_CELL w8 (omega (arith, g)) refl behind e6 (omega arith) (omega arith)))
      (leaves_on (sw 2 65504 28 ∷ []) (addu 2 3 0 ∷ []) 0 0 0 w9 w10 w11
      (one_leaves (sw 2 65504 28) 0 w9 w10 refl refl
      (store_cell 2 65504 28 CLOSURE_CELL w9 (omega (arith, g)) refl a e2 (omega arith) (omega arith)))
      (λ rest. refl))))

  pub write_leaves : Leaves write_code 0 d 0 w11
  write_leaves =
      leaves_on head_code (row_code ++ (store_row_code ++ count_code)) 0 0 0 d w4 w11 head_leaves
      (leaves_on row_code (store_row_code ++ count_code) 0 0 0 w4 w5 w11 row_leaves
      (leaves_on store_row_code count_code 0 0 0 w5 w6 w11 store_row_leaves count_leaves))

-- ---- whether there is room

pub in_room : (captures : ℕ) (shared : Shared) → closure_trap captures shared ≡ None →
    shared.closures + closure_bytes captures ≤ CLOSURE_BYTES
in_room captures shared e = elim (cases_Bool (nat_le (shared.closures + closure_bytes captures) CLOSURE_BYTES)) [
  | inl t ↦ grind (arith, nat_tests, t)
  | inr t ↦ (let some : closure_trap captures shared ≡ Some SpecLimit = rw t refl in let x : ⊥ = cc in absurd x)
]

pub no_room : (captures : ℕ) (shared : Shared) (kind : TrapKind) → closure_trap captures shared ≡ Some kind →
    (CLOSURE_BYTES < shared.closures + closure_bytes captures) × (kind ≡ SpecLimit)
no_room captures shared kind e =
    elim (cases_Bool (nat_le (shared.closures + closure_bytes captures) CLOSURE_BYTES)) [
      | inl t ↦ (let none : closure_trap captures shared ≡ None = rw t refl in let x : ⊥ = cc in absurd x)
      | inr t ↦ (let some : closure_trap captures shared ≡ Some SpecLimit = rw t refl in
          (grind (arith, nat_tests, t), cc))
    ]

-- ---- the stretch whole

module _ (c : Code) (entry : ℕ) (shared : Shared) (k : Head) (captures : ℕ) (d : Data) (low : entry + 128 ≤
    SEGMENT_BYTES) (has : HasRows shared d) (few : captures ≤ 32768) (e3 : d.registers 3 ≡ k.size) (e4 : d.registers 4
    ≡ k.first) (e5 : d.registers 5 ≡ k.kind) (e6 : d.registers 6 ≡ captures) (e7 : d.registers 7 ≡ k.parameters) (h :
    HasAt c entry append_code) where
  abbrev a : ℕ
  a = next_closure d

  -- four times the count of captured words, the bytes of the closure, and the address behind it
  abbrev words : ℕ
  words = d.registers 6 * 4 % 4294967296

  abbrev bytes : ℕ
  bytes = (words + 16) % 4294967296

  abbrev over : ℕ
  over = (bytes + a) % 4294967296

  abbrev m : Data
  m = with_registers
      (update 1 (bit (nat_lt SPEC_ROWS over)) (update 1 SPEC_ROWS (update 6 over (update 6 bytes (update 6 words
      (update 2 a d.registers))))))
      d

  room_leaves : Leaves room_code 0 d 0 m
  room_leaves rest = rw has.global refl

  abbrev written_code : List Instr
  written_code = write_code ++ return_code

  abbrev behind_room : List Instr
  behind_room = trap_unless_zero scratch spec_limit ++ written_code

  abbrev trap_at : ℕ
  trap_at = past entry room_code

  abbrev write_at : ℕ
  write_at = trap_at + 4 + 4 + 4

  abbrev return_at : ℕ
  return_at = past write_at write_code

  measures : Reaches 6 (at c entry 0 d) (at c trap_at 0 m)
  measures = leaves_run room_code c 0 0 entry d m room_leaves (front c entry room_code behind_room h)

  tail : HasAt c trap_at behind_room
  tail = back c entry room_code behind_room h

  over_is : over ≡ a + closure_bytes captures
  over_is = omega (arith, e6, few, has.next, has.within)

  pub append_answered : closure_trap captures shared ≡ None →
      Answers (next_number shared) 24 24 (at c entry 0 d) c (d.registers 31) (appended k captures d)
  append_answered none =
      let room = in_room captures shared none in
      let l : nat_lt SPEC_ROWS over ≡ false = not_below SPEC_ROWS over (omega (arith, over_is, has.next, room)) in
      let n = row_count d in
      let behind = a + closure_bytes captures in
      let w = w11 a behind n k m has.global refl e3 e4 e5 over_is e7 refl (omega (arith, has.next))
      (omega (arith, has.next, room)) (omega (arith, has.next, has.even)) (omega (arith, has.count, has.few, room)) in
      let writes = write_leaves a behind n k m has.global refl e3 e4 e5 over_is e7 refl (omega (arith, has.next))
      (omega (arith, has.next, room)) (omega (arith, has.next, has.even)) (omega (arith, has.count, has.few, room)) in
      let number_is : (n + 1) % 4294967296 ≡ suc n = omega (arith, has.count, has.few, room) in
      let first = zero_goes 1 22 SpecLimit c trap_at m refl refl (omega (arith, low))
      (front c trap_at (trap_unless_zero scratch spec_limit) written_code tail) (ap bit l) in
      let code = back c trap_at (trap_unless_zero scratch spec_limit) written_code tail in
      let second = leaves_run write_code c 0 0 write_at m w writes (front c write_at write_code return_code code) in
      let third = return_reaches c return_at w (back c write_at write_code return_code code) in
      record {
        after = w;
        runs = runs_within {k = 24} (omega arith) (omega arith)
            (reaches_on {s2 = at c (d.registers 31) 0 w} (reaches_on measures first)
            (reaches_on {s2 = at c (d.registers 31) 0 w} second third));
        answer = omega (arith, has.count, number_is);
        keeps = record {
          registers = λ r q. let n1 = apart 1 r (omega arith) q in let n2 = apart 2 r (omega arith) q in
              let n3 = apart 3 r (omega arith) q in let n4 = apart 4 r (omega arith) q in
              let n6 = apart 6 r (omega arith) q in rw (n1, n2, n3, n4, n6) refl;
          stack = refl;
          world = record {
            objects = refl;
            closures = refl;
            spec_rows = refl;
            cells = refl;
            emit_stack = refl;
            table = refl;
            outside = refl;
          };
        };
      }

  pub append_ends : (kind : TrapKind) → closure_trap captures shared ≡ Some kind →
      EndsIn 9 9 (Ended (Trap kind)) (at c entry 0 d) c d.outside
  append_ends kind some =
      let full = no_room captures shared kind some in
      let l : nat_lt SPEC_ROWS over ≡ true =
      is_below SPEC_ROWS over (omega (arith, over_is, has.next, full.0)) in
      let ne = bit_is_one (nat_lt SPEC_ROWS over) l in
      subst (λ t. EndsIn 9 9 (Ended (Trap t)) (at c entry 0 d) c d.outside) (sym full.1)
      (ends_behind {l = 6} {m = 6} (runs_within {k = 6} (omega arith) (omega arith) measures)
      (other_ends 1 22 SpecLimit c trap_at m refl refl (omega (arith, low))
      (front c trap_at (trap_unless_zero scratch spec_limit) written_code tail) ne))
