-- The op that makes the closure of a tick.
use Rattle.std.proofs.Common.{◌≡◌, ℕ, ◌+◌, ◌*◌, ◌/◌, ◌%◌, ◌<◌, ◌≤◌, List, [], ◌∷◌, ◌++◌, Some, None, refl, sym, ap}
use Rattle.std.proofs.Common.{◌∙◌, subst, arith, bit_or}
use Rattle.word32.specs.Space.{update}
use Rattle.limits.specs.declared.ops.TheConstants.{MOST_CAPTURES}
use Rattle.word32.specs.declared.map.TheConstants.{SEGMENT_BYTES}
use Rattle.host_edge.specs.declared.ending.Ending.TheVariants.{Trap}
use Rattle.host_edge.specs.declared.ending.TrapKind.{TrapKind}
use Rattle.history.specs.Events.{Ended}
use Rattle.mips_encoder.specs.declared.instruction.Instr.{Instr}
use Rattle.mips_model.specs.State.{Code, Data}
use Rattle.mips_model.specs.Laws.{HasAt, at}
use Rattle.mips_encoder.specs.Addresses.{past}
use Rattle.mips_model.proofs.Reach.{front, back}
use Rattle.icode_ops.specs.Kinds.{closure_number}
use Rattle.icode_ops.specs.declared.kind.ClosureKind.{ClosureKind}
use Rattle.meaning_state.specs.Shared.{Shared}
use Rattle.meaning_state.specs.Rows.{next_number}
use Rattle.icode_templates.specs.Layout.{Spot}
use Rattle.mips_assembly.specs.Assembly.{addu}
use Rattle.icode_templates.specs.Templates.{out_code, new_address}
use Rattle.icode_templates_proof.specs.Spots.{pointer, Framed, Usable, KeepsSpots}
use Rattle.icode_templates_proof.specs.Moves.{Runs, Writes, EndsIn}
use Rattle.icode_templates_proof.proofs.Leaves.{Leaves, leaves_run, runs_on, runs_within}
use Rattle.icode_templates_proof.proofs.Keeping.{with_registers, keeps_on, keeps_same, keeps_write, not_24}
use Rattle.icode_templates_proof.proofs.Endings.{ends_behind}
use Rattle.icode_templates_proof.proofs.Templates.{finish, constant_parts}
use Rattle.icode_templates_proof.specs.MallocLaws.{linked}
use Rattle.icode_templates_proof.specs.Closures.{size_so_far, appended}
use Rattle.icode_templates_proof.specs.Routines.{new_code}
use Rattle.icode_templates_proof.specs.RoutineLaws.{HasRows, new_trap, new_head}
use Rattle.icode_templates_proof.proofs.Kept.{and_write, linked_keeps}
use Rattle.icode_templates_proof.proofs.Calls.{call_reaches, brought}
use Rattle.icode_templates_proof.proofs.Called.{appended_keeps}
use Rattle.icode_templates_proof.proofs.Making.{new_answered, new_ends}
use Rattle.closures_proof.specs.Ops.{pass_code, call_new_code, new_op_code, new_return_address, tick_head}
use Rattle.closures_proof.proofs.Kept.{rows_found}

-- two halves of a word, as they come to a register
abbrev halves : ℕ → ℕ
halves x = bit_or (x / 65536 * 65536) (x % 65536)

-- the kind of a closure by an or with 0
abbrev kind_in : ClosureKind → ℕ
kind_in kind = bit_or 0 (closure_number kind)

abbrev set : ℕ → ℕ → Data → Data
set r x d = with_registers (update r x d.registers) d

-- the registers that are passed
abbrev passed : (address : ℕ) → ClosureKind → (captures : ℕ) → Data → Data
passed address kind captures d =
    set 6 (halves captures) (set 6 (captures / 65536 * 65536) (set 5 (kind_in kind)
    (set 4 (halves address) (set 4 (address / 65536 * 65536) d))))

passes : (address : ℕ) (kind : ClosureKind) (captures : ℕ) (d : Data) →
    Leaves (pass_code address kind captures) 0 d 0 (passed address kind captures d)
passes address kind captures d rest = refl

passed_keeps : (address : ℕ) (kind : ClosureKind) (captures : ℕ) (d : Data) →
    KeepsSpots d (passed address kind captures d)
passed_keeps address kind captures d =
    let d1 = set 4 (address / 65536 * 65536) d in
    let d2 = set 4 (halves address) d1 in
    let d3 = set 5 (kind_in kind) d2 in
    let d4 = set 6 (captures / 65536 * 65536) d3 in
    and_write 6 (halves captures) d4 (omega arith)
    (and_write 6 (captures / 65536 * 65536) d3 (omega arith)
    (and_write 5 (kind_in kind) d2 (omega arith)
    (and_write 4 (halves address) d1 (omega arith)
    (and_write 4 (address / 65536 * 65536) d (omega arith) (keeps_same d)))))

open_kind : (kind : ClosureKind) → kind_in kind ≡ closure_number kind
open_kind kind = search

-- what the routine finds in the registers
same_head : (address : ℕ) (kind : ClosureKind) (captures : ℕ) (d : Data) (to : ℕ) →
    new_head (linked to (passed address kind captures d)) ≡ tick_head address kind (linked to d)
same_head address kind captures d to = let a = constant_parts address in let k = open_kind kind in rw (a, k) refl

module _ (c : Code) (a address : ℕ) (kind : ClosureKind) (captures : ℕ) (shared : Shared) (d : Data) (w : Spot) (low :
    new_return_address a < SEGMENT_BYTES) (has : HasRows shared d) (few : captures ≤ MOST_CAPTURES) (stands : HasAt c
    new_address new_code) (h : HasAt c a (new_op_code w address kind captures)) where
  abbrev to : ℕ
  to = new_return_address a

  abbrev entered : Data
  entered = linked to (passed address kind captures d)

  abbrev rest : List Instr
  rest = addu 24 2 0 ∷ out_code w

  entered_keeps : KeepsSpots (linked to d) entered
  entered_keeps = linked_keeps to (passed_keeps address kind captures d)

  comes : Runs 7 7 (at c a 0 d) (at c new_address 0 entered)
  comes =
      let first = leaves_run (pass_code address kind captures) c 0 0 a d (passed address kind captures d)
      (passes address kind captures d) (front c a (pass_code address kind captures) (call_new_code ++ rest) h) in
      let second = call_reaches c (a + 4 + 4 + 4 + 4 + 4) new_address (passed address kind captures d) low
      (omega arith) (omega arith)
      (front c (a + 4 + 4 + 4 + 4 + 4) call_new_code rest
      (back c a (pass_code address kind captures) (call_new_code ++ rest) h)) in
      runs_on {l = 5} {m = 5} {l' = 2} {m' = 2} (runs_within {l = 5} {m = 5} {k = 5} (omega arith) (omega arith) first)
      (runs_within {l = 2} {m = 2} {k = 2} (omega arith) (omega arith) second)

  has_rows : HasRows shared entered
  has_rows = rows_found shared to d entered has entered_keeps

  count_is : entered.registers 6 ≡ captures
  count_is = constant_parts captures

  few_passed : entered.registers 6 ≤ MOST_CAPTURES
  few_passed = subst (λ n. n ≤ MOST_CAPTURES) (sym count_is) few

  pub new_op_ends : (trap : TrapKind) → new_trap (size_so_far d) captures shared ≡ Some trap →
      EndsIn 14 22 (Ended (Trap trap)) (at c a 0 d) c d.outside
  new_op_ends trap some =
      ends_behind comes
      (new_ends c new_address shared entered (omega arith) has_rows few_passed stands trap
      (ap (λ n. new_trap (size_so_far d) n shared) count_is ∙ some))

  pub new_called : (bytes : ℕ) → Framed (pointer d) bytes → Usable bytes w →
      new_trap (size_so_far d) captures shared ≡ None →
      Writes w (next_number shared) 39 41 (at c a 0 d) c (past a (new_op_code w address kind captures))
      (appended (tick_head address kind d) captures (linked to d))
  new_called bytes f u none =
      let x = next_number shared in
      let word : x < 4294967296 = omega (arith, has.few, has.within) in
      let k = tick_head address kind (linked to d) in
      let base = appended k captures (linked to d) in
      let y = new_answered c new_address shared entered (omega arith) has_rows few_passed stands
      (ap (λ n. new_trap (size_so_far d) n shared) count_is ∙ none) in
      let last = y.after in
      let kept : KeepsSpots (appended k captures entered) last =
      subst (λ n. KeepsSpots (appended k n entered) last) count_is
      (subst (λ z. KeepsSpots (appended z (entered.registers 6) entered) last)
      (same_head address kind captures d to) y.keeps) in
      let is : List Instr = addu 24 2 0 ∷ [] in
      let leaves : Leaves is 0 last 0 (brought last) = λ more. refl in
      let same : (last.registers 2 + 0) % 4294967296 ≡ x = omega (arith, y.answer, word) in
      let tail = back c (a + 4 + 4 + 4 + 4 + 4) call_new_code rest
      (back c a (pass_code address kind captures) (call_new_code ++ rest) h) in
      let done : Writes w x 2 4 (at c to 0 last) c (past to (is ++ out_code w)) base =
      finish (is ++ out_code w) is 1 1 c to bytes last base (brought last) w x refl f u word
      (record { over = omega arith; under = omega arith }) leaves
      (keeps_on (keeps_on (appended_keeps k captures (linked to d) entered entered_keeps) kept)
      (keeps_write 24 ((last.registers 2 + 0) % 4294967296) last not_24)) same tail in
      record {
        after = done.after;
        runs = runs_on {l = 37} {m = 37} {s2 = at c (past to (is ++ out_code w)) 0 done.after}
            (runs_on {l = 7} {m = 7} comes y.runs) done.runs;
        puts = done.puts;
      }
