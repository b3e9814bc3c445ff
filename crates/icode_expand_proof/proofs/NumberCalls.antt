-- A call by a number pays, and one of a number that has no such row ends the run.
use Rattle.std.proofs.Common.{◌≡◌, ◌≢◌, inl, inr, ℕ, suc, ◌+◌, ◌*◌, ◌/◌, ◌<◌, ◌≤◌, true, false, List, ◌++◌, Option}
use Rattle.std.proofs.Common.{Some, None, refl, sym, ap, ◌∙◌, subst, arith, nat_eq, slice_get, bit_xor}
use Rattle.std.proofs.lemmas.Bool.{and_parts}
use Rattle.std.proofs.lemmas.Bool.{cases_lt, cases_eq, eq-eqb, ne_eqb}
use Rattle.word32.specs.declared.map.TheConstants.{SEGMENT_BYTES, FUNCTION_TABLE, GLOBAL_POINTER}
use Rattle.word32.specs.Space.{update}
use Rattle.host_edge.specs.declared.ending.Ending.TheVariants.{Trap}
use Rattle.host_edge.specs.declared.ending.TrapKind.TheVariants.{BadCall}
use Rattle.history.specs.Events.{Ended}
use Rattle.mips_model.specs.State.{Data, Outside}
use Rattle.mips_encoder.specs.Addresses.{past}
use Rattle.mips_model.specs.Laws.{HasAt, at, Reaches}
use Rattle.mips_model.proofs.Reach.{front, back, past_append}
use Rattle.icode_ops.specs.declared.op.Op.{Op}
use Rattle.icode_ops.specs.declared.op.Op.TheVariants.{CallNumber}
use Rattle.icode_templates.specs.Templates.{in_code, number_call}
use Rattle.icode_meaning.specs.State.{Function, Frame, Log, Halted}
use Rattle.icode_meaning.specs.Steps.{uses_on, paid, call_at, call_row}
use Rattle.icode_templates_proof.specs.Spots.{SameWorld, KeepsSpots}
use Rattle.icode_templates_proof.specs.Moves.{Runs, EndsIn}
use Rattle.icode_templates_proof.proofs.Memory.{update_same, update_other}
use Rattle.icode_templates_proof.proofs.Leaves.{leaves_run, runs_within, runs_on}
use Rattle.icode_templates_proof.proofs.Operands.{one_in, in_leaves, keeps_one, load_gives, in_between}
use Rattle.icode_expand_proof.specs.Frames.{Alike}
use Rattle.icode_expand_proof.specs.Relation.{Holds, Pays, HistoryAgrees, HasLeft}
use Rattle.icode_expand_proof.proofs.Memory.{history_as, left_as}
use Rattle.icode_expand_proof.specs.Settings.{Setting, places_of, Standing, Extends}
use Rattle.icode_expand_proof.specs.Standing.{layout_of, op_stands_at, OpsStand}
use Rattle.icode_expand_proof.proofs.Codes.{op_code, one_stands, code_low, next_at}
use Rattle.icode_expand_proof.proofs.Frames.{spots, keeps_alike, alike_on}
use Rattle.icode_expand_proof.proofs.Numbers.{row_data, set, none_ends, other_ends, row_goes}
use Rattle.icode_expand_proof.proofs.Paying.{first_operand, stuck_pays}
use Rattle.icode_expand_proof.proofs.Calls.{call_enters, IsFunction, text_function, front_known}
use Rattle.icode_expand_proof.proofs.Entrance.{Arriving, ends_pay, enter_pays}
use Rattle.icode_meaning.specs.State.{Program}

-- the row and the return address change no place
row_alike : (v n x : ℕ) (d : Data) → Alike d (set 31 x (row_data v n d))
row_alike v n x d = record {
  registers = λ r h.
      let f1 = update 25 (v / 65536) d.registers in
      let f2 = update 24 (8 * v) f1 in
      let f3 = update 24 (FUNCTION_TABLE + 8 * v) f2 in
      let f4 = update 25 (d.table v).1 f3 in
      let f5 = update 24 (d.table v).0 f4 in
      let f6 = update 25 (bit_xor (d.table v).1 n) f5 in
      update_other 31 x f6 r h.1 ∙ update_other 25 (bit_xor (d.table v).1 n) f5 r h.0.2 ∙ update_other 24 (d.table v).0
      f4 r h.0.1 ∙ update_other 25 (d.table v).1 f3 r h.0.2
      ∙ update_other 24 (FUNCTION_TABLE + 8 * v) f2 r h.0.1 ∙ update_other 24 (8 * v) f1 r h.0.1
      ∙ update_other 25 (v / 65536) d.registers r h.0.2;
  stack = λ k le. refl;
}

module _ (s : Setting) (st : Standing s) (w : Frame) (arguments : ℕ → Option ℕ) (answer : Option ℕ)
    (waiting : List Frame) (log : Log) (number n : ℕ) (d : Data) (few : n ≤ 8)
    (i : slice_get w.function.ops w.index ≡ Some (CallNumber number n)) (u : uses_on (CallNumber number n) w.on ≡ true)
    (h : Holds s w arguments answer waiting log d) where
  abbrev f : Function
  f = w.function

  abbrev places : List ℕ
  places = places_of s f

  abbrev o : Op
  o = CallNumber number n

  abbrev a : ℕ
  a = op_stands_at f places w.index

  abbrev mid : Data
  mid = one_in ((layout_of f places).spot number) d

  abbrev b : ℕ
  b = past a (in_code ((layout_of f places).spot number))

  stands : OpsStand s.code f places
  stands = (st.functions f.address f h.known).1

  keeps : KeepsSpots d mid
  keeps = keeps_one ((layout_of f places).spot number) d

  operand : Rattle.icode_expand_proof.proofs.Paying.Operand s w d number
  operand = first_operand s st w d o number h.known h.ready i refl (and_parts (w.on number) true u).0

  is : mid.registers 24 ≡ w.values number
  is = load_gives 24 ((layout_of f places).spot number) d ∙ operand.value_is

  word : mid.registers 24 < 4294967296
  word = subst (λ x. x < 4294967296) (sym is) (h.ready.words number)

  global : mid.registers 28 ≡ GLOBAL_POINTER
  global = keeps.registers 28 (omega arith, omega arith, omega arith) ∙ h.ready.global

  code : HasAt s.code a (in_code ((layout_of f places).spot number) ++ number_call n)
  code = one_stands s.code f places stands w.index o i

  tail : HasAt s.code b (number_call n)
  tail = back s.code a (in_code ((layout_of f places).spot number)) (number_call n) code

  ends : past a (op_code f places o) ≡ past b (number_call n)
  ends = past_append a (in_code ((layout_of f places).spot number)) (number_call n)

  low : b + 48 < SEGMENT_BYTES
  low = let l = code_low s.code f places stands w.index o i in omega (arith, l, ends)

  brings : Runs 1 4 (at s.code a 0 d) (at s.code b 0 mid)
  brings =
      let k = in_between ((layout_of f places).spot number) in
      runs_within k.over k.under (leaves_run (in_code ((layout_of f places).spot number)) s.code 0 0 a d mid
      (in_leaves d f.charge ((layout_of f places).spot number) h.ready.framed
      (spots f places number stands.suits operand.inside) operand.word)
      (front s.code a (in_code ((layout_of f places).spot number)) (number_call n) code))

  history : HistoryAgrees s log.shared.history mid.outside.history
  history = history_as s refl (sym (ap (λ (x : Outside). x.history) keeps.world.outside)) h.memory.history

  made : HasLeft s mid.outside
  made = left_as s (sym keeps.world.outside) h.memory.making

  bad : (least most : ℕ) → 4 ≤ least → most ≤ 10 → EndsIn least most (Ended (Trap BadCall)) (at s.code b 0 mid) s.code
      mid.outside → Pays s (Halted (Ended (Trap BadCall)) (paid o log)) log (at s.code a 0 d)
  bad least most long short e = ends_pay s log (paid o log) (at s.code a 0 d) (at s.code b 0 mid) 1 4 least most
      (Ended (Trap BadCall)) mid.outside (omega (arith, long)) (omega (arith, short)) history made tt brings e

  table : mid.table (mid.registers 24) ≡ d.table (w.values number)
  table = ap (λ (t : ℕ → ℕ × ℕ). t (mid.registers 24)) keeps.world.table ∙ ap d.table is

  pub none_pays : s.program.row (w.values number) ≡ None → Pays s (Halted (Ended (Trap BadCall)) (paid o log)) log
      (at s.code a 0 d)
  none_pays e = elim (cases_lt (w.values number) 65536) [
    | inl less ↦ (let far = (h.memory.table.others (w.values number) less e).1 in
        let count : (mid.table (mid.registers 24)).1 ≡ 4294967295 = ap (λ (x : ℕ × ℕ). x.1) table ∙ far in
        bad 10 10 (omega arith) (omega arith) (other_ends s.code b n mid low global word tail (omega (arith, is, less))
        (λ q. absurd (omega (arith, q, count, few)))))
    | inr more ↦ bad 4 4 (omega arith) (omega arith) (none_ends s.code b n mid low global word tail
        (omega (arith, is, more)))
  ]

  -- from the number's row on the machine comes to the address that it has
  pub arrives : (address : ℕ) → w.values number < 65536 → d.table (w.values number) ≡ (address, n)
      → Arriving s w arguments waiting log o (at s.code a 0 d) address
  arrives address less row =
      let same : (mid.table (mid.registers 24)).1 ≡ n = ap (λ (x : ℕ × ℕ). x.1) (table ∙ row) in
      let to : (mid.table (mid.registers 24)).0 ≡ address = ap (λ (x : ℕ × ℕ). x.0) (table ∙ row) in
      let back_to = b + 4 + 4 + 4 + 4 + 4 + 4 + 4 + 4 + 4 + 4 + 4 + 4 in
      let d1 = set 31 back_to (row_data (mid.registers 24) n mid) in
      let go = subst (λ x. Reaches 11 (at s.code b 0 mid) (at s.code x 0 d1)) to
      (row_goes s.code b n mid low global word tail (omega (arith, is, less)) same) in
      let al = alike_on (keeps_alike keeps) (row_alike (mid.registers 24) n back_to mid) in
      let k = keeps.world in
      let world : SameWorld d d1 =
      record {
        objects = k.objects;
        closures = k.closures;
        spec_rows = k.spec_rows;
        cells = k.cells;
        emit_stack = k.emit_stack;
        table = k.table;
        outside = k.outside;
      } in
      let link : d1.registers 31 ≡ op_stands_at f places (suc w.index) =
      update_same 31 back_to (row_data (mid.registers 24) n mid).registers
      ∙ sym (next_at f places w.index o i ∙ ends) in
      record {
        after = d1;
        runs = runs_on brings (runs_within {l = 11} {m = 11} (omega arith) (omega arith) go);
        enters = call_enters s st w arguments answer waiting log o d d1 i refl refl h al world link;
        outside = k.outside;
      }

  found_pays : (address : ℕ) (x : Option Function) → IsFunction s address x → w.values number < 65536
      → d.table (w.values number) ≡ (address, n) → Pays s (call_at o x w arguments waiting log) log (at s.code a 0 d)
  found_pays address None e less row = stuck_pays s log a d h.memory
  found_pays address (Some g) there_is less row =
      let e = there_is.0 in
      let there = st.functions address g e in
      let known : s.program.function_at g.address ≡ Some g = ap s.program.function_at there.0 ∙ e in
      let y = arrives g.address less (row ∙ ap (λ z. (z, n)) (sym there.0)) in
      enter_pays s st g known (front_known s st address g e there_is.1) w arguments waiting log o (at s.code a 0 d)
      (1 + 11) (4 + 11) y.after (omega arith) (omega arith) y.runs y.enters

  -- a row with another count of parameters
  pub other_pays : (address k : ℕ) → s.program.row (w.values number) ≡ Some (address, k) → k ≢ n
      → Pays s (Halted (Ended (Trap BadCall)) (paid o log)) log (at s.code a 0 d)
  other_pays address k e ne =
      let row = h.memory.table.rows (w.values number) address k e in
      let count : (mid.table (mid.registers 24)).1 ≡ k = ap (λ (x : ℕ × ℕ). x.1) (table ∙ row.1) in
      bad 10 10 (omega arith) (omega arith) (other_ends s.code b n mid low global word tail
      (omega (arith, is, row.0)) (λ q. ne (sym count ∙ q)))

  pub number_pays : (text : Program) → Extends text s → (x : Option (ℕ × ℕ)) → s.program.row (w.values number) ≡ x
      → Pays s (call_row text o n x w arguments waiting log) log (at s.code a 0 d)
  number_pays text ex None e = none_pays e
  number_pays text ex (Some (address, k)) e =
      let row = h.memory.table.rows (w.values number) address k e in
      elim (cases_eq k n) [
        | inl same ↦ (let t : nat_eq k n ≡ true = eq-eqb k n same in rw t
            (found_pays address (text.function_at address)
            (text_function text s ex address (text.function_at address) refl) row.0
            (row.1 ∙ ap (λ z. (address, z)) same)))
        | inr ne ↦ (let t : nat_eq k n ≡ false = ne_eqb k n ne in rw t (other_pays address k e ne))
      ]
