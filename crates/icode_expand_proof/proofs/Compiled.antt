-- A compiled function from its second instruction on: on any code that has its instructions but the first, it comes to
-- its first op as on its own; so whoever tells what is passed on the way knows that its address is passed once.
use Rattle.std.proofs.Common.{◌≡◌, ◌≢◌, inl, inr, ℕ, ◌+◌, ◌-◌, ◌/◌, ◌%◌, ◌<◌, ◌≤◌, Bool, true, List, ◌++◌, length, refl}
use Rattle.std.proofs.Common.{sym, ap, ◌∙◌, subst, arith, if◌then◌else◌, append_assoc}
use Rattle.std.proofs.lemmas.Bool.{cases_Bool}
use Rattle.word32.specs.declared.map.TheConstants.{GLOBAL_POINTER, STACK}
use Rattle.limits.specs.declared.run.TheConstants.{MOST_FRAME_BYTES}
use Rattle.host_edge.specs.declared.ending.Ending.TheVariants.{Trap}
use Rattle.host_edge.specs.declared.ending.TrapKind.TheVariants.{StackLimit}
use Rattle.history.specs.Events.{Ended}
use Rattle.mips_encoder.specs.declared.instruction.Instr.{Instr}
use Rattle.mips_encoder.specs.Addresses.{past}
use Rattle.mips_model.specs.State.{Code, Data}
use Rattle.mips_model.specs.Laws.{HasAt, at, Reaches}
use Rattle.mips_model.proofs.Reach.{front, back, reaches_on}
use Rattle.icode_ops.specs.declared.op.Op.{Op}
use Rattle.icode_templates.specs.Frames.{save_offset, saves, take_frame, take_objects, enter_count}
use Rattle.icode_saves.specs.Places.{has, saved}
use Rattle.icode_saves.proofs.Kept.{saved_are}
use Rattle.icode_meaning.specs.State.{Function}
use Rattle.icode_templates_proof.specs.Spots.{pointer, frame_word}
use Rattle.icode_expand_proof.specs.Frames.{place_number, unwound_register, counted_cells, Counted}
use Rattle.icode_expand_proof.specs.Standing.{front_code, Stands, op_stands_at}
use Rattle.icode_templates_proof.specs.Moves.{EndsIn}
use Rattle.icode_expand_proof.specs.Runs.{Beginning}
use Rattle.icode_expand_proof.proofs.Beginning.{saved_words, saves_length, start_low, stand, ends}
use Rattle.icode_expand_proof.proofs.Codes.{front_stands, ops_of, start_at}
use Rattle.icode_expand_proof.proofs.Counts.{CountRun, enter_run, count_data, count_reaches, entered_data}
use Rattle.icode_expand_proof.proofs.Entering.{Entered, enters_with, behind_test, prologue_enters, prologue_on, rest_of}
use Rattle.icode_expand_proof.proofs.Entering.{begun_first, first_reaches}
use Rattle.icode_expand_proof.proofs.Frames.{by_register, found_other}
use Rattle.icode_expand_proof.proofs.Prologue.{frame_end_on}
use Rattle.icode_expand_proof.proofs.Places.{few_places, register_of_number, has_low}

-- how many instructions there are from the second one to the first op, and the data behind them
abbrev pub behind_count : List ℕ → ℕ
behind_count places = 4 + 2 + length (behind_test (saved places)) + 4

abbrev pub begun_data : (charge : ℕ) (places : List ℕ) → Data → Data
begun_data charge places d = count_data 1 (enters_with charge (saved places) d)

-- it has no objects and counts its calls
module _ (address charge : ℕ) (ops : List Op) (places : List ℕ) (c : Code) (d : Data) where
  abbrev pub compiled : Function
  compiled = record { address = address; ops = ops; charge = charge; object = 0; compiled = true }

  -- or its frame is over the limit of the stack
  pub behind_over : (k : Code) → charge ≤ MOST_FRAME_BYTES → STACK ≤ pointer d → pointer d ≤ 2147483648
      → pointer d < charge + STACK → HasAt k (address + 4) (rest_of (front_code compiled places))
      → EndsIn 7 7 (Ended (Trap StackLimit)) (at k (address + 4) 0 (begun_first charge d)) k d.outside
  behind_over k small from top over g =
      frame_end_on charge k address d small from top over
      (front k (address + 4) (rest_of (take_frame charge))
      (saves (saved places) ++ (enter_count true ++ take_objects 0)) g)

  module _ (st : Stands c compiled places) (over : charge + STACK ≤ pointer d) (top : pointer d ≤ 2147483648)
      (even : pointer d % 4 ≡ 0) (global : d.registers 28 ≡ GLOBAL_POINTER) where
    abbrev kept : List ℕ
    kept = saved places

    abbrev more : List Instr
    more = enter_count true ++ take_objects 0

    abbrev entered_with : Data
    entered_with = enters_with charge kept d

    there : entered_with.registers 28 ≡ GLOBAL_POINTER
    there = prologue_28 ∙ global
      where
        prologue_28 : entered_with.registers 28 ≡ d.registers 28
        prologue_28 =
            let are = saved_are places in
            (prologue_enters charge kept c address d are.low (omega (arith, st.suits.room)) (omega (arith, over, top))
            st.suits.whole (start_low compiled places c d st over top even global) over top even
            (front c address (take_frame charge ++ saves kept) more
            (stand compiled places c d st over top even global))).registers 28
            (omega arith, omega arith, omega arith) (omega arith)

    -- on any code that has its instructions but the first, the run from the second one comes to the first op
    pub behind_first : (k : Code) → HasAt k (address + 4) (rest_of (front_code compiled places))
        → Reaches (behind_count places) (at k (address + 4) 0 (begun_first charge d))
        (at k (op_stands_at compiled places 0) 0 (begun_data charge places d))
    behind_first k g =
        let are = saved_are places in
        let whole : HasAt k (address + 4) (rest_of (take_frame charge ++ saves kept) ++ more) =
        subst (λ (is : List Instr). HasAt k (address + 4) (rest_of is))
        (sym (append_assoc (take_frame charge) (saves kept) more)) g in
        let low = start_low compiled places c d st over top even global in
        let go = prologue_on charge kept c address d are.low (omega (arith, st.suits.room)) (omega (arith, over, top))
        st.suits.whole low over top even
        (front c address (take_frame charge ++ saves kept) more (stand compiled places c d st over top even global))
        k (front k (address + 4) (rest_of (take_frame charge ++ saves kept)) more whole) in
        let counts = count_reaches k (past address (take_frame charge ++ saves kept)) entered_with there
        (front k (past address (take_frame charge ++ saves kept)) (enter_count true) (take_objects 0)
        (back k (address + 4) (rest_of (take_frame charge ++ saves kept)) more whole)) in
        let to = sym (ends compiled places c d st over top even global)
        ∙ sym (start_at c compiled places (ops_of st)) in
        subst (λ n. Reaches (behind_count places) (at k (address + 4) 0 (begun_first charge d))
        (at k n 0 (begun_data charge places d))) to (reaches_on go counts)

    enters : Entered charge d entered_with
    enters =
        let are = saved_are places in
        prologue_enters charge kept c address d are.low (omega (arith, st.suits.room)) (omega (arith, over, top))
        st.suits.whole (start_low compiled places c d st over top even global) over top even
        (front c address (take_frame charge ++ saves kept) more (stand compiled places c d st over top even global))

    count_code_stands : HasAt c (past address (take_frame charge ++ saves kept)) (enter_count true)
    count_code_stands = front c (past address (take_frame charge ++ saves kept)) (enter_count true) (take_objects 0)
        (back c address (take_frame charge ++ saves kept) more (stand compiled places c d st over top even global))

    counts : CountRun true 1 c (past address (take_frame charge ++ saves kept)) (enter_count true) entered_with
    counts = enter_run true c (past address (take_frame charge ++ saves kept)) entered_with there count_code_stands

    abbrev last_data : Data
    last_data = count_data 1 entered_with

    same_data : counts.after ≡ last_data
    unfolding counts
    same_data = entered_data c (past address (take_frame charge ++ saves kept)) entered_with there count_code_stands

    registers_on : (r : ℕ) → r ≢ 25 → last_data.registers r ≡ entered_with.registers r
    registers_on r ne = subst (λ (e : Data). e.registers r ≡ entered_with.registers r) same_data (counts.registers r ne)

    stack_on : last_data.stack ≡ entered_with.stack
    stack_on = subst (λ (e : Data). e.stack ≡ entered_with.stack) same_data counts.stack

    kept_on : (r : ℕ) → 8 ≤ r → r ≢ 24 → r ≢ 25 → r ≢ 29 → last_data.registers r ≡ d.registers r
    kept_on r l n24 n25 n29 = registers_on r n25 ∙ enters.registers r (l, n24, n25) n29

    pointer_on : pointer last_data ≡ pointer d - charge
    pointer_on = registers_on 29 (omega arith) ∙ enters.pointer_is

    word_on : (offset : ℕ) → frame_word last_data offset ≡ frame_word entered_with offset
    word_on offset = ap (λ (m : ℕ → ℕ). m ((pointer last_data + offset) / 4)) stack_on
        ∙ ap (λ n. entered_with.stack ((n + offset) / 4)) (registers_on 29 (omega arith))

    found_on : (r : ℕ) → 8 ≤ r → r ≢ 24 → r ≢ 25 → r ≢ 29 → r ≢ 30
        → unwound_register compiled places last_data r ≡ d.registers r
    found_on r l n24 n25 n29 n30 =
        let n = place_number r in
        let first = found_other compiled places last_data r n29 n30 in
        elim (cases_Bool (has (saved places) n)) [
          | inl t ↦ first
              ∙ ap (λ (b : Bool). if b then frame_word last_data (save_offset n) else last_data.registers r) t
              ∙ word_on (save_offset n) ∙ saved_words charge kept d n (saved_are places).low enters t
              ∙ ap d.registers (register_of_number r (has_low (saved places) n (saved_are places).low t))
          | inr e ↦ first
              ∙ ap (λ (b : Bool). if b then frame_word last_data (save_offset n) else last_data.registers r) e
              ∙ kept_on r l n24 n25 n29
        ]

    -- the whole prologue leaves the same data
    pub made_begins : Beginning compiled places c d
    made_begins =
        let code = front_stands c compiled places st in
        let first : Reaches 1 (at c address 0 d) (at c (address + 4) 0 (begun_first charge d)) =
        record { by = first_reaches charge c address d code.0 } in
        let few = few_places 0 kept (omega arith) (saved_are places).low (saved_are places).rising in
        let n = saves_length kept in
        let w = subst (λ (e : Data). Counted true 1 entered_with e) same_data counts.world in
        let v = enters.world in
        record {
          after = last_data;
          runs = record {
            count = 1 + behind_count places;
            over = omega arith;
            under = omega (arith, few, n);
            reaches = reaches_on first (behind_first c code.1);
          };
          alike = record {
            registers = λ r h. by_register (λ q. unwound_register compiled places last_data q ≡ d.registers q) r
                (omega (arith, pointer_on, over))
                (omega (arith, kept_on 30 (omega arith) (omega arith) (omega arith) (omega arith)))
                (λ n29 n30. found_on r h.0.0 h.0.1 h.0.2 n29 n30);
            stack = λ n le. ap (λ (m : ℕ → ℕ). m n) stack_on ∙ enters.stack n le;
          };
          pointer_is = pointer_on;
          objects_is = omega (arith, kept_on 30 (omega arith) (omega arith) (omega arith) (omega arith));
          global = kept_on 28 (omega arith) (omega arith) (omega arith) (omega arith);
          address = word_on 80 ∙ enters.address;
          world = record {
            objects = w.objects ∙ v.objects;
            closures = w.closures ∙ v.closures;
            spec_rows = w.spec_rows ∙ v.spec_rows;
            emit_stack = w.emit_stack ∙ v.emit_stack;
            table = w.table ∙ v.table;
            outside = w.outside ∙ v.outside;
            cells = w.cells ∙ ap (counted_cells true 1) v.cells;
          };
        }

    -- it is that run, with these data behind it
    pub made_after : made_begins.after ≡ begun_data charge places d
    unfolding made_begins
    made_after = refl

    pub made_count : made_begins.runs.count ≡ 1 + behind_count places
    unfolding made_begins
    made_count = refl

    pub made_outside : (begun_data charge places d).outside ≡ d.outside
    made_outside = enters.world.outside
