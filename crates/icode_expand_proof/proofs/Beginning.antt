-- From a function's first instruction to its first op: the caller waits, and will find all again.
use Rattle.std.proofs.Common.{◌≡◌, ◌≢◌, inl, inr, ℕ, suc, ◌+◌, ◌-◌, ◌/◌, ◌%◌, ◌<◌, ◌≤◌, Bool, true, List, [], ◌∷◌, ◌++◌}
use Rattle.std.proofs.Common.{length, refl, sym, ap, ◌∙◌, subst, arith, if◌then◌else◌, append_assoc}
use Rattle.std.proofs.lemmas.Bool.{cases_Bool}
use Rattle.word32.specs.Space.{update}
use Rattle.word32.specs.declared.map.TheConstants.{GLOBAL_POINTER, OBJECTS_END, SEGMENT_BYTES, STACK, STACK_BYTES}
use Rattle.mips_encoder.specs.declared.instruction.Instr.{Instr}
use Rattle.mips_encoder.specs.Addresses.{past}
use Rattle.host_edge.specs.declared.ending.Ending.TheVariants.{Trap}
use Rattle.host_edge.specs.declared.ending.TrapKind.TheVariants.{FrameLimit}
use Rattle.history.specs.Events.{Ended}
use Rattle.mips_model.specs.State.{Code, Data}
use Rattle.mips_model.specs.Laws.{HasAt, at, Reaches}
use Rattle.mips_model.proofs.Reach.{front, back, past_append, reaches_on}
use Rattle.icode_templates.specs.Layout.{place_register}
use Rattle.icode_templates.specs.Frames.{save_offset, saves, take_frame, take_objects, enter_count}
use Rattle.icode_saves.specs.Places.{has, saved}
use Rattle.icode_saves.specs.Laws.{AllPlaces}
use Rattle.icode_saves.proofs.Kept.{saved_are}
use Rattle.icode_meaning.specs.State.{Function}
use Rattle.icode_templates_proof.specs.Spots.{pointer, frame_word}
use Rattle.icode_templates_proof.specs.Moves.{Runs, EndsIn}
use Rattle.icode_templates_proof.proofs.Keeping.{with_registers}
use Rattle.limits.specs.declared.run.TheConstants.{MOST_FRAME_BYTES}
use Rattle.icode_expand_proof.specs.Frames.{place_number, unwound_register, counted_cells}
use Rattle.icode_expand_proof.specs.Standing.{front_code, Stands}
use Rattle.icode_expand_proof.proofs.Addresses.{past_rises}
use Rattle.icode_expand_proof.proofs.Codes.{front_stands, ops_of, front_low, start_at}
use Rattle.icode_expand_proof.proofs.Frames.{by_register, found_other}
use Rattle.icode_expand_proof.proofs.Places.{place_bounds, few_places, register_of_number, has_low}
use Rattle.icode_expand_proof.specs.Runs.{Beginning}
use Rattle.icode_expand_proof.specs.FrameLaws.{FunctionsBegin, StackLimitTraps, FrameLimitTraps}
use Rattle.icode_expand_proof.proofs.Counts.{CountRun, enter_run}
use Rattle.icode_expand_proof.proofs.Entering.{Entered, charged, enters_with, behind_test, prologue_reaches}
use Rattle.icode_expand_proof.proofs.Entering.{prologue_enters}
use Rattle.icode_expand_proof.proofs.Prologue.{ObjectsRun, objects_run, frame_end, ends_late, objects_end}
use Rattle.icode_expand_proof.proofs.Restoring.{saved_is}
use Rattle.icode_expand_proof.proofs.Saving.{word_put, saves_registers}

-- the words that the saves put
pub saved_words : (frame : ℕ) (kept : List ℕ) (d : Data) (p : ℕ) → AllPlaces kept
    → Entered frame d (enters_with frame kept d) → has kept p ≡ true
    → frame_word (enters_with frame kept d) (save_offset p) ≡ d.registers (place_register p)
saved_words frame kept d p all e h =
    let t = word_put 80 (d.registers 31) (with_registers (update 29 (pointer d - frame) (charged frame d).registers)
    (charged frame d)) in
    let b = place_bounds p (has_low kept p all h) in
    saved_is kept t p h ∙ sym (ap (λ (f : ℕ → ℕ). f (place_register p)) (saves_registers kept t))
    ∙ e.registers (place_register p) (b.0, omega (arith, b.1), omega (arith, b.1)) (omega (arith, b.1))

pub saves_length : (ps : List ℕ) → length (saves ps) ≡ length ps
saves_length [] = refl
saves_length (p ∷ ps) = ap suc (saves_length ps)

-- the frame is taken, and all is saved
pub record Framing (f : Function) (places : List ℕ) (c : Code) (d : Data) : Type 0 where
  pub after : Data
  pub reaches : Runs 9 21 (at c f.address 0 d) (at c (past f.address (take_frame f.charge ++ saves (saved places))) 0
      after)
  pub entered : Entered f.charge d after
  pub words : (p : ℕ) → has (saved places) p ≡ true → frame_word after (save_offset p) ≡ d.registers (place_register p)

module _ (f : Function) (places : List ℕ) (c : Code) (d : Data) (st : Stands c f places)
    (over : f.charge + STACK ≤ pointer d) (top : pointer d ≤ 2147483648) (even : pointer d % 4 ≡ 0)
    (global : d.registers 28 ≡ GLOBAL_POINTER) where
  abbrev first : List Instr
  first = take_frame f.charge ++ saves (saved places)

  abbrev second : List Instr
  second = enter_count f.compiled ++ take_objects f.object

  split : front_code f places ≡ first ++ second
  split = sym (append_assoc (take_frame f.charge) (saves (saved places)) second)

  pub stand : HasAt c f.address (first ++ second)
  stand = subst (HasAt c f.address) split (front_stands c f places st)

  pub ends : past f.address (front_code f places) ≡ past (past (past f.address first) (enter_count f.compiled))
      (take_objects f.object)
  ends = ap (past f.address) split ∙ past_append f.address first second ∙ past_append (past f.address first)
      (enter_count f.compiled) (take_objects f.object)

  pub start_low : f.address < SEGMENT_BYTES
  start_low = let r = past_rises f.address (front_code f places) in omega (arith, r, front_low c f places (ops_of st))

  pub framing : Framing f places c d
  framing =
      let kept = saved places in
      let are = saved_are places in
      let big : 128 ≤ f.charge = omega (arith, st.suits.room) in
      let small : f.charge ≤ STACK_BYTES = omega (arith, over, top) in
      let code = front c f.address first second stand in
      let go = prologue_reaches f.charge kept c f.address d are.low big small st.suits.whole start_low over top even
      code in
      let en = prologue_enters f.charge kept c f.address d are.low big small st.suits.whole start_low over top even
      code in
      let few = few_places 0 kept (omega arith) are.low are.rising in
      let n = saves_length kept in
      record {
        after = enters_with f.charge kept d;
        reaches = record {
          count = 5 + 2 + length (behind_test kept);
          over = omega arith;
          under = omega (arith, few, n);
          reaches = go;
        };
        entered = en;
        words = λ p h. saved_words f.charge kept d p are.low en h;
      }

  -- behind the frame
  abbrev behind : Data
  behind = framing.after

  kept_there : (r : ℕ) → 8 ≤ r → r ≢ 24 → r ≢ 25 → r ≢ 29 → behind.registers r ≡ d.registers r
  kept_there r l n24 n25 n29 = framing.entered.registers r (l, n24, n25) n29

  counting : CountRun f.compiled 1 c (past f.address first) (enter_count f.compiled) behind
  counting = enter_run f.compiled c (past f.address first) behind
      (kept_there 28 (omega arith) (omega arith) (omega arith) (omega arith) ∙ global)
      (front c (past f.address first) (enter_count f.compiled) (take_objects f.object)
      (back c f.address first second stand))

  objects_stand : HasAt c (past (past f.address first) (enter_count f.compiled)) (take_objects f.object)
  objects_stand = back c (past f.address first) (enter_count f.compiled) (take_objects f.object)
      (back c f.address first second stand)

  objects_before : counting.after.registers 30 ≡ d.registers 30
  objects_before = counting.registers 30 (omega arith) ∙ kept_there 30 (omega arith) (omega arith) (omega arith)
      (omega arith)

  -- the objects fit
  module _ (fits : d.registers 30 + f.object ≤ OBJECTS_END) where
    taking : ObjectsRun f.object c (past (past f.address first) (enter_count f.compiled)) counting.after
    taking = objects_run f.object c (past (past f.address first) (enter_count f.compiled)) counting.after
        (subst (λ n. n < SEGMENT_BYTES) ends (front_low c f places (ops_of st)))
        (subst (λ n. n + f.object ≤ OBJECTS_END) (sym objects_before) fits) objects_stand

    abbrev last : Data
    last = taking.after

    register_is : (r : ℕ) → 8 ≤ r → r ≢ 24 → r ≢ 25 → r ≢ 29 → r ≢ 30 → last.registers r ≡ d.registers r
    register_is r l n24 n25 n29 n30 = taking.registers r n24 n25 n30 ∙ counting.registers r n25
        ∙ kept_there r l n24 n25 n29

    pointer_then : pointer last ≡ pointer behind
    pointer_then = taking.registers 29 (omega arith) (omega arith) (omega arith) ∙ counting.registers 29 (omega arith)

    pointer_last : pointer last ≡ pointer d - f.charge
    pointer_last = pointer_then ∙ framing.entered.pointer_is

    stack_then : last.stack ≡ behind.stack
    stack_then = taking.stack ∙ counting.stack

    word_then : (offset : ℕ) → frame_word last offset ≡ frame_word behind offset
    word_then offset = ap (λ (m : ℕ → ℕ). m ((pointer last + offset) / 4)) stack_then
        ∙ ap (λ n. behind.stack ((n + offset) / 4)) pointer_then

    found_there : (r : ℕ) → 8 ≤ r → r ≢ 24 → r ≢ 25 → r ≢ 29 → r ≢ 30 → unwound_register f places last r ≡ d.registers r
    found_there r l n24 n25 n29 n30 =
        let n = place_number r in
        let first = found_other f places last r n29 n30 in
        elim (cases_Bool (has (saved places) n)) [
          | inl t ↦ first ∙ ap (λ (b : Bool). if b then frame_word last (save_offset n) else last.registers r) t
              ∙ word_then (save_offset n) ∙ framing.words n t
              ∙ ap d.registers (register_of_number r (has_low (saved places) n (saved_are places).low t))
          | inr e ↦ first ∙ ap (λ (b : Bool). if b then frame_word last (save_offset n) else last.registers r) e
              ∙ register_is r l n24 n25 n29 n30
        ]

    pub begins : Beginning f places c d
    begins =
        let obj : last.registers 30 ≡ d.registers 30 + f.object =
        taking.objects_is ∙ ap (λ n. n + f.object) objects_before in
        let w0 = framing.entered.world in
        let w1 = counting.world in
        let w2 = taking.world in
        let go = reaches_on (reaches_on framing.reaches.reaches counting.reaches) taking.reaches in
        let to = sym ends ∙ sym (start_at c f places (ops_of st)) in
        record {
          after = last;
          runs = record {
            count = framing.reaches.count + counting.count + taking.count;
            over = omega (arith, framing.reaches.over);
            under = omega (arith, framing.reaches.under, counting.few, taking.few);
            reaches = subst (λ n. Reaches (framing.reaches.count + counting.count + taking.count) (at c f.address 0 d)
                (at c n 0 last)) to go;
          };
          alike = record {
            registers = λ r h. by_register (λ q. unwound_register f places last q ≡ d.registers q) r
                (omega (arith, pointer_last, over))
                (omega (arith, obj))
                (λ n29 n30. found_there r h.0.0 h.0.1 h.0.2 n29 n30);
            stack = λ n le. ap (λ (m : ℕ → ℕ). m n) stack_then ∙ framing.entered.stack n le;
          };
          pointer_is = pointer_last;
          objects_is = obj;
          global = register_is 28 (omega arith) (omega arith) (omega arith) (omega arith) (omega arith);
          address = word_then 80 ∙ framing.entered.address;
          world = record {
            objects = w2.objects ∙ w1.objects ∙ w0.objects;
            closures = w2.closures ∙ w1.closures ∙ w0.closures;
            spec_rows = w2.spec_rows ∙ w1.spec_rows ∙ w0.spec_rows;
            emit_stack = w2.emit_stack ∙ w1.emit_stack ∙ w0.emit_stack;
            table = w2.table ∙ w1.table ∙ w0.table;
            outside = w2.outside ∙ w1.outside ∙ w0.outside;
            cells = w2.cells ∙ w1.cells ∙ ap (counted_cells f.compiled 1) w0.cells;
          };
        }

  -- the objects don't fit
  pub overflows : d.registers 30 ≤ OBJECTS_END → OBJECTS_END < d.registers 30 + f.object
      → EndsIn 17 33 (Ended (Trap FrameLimit)) (at c f.address 0 d) c d.outside
  overflows most more =
      let e1 = objects_end f.object c (past (past f.address first) (enter_count f.compiled)) counting.after stands_few
      (subst (λ n. n ≤ OBJECTS_END) (sym objects_before) most)
      (subst (λ n. OBJECTS_END < n + f.object) (sym objects_before) more) objects_stand in
      let same : counting.after.outside ≡ d.outside = counting.world.outside ∙ framing.entered.world.outside in
      let e2 = subst (EndsIn 8 8 (Ended (Trap FrameLimit)) (at c (past (past f.address first) (enter_count f.compiled))
      0 counting.after) c) same e1 in
      let go = reaches_on framing.reaches.reaches counting.reaches in
      let e3 = ends_late (framing.reaches.count + counting.count) 8 8 (Ended (Trap FrameLimit)) (at c f.address 0 d)
      (at c (past (past f.address first) (enter_count f.compiled)) 0 counting.after) c d.outside go e2 in
      record {
        count = e3.count;
        over = omega (arith, e3.over, framing.reaches.over);
        under = omega (arith, e3.under, framing.reaches.under, counting.few);
        ending = e3.ending;
        outside_is = e3.outside_is;
        code_is = e3.code_is;
      }
    where
      stands_few : f.object ≤ MOST_FRAME_BYTES
      stands_few = st.suits.few

pub function_begins : FunctionsBegin
function_begins f places c d st over top even global fits = begins f places c d st over top even global fits

pub frame_traps : FrameLimitTraps
frame_traps f places c d st over top even global most more = overflows f places c d st over top even global most more

pub stack_traps : StackLimitTraps
stack_traps f places c d st from top over =
    frame_end f.charge c f.address d st.suits.small from top over
    (front c f.address (take_frame f.charge) _ (front_stands c f places st))
