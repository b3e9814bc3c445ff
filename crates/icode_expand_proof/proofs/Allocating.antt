-- The routine of malloc as an op.
use Rattle.std.proofs.Common.{◌≡◌, inl, inr, ℕ, ◌+◌, ◌-◌, ◌*◌, ◌/◌, ◌%◌, ◌≤◌, true, false, List, ◌++◌, Option}
use Rattle.std.proofs.Common.{Some, None, refl, sym, ap, ◌∙◌, subst, arith, nat_le, slice_get}
use Rattle.std.proofs.lemmas.Bool.{and_parts}
use Rattle.std.proofs.lemmas.Bool.{cases_Bool}
use Rattle.std.proofs.lemmas.Bool.Decides.{nat_tests}
use Rattle.word32.specs.declared.map.TheConstants.{FRAMES, NEXT_HEAP_CELL, ACTIVE_CALLS_CELL}
use Rattle.mips_model.specs.State.{Data}
use Rattle.mips_encoder.specs.Addresses.{past}
use Rattle.mips_model.specs.Laws.{at}
use Rattle.mips_model.proofs.Reach.{past_append}
use Rattle.icode_ops.specs.Kinds.{run_number}
use Rattle.icode_ops.specs.declared.op.Op.TheVariants.{Run}
use Rattle.icode_ops.specs.declared.kind.RunKind.TheVariants.{Malloc}
use Rattle.icode_meaning.specs.State.{Function, Frame, Log, Running, nothing}
use Rattle.icode_meaning.specs.Steps.{uses_on, paid, sharing, set}
use Rattle.meaning_state.specs.Shared.{Shared, malloc, malloc_answer}
use Rattle.icode_templates.specs.Layout.{Spot}
use Rattle.icode_templates.specs.Templates.{in_code, out_code, routine_code}
use Rattle.icode_templates_proof.specs.Spots.{pointer, frame_word}
use Rattle.icode_templates_proof.specs.Moves.{Writes}
use Rattle.icode_templates_proof.proofs.Memory.{update_same, update_other}
use Rattle.icode_templates_proof.specs.Malloc.{heap_of, with_heap, allotted}
use Rattle.icode_templates_proof.specs.MallocLaws.{HasHeap, linked, return_address}
use Rattle.icode_templates_proof.proofs.Calls.{answer_word, malloc_called}
use Rattle.icode_expand_proof.specs.Frames.{Alike, CallersWait, unwound}
use Rattle.icode_expand_proof.specs.Relation.{MemoryAgrees, Holds, Pays}
use Rattle.icode_expand_proof.specs.Settings.{Setting, places_of, Standing}
use Rattle.icode_expand_proof.specs.Standing.{layout_of, op_stands_at, OpsStand}
use Rattle.icode_expand_proof.proofs.Addresses.{past_rises}
use Rattle.icode_expand_proof.proofs.Codes.{op_code, one_stands, code_low}
use Rattle.icode_expand_proof.proofs.Frames.{spots, suits_known, ready_alike, stacked_alike, unwound_alike}
use Rattle.icode_expand_proof.proofs.Frames.{pointer_alike, held_30}
use Rattle.icode_expand_proof.proofs.Paying.{first_operand}
use Rattle.icode_expand_proof.proofs.Writes.{defined_inside, write_pays}
use Rattle.icode_expand_proof.proofs.Memory.{then_written, then_made, same_made}

-- $ra isn't kept for a caller, and the cells are in no frame
linked_alike : (to : ℕ) (d : Data) → Alike d (linked to d)
linked_alike to d = record { registers = λ r h. update_other 31 to d.registers r h.1; stack = λ n le. refl }

allotted_alike : (v to : ℕ) (d : Data) → Alike d (allotted v (linked to d))
allotted_alike v to d = elim (cases_Bool (nat_le v (FRAMES - heap_of d))) [
  | inl t ↦ let al = linked_alike to d in
      let moved : Alike d (with_heap (heap_of d + (v + 7) / 8 * 8) (linked to d)) =
      record { registers = al.registers; stack = al.stack } in
      rw t moved
  | inr t ↦ rw t (linked_alike to d)
]

saved_word : (v to : ℕ) (d : Data) → frame_word (allotted v (linked to d)) 80 ≡ frame_word d 80
saved_word v to d = elim (cases_Bool (nat_le v (FRAMES - heap_of d))) [
  | inl t ↦ rw t refl
  | inr t ↦ rw t refl
]

-- the place behind what was taken is one again
place_behind : (v heap : ℕ) → v ≤ FRAMES - heap → heap ≤ FRAMES → heap % 8 ≡ 0 → heap + (v + 7) / 8 * 8 ≤ FRAMES
place_behind v heap room within even = omega (arith, room, within, even)

even_behind : (v heap : ℕ) → heap % 8 ≡ 0 → (heap + (v + 7) / 8 * 8) % 8 ≡ 0
even_behind v heap even = omega (arith, even)

-- the heap is as malloc leaves it
memory_allotted : (s : Setting) (shared : Shared) (active v to : ℕ) (d : Data)
    → MemoryAgrees s shared active d
    → MemoryAgrees s (malloc v shared) active (allotted v (linked to d))
memory_allotted s shared active v to d h = elim (cases_Bool (nat_le v (FRAMES - shared.heap))) [
  | inl t ↦ let t' : nat_le v (FRAMES - heap_of d) ≡ true = ap (λ n. nat_le v (FRAMES - n)) h.heap ∙ t in
      let next = shared.heap + (v + 7) / 8 * 8 in
      let next' = heap_of d + (v + 7) / 8 * 8 in
      let room : v ≤ FRAMES - shared.heap = grind (arith, nat_tests, t) in
      let moved : MemoryAgrees s (record shared { heap = next }) active (with_heap next' (linked to d)) =
      record {
        history = h.history;
        input = h.input;
        at_end = h.at_end;
        objects = h.objects;
        object_words = h.object_words;
        heap = update_same (NEXT_HEAP_CELL / 4) next' d.cells ∙ ap (λ n. n + (v + 7) / 8 * 8) h.heap;
        heap_place = (
          place_behind v shared.heap room h.heap_place.0 h.heap_place.1,
          even_behind v shared.heap h.heap_place.1,
        );
        active_calls = update_other (NEXT_HEAP_CELL / 4) next' d.cells (ACTIVE_CALLS_CELL / 4) (omega arith)
            ∙ h.active_calls;
        active_word = h.active_word;
        table = h.table;
        making = h.making;
        written = then_written h.written (record {
          closures = refl;
          spec_rows = refl;
          emit_stack = refl;
          cells = λ n k a. update_other (NEXT_HEAP_CELL / 4) next' d.cells n k;
        });
        made = then_made h.made (same_made shared (record shared { heap = next }) refl refl refl);
      } in
      rw (t, t') moved
  | inr t ↦ let t' : nat_le v (FRAMES - heap_of d) ≡ false = ap (λ n. nat_le v (FRAMES - n)) h.heap ∙ t in
      let same : MemoryAgrees s shared active (linked to d) = record {
        history = h.history;
        input = h.input;
        at_end = h.at_end;
        objects = h.objects;
        object_words = h.object_words;
        heap = h.heap;
        heap_place = h.heap_place;
        active_calls = h.active_calls;
        active_word = h.active_word;
        table = h.table;
        making = h.making;
        written = then_written h.written
            (record { closures = refl; spec_rows = refl; emit_stack = refl; cells = λ n k a. refl });
        made = h.made;
      } in
      rw (t, t') same
]

-- nothing else of the state is changed
used_same : (v : ℕ) (shared : Shared) → (malloc v shared).used ≡ shared.used
used_same v shared = elim (cases_Bool (nat_le v (FRAMES - shared.heap))) [
  | inl t ↦ rw t refl
  | inr t ↦ rw t refl
]

frames_same : (v : ℕ) (shared : Shared) → (malloc v shared).frames ≡ shared.frames
frames_same v shared = elim (cases_Bool (nat_le v (FRAMES - shared.heap))) [
  | inl t ↦ rw t refl
  | inr t ↦ rw t refl
]

module _ (s : Setting) (st : Standing s) where
  holds_allotted : (w : Frame) (arguments : ℕ → Option ℕ) (answer : Option ℕ) (waiting : List Frame) (log : Log)
      (v to : ℕ) (d : Data) → Holds s w arguments answer waiting log d
      → Holds s w nothing None waiting (sharing (malloc v log.shared) log) (allotted v (linked to d))
  holds_allotted w arguments answer waiting log v to d h =
      let f = w.function in
      let al = allotted_alike v to d in
      record {
        known = h.known;
        ready = ready_alike s w (suits_known s st f h.known) al h.ready;
        memory = memory_allotted s log.shared log.active v to d h.memory;
        extents = record {
          used = ap (λ n. n + (malloc v log.shared).used) (pointer_alike al) ∙ ap (λ n. pointer d + n)
              (used_same v log.shared) ∙ h.extents.used;
          frames = al.registers 30 held_30 ∙ h.extents.frames ∙ ap (λ n. FRAMES + n)
              (sym (frames_same v log.shared));
        };
        passed = record { known = λ k x e. absurd cc; stand = λ k x e. absurd cc };
        answered = tt;
        waits = subst (λ n. CallersWait s waiting (unwound f (places_of s f) (allotted v (linked to d))) n)
            (sym (saved_word v to d)) (stacked_alike s st waiting (frame_word d 80)
            (unwound_alike f (places_of s f) al) h.waits);
      }

  module _ (w : Frame) (arguments : ℕ → Option ℕ) (answer : Option ℕ) (waiting : List Frame) (log : Log) (d : Data)
      (h : Holds s w arguments answer waiting log d) where
    abbrev f : Function
    f = w.function

    abbrev places : List ℕ
    places = places_of s f

    abbrev a : ℕ
    a = op_stands_at f places w.index

    abbrev spot : ℕ → Spot
    spot = (layout_of f places).spot

    stands : OpsStand s.code f places
    stands = (st.functions f.address f h.known).1

    has_heap : HasHeap log.shared.heap d
    has_heap = record { global = h.ready.global; cell = h.memory.heap; within = h.memory.heap_place.0 }

    pub malloc_pays : (to from : ℕ) → slice_get f.ops w.index ≡ Some (Run Malloc to from)
        → uses_on (Run Malloc to from) w.on ≡ true
        → Pays s (Running (set to (malloc_answer (w.values from) log.shared) w) nothing None waiting
        (sharing (malloc (w.values from) log.shared) (paid (Run Malloc to from) log))) log (at s.code a 0 d)
    malloc_pays to from i u =
        let o = Run Malloc to from in
        let x = first_operand s st w d o from h.known h.ready i refl (and_parts (w.on from) true u).0 in
        let v = w.values from in
        let shared = malloc v log.shared in
        let back_to = return_address a (spot from) in
        let y = malloc_answer v log.shared in
        let code = in_code (spot from) in
        let rest = routine_code (run_number Malloc) ++ out_code (spot to) in
        let low = code_low s.code f places stands w.index o i in
        let e : past a (op_code f places o) ≡ past (past a code + 4 + 4 + 4 + 4) (out_code (spot to)) =
        past_append a code rest in
        let rises = past_rises (past a code + 4 + 4 + 4 + 4) (out_code (spot to)) in
        write_pays s st w nothing None waiting log (sharing shared log) (at s.code a 0 d) o to y 15 26
        (allotted v (linked back_to d)) i refl refl (answer_word v log.shared h.memory.heap_place.0) (omega arith)
        (omega arith) (omega arith) (omega arith) (holds_allotted w arguments answer waiting log v back_to d h)
        (subst (λ z. Writes (spot to) (malloc_answer z log.shared) 15 26 (at s.code a 0 d) s.code
        (past a (op_code f places o)) (allotted z (linked back_to d))) x.value_is
        (malloc_called s.code a f.charge log.shared d (spot to) (spot from) (omega (arith, low, e, rises))
        h.ready.framed (spots f places to stands.suits (defined_inside s st w o to h.known i refl))
        (spots f places from stands.suits x.inside) x.word has_heap st.routines
        (one_stands s.code f places stands w.index o i)))
