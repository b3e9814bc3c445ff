-- Loads and stores of objects as ops, with their traps.
use Rattle.std.proofs.Common.{◌≡◌, ℕ, suc, ◌+◌, ◌/◌, ◌<◌, ◌≤◌, true, List, [], ◌∷◌, ◌++◌, Option, Some, None, refl}
use Rattle.std.proofs.Common.{sym, ap, ◌∙◌, subst, arith, slice_get}
use Rattle.std.proofs.lemmas.Bool.{and_parts}
use Rattle.word32.specs.declared.map.TheConstants.{SEGMENT_BYTES}
use Rattle.word32.specs.Space.{load, store, AreWords}
use Rattle.word32.specs.declared.width.Width.{Width}
use Rattle.word32.proofs.PartLaws.{loaded_range}
use Rattle.word32.proofs.SpaceLaws.{store_words}
use Rattle.host_edge.specs.declared.ending.Ending.TheVariants.{Trap}
use Rattle.host_edge.specs.declared.ending.TrapKind.{TrapKind}
use Rattle.history.specs.Events.{Ended}
use Rattle.mips_model.specs.State.{Data}
use Rattle.mips_encoder.specs.Addresses.{past}
use Rattle.mips_model.specs.Laws.{at}
use Rattle.mips_model.proofs.Reach.{past_append}
use Rattle.icode_ops.specs.declared.op.Op.TheVariants.{Load, Store}
use Rattle.icode_templates.specs.Layout.{Spot}
use Rattle.mips_assembly.specs.Assembly.{nop}
use Rattle.icode_templates.specs.Templates.{in_code, in_two_code, out_code, range_check, load_instruction}
use Rattle.icode_templates.specs.Templates.{store_instruction}
use Rattle.icode_meaning.specs.State.{Function, Frame, Log, State, nothing, least_at}
use Rattle.icode_meaning.specs.Steps.{uses_on, paid, sharing, set, moved_on, goes_on, unless}
use Rattle.meaning_state.specs.Shared.{access_trap, loaded, stored}
use Rattle.icode_templates_proof.specs.Spots.{value, frame_word}
use Rattle.icode_templates_proof.specs.Moves.{Writes, Comes}
use Rattle.icode_templates_proof.specs.Laws.{stored_in}
use Rattle.icode_templates_proof.proofs.Loads.{load_writes, load_ends}
use Rattle.icode_templates_proof.proofs.Stores.{store_comes, store_ends}
use Rattle.icode_expand_proof.specs.Frames.{Alike}
use Rattle.icode_expand_proof.specs.Relation.{Holds, Pays}
use Rattle.icode_expand_proof.specs.Settings.{Setting, places_of, Standing}
use Rattle.icode_expand_proof.specs.Standing.{layout_of, op_stands_at, OpsStand}
use Rattle.icode_expand_proof.proofs.Addresses.{past_rises}
use Rattle.icode_expand_proof.proofs.Codes.{op_code, one_stands, code_low, next_at}
use Rattle.icode_expand_proof.proofs.Frames.{spots, suits_known, ready_alike, stacked_alike, unwound_alike}
use Rattle.icode_expand_proof.proofs.Liveness.{next_follows}
use Rattle.icode_expand_proof.proofs.Operators.{end_pays}
use Rattle.icode_expand_proof.proofs.Paying.{first_operand, second_operand}
use Rattle.icode_expand_proof.proofs.Writes.{defined_inside, write_pays, come_pays}
use Rattle.icode_expand_proof.proofs.Memory.{written_as, then_made, same_made}

-- an access has paid
pub access_least : (t : Option TrapKind) (log log' : Log) (s : State) → log.least + 1 ≤ log'.least
    → log.least + 1 ≤ least_at s → log.least + 1 ≤ least_at (unless t log' s)
access_least None log log' s e1 e2 = e2
access_least (Some k) log log' s e1 e2 = e1

-- an object was changed
objects_alike : (kind : Width) (address x : ℕ) (d : Data) → Alike d (stored_in kind address x d)
objects_alike kind address x d = record { registers = λ r h. refl; stack = λ n le. refl }

module _ (s : Setting) (st : Standing s) where
  -- on both sides
  pub holds_stored : (w : Frame) (arguments : ℕ → Option ℕ) (answer : Option ℕ) (waiting : List Frame) (log : Log)
      (kind : Width) (address x : ℕ) (d : Data) → x < 4294967296 → Holds s w arguments answer waiting log d
      → Holds s w nothing None waiting (sharing (stored address kind x log.shared) log) (stored_in kind address x d)
  holds_stored w arguments answer waiting log kind address x d word h =
      let f = w.function in
      let al = objects_alike kind address x d in
      record {
        known = h.known;
        ready = ready_alike s w (suits_known s st f h.known) al h.ready;
        memory = record {
          history = h.memory.history;
          input = h.memory.input;
          at_end = h.memory.at_end;
          objects = ap (store address kind x) h.memory.objects;
          object_words = store_words log.shared.objects address kind x h.memory.object_words word;
          heap = h.memory.heap;
          heap_place = h.memory.heap_place;
          active_calls = h.memory.active_calls;
          active_word = h.memory.active_word;
          table = h.memory.table;
          making = h.memory.making;
          written = written_as refl refl refl refl h.memory.written;
          made = then_made h.memory.made
              (same_made log.shared (stored address kind x log.shared) refl refl refl);
        };
        extents = record { used = h.extents.used; frames = h.extents.frames };
        passed = record { known = λ k y e. absurd cc; stand = λ k y e. absurd cc };
        answered = tt;
        waits = stacked_alike s st waiting (frame_word d 80) (unwound_alike f (places_of s f) al) h.waits;
      }

  module _ (w : Frame) (arguments : ℕ → Option ℕ) (answer : Option ℕ) (waiting : List Frame) (log : Log) (d : Data)
      (h : Holds s w arguments answer waiting log d) where
    abbrev f : Function
    f = w.function

    abbrev places : List ℕ
    places = places_of s f

    abbrev a : ℕ
    a = op_stands_at f places w.index

    abbrev spot : ℕ → Spot
    spot = (layout_of f places).spot

    stands : OpsStand s.code f places
    stands = (st.functions f.address f h.known).1

    load_low : (kind : Width) (to from : ℕ) → slice_get f.ops w.index ≡ Some (Load kind to from)
        → past a (in_code (spot from)) + 20 < SEGMENT_BYTES
    load_low kind to from i =
        let rest = load_instruction kind ∷ nop ∷ out_code (spot to) in
        let low = code_low s.code f places stands w.index (Load kind to from) i in
        let e = past_append a (in_code (spot from)) (range_check 25 ++ rest) in
        let more = past_rises (past a (in_code (spot from)) + 4 + 4 + 4 + 4 + 4) rest in
        omega (arith, low, e, more)

    store_low : (kind : Width) (to from : ℕ) → slice_get f.ops w.index ≡ Some (Store kind to from)
        → past a (in_two_code (spot to) (spot from)) + 20 < SEGMENT_BYTES
    store_low kind to from i =
        let rest = store_instruction kind ∷ [] in
        let low = code_low s.code f places stands w.index (Store kind to from) i in
        let e = past_append a (in_two_code (spot to) (spot from)) (range_check 1 ++ rest) in
        omega (arith, low, e)

    pub load_pays : (kind : Width) (to from : ℕ) → slice_get f.ops w.index ≡ Some (Load kind to from)
        → uses_on (Load kind to from) w.on ≡ true
        → Pays s (unless (access_trap (w.values from) kind) (paid (Load kind to from) log)
        (goes_on (set to (loaded (w.values from) kind log.shared) w) waiting (paid (Load kind to from) log))) log
        (at s.code a 0 d)
    load_pays kind to from i u = by (access_trap (w.values from) kind) refl
      where
        by : (t : Option TrapKind) → access_trap (w.values from) kind ≡ t
            → Pays s (unless t (paid (Load kind to from) log)
            (goes_on (set to (loaded (w.values from) kind log.shared) w) waiting (paid (Load kind to from) log))) log
            (at s.code a 0 d)
        by None e =
            let o = Load kind to from in
            let v = w.values from in
            let x = first_operand s st w d o from h.known h.ready i refl (and_parts (w.on from) true u).0 in
            let words : AreWords d.objects = subst AreWords (sym h.memory.objects) h.memory.object_words in
            let same : load d.objects (value d (spot from)) kind ≡ loaded v kind log.shared =
            ap (λ n. load d.objects n kind) x.value_is ∙ ap (λ m. load m v kind) h.memory.objects in
            write_pays s st w arguments answer waiting log log (at s.code a 0 d) o to (loaded v kind log.shared) 8 13 d
            i refl refl (loaded_range (log.shared.objects (v / 4)) v kind (h.memory.object_words (v / 4))) (omega arith)
            (omega arith) (omega arith) (omega arith) h
            (subst (λ y. Writes (spot to) y 8 13 (at s.code a 0 d) s.code (past a (op_code f places o)) d) same
            (load_writes kind s.code a f.charge d (spot to) (spot from) (load_low kind to from i) h.ready.framed
            (spots f places from stands.suits x.inside) x.word (one_stands s.code f places stands w.index o i)
            (spots f places to stands.suits (defined_inside s st w o to h.known i refl)) words
            (ap (λ n. access_trap n kind) x.value_is ∙ e)))
        by (Some trap) e =
            let o = Load kind to from in
            let x = first_operand s st w d o from h.known h.ready i refl (and_parts (w.on from) true u).0 in
            end_pays s log (paid o log) (at s.code a 0 d) 6 9 (Ended (Trap trap)) d.outside
            (omega arith) (omega arith) h.memory.history h.memory.making tt
            (load_ends kind s.code a f.charge d (spot to) (spot from) (load_low kind to from i) h.ready.framed
            (spots f places from stands.suits x.inside) x.word (one_stands s.code f places stands w.index o i) trap
            (ap (λ n. access_trap n kind) x.value_is ∙ e))

    pub store_pays : (kind : Width) (to from : ℕ) → slice_get f.ops w.index ≡ Some (Store kind to from)
        → uses_on (Store kind to from) w.on ≡ true
        → Pays s (unless (access_trap (w.values to) kind) (paid (Store kind to from) log)
        (goes_on (moved_on w) waiting
        (sharing (stored (w.values to) kind (w.values from) log.shared) (paid (Store kind to from) log)))) log
        (at s.code a 0 d)
    store_pays kind to from i u = by (access_trap (w.values to) kind) refl
      where
        by : (t : Option TrapKind) → access_trap (w.values to) kind ≡ t
            → Pays s (unless t (paid (Store kind to from) log)
            (goes_on (moved_on w) waiting
            (sharing (stored (w.values to) kind (w.values from) log.shared) (paid (Store kind to from) log)))) log
            (at s.code a 0 d)
        by None e =
            let o = Store kind to from in
            let q = and_parts (w.on to) (w.on from) u in
            let x = first_operand s st w d o to h.known h.ready i refl q.0 in
            let y = second_operand s st w d o from h.known h.ready i refl q.1 in
            let log' = sharing (stored (w.values to) kind (w.values from) log.shared) log in
            let made = store_comes kind s.code a f.charge d (spot to) (spot from) (store_low kind to from i)
            h.ready.framed (spots f places to stands.suits x.inside) (spots f places from stands.suits y.inside)
            x.word y.word (one_stands s.code f places stands w.index o i)
            (ap (λ n. access_trap n kind) x.value_is ∙ e) in
            let same : stored_in kind (value d (spot to)) (value d (spot from)) d
            ≡ stored_in kind (w.values to) (w.values from) d =
            ap (λ n. stored_in kind n (value d (spot from)) d) x.value_is
            ∙ ap (λ n. stored_in kind (w.values to) n d) y.value_is in
            let p = come_pays s st w nothing None waiting log' (at s.code a 0 d) o (suc w.index)
            (past a (op_code f places o)) 7 12 (stored_in kind (w.values to) (w.values from) d) i refl
            (λ v live. next_follows f.ops v w.index o i refl live) (omega arith) (omega arith)
            (sym (next_at f places w.index o i))
            (holds_stored w arguments answer waiting log kind (w.values to) (w.values from) d (h.ready.words from) h)
            (subst (λ z. Comes 7 12 (at s.code a 0 d) s.code (past a (op_code f places o)) z) same made) in
            record { count = p.count; low = p.low; high = p.high; related = p.related }
        by (Some trap) e =
            let o = Store kind to from in
            let q = and_parts (w.on to) (w.on from) u in
            let x = first_operand s st w d o to h.known h.ready i refl q.0 in
            let y = second_operand s st w d o from h.known h.ready i refl q.1 in
            end_pays s log (paid o log) (at s.code a 0 d) 7 12 (Ended (Trap trap)) d.outside
            (omega arith) (omega arith) h.memory.history h.memory.making tt
            (store_ends kind s.code a f.charge d (spot to) (spot from) (store_low kind to from i) h.ready.framed
            (spots f places to stands.suits x.inside) (spots f places from stands.suits y.inside) x.word y.word
            (one_stands s.code f places stands w.index o i) trap (ap (λ n. access_trap n kind) x.value_is ∙ e))
