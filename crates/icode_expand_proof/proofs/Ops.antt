-- The ops that stay in their function.
use Rattle.std.proofs.Common.{◌≡◌, ◌≢◌, ℕ, zero, suc, ◌%◌, ◌<◌, ◌≤◌, true, List, [], ◌∷◌, Option, Some, None}
use Rattle.std.proofs.Common.{refl, sym, ap, ◌∙◌, subst, arith, slice_get}
use Rattle.std.proofs.lemmas.Bool.{and_parts}
use Rattle.history.specs.Events.{Out}
use Rattle.mips_model.specs.State.{Code, Data, Outside}
use Rattle.mips_encoder.specs.Addresses.{past}
use Rattle.mips_model.specs.Laws.{at}
use Rattle.mips_model.proofs.Reach.{past_append}
use Rattle.icode_ops.specs.declared.op.Op.TheVariants.{Const, Move, Jump, Label, BranchZero, BranchNonzero, Sys}
use Rattle.icode_ops.specs.declared.kind.SysKind.TheVariants.{PutByte}
use Rattle.icode_ops.specs.Labels.{label_index}
use Rattle.icode_templates.specs.Templates.{ToLabel, in_code}
use Rattle.icode_meaning.specs.State.{Function, Frame, Log, Running, nothing}
use Rattle.icode_meaning.specs.Steps.{uses_on, paid, sharing, moved, set, branch}
use Rattle.meaning_state.specs.Shared.{put_byte, byte_answer}
use Rattle.icode_templates_proof.specs.Spots.{value, frame_word}
use Rattle.icode_templates_proof.specs.Moves.{Writes, behind}
use Rattle.icode_templates_proof.specs.Laws.{zero_code, nonzero_code, said}
use Rattle.icode_templates_proof.proofs.Templates.{const_writes, move_writes, jump_comes, zero_goes}
use Rattle.icode_templates_proof.proofs.Templates.{zero_passes, nonzero_goes, nonzero_passes}
use Rattle.icode_templates_proof.proofs.Services.{put_writes}
use Rattle.icode_expand_proof.specs.Frames.{Alike}
use Rattle.icode_expand_proof.specs.Relation.{Holds, Pays}
use Rattle.icode_expand_proof.specs.Settings.{Setting, places_of, Standing}
use Rattle.icode_expand_proof.specs.Standing.{layout_of, ops_at, op_stands_at, OpsStand}
use Rattle.icode_expand_proof.proofs.Addresses.{address_even}
use Rattle.icode_expand_proof.proofs.Codes.{aims_of, op_code, one_stands, code_low, ops_even, next_at}
use Rattle.icode_expand_proof.proofs.Frames.{spots, suits_known, ready_alike, stacked_alike, unwound_alike}
use Rattle.icode_expand_proof.proofs.Liveness.{next_follows, label_follows, live_before}
use Rattle.icode_expand_proof.proofs.Paying.{first_operand, none_passed}
use Rattle.icode_expand_proof.proofs.Within.{holds_next, keeps_within}
use Rattle.icode_expand_proof.proofs.Writes.{defined_inside, write_pays, come_pays}
use Rattle.mips_model.specs.Steps.{going}
use Rattle.icode_templates_proof.proofs.Keeping.{keeps_same}
use Rattle.icode_expand_proof.proofs.Memory.{left_out, written_as, history_more, then_made, same_made}

label_even : (c : Code) (f : Function) (places : List ℕ) → OpsStand c f places → (label : ℕ)
    → aims_of f places (ToLabel label) % 4 ≡ 0
label_even c f places st label =
    address_even (layout_of f places) (ops_at f places) f.ops (label_index label f.ops) (ops_even c f places st)

-- more bytes were put out
outside_alike : (o : Outside) (d : Data) → Alike d (record d { outside = o })
outside_alike o d = record { registers = λ r h. refl; stack = λ n le. refl }

module _ (s : Setting) (st : Standing s) where
  pub holds_said : (w : Frame) (arguments : ℕ → Option ℕ) (answer : Option ℕ) (waiting : List Frame) (log : Log)
      (v : ℕ) (d : Data) → Holds s w arguments answer waiting log d
      → Holds s w nothing None waiting (sharing (put_byte v log.shared) log) (said v d)
  holds_said w arguments answer waiting log v d h =
      let f = w.function in
      let al = outside_alike (said v d).outside d in
      record {
        known = h.known;
        ready = ready_alike s w (suits_known s st f h.known) al h.ready;
        memory = record {
          history = history_more s (Out (v % 256) ∷ []) tt h.memory.history;
          input = h.memory.input;
          at_end = h.memory.at_end;
          objects = h.memory.objects;
          object_words = h.memory.object_words;
          heap = h.memory.heap;
          heap_place = h.memory.heap_place;
          active_calls = h.memory.active_calls;
          active_word = h.memory.active_word;
          table = h.memory.table;
          making = left_out s (said v d).outside d.outside refl refl h.memory.making;
          written = written_as refl refl refl refl h.memory.written;
          made = then_made h.memory.made (same_made log.shared (put_byte v log.shared) refl refl refl);
        };
        extents = record { used = h.extents.used; frames = h.extents.frames };
        passed = record { known = λ k x e. absurd cc; stand = λ k x e. absurd cc };
        answered = tt;
        waits = stacked_alike s st waiting (frame_word d 80) (unwound_alike f (places_of s f) al) h.waits;
      }

  module _ (w : Frame) (arguments : ℕ → Option ℕ) (answer : Option ℕ) (waiting : List Frame) (log : Log) (d : Data)
      (h : Holds s w arguments answer waiting log d) where
    abbrev f : Function
    f = w.function

    abbrev places : List ℕ
    places = places_of s f

    abbrev a : ℕ
    a = op_stands_at f places w.index

    stands : OpsStand s.code f places
    stands = (st.functions f.address f h.known).1

    pub const_pays : (to word : ℕ) → slice_get f.ops w.index ≡ Some (Const to word) → word < 4294967296
        → Pays s (Running (set to word w) nothing None waiting (paid (Const to word) log)) log (at s.code a 0 d)
    const_pays to word i b =
        write_pays s st w arguments answer waiting log log (at s.code a 0 d) (Const to word) to word 3 5 d i refl refl
        b (omega arith) (omega arith) (omega arith) (omega arith) h
        (const_writes s.code a f.charge word d ((layout_of f places).spot to) h.ready.framed
        (spots f places to stands.suits (defined_inside s st w (Const to word) to h.known i refl)) b
        (one_stands s.code f places stands w.index (Const to word) i))

    pub move_pays : (to from : ℕ) → slice_get f.ops w.index ≡ Some (Move to from) → uses_on (Move to from) w.on ≡ true
        → Pays s (Running (set to (w.values from) w) nothing None waiting (paid (Move to from) log)) log
        (at s.code a 0 d)
    move_pays to from i u =
        let o = Move to from in
        let x = first_operand s st w d o from h.known h.ready i refl (and_parts (w.on from) true u).0 in
        let spot = (layout_of f places).spot in
        write_pays s st w arguments answer waiting log log (at s.code a 0 d) o to (w.values from) 2 7 d i refl refl
        (h.ready.words from) (omega arith) (omega arith) (omega arith) (omega arith) h
        (subst (λ y. Writes (spot to) y 2 7 (at s.code a 0 d) s.code (past a (op_code f places o)) d) x.value_is
        (move_writes s.code a f.charge d (spot to) (spot from) h.ready.framed
        (spots f places to stands.suits (defined_inside s st w o to h.known i refl))
        (spots f places from stands.suits x.inside) x.word (one_stands s.code f places stands w.index o i)))

    pub put_pays : (to from : ℕ) → slice_get f.ops w.index ≡ Some (Sys PutByte to from) → uses_on (Sys PutByte to from)
        w.on ≡ true
        → Pays s (Running (set to (byte_answer (w.values from)) w) nothing None waiting
        (sharing (put_byte (w.values from) log.shared) (paid (Sys PutByte to from) log))) log (at s.code a 0 d)
    put_pays to from i u =
        let o = Sys PutByte to from in
        let x = first_operand s st w d o from h.known h.ready i refl (and_parts (w.on from) true u).0 in
        let spot = (layout_of f places).spot in
        let v = w.values from in
        write_pays s st w nothing None waiting log (sharing (put_byte v log.shared) log) (at s.code a 0 d) o to
        (v % 256) 6 11 (said v d) i refl refl (omega arith) (omega arith) (omega arith) (omega arith) (omega arith)
        (holds_said w arguments answer waiting log v d h)
        (subst (λ y. Writes (spot to) (y % 256) 6 11 (at s.code a 0 d) s.code (past a (op_code f places o)) (said y d))
        x.value_is
        (put_writes s.code a f.charge d (spot to) (spot from) h.ready.framed
        (spots f places to stands.suits (defined_inside s st w o to h.known i refl))
        (spots f places from stands.suits x.inside) x.word (one_stands s.code f places stands w.index o i)))

    pub jump_pays : (label : ℕ) → slice_get f.ops w.index ≡ Some (Jump label)
        → Pays s (Running (moved (label_index label f.ops) w) nothing None waiting (paid (Jump label) log)) log
        (at s.code a 0 d)
    jump_pays label i =
        let o = Jump label in
        let low = code_low s.code f places stands w.index o i in
        come_pays s st w arguments answer waiting log (at s.code a 0 d) o (label_index label f.ops)
        (aims_of f places (ToLabel label)) 2 2 d i refl (λ v live. label_follows f.ops v w.index label o i refl
        live) (omega arith) (omega arith)
        refl h (jump_comes s.code a (aims_of f places (ToLabel label)) d (omega (arith, low))
        (label_even s.code f places stands label) (one_stands s.code f places stands w.index o i))

    pub zero_pays : (test label : ℕ) → slice_get f.ops w.index ≡ Some (BranchZero test label)
        → uses_on (BranchZero test label) w.on ≡ true
        → Pays s (Running (moved (branch (w.values test) (label_index label f.ops) (suc w.index)) w) nothing None
        waiting (paid (BranchZero test label) log)) log (at s.code a 0 d)
    zero_pays test label i u = by (w.values test) refl
      where
        by : (x : ℕ) → w.values test ≡ x → Pays s (Running (moved (branch x (label_index label f.ops) (suc w.index)) w)
            nothing None waiting (paid (BranchZero test label) log)) log (at s.code a 0 d)
        by zero z =
            let o = BranchZero test label in
            let goal = aims_of f places (ToLabel label) in
            let spot = (layout_of f places).spot test in
            let x = first_operand s st w d o test h.known h.ready i refl (and_parts (w.on test) true u).0 in
            let low = code_low s.code f places stands w.index o i in
            let e = past_append a (in_code spot) (zero_code goal) in
            come_pays s st w arguments answer waiting log (at s.code a 0 d) o (label_index label f.ops) goal 5 8 d i
            refl (λ v live. label_follows f.ops v w.index label o i refl live) (omega arith) (omega arith)
            refl h
            (zero_goes s.code a f.charge goal d spot (omega (arith, low, e)) (label_even s.code f places stands label)
            h.ready.framed (spots f places test stands.suits x.inside) (x.value_is ∙ z)
            (one_stands s.code f places stands w.index o i))
        by (suc n) z =
            let o = BranchZero test label in
            let goal = aims_of f places (ToLabel label) in
            let spot = (layout_of f places).spot test in
            let x = first_operand s st w d o test h.known h.ready i refl (and_parts (w.on test) true u).0 in
            let low = code_low s.code f places stands w.index o i in
            let e = past_append a (in_code spot) (zero_code goal) in
            let ne : value d spot ≢ 0 = λ q. absurd (omega (arith, q, x.value_is, z)) in
            come_pays s st w arguments answer waiting log (at s.code a 0 d) o (suc w.index)
            (past a (op_code f places o)) 3 6 d i refl (λ v live. next_follows f.ops v w.index o i refl live)
            (omega arith) (omega arith)
            (sym (next_at f places w.index o i)) h
            (zero_passes s.code a f.charge goal d spot (omega (arith, low, e)) h.ready.framed
            (spots f places test stands.suits x.inside) x.word ne (one_stands s.code f places stands w.index o i))

    pub nonzero_pays : (test label : ℕ) → slice_get f.ops w.index ≡ Some (BranchNonzero test label)
        → uses_on (BranchNonzero test label) w.on ≡ true
        → Pays s (Running (moved (branch (w.values test) (suc w.index) (label_index label f.ops)) w) nothing None
        waiting (paid (BranchNonzero test label) log)) log (at s.code a 0 d)
    nonzero_pays test label i u = by (w.values test) refl
      where
        by : (x : ℕ) → w.values test ≡ x → Pays s (Running (moved (branch x (suc w.index) (label_index label f.ops)) w)
            nothing None waiting (paid (BranchNonzero test label) log)) log (at s.code a 0 d)
        by zero z =
            let o = BranchNonzero test label in
            let goal = aims_of f places (ToLabel label) in
            let spot = (layout_of f places).spot test in
            let x = first_operand s st w d o test h.known h.ready i refl (and_parts (w.on test) true u).0 in
            let low = code_low s.code f places stands w.index o i in
            let e = past_append a (in_code spot) (nonzero_code goal) in
            come_pays s st w arguments answer waiting log (at s.code a 0 d) o (suc w.index)
            (past a (op_code f places o)) 3 6 d i refl (λ v live. next_follows f.ops v w.index o i refl live)
            (omega arith) (omega arith)
            (sym (next_at f places w.index o i)) h
            (nonzero_passes s.code a f.charge goal d spot (omega (arith, low, e)) h.ready.framed
            (spots f places test stands.suits x.inside) (x.value_is ∙ z)
            (one_stands s.code f places stands w.index o i))
        by (suc n) z =
            let o = BranchNonzero test label in
            let goal = aims_of f places (ToLabel label) in
            let spot = (layout_of f places).spot test in
            let x = first_operand s st w d o test h.known h.ready i refl (and_parts (w.on test) true u).0 in
            let low = code_low s.code f places stands w.index o i in
            let e = past_append a (in_code spot) (nonzero_code goal) in
            let ne : value d spot ≢ 0 = λ q. absurd (omega (arith, q, x.value_is, z)) in
            come_pays s st w arguments answer waiting log (at s.code a 0 d) o (label_index label f.ops) goal 5 8 d i
            refl (λ v live. label_follows f.ops v w.index label o i refl live) (omega arith) (omega arith)
            refl h
            (nonzero_goes s.code a f.charge goal d spot (omega (arith, low, e))
            (label_even s.code f places stands label) h.ready.framed (spots f places test stands.suits x.inside)
            x.word ne (one_stands s.code f places stands w.index o i))

    -- a label has no instruction, so what came before it still counts
    pub label_pays : (q label : ℕ) → q ≤ 1 → slice_get f.ops w.index ≡ Some (Label label)
        → Pays s (Running (moved (suc w.index) w) nothing None waiting (paid (Label label) log)) log
        (behind s.code a q d)
    label_pays q label le i =
        let o = Label label in
        let held = holds_next s st w arguments nothing answer waiting log (paid o log) (suc w.index) w.values w.on d d
        h (keeps_within f places (keeps_same d))
        (λ v l live t. h.ready.agrees v l (live_before f.ops v w.index (suc w.index) o i
        (next_follows f.ops v w.index o i refl live) refl live) t)
        h.ready.words h.memory h.extents (none_passed d) in
        record {
          count = 0;
          low = omega arith;
          high = omega arith;
          related = (
            st,
            record {
              d = d;
              holds = held;
              recent = q;
              few = le;
              is = ap (λ n. going (behind s.code n q d))
                  (sym (next_at f places w.index o i));
            },
          );
        }
