-- The services of the machine as ops: a number is put out, a byte is read, and the run exits.
use Rattle.std.proofs.Common.{◌≡◌, inl, inr, ℕ, ◌+◌, ◌%◌, ◌<◌, ◌≤◌, Bool, true, false, List, [], ◌∷◌, ◌++◌, Option}
use Rattle.std.proofs.Common.{Some, None, refl, sym, ap, ◌∙◌, subst, arith, slice_get, if◌then◌else◌}
use Rattle.std.proofs.lemmas.Bool.{and_parts}
use Rattle.std.proofs.lemmas.Bool.{cases_Bool}
use Rattle.word32.specs.declared.map.TheConstants.{FRAMES}
use Rattle.host_edge.specs.declared.ending.Ending.TheVariants.{Done}
use Rattle.history.specs.Events.{In, Ended, ReadFault, Input, Next, Given, AtEnd, Failing, next_of, next_byte}
use Rattle.history.specs.Events.{outs, number_bytes}
use Rattle.mips_model.specs.State.{Data, Outside}
use Rattle.mips_model.specs.Services.{with_outside}
use Rattle.mips_encoder.specs.Addresses.{past}
use Rattle.mips_model.specs.Laws.{at}
use Rattle.icode_ops.specs.declared.op.Op.TheVariants.{Sys}
use Rattle.icode_ops.specs.declared.kind.SysKind.{SysKind}
use Rattle.icode_ops.specs.declared.kind.SysKind.TheVariants.{PutInteger, PutByte, GetByte, Exit}
use Rattle.icode_meaning.specs.State.{Function, Program, Frame, Log, Running, Halted, nothing, least_at}
use Rattle.icode_meaning.specs.Steps.{uses_on, act, paid, sharing, set, take}
use Rattle.meaning_state.specs.Shared.{Shared, Read, Got, Failed, put_number, read, get_byte, happens}
use Rattle.icode_templates.specs.Layout.{Spot}
use Rattle.icode_templates_proof.specs.Spots.{pointer, frame_word}
use Rattle.icode_templates_proof.specs.Moves.{Writes}
use Rattle.icode_templates_proof.specs.Moves.{EndsIn}
use Rattle.icode_templates_proof.specs.Laws.{told, heard, left_at_end}
use Rattle.icode_templates_proof.proofs.Numbers.{number_writes}
use Rattle.icode_templates_proof.proofs.Inputs.{byte_given, byte_reads, end_reads, failure_ends}
use Rattle.icode_templates_proof.proofs.Exits.{exit_ends}
use Rattle.icode_expand_proof.specs.Frames.{Alike}
use Rattle.icode_expand_proof.specs.Relation.{Holds, IsHeapPlace, Pays}
use Rattle.icode_expand_proof.specs.Settings.{Setting, places_of, Standing}
use Rattle.icode_expand_proof.specs.Standing.{layout_of, op_stands_at, OpsStand}
use Rattle.icode_expand_proof.proofs.Codes.{op_code, one_stands}
use Rattle.icode_expand_proof.proofs.Frames.{spots, suits_known, ready_alike, stacked_alike, unwound_alike}
use Rattle.icode_expand_proof.proofs.Operators.{end_pays}
use Rattle.icode_expand_proof.proofs.Ops.{put_pays}
use Rattle.icode_expand_proof.proofs.Paying.{first_operand}
use Rattle.icode_expand_proof.proofs.Writes.{defined_inside, write_pays}
use Rattle.icode_expand_proof.proofs.Memory.{left_out, history_as, history_more, outs_pass, written_as, then_made}
use Rattle.icode_expand_proof.proofs.Memory.{same_made}
use Rattle.icode_expand_proof.specs.Relation.{HistoryAgrees, HasLeft, SameMade}

-- more passed with the outside
outside_alike : (o : Outside) (d : Data) → Alike d (with_outside o d)
outside_alike o d = record { registers = λ r h. refl; stack = λ n le. refl }

-- what an input is whose end was come to
pub at_its_end : (bytes : List ℕ) (failing : Bool) → next_of bytes failing ≡ AtEnd → (bytes ≡ []) × (failing ≡ false)
at_its_end [] true e = let x : ⊥ = cc in absurd x
at_its_end [] false e = (refl, refl)
at_its_end (b ∷ bytes) failing e = let x : ⊥ = cc in absurd x

next_at_end : (bytes : List ℕ) (failing : Bool) → (bytes ≡ []) × (failing ≡ false) → next_of bytes failing ≡ AtEnd
next_at_end bytes failing e = ap (λ x. next_of x failing) e.0 ∙ ap (next_of []) e.1

-- the empty input
empty_input : (i : Input) → (i.bytes ≡ []) × (i.failing ≡ false) → record { bytes = []; failing = false } ≡ i
empty_input i e =
    ap (λ x. record { bytes = x; failing = false }) (sym e.0) ∙ ap (λ x. record { bytes = i.bytes; failing = x })
    (sym e.1)

left_is : (o : Outside) (input : Input) → o.input ≡ input → (input.bytes ≡ []) × (input.failing ≡ false) →
    left_at_end o ≡ input
left_is o input same e = elim (cases_Bool o.at_end) [
  | inl t ↦ ap (λ (b : Bool). if b then o.input else (record { bytes = []; failing = false })) t ∙ same
  | inr n ↦ ap (λ (b : Bool). if b then o.input else (record { bytes = []; failing = false })) n ∙ empty_input input e
]

-- a service has paid
pub service_least : (program : Program) (kind : SysKind) (to from : ℕ) (w : Frame) (arguments : ℕ → Option ℕ)
    (answer : Option ℕ) (waiting : List Frame) (log : Log)
    → log.least + 1 ≤ least_at (act program (Sys kind to from) w arguments answer waiting log)
service_least program PutInteger to from w arguments answer waiting log = omega arith
service_least program Exit to from w arguments answer waiting log = omega arith
service_least program PutByte to from w arguments answer waiting log = omega arith
service_least program GetByte to from w arguments answer waiting log = by (get_byte log.shared)
  where
    by : (r : Read) → log.least + 1 ≤ least_at (take r to w waiting (paid (Sys GetByte to from) log))
    by (Got x shared) = omega arith
    by Failed = omega arith

module _ (s : Setting) (st : Standing s) where
  -- more passed with the outside, on both sides
  pub holds_outside : (w : Frame) (arguments : ℕ → Option ℕ) (answer : Option ℕ) (waiting : List Frame) (log : Log)
      (shared : Shared) (o : Outside) (d : Data)
      → HistoryAgrees s shared.history o.history → o.input ≡ shared.input
      → (o.at_end ≡ true → (shared.input.bytes ≡ []) × (shared.input.failing ≡ false))
      → shared.objects ≡ log.shared.objects → shared.heap ≡ log.shared.heap → shared.used ≡ log.shared.used
      → shared.frames ≡ log.shared.frames → SameMade log.shared shared → HasLeft s o
      → Holds s w arguments answer waiting log d
      → Holds s w nothing None waiting (sharing shared log) (with_outside o d)
  holds_outside w arguments answer waiting log shared o d eh ei ends eo ep eu ef made em h =
      let f = w.function in
      let al = outside_alike o d in
      record {
        known = h.known;
        ready = ready_alike s w (suits_known s st f h.known) al h.ready;
        memory = record {
          history = eh;
          input = ei;
          at_end = ends;
          objects = h.memory.objects ∙ sym eo;
          object_words = subst (λ (m : ℕ → ℕ). (k : ℕ) → m k < 4294967296) (sym eo) h.memory.object_words;
          heap = h.memory.heap ∙ sym ep;
          heap_place = subst IsHeapPlace (sym ep) h.memory.heap_place;
          active_calls = h.memory.active_calls;
          active_word = h.memory.active_word;
          table = h.memory.table;
          making = em;
          written = written_as refl refl refl refl h.memory.written;
          made = then_made h.memory.made made;
        };
        extents = record {
          used = ap (λ n. pointer d + n) eu ∙ h.extents.used;
          frames = h.extents.frames ∙ ap (λ n. FRAMES + n) (sym ef);
        };
        passed = record { known = λ k x e. absurd cc; stand = λ k x e. absurd cc };
        answered = tt;
        waits = stacked_alike s st waiting (frame_word d 80) (unwound_alike f (places_of s f) al) h.waits;
      }

  module _ (w : Frame) (arguments : ℕ → Option ℕ) (answer : Option ℕ) (waiting : List Frame) (log : Log) (d : Data)
      (h : Holds s w arguments answer waiting log d) where
    abbrev f : Function
    f = w.function

    abbrev places : List ℕ
    places = places_of s f

    abbrev a : ℕ
    a = op_stands_at f places w.index

    abbrev spot : ℕ → Spot
    spot = (layout_of f places).spot

    stands : OpsStand s.code f places
    stands = (st.functions f.address f h.known).1

    pub number_pays : (to from : ℕ) → slice_get f.ops w.index ≡ Some (Sys PutInteger to from)
        → uses_on (Sys PutInteger to from) w.on ≡ true
        → Pays s (Running (set to (w.values from) w) nothing None waiting
        (sharing (put_number (w.values from) log.shared) (paid (Sys PutInteger to from) log))) log (at s.code a 0 d)
    number_pays to from i u =
        let o = Sys PutInteger to from in
        let x = first_operand s st w d o from h.known h.ready i refl (and_parts (w.on from) true u).0 in
        let v = w.values from in
        let shared = put_number v log.shared in
        let out = history_more s (outs (number_bytes v)) (outs_pass (number_bytes v)) h.memory.history in
        write_pays s st w nothing None waiting log (sharing shared log) (at s.code a 0 d) o to v 6 11 (told v d) i refl
        refl (h.ready.words from) (omega arith) (omega arith) (omega arith) (omega arith)
        (holds_outside w arguments answer waiting log shared (told v d).outside d out h.memory.input h.memory.at_end
        refl refl refl refl (same_made log.shared shared refl refl refl)
        (left_out s (told v d).outside d.outside refl refl h.memory.making) h)
        (subst (λ y. Writes (spot to) y 6 11 (at s.code a 0 d) s.code (past a (op_code f places o)) (told y d))
        x.value_is
        (number_writes s.code a f.charge d (spot to) (spot from) h.ready.framed
        (spots f places to stands.suits (defined_inside s st w o to h.known i refl))
        (spots f places from stands.suits x.inside) x.word (one_stands s.code f places stands w.index o i)))

    pub exit_pays : (to from : ℕ) → slice_get f.ops w.index ≡ Some (Sys Exit to from)
        → uses_on (Sys Exit to from) w.on ≡ true
        → Pays s (Halted (Ended (Done (w.values from % 256))) (paid (Sys Exit to from) log)) log (at s.code a 0 d)
    exit_pays to from i u =
        let o = Sys Exit to from in
        let x = first_operand s st w d o from h.known h.ready i refl (and_parts (w.on from) true u).0 in
        end_pays s log (paid o log) (at s.code a 0 d) 4 7 (Ended (Done (w.values from % 256))) d.outside
        (omega arith) (omega arith) h.memory.history h.memory.making tt
        (subst (λ y. EndsIn 4 7 (Ended (Done (y % 256))) (at s.code a 0 d) s.code d.outside) x.value_is
        (exit_ends s.code a f.charge d (spot to) (spot from) h.ready.framed
        (spots f places from stands.suits x.inside) x.word (one_stands s.code f places stands w.index o i)))

    -- the end wasn't read where another answer comes
    not_at_end : (n : Next) → next_byte log.shared.input ≡ n → (n ≡ AtEnd → ⊥) → d.outside.at_end ≡ false
    not_at_end n e other = elim (cases_Bool d.outside.at_end) [
      | inl t ↦ absurd (other (sym e ∙ next_at_end log.shared.input.bytes log.shared.input.failing
          (h.memory.at_end t)))
      | inr none ↦ none
    ]

    heard_pays : (to from x : ℕ) (t : Bool) (input : Input) → slice_get f.ops w.index ≡ Some (Sys GetByte to from)
        → x < 4294967296
        → (t ≡ true → (input.bytes ≡ []) × (input.failing ≡ false))
        → (shared : Shared) → log.shared.history ++ In x ∷ [] ≡ shared.history → input ≡ shared.input
        → shared.objects ≡ log.shared.objects → shared.heap ≡ log.shared.heap → shared.used ≡ log.shared.used
        → shared.frames ≡ log.shared.frames → SameMade log.shared shared
        → Writes (spot to) x 6 11 (at s.code a 0 d) s.code (past a (op_code f places (Sys GetByte to from)))
        (heard x t input d)
        → Pays s (Running (set to x w) nothing None waiting (sharing shared (paid (Sys GetByte to from) log))) log
        (at s.code a 0 d)
    heard_pays to from x t input i word ends shared eh ei eo ep eu ef made wr =
        let o = Sys GetByte to from in
        let z = history_as s eh refl (history_more s (In x ∷ []) tt h.memory.history) in
        write_pays s st w nothing None waiting log (sharing shared log) (at s.code a 0 d) o to x 6 11
        (heard x t input d) i refl refl word (omega arith) (omega arith) (omega arith) (omega arith)
        (holds_outside w arguments answer waiting log shared (heard x t input d).outside d z ei
        (λ e. subst (λ (y : Input). (y.bytes ≡ []) × (y.failing ≡ false)) ei (ends e))
        eo ep eu ef made (left_out s (heard x t input d).outside d.outside refl refl h.memory.making) h) wr

    pub byte_pays : (to from : ℕ) → slice_get f.ops w.index ≡ Some (Sys GetByte to from)
        → uses_on (Sys GetByte to from) w.on ≡ true
        → Pays s (take (get_byte log.shared) to w waiting (paid (Sys GetByte to from) log)) log (at s.code a 0 d)
    byte_pays to from i u = by (next_byte log.shared.input) refl
      where
        by : (n : Next) → next_byte log.shared.input ≡ n
            → Pays s (take (read n log.shared) to w waiting (paid (Sys GetByte to from) log)) log (at s.code a 0 d)
        by (Given b rest) e =
            let o = Sys GetByte to from in
            let x = first_operand s st w d o from h.known h.ready i refl (and_parts (w.on from) true u).0 in
            let range = byte_given log.shared.input.bytes log.shared.input.failing b rest e in
            heard_pays to from b false rest i (omega (arith, range)) (λ q. absurd cc)
            (happens (In b) (record log.shared { input = rest })) refl refl refl refl refl refl
            (same_made log.shared (happens (In b) (record log.shared { input = rest })) refl refl refl)
            (byte_reads s.code a f.charge b rest d (spot to) (spot from) h.ready.framed
            (spots f places to stands.suits (defined_inside s st w o to h.known i refl))
            (spots f places from stands.suits x.inside) x.word (not_at_end (Given b rest) e (λ q. absurd cc))
            (ap next_byte h.memory.input ∙ e) (one_stands s.code f places stands w.index o i))
        by AtEnd e =
            let o = Sys GetByte to from in
            let x = first_operand s st w d o from h.known h.ready i refl (and_parts (w.on from) true u).0 in
            let empty = at_its_end log.shared.input.bytes log.shared.input.failing e in
            let left = left_is d.outside log.shared.input h.memory.input empty in
            heard_pays to from 4294967295 true (left_at_end d.outside) i (omega arith)
            (λ q. subst (λ (y : Input). (y.bytes ≡ []) × (y.failing ≡ false)) (sym left) empty)
            (happens (In 4294967295) log.shared) refl left refl refl refl refl
            (same_made log.shared (happens (In 4294967295) log.shared) refl refl refl)
            (end_reads s.code a f.charge d (spot to) (spot from) h.ready.framed
            (spots f places to stands.suits (defined_inside s st w o to h.known i refl))
            (spots f places from stands.suits x.inside) x.word (inr (ap next_byte h.memory.input ∙ e))
            (one_stands s.code f places stands w.index o i))
        by Failing e =
            let o = Sys GetByte to from in
            let x = first_operand s st w d o from h.known h.ready i refl (and_parts (w.on from) true u).0 in
            end_pays s log (paid o log) (at s.code a 0 d) 4 7 ReadFault d.outside
            (omega arith) (omega arith) h.memory.history h.memory.making tt
            (failure_ends s.code a f.charge d (spot to) (spot from) h.ready.framed
            (spots f places from stands.suits x.inside) x.word (not_at_end Failing e (λ q. absurd cc))
            (ap next_byte h.memory.input ∙ e) (one_stands s.code f places stands w.index o i))

    -- each of them
    pub service_pays : (kind : SysKind) (to from : ℕ) → slice_get f.ops w.index ≡ Some (Sys kind to from)
        → uses_on (Sys kind to from) w.on ≡ true
        → Pays s (act s.program (Sys kind to from) w arguments answer waiting log) log (at s.code a 0 d)
    service_pays PutInteger to from i u = number_pays to from i u
    service_pays Exit to from i u = exit_pays to from i u
    service_pays PutByte to from i u = put_pays s st w arguments answer waiting log d h to from i u
    service_pays GetByte to from i u = byte_pays to from i u
