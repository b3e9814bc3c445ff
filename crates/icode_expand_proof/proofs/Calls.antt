-- A call: the caller waits at its next op.
use Rattle.std.proofs.Common.{◌≡◌, ℕ, suc, ◌+◌, ◌*◌, ◌/◌, ◌%◌, ◌<◌, ◌≤◌, true, false, List, [], ◌∷◌, Option, Some, None}
use Rattle.std.proofs.Common.{refl}
use Rattle.std.proofs.Common.{sym, ap, ◌∙◌, subst, arith, slice_get}
use Rattle.word32.specs.declared.map.TheConstants.{OBJECTS_END, SEGMENT_BYTES}
use Rattle.word32.specs.Space.{update}
use Rattle.mips_model.specs.State.{Code, Data}
use Rattle.mips_model.specs.Steps.{going}
use Rattle.mips_model.specs.Laws.{HasAt, at, Reaches}
use Rattle.mips_model.proofs.Reach.{step_acts}
use Rattle.icode_ops.specs.declared.op.Op.{Op}
use Rattle.icode_ops.specs.declared.op.Op.TheVariants.{Call}
use Rattle.icode_ops.specs.Flow.{defined, falls, holds}
use Rattle.mips_assembly.specs.Assembly.{jal, nop}
use Rattle.icode_meaning.specs.State.{Function, Frame, Log}
use Rattle.icode_meaning.specs.Steps.{paid, moved_on, call_at}
use Rattle.icode_templates_proof.specs.Spots.{frame_word, SameWorld}
use Rattle.icode_templates_proof.proofs.Keeping.{with_registers}
use Rattle.icode_templates_proof.proofs.Memory.{update_same, update_other}
use Rattle.icode_templates_proof.proofs.Leaves.{runs_within}
use Rattle.icode_templates_proof.proofs.Jumps.{slot_runs, in_slot}
use Rattle.icode_expand_proof.specs.Frames.{Alike, FrameAgrees, CallersWait, unwound}
use Rattle.icode_expand_proof.specs.Relation.{Holds, Pays}
use Rattle.icode_expand_proof.specs.Settings.{Setting, places_of, Standing}
use Rattle.icode_expand_proof.specs.Standing.{op_stands_at}
use Rattle.icode_expand_proof.proofs.Codes.{one_stands, code_low, next_at}
use Rattle.icode_expand_proof.proofs.Frames.{ready_alike, stacked_alike, unwound_alike, word_alike, suits_known}
use Rattle.icode_expand_proof.proofs.Frames.{pointer_alike, held_28, held_30}
use Rattle.icode_expand_proof.proofs.Liveness.{next_follows, live_before}
use Rattle.icode_expand_proof.proofs.Paying.{extents_alike, stuck_pays}
use Rattle.icode_expand_proof.proofs.Memory.{memory_kept}
use Rattle.icode_expand_proof.specs.Laws.{CallsPay}
use Rattle.icode_expand_proof.proofs.Entrance.{Enters, enter_pays}
use Rattle.icode_expand_proof.specs.Settings.{Extends}
use Rattle.icode_expand_proof.specs.Standing.{front_code}
use Rattle.icode_meaning.specs.State.{Program}

-- the jump leaves the address behind its slot
abbrev pub linked : ℕ → Data → Data
linked address d = with_registers (update 31 address d.registers) d

call_reaches : (c : Code) (a target : ℕ) (d : Data) → a + 8 < SEGMENT_BYTES → target % 4 ≡ 0
    → HasAt c a (jal target ∷ nop ∷ []) → Reaches 2 (at c a 0 d) (at c target 0 (linked (a + 4 + 4) d))
call_reaches c a target d low even h =
    let e : (a + 4) / SEGMENT_BYTES * SEGMENT_BYTES + 4 * (target / 4) ≡ target = omega (arith, low, even) in
    let n : (a + 4 + 4) % 4294967296 ≡ a + 4 + 4 = omega (arith, low) in
    slot_runs c a 0 target d (linked (a + 4 + 4) d)
    (step_acts (jal target) (at c a 0 d) h.0 refl
    ∙ ap (λ t. going (in_slot c a t (linked ((a + 4 + 4) % 4294967296) d))) e
    ∙ ap (λ x. going (in_slot c a target (linked x d))) n) h.1.0

pub linked_alike : (address : ℕ) (d : Data) → Alike d (linked address d)
linked_alike address d = record { registers = λ r h. update_other 31 address d.registers r h.1; stack = λ n le. refl }

-- what the text has at an address is a function of the setting's that isn't compiled
abbrev pub IsFunction : Setting → (address : ℕ) → Option Function → Type 0
IsFunction s address None = Unit {0}
IsFunction s address (Some f) = (s.program.function_at address ≡ Some f) × (f.compiled ≡ false)

pub text_function : (text : Program) (s : Setting) → Extends text s → (address : ℕ) (x : Option Function)
    → text.function_at address ≡ x → IsFunction s address x
text_function text s ex address None e = tt
text_function text s ex address (Some f) e = ex.functions address f e

-- so what begins it stands
pub front_known : (s : Setting) → Standing s → (address : ℕ) (f : Function) → s.program.function_at address ≡ Some f
    → f.compiled ≡ false → HasAt s.code f.address (front_code f (places_of s f))
front_known s st address f e static =
    let there = (st.functions address f e).0 in
    subst (λ n. HasAt s.code n (front_code f (s.places_at n))) (sym there) (st.fronts address f e static)

module _ (s : Setting) (st : Standing s) where
  -- an op that sets no register and goes on: the same call at its next op
  pub ready_next : (w : Frame) (o : Op) (d : Data) → slice_get w.function.ops w.index ≡ Some o → defined o ≡ None
      → falls o ≡ true → FrameAgrees s w d → FrameAgrees s (moved_on w) d
  ready_next w o d i df fo h =
      let f = w.function in
      record {
        framed = h.framed;
        agrees = λ v l live t. h.agrees v l (live_before f.ops v w.index (suc w.index) o i
            (next_follows f.ops v w.index o i fo live) (ap (holds v) df) live) t;
        words = h.words;
        reach = h.reach;
        stand = h.stand;
        global = h.global;
        objects_from = h.objects_from;
        objects_to = h.objects_to;
      }

  -- Behind what brings a call's target and return address in, at the function's first instruction
  pub call_enters : (w : Frame) (arguments : ℕ → Option ℕ) (answer : Option ℕ) (waiting : List Frame) (log : Log)
      (o : Op) (d d1 : Data) → slice_get w.function.ops w.index ≡ Some o → defined o ≡ None → falls o ≡ true
      → Holds s w arguments answer waiting log d → Alike d d1 → SameWorld d d1 → d1.registers 31 ≡ op_stands_at
      w.function (places_of s w.function) (suc w.index)
      → Enters s arguments (moved_on w ∷ waiting) (paid o log) d1
  call_enters w arguments answer waiting log o d d1 i df fo h al world back =
      let f = w.function in
      let places = places_of s f in
      let suits = suits_known s st f h.known in
      let fr = h.ready.framed in
      let ptr = pointer_alike al in
      record {
        waits = (
          record {
            address_is = back;
            known = h.known;
            ready = ready_next w o d1 i df fo
                (ready_alike s w suits al h.ready);
          },
          subst (λ n. CallersWait s waiting (unwound f places d1) n) (sym (word_alike 80 al))
              (stacked_alike s st waiting (frame_word d 80) (unwound_alike f places al) h.waits),
        );
        memory = memory_kept s log.shared log.active d d1 world h.memory;
        extents = extents_alike log.shared al h.extents;
        from = omega (arith, ptr, fr.from);
        even = subst (λ n. n % 4 ≡ 0) (sym ptr) fr.even;
        global = al.registers 28 held_28 ∙ h.ready.global;
        objects_to = subst (λ n. n ≤ OBJECTS_END) (sym (al.registers 30 held_30)) h.ready.objects_to;
        reach = λ k x e. let z = h.passed.known k x e in (z.0, omega (arith, ptr, z.1, fr.to, suits.room));
        stand = λ k x e. word_alike (4 * k) al ∙ h.passed.stand k x e;
      }

  pub found_pays : (w : Frame) (arguments : ℕ → Option ℕ) (answer : Option ℕ) (waiting : List Frame) (log : Log)
      (d : Data) (address : ℕ) (x : Option Function) → IsFunction s address x
      → slice_get w.function.ops w.index ≡ Some (Call address) → Holds s w arguments answer waiting log d
      → Pays s (call_at (Call address) x w arguments waiting log) log
      (at s.code (op_stands_at w.function (places_of s w.function) w.index) 0 d)
  found_pays w arguments answer waiting log d address None e i h =
      stuck_pays s log (op_stands_at w.function (places_of s w.function) w.index) d h.memory
  found_pays w arguments answer waiting log d address (Some f) there_is i h =
      let c = w.function in
      let places = places_of s c in
      let o = Call address in
      let sc = (st.functions c.address c h.known).1 in
      let e = there_is.0 in
      let there = st.functions address f e in
      let known : s.program.function_at f.address ≡ Some f = ap s.program.function_at there.0 ∙ e in
      let a = op_stands_at c places w.index in
      let code = one_stands s.code c places sc w.index o i in
      let low = code_low s.code c places sc w.index o i in
      let even : address % 4 ≡ 0 = subst (λ n. n % 4 ≡ 0) there.0 there.1.suits.even in
      let d1 = linked (a + 4 + 4) d in
      let go = subst (λ n. Reaches 2 (at s.code a 0 d) (at s.code n 0 d1)) (sym there.0)
      (call_reaches s.code a address d (omega (arith, low)) even code) in
      let back : d1.registers 31 ≡ op_stands_at c places (suc w.index) = update_same 31 (a + 4 + 4) d.registers
      ∙ sym (next_at c places w.index o i) in
      let world : SameWorld d d1 =
      record {
        objects = refl;
        closures = refl;
        spec_rows = refl;
        cells = refl;
        emit_stack = refl;
        table = refl;
        outside = refl;
      } in
      let en = call_enters w arguments answer waiting log o d d1 i refl refl h (linked_alike (a + 4 + 4) d) world
      back in
      enter_pays s st f known (front_known s st address f e there_is.1) w arguments waiting log o (at s.code a 0 d) 2 2
      d1 (omega arith) (omega arith)
      (runs_within (omega arith) (omega arith) go) en

pub calls_pay : CallsPay
calls_pay text s st ex w arguments answer waiting log d address i h =
    found_pays s st w arguments answer waiting log d address (text.function_at address)
    (text_function text s ex address (text.function_at address) refl) i h
