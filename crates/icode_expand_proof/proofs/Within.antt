-- An op that stays in its function: what it changes is the function's own, so the callers find what they are to find.
use Rattle.std.proofs.Common.{◌≡◌, inl, inr, ℕ, ◌+◌, ◌-◌, ◌*◌, ◌/◌, ◌<◌, ◌≤◌, Bool, true, false, List, length, Option}
use Rattle.std.proofs.Common.{None, sym, ap, ◌∙◌, subst, arith, if◌then◌else◌}
use Rattle.std.proofs.lemmas.Bool.{cases_Bool}
use Rattle.word32.specs.declared.map.TheConstants.{FRAMES, OBJECTS_END, STACK_TOP}
use Rattle.mips_model.specs.State.{Data}
use Rattle.icode_ops.specs.Live.{Live}
use Rattle.icode_templates.specs.Frames.{save_offset}
use Rattle.icode_saves.specs.Places.{has, saved}
use Rattle.icode_saves.proofs.Kept.{saved_are}
use Rattle.icode_meaning.specs.State.{Function, Frame, Log}
use Rattle.icode_templates_proof.specs.Spots.{pointer, frame_word, value, Framed, KeepsSpots}
use Rattle.icode_templates_proof.proofs.Keeping.{pointer_kept}
use Rattle.icode_expand_proof.specs.Frames.{IsCalleeSaved, Alike, place_number, unwound_register, unwound, CallersWait}
use Rattle.icode_expand_proof.specs.Relation.{MemoryAgrees, ExtentsAgree, ArgumentsAgree, Holds}
use Rattle.icode_expand_proof.specs.Settings.{Setting, places_of, Standing}
use Rattle.icode_expand_proof.specs.Standing.{layout_of}
use Rattle.icode_expand_proof.proofs.Frames.{by_register, found_other, stacked_alike, suits_known, held_28, held_30}
use Rattle.icode_expand_proof.proofs.Places.{has_low}

-- the registers of saved places, and the frame without the saved words, may have changed
pub record Within (f : Function) (places : List ℕ) (d after : Data) : Type 0 where
  pub pointer_is : pointer after ≡ pointer d
  pub registers : (r : ℕ) → IsCalleeSaved r → has (saved places) (place_number r) ≡ false → after.registers r
      ≡ d.registers r
  pub saved_words : (offset : ℕ) → 32 ≤ offset → offset < 125 → after.stack ((pointer d + offset) / 4) ≡ d.stack
      ((pointer d + offset) / 4)
  pub above : (n : ℕ) → (pointer d + f.charge) / 4 ≤ n → after.stack n ≡ d.stack n

pub not_saved : (places : List ℕ) (r : ℕ) → 12 ≤ place_number r → has (saved places) (place_number r) ≡ false
not_saved places r h = elim (cases_Bool (has (saved places) (place_number r))) [
  | inl t ↦ let l = has_low (saved places) (place_number r) (saved_are places).low t in absurd (omega (arith, h, l))
  | inr f ↦ f
]

pub word_within : (f : Function) (places : List ℕ) {d after : Data} (offset : ℕ) → 32 ≤ offset → offset < 125
    → Within f places d after → frame_word after offset ≡ frame_word d offset
word_within f places {d} {after} offset lo hi w = ap (λ n. after.stack ((n + offset) / 4)) w.pointer_is
    ∙ w.saved_words offset lo hi

pub within_alike : (f : Function) (places : List ℕ) {d after : Data} → Within f places d after
    → Alike (unwound f places d) (unwound f places after)
within_alike f places {d} {after} w = record {
  registers = λ r h. by_register (λ q. unwound_register f places after q ≡ unwound_register f places d q) r
      (ap (λ n. n + f.charge) w.pointer_is)
      (ap (λ n. n - f.object) (w.registers 30 held_30 (not_saved places 30 (omega arith))))
      (λ n29 n30. elim (cases_Bool (has (saved places) (place_number r))) [
        | inl t ↦ (let l = has_low (saved places) (place_number r) (saved_are places).low t in
            found_other f places after r n29 n30
            ∙ ap (λ (b : Bool). if b then frame_word after (save_offset (place_number r)) else after.registers r) t
            ∙ word_within f places (save_offset (place_number r)) (omega arith) (omega (arith, l)) w
            ∙ sym (found_other f places d r n29 n30
            ∙ ap (λ (b : Bool). if b then frame_word d (save_offset (place_number r)) else d.registers r) t))
        | inr e ↦ found_other f places after r n29 n30
            ∙ ap (λ (b : Bool). if b then frame_word after (save_offset (place_number r)) else after.registers r) e
            ∙ w.registers r h e
            ∙ sym (found_other f places d r n29 n30
            ∙ ap (λ (b : Bool). if b then frame_word d (save_offset (place_number r)) else d.registers r) e)
      ]);
  stack = λ n le. w.above n le;
}

-- the call at another op, with other values
abbrev pub at_op : ℕ → (ℕ → ℕ) → (ℕ → Bool) → Frame → Frame
at_op j m on w = record w { index = j; values = m; on = on }

pub holds_next : (s : Setting) → Standing s → (w : Frame) (arguments arguments' : ℕ → Option ℕ) (answer : Option ℕ)
    (waiting : List Frame) (log log' : Log) (j : ℕ) (m : ℕ → ℕ) (on : ℕ → Bool) (d after : Data)
    → Holds s w arguments answer waiting log d → Within w.function (places_of s w.function) d after
    → ((v : ℕ) → v < length (places_of s w.function) → Live w.function.ops v j → on v ≡ true
    → value after ((layout_of w.function (places_of s w.function)).spot v) ≡ m v)
    → ((v : ℕ) → m v < 4294967296) → MemoryAgrees s log'.shared log'.active after → ExtentsAgree log'.shared
    after → ArgumentsAgree arguments' after
    → Holds s (at_op j m on w) arguments' None waiting log' after
holds_next s st w arguments arguments' answer waiting log log' j m on d after h wi agrees words memory extents passed =
    let f = w.function in
    let places = places_of s f in
    let suits = suits_known s st f h.known in
    let ptr = wi.pointer_is in
    let obj = wi.registers 30 held_30 (not_saved places 30 (omega arith)) in
    record {
      known = h.known;
      ready = record {
        framed = subst (λ n. Framed n f.charge) (sym ptr) h.ready.framed;
        agrees = agrees;
        words = words;
        reach = λ k x e. subst (λ n. (x < 4294967296) × (n + f.charge + 4 * k + 4 ≤ STACK_TOP)) (sym ptr)
            (h.ready.reach k x e);
        stand = λ k x e. ap (λ n. after.stack ((n + (f.charge + 4 * k)) / 4)) ptr
            ∙ wi.above ((pointer d + (f.charge + 4 * k)) / 4) (omega arith) ∙ h.ready.stand k x e;
        global = wi.registers 28 held_28 (not_saved places 28 (omega arith)) ∙ h.ready.global;
        objects_from = subst (λ n. FRAMES + f.object ≤ n) (sym obj) h.ready.objects_from;
        objects_to = subst (λ n. n ≤ OBJECTS_END) (sym obj) h.ready.objects_to;
      };
      memory = memory;
      extents = extents;
      passed = passed;
      answered = tt;
      waits = subst (λ n. CallersWait s waiting (unwound f places after) n)
          (sym (word_within f places 80 (omega arith) (omega arith) wi)) (stacked_alike s st waiting (frame_word d 80)
          (within_alike f places wi) h.waits);
    }

-- what keeps all spots
pub keeps_within : (f : Function) (places : List ℕ) {d after : Data} → KeepsSpots d after → Within f places d after
keeps_within f places {d} {after} k = record {
  pointer_is = pointer_kept k;
  registers = λ r h e. k.registers r h.0;
  saved_words = λ offset lo hi. ap (λ (m : ℕ → ℕ). m ((pointer d + offset) / 4)) k.stack;
  above = λ n le. ap (λ (m : ℕ → ℕ). m n) k.stack;
}
