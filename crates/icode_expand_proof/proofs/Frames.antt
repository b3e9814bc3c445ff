-- What is alike for a caller keeps all calls that wait.
use Rattle.std.proofs.Common.{◌≡◌, ◌≢◌, inl, inr, ℕ, ◌+◌, ◌-◌, ◌*◌, ◌/◌, ◌<◌, ◌≤◌, false, List, [], ◌∷◌, length, Some}
use Rattle.std.proofs.Common.{refl, sym, ap, ◌∙◌, subst, arith, nat_eq, if◌then◌else◌}
use Rattle.std.proofs.lemmas.Bool.{cases_eq, ne_eqb}
use Rattle.word32.specs.declared.map.TheConstants.{FRAMES, OBJECTS_END, STACK_TOP}
use Rattle.mips_model.specs.State.{Data}
use Rattle.icode_ops.specs.Places.{place_of}
use Rattle.icode_templates.specs.Layout.{Spot, InRegister, InSlot}
use Rattle.icode_templates.specs.Frames.{save_offset}
use Rattle.icode_saves.specs.Places.{has, saved}
use Rattle.icode_meaning.specs.State.{Function, Frame}
use Rattle.icode_templates_proof.specs.Spots.{pointer, frame_word, value, Framed, Usable, KeepsSpots}
use Rattle.icode_expand_proof.specs.Frames.{IsCalleeSaved, Alike, place_number, unwound_register, unwound, FrameAgrees}
use Rattle.icode_expand_proof.specs.Frames.{CallersWait}
use Rattle.icode_expand_proof.specs.Settings.{Setting, places_of, Standing}
use Rattle.icode_expand_proof.specs.Standing.{layout_of, Suits}
use Rattle.icode_expand_proof.proofs.Places.{spot_usable}

pub held_28 : IsCalleeSaved 28
held_28 = ((omega arith, omega arith, omega arith), omega arith, inr (omega arith))

pub held_29 : IsCalleeSaved 29
held_29 = ((omega arith, omega arith, omega arith), omega arith, inr (omega arith))

pub held_30 : IsCalleeSaved 30
held_30 = ((omega arith, omega arith, omega arith), omega arith, inr (omega arith))

pub pointer_alike : {d after : Data} → Alike d after → pointer after ≡ pointer d
pointer_alike a = a.registers 29 held_29

pub word_alike : {d after : Data} (offset : ℕ) → Alike d after → frame_word after offset ≡ frame_word d offset
word_alike {d} {after} offset a = ap (λ n. after.stack ((n + offset) / 4)) (pointer_alike a)
    ∙ a.stack ((pointer d + offset) / 4) (omega arith)

pub value_alike : (bytes : ℕ) (w : Spot) {d after : Data} → Usable bytes w → Alike d after → value after w ≡ value d w
value_alike bytes (InRegister r) u a =
    a.registers r ((u.0, omega (arith, u.1), omega (arith, u.1)), omega (arith, u.1), u.2)
value_alike bytes (InSlot far offset) u a = word_alike offset a

pub alike_on : {a b c : Data} → Alike a b → Alike b c → Alike a c
alike_on {a} {b} {c} x y = record {
  registers = λ r h. y.registers r h ∙ x.registers r h;
  stack = λ n h. y.stack n (subst (λ k. k / 4 ≤ n) (sym (pointer_alike x)) h) ∙ x.stack n h;
}

pub keeps_alike : {d after : Data} → KeepsSpots d after → Alike d after
keeps_alike k = record { registers = λ r h. k.registers r h.0; stack = λ n le. ap (λ m. m n) k.stack }

-- the four cases of what a caller finds
pub found_pointer : (f : Function) (places : List ℕ) (d : Data) → unwound_register f places d 29 ≡ pointer d + f.charge
found_pointer f places d = refl

pub found_objects : (f : Function) (places : List ℕ) (d : Data) → unwound_register f places d 30 ≡ d.registers
    30 - f.object
found_objects f places d = refl

pub found_other : (f : Function) (places : List ℕ) (d : Data) (r : ℕ) → r ≢ 29 → r ≢ 30
    → unwound_register f places d r ≡ (if has (saved places) (place_number r) then frame_word d
    (save_offset (place_number r)) else d.registers r)
found_other f places d r n29 n30 =
    let e1 : nat_eq r 29 ≡ false = ne_eqb r 29 n29 in
    let e2 : nat_eq r 30 ≡ false = ne_eqb r 30 n30 in
    rw (e1, e2)

-- a property of each register: of 29, of 30, and of the others
pub by_register : (P : ℕ → Type 0) (r : ℕ) → P 29 → P 30 → (r ≢ 29 → r ≢ 30 → P r) → P r
by_register P r p29 p30 other = elim (cases_eq r 29) [
  | inl e ↦ subst P (sym e) p29
  | inr n29 ↦ elim (cases_eq r 30) [
    | inl e ↦ subst P (sym e) p30
    | inr n30 ↦ other n29 n30
  ]
]

pub unwound_alike : (f : Function) (places : List ℕ) {d after : Data} → Alike d after → Alike (unwound f places d)
    (unwound f places after)
unwound_alike f places {d} {after} a = record {
  registers = λ r h. by_register (λ q. unwound_register f places after q ≡ unwound_register f places d q) r
      (ap (λ n. n + f.charge) (pointer_alike a))
      (ap (λ n. n - f.object) (a.registers 30 held_30))
      (λ n29 n30. found_other f places after r n29 n30
      ∙ ap (λ x. if has (saved places) (place_number r) then x else after.registers r)
      (word_alike (save_offset (place_number r)) a)
      ∙ ap (λ x. if has (saved places) (place_number r) then frame_word d (save_offset (place_number r)) else x)
      (a.registers r h)
      ∙ sym (found_other f places d r n29 n30));
  stack = λ n h. a.stack n (omega (arith, h));
}

pub spots : (f : Function) (places : List ℕ) (v : ℕ) → Suits f places → v < length places
    → Usable f.charge ((layout_of f places).spot v)
spots f places v suits inside = spot_usable f.charge (length places) (place_of places v) v inside suits.room

pub ready_alike : (s : Setting) (w : Frame) {d after : Data} → Suits w.function (places_of s w.function)
    → Alike d after → FrameAgrees s w d → FrameAgrees s w after
ready_alike s w {d} {after} suits a h = record {
  framed = subst (λ n. Framed n w.function.charge) (sym (pointer_alike a)) h.framed;
  agrees = λ v l live t. value_alike w.function.charge ((layout_of w.function (places_of s w.function)).spot v)
      (spots w.function (places_of s w.function) v suits l) a ∙ h.agrees v l live t;
  words = h.words;
  reach = λ k x e. subst (λ n. (x < 4294967296) × (n + w.function.charge + 4 * k + 4 ≤ STACK_TOP))
      (sym (pointer_alike a)) (h.reach k x e);
  stand = λ k x e. word_alike (w.function.charge + 4 * k) a ∙ h.stand k x e;
  global = a.registers 28 held_28 ∙ h.global;
  objects_from = subst (λ n. FRAMES + w.function.object ≤ n) (sym (a.registers 30 held_30)) h.objects_from;
  objects_to = subst (λ n. n ≤ OBJECTS_END) (sym (a.registers 30 held_30)) h.objects_to;
}

pub suits_known : (s : Setting) → Standing s → (f : Function) → s.program.function_at f.address ≡ Some f
    → Suits f (places_of s f)
suits_known s st f known = (st.functions f.address f known).1.suits

pub stacked_alike : (s : Setting) → Standing s → (ws : List Frame) (address : ℕ) {d after : Data} → Alike d after
    → CallersWait s ws d address → CallersWait s ws after address
stacked_alike s st [] address a h = h
stacked_alike s st (w ∷ ws) address {d} {after} a h =
    let here = h.0 in
    let places = places_of s w.function in (
      record {
        address_is = here.address_is;
        known = here.known;
        ready = ready_alike s w
            (suits_known s st w.function here.known) a here.ready;
      },
      subst (λ n. CallersWait s ws (unwound w.function places after) n) (sym (word_alike 80 a))
          (stacked_alike s st ws (frame_word d 80) (unwound_alike w.function places a) h.1),
    )
