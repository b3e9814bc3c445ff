-- An op that sets a register, at its place or in its slot.
use Rattle.std.proofs.Common.{◌≡◌, ◌≢◌, inl, inr, ℕ, zero, suc, ◌+◌, ◌*◌, ◌/◌, ◌<◌, ◌≤◌, Bool, true, false, ◌||◌, List}
use Rattle.std.proofs.Common.{[], ◌∷◌, length, Option, Some, None, refl, sym, ap, ◌∙◌, subst, arith, nat_eq, nat_lt}
use Rattle.std.proofs.Common.{slice_get}
use Rattle.std.proofs.lemmas.Bool.{cases_lt, cases_eq, eq-eqb, ne_eqb}
use Rattle.std.proofs.lemmas.Bool.Decides.{nat_tests}
use Rattle.word32.specs.Space.{update}
use Rattle.mips_model.specs.State as machine
use Rattle.mips_model.specs.State.{Data}
use Rattle.mips_encoder.specs.Addresses.{past}
use Rattle.icode_ops.specs.declared.op.Op.{Op}
use Rattle.icode_ops.specs.Flow.{defined, falls, holds, Follows}
use Rattle.icode_ops.specs.Finished.{InRange}
use Rattle.icode_ops.specs.Live.{Live}
use Rattle.icode_ops.specs.Places.{place_of}
use Rattle.icode_templates.specs.Layout.{place_register, spot_of}
use Rattle.icode_saves.specs.Places.{has, saved}
use Rattle.icode_saves.proofs.Kept.{saved_are}
use Rattle.icode_meaning.specs.State.{Function, Frame, Log, Running, nothing}
use Rattle.icode_meaning.specs.Steps.{paid, moved, set}
use Rattle.icode_meaning.specs.Costs.{least_of, most_of}
use Rattle.icode_templates_proof.specs.Spots.{pointer, value, Framed, PutsTo, IsOther, register_of, Apart}
use Rattle.icode_templates_proof.specs.Moves.{Writes, Comes}
use Rattle.icode_templates_proof.proofs.Memory.{update_same, update_other}
use Rattle.icode_templates_proof.proofs.Leaves.{runs_to}
use Rattle.icode_templates_proof.proofs.Keeping.{pointer_put, apart_kept, value_kept}
use Rattle.icode_expand_proof.specs.Frames.{place_number}
use Rattle.icode_expand_proof.specs.Relation.{Holds, Pays}
use Rattle.icode_expand_proof.specs.Settings.{Setting, places_of, Standing}
use Rattle.icode_expand_proof.specs.Standing.{layout_of, op_stands_at, Suits}
use Rattle.icode_expand_proof.proofs.Codes.{op_code, next_at}
use Rattle.icode_expand_proof.proofs.Frames.{spots, suits_known}
use Rattle.icode_expand_proof.proofs.Places.{place_differs, number_of_place}
use Rattle.icode_expand_proof.proofs.Liveness.{op_found, next_follows, live_before, below_some}
use Rattle.icode_expand_proof.proofs.Paying.{none_passed, runs_pay, extents_kept, extents_put}
use Rattle.icode_expand_proof.proofs.Memory.{memory_kept}
use Rattle.icode_expand_proof.proofs.Within.{Within, holds_next, keeps_within}

-- a register's place stands among the places
pub has_place : (places : List ℕ) (v : ℕ) → v < length places → has places (place_of places v) ≡ true
has_place [] v l = absurd (omega (arith, l))
has_place (p ∷ ps) zero l = let e : nat_eq p p ≡ true = eq-eqb p p refl in ap (λ b. b || has ps p) e
has_place (p ∷ ps) (suc v) l = let ih = has_place ps v (omega (arith, l)) in ap (λ b. nat_eq p (place_of ps v) || b) ih
    ∙ or_true (nat_eq p (place_of ps v))
  where
    or_true : (b : Bool) → (b || true) ≡ true
    or_true true = refl
    or_true false = refl

pub spots_apart : (p q v w : ℕ) → w ≢ v → (p < 12 → q ≢ p) → Apart (spot_of p v) (spot_of q w)
spots_apart p q v w ne h = elim (cases_lt p 12) [
  | inl l ↦ let t : nat_lt p 12 ≡ true = grind (arith, nat_tests) in rw t (elim (cases_lt q 12) [
    | inl k ↦ let s : nat_lt q 12 ≡ true = grind (arith, nat_tests) in rw s (place_differs p q l k (λ e. h l (sym e)))
    | inr k ↦ let s : nat_lt q 12 ≡ false = grind (arith, nat_tests) in rw s tt
  ])
  | inr g ↦ let t : nat_lt p 12 ≡ false = grind (arith, nat_tests) in rw t (elim (cases_lt q 12) [
    | inl k ↦ let s : nat_lt q 12 ≡ true = grind (arith, nat_tests) in rw s tt
    | inr k ↦ let s : nat_lt q 12 ≡ false = grind (arith, nat_tests) in let differs : 128 + 4 * v ≢ 128 + 4 * w =
        λ e. ne (omega (arith, e)) in rw s differs
  ])
]

-- a word of the frame that is no slot of a register
other_word : (p v sp n : ℕ) → n ≢ (sp + (128 + 4 * v)) / 4 → IsOther sp (spot_of p v) n
other_word p v sp n ne = elim (cases_lt p 12) [
  | inl l ↦ let t : nat_lt p 12 ≡ true = grind (arith, nat_tests) in rw t tt
  | inr g ↦ let t : nat_lt p 12 ≡ false = grind (arith, nat_tests) in rw t ne
]

free_register : (places : List ℕ) (p v r : ℕ) → (p < 12 → has (saved places) p ≡ true) → 8 ≤ r
    → has (saved places) (place_number r) ≡ false → r ≢ register_of (spot_of p v)
free_register places p v r covers ge free = elim (cases_lt p 12) [
  | inl l ↦ let t : nat_lt p 12 ≡ true = grind (arith, nat_tests) in
      let ne : r ≢ place_register p =
      λ e. (let n = sym (ap place_number e ∙ number_of_place p l) in let z : true ≡ false = sym (covers l)
      ∙ ap (has (saved places)) n ∙ free in absurd cc) in rw t ne
  | inr g ↦ let t : nat_lt p 12 ≡ false = grind (arith, nat_tests) in
      let ne : r ≢ 1 = omega (arith, ge) in rw t ne
]

pub puts_within : (f : Function) (places : List ℕ) (dst x : ℕ) (d after : Data) → Suits f places → dst < length places
    → Framed (pointer d) f.charge → PutsTo ((layout_of f places).spot dst) x d after → Within f places d after
puts_within f places dst x d after suits inside fr s =
    let p = place_of places dst in
    let covers : p < 12 → has (saved places) p ≡ true =
    λ l. (saved_are places).covers p l (has_place places dst inside) in
    record {
      pointer_is = pointer_put f.charge ((layout_of f places).spot dst) x d after (spots f places dst suits inside) s;
      registers = λ r h free. s.registers r h.0 (free_register places p dst r covers h.0.0 free);
      saved_words = λ offset lo hi. s.stack ((pointer d + offset) / 4)
          (other_word p dst (pointer d) ((pointer d + offset) / 4) (λ e. absurd (omega (arith, hi, e, fr.even))));
      above = λ n le. s.stack n
          (other_word p dst (pointer d) n (λ e. absurd (omega (arith, le, e, inside, suits.room))));
    }

module _ (s : Setting) (st : Standing s) where
  op_in_range : (w : Frame) (o : Op) → s.program.function_at w.function.address ≡ Some w.function
      → slice_get w.function.ops w.index ≡ Some o → InRange (length (places_of s w.function)) o
  op_in_range w o known i = subst (InRange (length (places_of s w.function))) (op_found w.function.ops w.index o i).is
      ((suits_known s st w.function known).in_range w.index)

  pub defined_inside : (w : Frame) (o : Op) (dst : ℕ) → s.program.function_at w.function.address ≡ Some w.function
      → slice_get w.function.ops w.index ≡ Some o → defined o ≡ Some dst → dst < length (places_of s w.function)
  defined_inside w o dst known i df = below_some (length (places_of s w.function)) (defined o) dst df
      (op_in_range w o known i).0

  -- a register is set
  pub holds_set : (w : Frame) (arguments : ℕ → Option ℕ) (answer : Option ℕ) (waiting : List Frame) (log : Log)
      (o : Op) (dst x : ℕ) (d after : Data) → slice_get w.function.ops w.index ≡ Some o → defined o ≡ Some dst
      → falls o ≡ true → x < 4294967296
      → Holds s w arguments answer waiting log d → PutsTo ((layout_of w.function (places_of s w.function)).spot dst) x
      d after
      → Holds s (set dst x w) nothing None waiting (paid o log) after
  holds_set w arguments answer waiting log o dst x d after i df fo word h put =
      let f = w.function in
      let places = places_of s f in
      let suits = suits_known s st f h.known in
      let inside = defined_inside w o dst h.known i df in
      holds_next s st w arguments nothing answer waiting log (paid o log) (suc w.index) (update dst x w.values)
      (update dst true w.on) d after h (puts_within f places dst x d after suits inside h.ready.framed put)
      (λ v l live t. elim (cases_eq v dst) [
        | inl e ↦ subst (λ k. value after ((layout_of f places).spot k) ≡ update dst x w.values k) (sym e)
            (put.value_is ∙ sym (update_same dst x w.values))
        | inr ne ↦ (let no : nat_eq v dst ≡ false = ne_eqb v dst ne in
            let follows = next_follows f.ops v w.index o i fo live in
            let before = live_before f.ops v w.index (suc w.index) o i follows (ap (holds v) df ∙ no) live in
            let on : w.on v ≡ true = rw no at t in
            let apart = spots_apart (place_of places dst) (place_of places v) dst v ne
            (λ low. suits.legal.kept w.index dst v (ap defined (op_found f.ops w.index o i).is ∙ df) low ne
            (suc w.index, follows, live)) in
            apart_kept f.charge ((layout_of f places).spot dst) ((layout_of f places).spot v) x d after h.ready.framed
            (spots f places dst suits inside) (spots f places v suits l) apart put ∙ h.ready.agrees v l before on
            ∙ sym (update_other dst x w.values v ne))
      ])
      (λ v. elim (cases_eq v dst) [
        | inl e ↦ subst (λ k. update dst x w.values k < 4294967296) (sym e)
            (subst (λ y. y < 4294967296) (sym (update_same dst x w.values)) word)
        | inr ne ↦ subst (λ y. y < 4294967296) (sym (update_other dst x w.values v ne)) (h.ready.words v)
      ])
      (memory_kept s log.shared log.active d after put.world h.memory)
      (extents_put log.shared f.charge ((layout_of f places).spot dst) x d after (spots f places dst suits inside) put
      h.extents)
      (none_passed after)

  -- What else the op changes stands in `before` and its log.
  pub write_pays : (w : Frame) (arguments : ℕ → Option ℕ) (answer : Option ℕ) (waiting : List Frame) (log log' : Log)
      (from : machine.State) (o : Op) (dst x l m : ℕ) (before : Data)
      → slice_get w.function.ops w.index ≡ Some o → defined o ≡ Some dst → falls o ≡ true → x < 4294967296
      → log'.least ≤ log.least → log.most ≤ log'.most → least_of o ≤ l → m ≤ most_of o
      → Holds s w arguments answer waiting log' before
      → Writes ((layout_of w.function (places_of s w.function)).spot dst) x l m from s.code
      (past (op_stands_at w.function (places_of s w.function) w.index)
      (op_code w.function (places_of s w.function) o)) before
      → Pays s (Running (set dst x w) nothing None waiting (paid o log')) log from
  write_pays w arguments answer waiting log log' from o dst x l m before i df fo word e1 e2 lo hi h wr =
      runs_pay s st (set dst x w) nothing None waiting log (paid o log') from l m wr.after (omega (arith, e1, lo))
      (omega (arith, e2, hi))
      (runs_to (sym (next_at w.function (places_of s w.function) w.index o i)) wr.runs)
      (holds_set w arguments answer waiting log' o dst x before wr.after i df fo word h wr.puts)

  -- one that sets none, and goes to op j
  pub come_pays : (w : Frame) (arguments : ℕ → Option ℕ) (answer : Option ℕ) (waiting : List Frame) (log : Log)
      (from : machine.State) (o : Op) (j target l m : ℕ) (d : Data)
      → slice_get w.function.ops w.index ≡ Some o → defined o ≡ None
      → ((v : ℕ) → Live w.function.ops v j → Follows w.function.ops w.index j) → least_of o ≤ l → m ≤ most_of o
      → target ≡ op_stands_at w.function (places_of s w.function) j → Holds s w arguments answer waiting log d
      → Comes l m from s.code target d
      → Pays s (Running (moved j w) nothing None waiting (paid o log)) log from
  come_pays w arguments answer waiting log from o j target l m d i df follows lo hi goes h cm =
      let f = w.function in
      let places = places_of s f in
      let suits = suits_known s st f h.known in
      let held = holds_next s st w arguments nothing answer waiting log (paid o log) j w.values w.on d cm.after h
      (keeps_within f places cm.keeps)
      (λ v l live t. value_kept f.charge d cm.after ((layout_of f places).spot v) (spots f places v suits l) cm.keeps
      ∙ h.ready.agrees v l (live_before f.ops v w.index j o i (follows v live) (ap (holds v) df) live) t)
      h.ready.words (memory_kept s log.shared log.active d cm.after cm.keeps.world h.memory)
      (extents_kept log.shared d cm.after cm.keeps h.extents) (none_passed cm.after) in
      runs_pay s st (moved j w) nothing None waiting log (paid o log) from l m cm.after (omega (arith, lo))
      (omega (arith, hi)) (runs_to goes cm.runs) held
