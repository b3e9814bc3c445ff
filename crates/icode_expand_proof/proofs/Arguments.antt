-- What calls pass and answer: an argument to the stack pointer, a parameter from the caller's frame, an answer from
-- $v0.
use Rattle.std.proofs.Common.{◌≡◌, ◌≢◌, inl, inr, ℕ, suc, ◌+◌, ◌*◌, ◌/◌, ◌%◌, ◌<◌, Bool, true, false, not, List}
use Rattle.std.proofs.Common.{[], ◌∷◌, ◌++◌, length, Option, Some, None, refl, sym, ap, ◌∙◌, subst, arith, nat_eq}
use Rattle.std.proofs.Common.{nat_lt, if◌then◌else◌, slice_get}
use Rattle.std.proofs.lemmas.Bool.{and_parts}
use Rattle.std.proofs.lemmas.Bool.{cases_lt, cases_eq, eq-eqb, ne_eqb}
use Rattle.std.proofs.lemmas.Bool.Decides.{nat_tests}
use Rattle.word32.specs.Space.{update}
use Rattle.mips_model.specs.State.{Data}
use Rattle.mips_model.specs.Laws.{at}
use Rattle.icode_ops.specs.declared.op.Op.TheVariants.{Argument, GetParameter, Result}
use Rattle.icode_ops.specs.Places.{place_of}
use Rattle.mips_assembly.specs.Assembly.{sw, addu}
use Rattle.icode_templates.specs.Layout.{InSlot, slot, spot_of, parameter_spot}
use Rattle.icode_templates.specs.Templates.{in_code, out_code}
use Rattle.icode_meaning.specs.State.{Frame, Log, Running, argued}
use Rattle.icode_meaning.specs.Steps.{uses_on, paid, moved_on, set_from}
use Rattle.icode_templates_proof.specs.Spots.{pointer, value, Framed}
use Rattle.icode_templates_proof.proofs.Memory.{update_same, update_other}
use Rattle.icode_templates_proof.proofs.Leaves.{leaves_on, leaves_run, runs_to, runs_within}
use Rattle.icode_templates_proof.proofs.Keeping.{with_registers, keeps_write, not_24, framed_on, pointer_kept}
use Rattle.icode_templates_proof.proofs.Keeping.{value_kept}
use Rattle.icode_templates_proof.proofs.Operands.{one_in, in_leaves, keeps_one, load_gives, in_between, Between}
use Rattle.icode_templates_proof.proofs.Operands.{between_on}
use Rattle.icode_templates_proof.proofs.Templates.{finish}
use Rattle.icode_expand_proof.specs.Relation.{ExtentsAgree, ArgumentsAgree, Holds, Pays}
use Rattle.icode_expand_proof.specs.Settings.{Setting, places_of, Standing}
use Rattle.icode_expand_proof.specs.Standing.{layout_of, op_stands_at}
use Rattle.icode_expand_proof.proofs.Codes.{one_stands, next_at}
use Rattle.icode_expand_proof.proofs.Frames.{spots}
use Rattle.icode_expand_proof.proofs.Memory.{memory_kept}
use Rattle.icode_expand_proof.proofs.Places.{spot_usable, slot_usable}
use Rattle.icode_expand_proof.proofs.Saving.{word_put, store_leaves}
use Rattle.icode_expand_proof.proofs.Liveness.{next_follows, live_before}
use Rattle.icode_expand_proof.proofs.Paying.{runs_pay, extents_kept, first_operand, stuck_pays}
use Rattle.icode_expand_proof.proofs.Within.{Within, holds_next}
use Rattle.icode_expand_proof.proofs.Writes.{defined_inside, write_pays}

-- a word below the frame's registers is no spot's
value_apart : (k x p v : ℕ) (d : Data) → k < 8 → pointer d % 4 ≡ 0 → value (word_put (4 * k) x d) (spot_of p v) ≡ value
    d (spot_of p v)
value_apart k x p v d low even = elim (cases_lt p 12) [
  | inl l ↦ let t : nat_lt p 12 ≡ true = grind (arith, nat_tests) in rw t refl
  | inr g ↦ let t : nat_lt p 12 ≡ false = grind (arith, nat_tests) in
      let ne : (pointer d + (128 + 4 * v)) / 4 ≢ (pointer d + 4 * k) / 4 = λ e. absurd (omega (arith, e, low)) in
      rw t (update_other ((pointer d + 4 * k) / 4) x d.stack ((pointer d + (128 + 4 * v)) / 4) ne)
]

-- a slot's value takes a load and a wait
slot_between : (offset : ℕ) → Between 2 (in_code (slot offset)) 4
slot_between offset = by (not (nat_lt offset 32768))
  where
    by : (far : Bool) → Between 2 (in_code (InSlot far offset)) 4
    by true = record { over = omega arith; under = omega arith }
    by false = record { over = omega arith; under = omega arith }

-- one argument more
pub passed_more : (k x : ℕ) (arguments : ℕ → Option ℕ) (d mid after : Data) → k < 8 → x < 4294967296
    → ArgumentsAgree arguments d → pointer after ≡ pointer d
    → ((n : ℕ) → after.stack n ≡ update ((pointer d + 4 * k) / 4) x d.stack n) → ArgumentsAgree (argued k x arguments)
    after
passed_more k x arguments d mid after low word h ptr stack = record {
  known = λ j y e. elim (cases_eq j k) [
    | inl same ↦ (let t : nat_eq j k ≡ true = eq-eqb j k same in let z : x ≡ y =
        some_is (sym (ap (λ (b : Bool). if b then Some x else arguments j) t) ∙ e) in
        (subst (λ q. q < 4294967296) z word, subst (λ q. q < 8) (sym same) low))
    | inr ne ↦ (let t : nat_eq j k ≡ false = ne_eqb j k ne in h.known j y
        (sym (ap (λ (b : Bool). if b then Some x else arguments j) t) ∙ e))
  ];
  stand = λ j y e. ap (λ n. after.stack ((n + 4 * j) / 4)) ptr ∙ stack ((pointer d + 4 * j) / 4) ∙ elim (cases_eq j k) [
    | inl same ↦ (let t : nat_eq j k ≡ true = eq-eqb j k same in let z : x ≡ y =
        some_is (sym (ap (λ (b : Bool). if b then Some x else arguments j) t) ∙ e) in
        ap (λ i. update ((pointer d + 4 * k) / 4) x d.stack ((pointer d + 4 * i) / 4)) same
        ∙ update_same ((pointer d + 4 * k) / 4) x d.stack ∙ z)
    | inr ne ↦ (let t : nat_eq j k ≡ false = ne_eqb j k ne in
        let other : (pointer d + 4 * j) / 4 ≢ (pointer d + 4 * k) / 4 = λ q. ne (omega (arith, q)) in
        update_other ((pointer d + 4 * k) / 4) x d.stack ((pointer d + 4 * j) / 4) other
        ∙ h.stand j y (sym (ap (λ (b : Bool). if b then Some x else arguments j) t) ∙ e))
  ];
}
  where
    some_is : {a b : ℕ} → Some a ≡ Some b → a ≡ b
    some_is e = cc

module _ (s : Setting) (st : Standing s) where
  pub argument_pays : (w : Frame) (arguments : ℕ → Option ℕ) (answer : Option ℕ) (waiting : List Frame) (log : Log)
      (k from : ℕ) (d : Data) → k < 8
      → slice_get w.function.ops w.index ≡ Some (Argument k from) → uses_on (Argument k from) w.on ≡ true
      → Holds s w arguments answer waiting log d
      → Pays s (Running (moved_on w) (argued k (w.values from) arguments) None waiting (paid (Argument k from) log))
      log (at s.code (op_stands_at w.function (places_of s w.function) w.index) 0 d)
  argument_pays w arguments answer waiting log k from d low i u h =
      let f = w.function in
      let places = places_of s f in
      let sf = (st.functions f.address f h.known).1 in
      let suits = sf.suits in
      let o = Argument k from in
      let a = op_stands_at f places w.index in
      let spot = (layout_of f places).spot from in
      let x = first_operand s st w d o from h.known h.ready i refl (and_parts (w.on from) true u).0 in
      let v = w.values from in
      let mid = one_in spot d in
      let keeps = keeps_one spot d in
      let sp : pointer mid ≡ pointer d = pointer_kept keeps in
      let after = word_put (4 * k) (mid.registers 24) mid in
      let is : mid.registers 24 ≡ v = load_gives 24 spot d ∙ x.value_is in
      let fr = h.ready.framed in
      let stack : (n : ℕ) → after.stack n ≡ update ((pointer d + 4 * k) / 4) v d.stack n =
      λ n. ap (λ b. update ((b + 4 * k) / 4) (mid.registers 24) mid.stack n) sp
      ∙ ap (λ y. update ((pointer d + 4 * k) / 4) y mid.stack n) is
      ∙ ap (λ (m : ℕ → ℕ). update ((pointer d + 4 * k) / 4) v m n) keeps.stack in
      let leaves = leaves_on (in_code spot) (sw 24 (4 * k) 29 ∷ []) 0 0 0 d mid after
      (in_leaves d f.charge spot fr (spots f places from suits x.inside) x.word)
      (store_leaves 24 (4 * k) f.charge mid refl (framed_on keeps fr) (omega (arith, low))
      (omega (arith, low, suits.room)) (omega arith)) in
      let n : Between 2 (in_code spot ++ (sw 24 (4 * k) 29 ∷ [])) 5 =
      between_on {l = 1} {m = 4} {l' = 1} {m' = 1} (in_code spot) (sw 24 (4 * k) 29 ∷ []) (in_between spot)
      (record { over = omega arith; under = omega arith }) in
      let go = leaves_run (in_code spot ++ (sw 24 (4 * k) 29 ∷ [])) s.code 0 0 a d after leaves
      (one_stands s.code f places sf w.index o i) in
      let wi : Within f places d after = record {
        pointer_is = sp;
        registers = λ r held e. keeps.registers r held.0;
        saved_words = λ offset lo hi. (let ne : (pointer d + offset) / 4 ≢ (pointer d + 4 * k) / 4 =
            λ e. absurd (omega (arith, e, lo, low)) in stack ((pointer d + offset) / 4)
            ∙ update_other ((pointer d + 4 * k) / 4) v d.stack ((pointer d + offset) / 4) ne);
        above = λ j le. (let ne : j ≢ (pointer d + 4 * k) / 4 = λ e. absurd (omega (arith, e, le, low, suits.room)) in
            stack j ∙ update_other ((pointer d + 4 * k) / 4) v d.stack j ne);
      } in
      let memory = memory_kept s log.shared log.active d after
      (record {
        objects = keeps.world.objects;
        closures = keeps.world.closures;
        spec_rows = keeps.world.spec_rows;
        cells = keeps.world.cells;
        emit_stack = keeps.world.emit_stack;
        table = keeps.world.table;
        outside = keeps.world.outside;
      }) h.memory in
      let extents : ExtentsAgree log.shared after =
      (let e = extents_kept log.shared d mid keeps h.extents in record { used = e.used; frames = e.frames }) in
      let held = holds_next s st w arguments (argued k v arguments) answer waiting log (paid o log) (suc w.index)
      w.values w.on d after h wi
      (λ q l live t. value_apart k (mid.registers 24) (place_of places q) q mid low
      (subst (λ b. b % 4 ≡ 0) (sym sp) fr.even)
      ∙ value_kept f.charge d mid ((layout_of f places).spot q) (spots f places q suits l) keeps
      ∙ h.ready.agrees q l (live_before f.ops q w.index (suc w.index) o i (next_follows f.ops q w.index o i refl live)
      refl live) t)
      h.ready.words memory extents (passed_more k v arguments d mid after low (h.ready.words from) h.passed sp stack) in
      runs_pay s st (moved_on w) (argued k v arguments) None waiting log (paid o log) (at s.code a 0 d) 2 5 after
      (omega arith) (omega arith)
      (runs_to (sym (next_at f places w.index o i)) (runs_within n.over n.under go)) held

  -- the answer that the last op left; where there is none, the op is stuck
  pub result_pays : (w : Frame) (arguments : ℕ → Option ℕ) (answer : Option ℕ) (waiting : List Frame) (log : Log)
      (to : ℕ) (d : Data)
      → slice_get w.function.ops w.index ≡ Some (Result to) → Holds s w arguments answer waiting log d
      → Pays s (set_from (Result to) answer to w waiting log) log
      (at s.code (op_stands_at w.function (places_of s w.function) w.index) 0 d)
  result_pays w arguments None waiting log to d i h =
      stuck_pays s log (op_stands_at w.function (places_of s w.function) w.index) d h.memory
  result_pays w arguments (Some x) waiting log to d i h =
      let f = w.function in
      let places = places_of s f in
      let sf = (st.functions f.address f h.known).1 in
      let o = Result to in
      let a = op_stands_at f places w.index in
      let spot = (layout_of f places).spot to in
      let y = (d.registers 2 + 0) % 4294967296 in
      let whole : y ≡ x = omega (arith, h.answered.0, h.answered.1) in
      let mid = with_registers (update 24 y d.registers) d in
      let wr = finish (addu 24 2 0 ∷ out_code spot) (addu 24 2 0 ∷ []) 1 1 s.code a f.charge d d mid spot x refl
      h.ready.framed (spots f places to sf.suits (defined_inside s st w o to h.known i refl)) h.answered.1
      (record { over = omega arith; under = omega arith }) (λ rest. refl) (keeps_write 24 y d not_24)
      (update_same 24 y d.registers ∙ whole) (one_stands s.code f places sf w.index o i) in
      write_pays s st w arguments (Some x) waiting log log (at s.code a 0 d) o to x 2 4 d i refl refl h.answered.1
      (omega arith) (omega arith) (omega arith) (omega arith) h wr

  pub parameter_pays : (w : Frame) (arguments : ℕ → Option ℕ) (answer : Option ℕ) (waiting : List Frame) (log : Log)
      (to k : ℕ) (d : Data) (p : Option ℕ) → w.parameters k ≡ p
      → slice_get w.function.ops w.index ≡ Some (GetParameter to k) → Holds s w arguments answer waiting log d
      → Pays s (set_from (GetParameter to k) p to w waiting log) log
      (at s.code (op_stands_at w.function (places_of s w.function) w.index) 0 d)
  parameter_pays w arguments answer waiting log to k d None e i h =
      stuck_pays s log (op_stands_at w.function (places_of s w.function) w.index) d h.memory
  parameter_pays w arguments answer waiting log to k d (Some x) e i h =
      let f = w.function in
      let places = places_of s f in
      let sf = (st.functions f.address f h.known).1 in
      let o = GetParameter to k in
      let a = op_stands_at f places w.index in
      let layout = layout_of f places in
      let bytes = f.charge + 4 * k + 4 in
      let reach = h.ready.reach k x e in
      let inside = defined_inside s st w o to h.known i refl in
      let fr : Framed (pointer d) bytes =
      record { from = h.ready.framed.from; to = omega (arith, reach.1); even = h.ready.framed.even } in
      let is : value d (parameter_spot layout k) ≡ x = h.ready.stand k x e in
      let u1 = spot_usable bytes (length places) (place_of places to) to inside (omega (arith, sf.suits.room)) in
      let u2 = slot_usable bytes (f.charge + 4 * k) (omega arith) (omega (arith, sf.suits.whole)) in
      let v = parameter_spot layout k in
      let word : value d v < 4294967296 = subst (λ n. n < 4294967296) (sym is) reach.0 in
      let wr =
      finish (in_code v ++ out_code (layout.spot to)) (in_code v) 2 4 s.code a bytes d d (one_in v d)
      (layout.spot to) x refl fr u1 reach.0
      (slot_between (f.charge + 4 * k)) (in_leaves d bytes v fr u2 word) (keeps_one v d) (load_gives 24 v d ∙ is)
      (one_stands s.code f places sf w.index o i) in
      write_pays s st w arguments answer waiting log log (at s.code a 0 d) o to x 3 7 d i refl refl reach.0
      (omega arith) (omega arith) (omega arith) (omega arith) h wr
