-- The bodies of compiled functions are followed: their code is what the builder hands out that took the ops of a made
-- specification, so the ops stand in it behind the prelude, and the return of the value behind them.
use Rattle.std.proofs.Common.{◌≡◌, ◌≢◌, ◌⊎◌, inl, inr, ℕ, ◌≤◌, List, [], ◌∷◌, ◌++◌, length, Some}
use Rattle.std.proofs.Common.{Bool, true, false, refl, sym, ap, ◌∙◌, subst, arith, append_assoc, length-append}
use Rattle.std.specs.Prelude.{slice_get, nat_eq, if◌then◌else◌, ◌&&◌}
use Rattle.std.proofs.lemmas.Bool.Decides.{eqb_tells}
use Rattle.history.specs.Syntax.{Syntax}
use Rattle.icode_ops.specs.declared.op.Op.{Op}
use Rattle.icode_ops.specs.declared.op.Op.TheVariants as op
use Rattle.icode_ir.specs.Build.{Build, empty}
use Rattle.icode_ir.specs.declared.build_op.BuildOp.{BuildOp}
use Rattle.icode_ir.proofs.Wholes.{whole}
use Rattle.meaning_state.specs.Rows.{is_among, parameters_of}
use Rattle.typed_tree.specs.declared.expression.CaptureKind.{CaptureKind}
use Rattle.staged_meaning.specs.Scope.{no_scope}
use Rattle.staged_meaning.specs.World.{World, Result, Gives, Returns, Ends, Stops}
use Rattle.staged_meaning.specs.Meaning as meaning
use Rattle.staged_meaning.specs.Meaning.{Context, around, syntax_value, returned}
use Rattle.icode_meaning.specs.State.{Program}
use Rattle.icode_meaning.specs.Steps.{paid, back, left}
use Rattle.tick_lower_spec.specs.Lower.{Addresses}
use Rattle.tick_lower_spec.specs.Specifications.{specification_ops}
use Rattle.tick_lower_spec.specs.Captured.{leaves, HasAnswers}
use Rattle.tick_lower_spec.specs.Keys.{IsNone, AreOnce, AreDistinct, firsts}
use Rattle.tick_lower_spec.specs.Generated.{return_ops, generated_ops, generated_build, generated_code, IsGenerated}
use Rattle.tick_lower_proof.proofs.Machine.{Goes, goes_none, then_op, Here, Regs, at_op}
use Rattle.tick_lower_proof.proofs.Builder.{View, top, after_ops, after_append, Among, Stands, stands_front}
use Rattle.tick_lower_proof.proofs.Builder.{stands_back}
use Rattle.tick_lower_proof.proofs.Follow.{From, GoesBack, Follows}
use Rattle.tick_lower_proof.proofs.Standing.{Site, At, Leaves, IsOutset}
use Rattle.tick_lower_proof.proofs.Ways.{Labelled}
use Rattle.tick_lower_proof.proofs.Issues.{issue, place_all, stands_all, last_stands}
use Rattle.tick_lower_proof.proofs.Sounds.{empty_sound}
use Rattle.tick_lower_proof.proofs.Keyed.{AreSingle}
use Rattle.tick_lower_proof.proofs.Takes.{Views}
use Rattle.tick_lower_proof.proofs.Turns.{turned_all}
use Rattle.tick_lower_proof.proofs.KeySounds.{all_sound, finished_labelled}
use Rattle.tick_lower_proof.proofs.KeysApart.{all_apart}
use Rattle.tick_lower_proof.proofs.Spliced.{AreReadyTicks}
use Rattle.tick_lower_proof.proofs.Bodies.{bare, syntax_runs}
use Rattle.tick_lower_proof.proofs.Zeroes.{GivesZero, syntax_zero}
use Rattle.tick_lower_proof.proofs.Callers.{CallsFollow}
use Rattle.tick_lower_proof.proofs.Claims.{BodiesFollow, behind_prelude, from_prelude}

-- ---- each key has a register of its own

first_among : (keys : List (ℕ × ℕ)) (key r : ℕ) → Among keys key r → is_among key (firsts keys) ≡ true
first_among [] key r h = absurd h
first_among (m ∷ keys) key r h =
    by (λ k. first_among keys key r k) h (eqb_tells key m.0)
  where
    by : (Among keys key r → is_among key (firsts keys) ≡ true) → ((m.0 ≡ key) × (m.1 ≡ r)) ⊎ Among keys key r →
        ((nat_eq key m.0 ≡ true) × (key ≡ m.0)) ⊎ ((nat_eq key m.0 ≡ false) × (key ≢ m.0)) →
        (if nat_eq key m.0 then true else is_among key (firsts keys)) ≡ true
    by rest h (inl y) = ap (λ t. if t then true else is_among key (firsts keys)) y.0
    by rest (inl h) (inr n) = absurd (n.1 (sym h.0))
    by rest (inr h) (inr n) = ap (λ t. if t then true else is_among key (firsts keys)) n.0 ∙ rest h

not_two : true ≡ false → ⊥
not_two e = absurd cc

none_among : (keys : List (ℕ × ℕ)) (x key : ℕ) → IsNone x keys → Among keys key x → ⊥
none_among [] x key n h = h
none_among (m ∷ keys) x key n (inl h) = n.0 h.1
none_among (m ∷ keys) x key n (inr h) = none_among keys x key n.1 h

one_register : (keys : List (ℕ × ℕ)) → AreDistinct keys → (k r1 r2 : ℕ) → Among keys k r1 → Among keys k r2 → r1 ≡ r2
one_register [] d k r1 r2 a b = absurd a
one_register (m ∷ keys) d k r1 r2 (inl a) (inl b) = sym a.1 ∙ b.1
one_register (m ∷ keys) d k r1 r2 (inl a) (inr b) =
    absurd (not_two (sym (first_among keys k r2 b) ∙ ap (λ z. is_among z (firsts keys)) (sym a.0) ∙ d.0))
one_register (m ∷ keys) d k r1 r2 (inr a) (inl b) =
    absurd (not_two (sym (first_among keys k r1 a) ∙ ap (λ z. is_among z (firsts keys)) (sym b.0) ∙ d.0))
one_register (m ∷ keys) d k r1 r2 (inr a) (inr b) = one_register keys d.1 k r1 r2 a b

one_key : (keys : List (ℕ × ℕ)) → AreOnce keys → (k1 k2 r : ℕ) → Among keys k1 r → Among keys k2 r → k1 ≡ k2
one_key [] o k1 k2 r a b = absurd a
one_key (m ∷ keys) o k1 k2 r (inl a) (inl b) = sym a.0 ∙ b.0
one_key (m ∷ keys) o k1 k2 r (inl a) (inr b) =
    absurd (none_among keys m.1 k2 o.0 (subst (λ z. Among keys k2 z) (sym a.1) b))
one_key (m ∷ keys) o k1 k2 r (inr a) (inl b) =
    absurd (none_among keys m.1 k1 o.0 (subst (λ z. Among keys k1 z) (sym b.1) a))
one_key (m ∷ keys) o k1 k2 r (inr a) (inr b) = one_key keys o.1 k1 k2 r a b

-- ---- the code of a compiled function

module _ (d : Addresses) (captured : List (List CaptureKind)) (syntax : Syntax)
    (made : IsGenerated d captured syntax) where
  abbrev b : Build
  b = generated_build d syntax

  abbrev os : List BuildOp
  os = generated_ops d syntax

  -- where the builder begins, whose ops stand behind the prelude
  abbrev pub begun : View
  begun = record {
    place = length (generated_build d syntax).prelude;
    operands = [];
    next = 0;
    bodies = [];
    labels = 0;
    keys = [];
  }

  begins : Views (length b.prelude) (empty (parameters_of syntax)) begun
  begins = record {
    place = omega arith;
    operands = refl;
    next = refl;
    bodies = refl;
    labels = refl;
    keys = refl;
  }

  issues : List Op
  issues = issue os begun

  took : Views (length b.prelude) b (after_ops os begun) × (b.ops ≡ issue os begun)
  took = turned_all (length b.prelude) os (empty (parameters_of syntax)) begun begins made.taken

  pub code_is : generated_code d syntax ≡ b.prelude ++ (issue os begun ++ op.ReturnZero ∷ [])
  code_is =
      append_assoc b.prelude b.ops (op.ReturnZero ∷ [])
      ∙ ap (λ z. b.prelude ++ (z ++ op.ReturnZero ∷ [])) took.1

  pub code_stands : Stands (generated_code d syntax) (generated_build d syntax).keys (generated_ops d syntax) begun
  code_stands =
      subst (λ c. Stands c b.keys os begun) (sym code_is)
      (subst (λ ks. Stands (b.prelude ++ (issue os begun ++ op.ReturnZero ∷ [])) ks os begun) (sym took.0.keys)
      (stands_all (after_ops os begun).keys os begun b.prelude (op.ReturnZero ∷ []) refl (all_apart os begun refl)))

  pub code_last : slice_get (generated_code d syntax) (after_ops (generated_ops d syntax) begun).place
      ≡ Some op.ReturnZero
  code_last =
      let I = issue os begun in
      let n : length (b.prelude ++ I) ≡ (after_ops os begun).place =
      omega (arith, length-append b.prelude I, place_all os begun) in
      subst (λ z. slice_get (generated_code d syntax) z ≡ Some op.ReturnZero) n
      (subst (λ c. slice_get c (length (b.prelude ++ I)) ≡ Some op.ReturnZero)
      (append_assoc b.prelude I (op.ReturnZero ∷ []) ∙ sym code_is) (last_stands (b.prelude ++ I) op.ReturnZero))

  pub code_labelled : Labelled (generated_code d syntax)
  code_labelled =
      finished_labelled (generated_code d syntax) b.registers
      (whole b (all_sound os (empty (parameters_of syntax)) made.taken (empty_sound (parameters_of syntax)))
      made.no_bodies)

  pub keys_single : AreSingle (generated_build d syntax).keys
  keys_single = record {
    register = one_register b.keys made.keys.distinct;
    key = one_key b.keys made.keys.registers;
  }

-- ---- the return

module _ (P : Program) (d : Addresses) (captured : List (List CaptureKind)) (f : Here) (keys : List (ℕ × ℕ)) (c :
    Context)
    (limit : ℕ) (turning : limit ≤ c.turns) (single : AreSingle keys) (labelled : Labelled f.function.ops)
    (calls : CallsFollow P d c.program captured c.call limit) (ready : AreReadyTicks c.program captured)
    (no_object : f.function.object ≡ 0) (base : ℕ) (regs : Regs) (from : From) (w : World) where
  abbrev site : Site
  site = bare P d captured f keys c limit turning single labelled calls ready no_object base regs

  -- a value that was left goes back, or else 0
  home : (value : Bool) (v : View) → Stands f.function.ops keys (return_ops value) v →
      slice_get f.function.ops (after_ops (return_ops value) v).place ≡ Some op.ReturnZero → (o : Result ℕ) →
      (value ≡ false → GivesZero o) →
      Follows P from (λ x w1. Leaves value site from no_scope v [] 0 0 x w1 × (w1.variables ≡ w.variables))
      (GoesBack P f from) o → Follows P from (GoesBack P f from) (λ x w1. ⊥) (returned o)
  home true v st last (Gives x w1) zero h =
      let z = h.0 in
      let o1 = op.Return (top v.operands) in
      record {
        log = paid o1 z.log;
        goes = subst (λ y. Goes P from.state (back y f.waiting (left f.function (paid o1 z.log)))) z.held.0.value
            (then_op f v.place z.regs z.log o1 z.goes st.0.0 (ap (λ b. b && true) z.held.0.on));
        shared_is = z.shared_is;
        fewer = z.fewer;
        low = omega (arith, z.low);
        high = omega (arith, z.high);
      }
  home false v st last (Gives x w1) zero h =
      let z = h.0 in
      record {
        log = paid op.ReturnZero z.log;
        goes = subst (λ y. Goes P from.state (back y f.waiting (left f.function (paid op.ReturnZero z.log))))
            (sym (zero refl)) (then_op f v.place z.regs z.log op.ReturnZero z.goes last refl);
        shared_is = z.shared_is;
        fewer = z.fewer;
        low = omega (arith, z.low);
        high = omega (arith, z.high);
      }
  home value v st last (Returns x w1) zero h = h
  home value v st last (Ends e shared) zero h = h
  home value v st last (Stops shared) zero h = h

pub bodies_follow : (P : Program) (d : Addresses) (program : meaning.Program) (captured : List (List CaptureKind)) →
    AreReadyTicks program captured → BodiesFollow P d program captured
bodies_follow P d program captured ready turns limit call syntax h regs g w turning few calls whole_is made ops_are
    no_object sound keys shared_is =
    let c = around program turns call 0 in
    let b = generated_build d syntax in
    let from = from_prelude d syntax h regs g w.units in
    let S0 = begun d captured syntax made in
    let T = calls.has.ticks_are in
    let single = keys_single d captured syntax made in
    let labelled = subst Labelled (sym ops_are) (code_labelled d captured syntax made) in
    let stands = subst (λ o. Stands o b.keys (generated_ops d syntax) S0) (sym ops_are)
    (code_stands d captured syntax made) in
    let stands1 = subst (λ ts. Stands h.function.ops b.keys
    (specification_ops d ts syntax ++ return_ops (leaves ts syntax)) S0) T stands in
    let last = subst (λ o. slice_get o (after_ops (generated_ops d syntax) S0).place ≡ Some op.ReturnZero) (sym ops_are)
    (code_last d captured syntax made) in
    let last1 = subst (λ ts. slice_get h.function.ops
    (after_ops (specification_ops d ts syntax ++ return_ops (leaves ts syntax)) S0).place ≡ Some op.ReturnZero) T last
    in
    let answers = subst (λ ts. HasAnswers ts captured syntax) T made.answers in
    let os = specification_ops d program.ticks syntax in
    let value = leaves program.ticks syntax in
    let bare_site = bare P d captured h b.keys c limit turning single labelled calls ready no_object 0 regs in
    let z : At bare_site from no_scope S0.place [] 0 0 0 w = record {
      regs = regs;
      log = g;
      goes = goes_none P (at_op h (behind_prelude d syntax) regs g);
      vars = record { at = λ i k. absurd cc };
      held = tt;
      keys = keys;
      kept = record { at = λ x lt n. record { on = refl; value = refl } };
      shared_is = shared_is;
      fewer = omega arith;
      low = omega arith;
      high = omega arith;
    } in
    let on : IsOutset bare_site from = record {
      few = few;
      sound = sound;
      housed = record {
        object_is = sym no_object;
        few_object = omega (arith, no_object);
        whole = whole_is;
      };
    } in
    home P d captured h b.keys c limit turning single labelled calls ready no_object 0 regs from w value
    (after_ops os S0) (stands_back h.function.ops b.keys os (return_ops value) S0 stands1)
    (subst (λ v. slice_get h.function.ops v.place ≡ Some op.ReturnZero) (after_append os (return_ops value) S0) last1)
    (syntax_value c syntax w)
    (λ none. syntax_zero c captured ready syntax made.kinds none w)
    (syntax_runs P d captured h b.keys c limit turning single labelled calls ready no_object refl syntax made.kinds
    answers S0 regs (stands_front h.function.ops b.keys os (return_ops value) S0 stands1) from 0 0 w on z)
