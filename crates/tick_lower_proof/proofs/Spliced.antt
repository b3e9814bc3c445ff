-- What the ops of a made specification bring to the builder: an operand more where the specification leaves a value.
-- What is spliced in stands in the holes of the body that captured it.
use Rattle.std.proofs.Common.{◌≡◌, ℕ, zero, suc, ◌+◌, List, [], ◌∷◌, ◌++◌, Option, Some, None, Bool, true, false, refl}
use Rattle.std.proofs.Common.{sym, ap, ◌∙◌, subst, arith}
use Rattle.std.specs.Prelude.{slice_get}
use Rattle.history.specs.Syntax.{Syntax, Ticked, Captures, Word, Named, Spliced}
use Rattle.icode_ir.specs.Build.{find}
use Rattle.icode_ir.specs.declared.build_op.BuildOp.{BuildOp}
use Rattle.icode_ir.specs.declared.build_op.BuildOp.TheVariants as build
use Rattle.typed_tree.specs.Nodes.{has_value}
use Rattle.typed_tree.specs.Sizes.{is_value}
use Rattle.typed_tree.specs.declared.expression.Answer.{Answer}
use Rattle.typed_tree.specs.declared.expression.CaptureKind.{CaptureKind}
use Rattle.typed_tree.specs.declared.expression.CaptureKind.TheVariants as kind
use Rattle.staged_meaning.specs.Program.{Tick, OfExpression, OfStatement, is_expression}
use Rattle.staged_meaning.specs.Meaning as meaning
use Rattle.staged_meaning.specs.Scope.{HasCapture, IsReadyTickAt}
use Rattle.staged_meaning.specs.Size.{labels_in, labels, temps_in, temps, variables_in}
use Rattle.tick_lower_spec.specs.Lower.{Addresses, expr_filled, stmt_filled, nowhere}
use Rattle.tick_lower_spec.specs.Specifications.{capture_at, key_in_capture, filled, tick_ops, specification_ops}
use Rattle.tick_lower_spec.specs.Specifications.{spliced_ops}
use Rattle.tick_lower_spec.specs.Captured.{HasKinds, HasKindsAt, HasTicks, HaveTicks, leaves, HaveAnswers}
use Rattle.tick_lower_spec.specs.Captured.{HaveAnswersAt}
use Rattle.tick_lower_spec.specs.Captured.{HasAnswers, AllHaveAnswers}
use Rattle.tick_lower_proof.proofs.Builder.{View, outer, after_op, after_ops, after_append, Pushes, Same, next_behind}
use Rattle.tick_lower_proof.proofs.Brings.{Brings, AreFilled, expr_brings}
use Rattle.tick_lower_proof.proofs.Pushes.{stmt_same}
use Rattle.tick_lower_proof.proofs.Keyed.{behind_next}

-- each tick of the program is ready, where the ticks capture this
abbrev pub AreReadyTicks : meaning.Program → List (List CaptureKind) → Type 0
AreReadyTicks program ticks =
    (tick : ℕ) (kinds : List CaptureKind) → slice_get ticks tick ≡ Some kinds →
    IsReadyTickAt program.functions ticks kinds (slice_get program.ticks tick)

-- a body is entered, and left
body_brings : (b : Bool) (n m : ℕ) (os : List BuildOp) (v : View) →
    Brings b (after_op (build.Enter n m) v) (after_ops os (after_op (build.Enter n m) v)) →
    Brings b v (after_ops (build.Enter n m ∷ (os ++ build.Leave ∷ [])) v)
body_brings true n m os v p =
    subst (Pushes v) (sym (after_append os (build.Leave ∷ []) (after_op (build.Enter n m) v)))
    (record {
      operand = p.operand;
      operands = p.operands;
      fresh = omega (arith, p.fresh);
      used = p.used;
      bodies = ap outer p.bodies;
    })
body_brings false n m os v p =
    subst (Same v) (sym (after_append os (build.Leave ∷ []) (after_op (build.Enter n m) v)))
    (record { operands = p.operands; bodies = ap outer p.bodies; next = omega (arith, p.next) })

module _ (d : Addresses) (program : meaning.Program) (captured : List (List CaptureKind))
    (ready : AreReadyTicks program captured) where
  -- what the captures put into the holes, by their kinds
  pub holes_filled : (kinds : List CaptureKind) (captures : Captures) (splice : ℕ → List BuildOp) →
      ((answer : Answer) (i : ℕ) → HasCapture kinds i (kind.Splice answer) → (v : View) →
      Brings (is_value answer) v (after_ops (splice i) v)) → AreFilled kinds (filled captures splice)
  holes_filled kinds captures splice brings = record {
    captured = λ w i is v.
        record { operand = v.next; operands = refl; fresh = omega arith; used = omega arith; bodies = refl };
    get = λ i is v.
        let o = find (key_in_capture (capture_at captures i)) v.keys in
        record {
          operand = next_behind o v.next;
          operands = refl;
          fresh = behind_next o v.next;
          used = omega arith;
          bodies = refl;
        };
    set = λ i is v.
        let o = find (key_in_capture (capture_at captures i)) v.keys in
        record { operands = refl; bodies = refl; next = behind_next o v.next };
    splice = brings;
  }

  -- the ops of a tick, whose captures are of these kinds
  tick_brings : (kinds : List CaptureKind) (captures : Captures) (splice : ℕ → List BuildOp) →
      AreFilled kinds (filled captures splice) → (tick : Option Tick) →
      IsReadyTickAt program.functions captured kinds tick → (v : View) →
      Brings (is_expression tick) v (after_ops (tick_ops (filled captures splice) d tick) v)
  tick_brings kinds captures splice fill None ok v = absurd ok
  tick_brings kinds captures splice fill (Some (OfExpression e)) ok v =
      body_brings (has_value e) (temps_in e) (labels_in e) (expr_filled (filled captures splice) d e 0 0) v
      (expr_brings fill d e ok.built ok.values 0 0 (after_op (build.Enter (temps_in e) (labels_in e)) v))
  tick_brings kinds captures splice fill (Some (OfStatement s)) ok v =
      let n = variables_in s + temps s in
      body_brings false n (labels s) (stmt_filled (filled captures splice) d s nowhere 0 (variables_in s)) v
      (stmt_same fill d s ok.built ok.values nowhere 0 (variables_in s) (after_op (build.Enter n (labels s)) v))

  ticked_brings : (tick : ℕ) (captures : Captures) (v : View) →
      ((ks : List CaptureKind) → HasKinds ks captures → HaveAnswers program.ticks ks captures →
      AreFilled ks (filled captures (spliced_ops d program.ticks captures))) → (o : Option (List CaptureKind)) →
      HasKindsAt o captures → HaveAnswersAt program.ticks o captures → ((ks : List CaptureKind) → o ≡ Some ks →
      IsReadyTickAt program.functions captured ks (slice_get program.ticks tick)) →
      Brings (is_expression (slice_get program.ticks tick)) v
      (after_ops (tick_ops (filled captures (spliced_ops d program.ticks captures)) d
      (slice_get program.ticks tick)) v)
  ticked_brings tick captures v fill None h a r = absurd h
  ticked_brings tick captures v fill (Some ks) h a r =
      tick_brings ks captures (spliced_ops d program.ticks captures) (fill ks h a) (slice_get program.ticks tick)
      (r ks refl) v

  mutual
    pub syntax_brings : (syntax : Syntax) → HasTicks captured syntax → HasAnswers program.ticks captured syntax →
        (v : View) → Brings (leaves program.ticks syntax) v (after_ops (specification_ops d program.ticks syntax) v)
    syntax_brings (Ticked tick captures) kinds answers v =
        ticked_brings tick captures v
        (λ ks h a. holes_filled ks captures (spliced_ops d program.ticks captures)
        (λ answer i is v1. spliced_brings ks captures h a kinds.1 answers.1 answer i is v1))
        (slice_get captured tick) kinds.0 answers.0 (ready tick)

    spliced_brings : (kinds : List CaptureKind) (captures : Captures) → HasKinds kinds captures →
        HaveAnswers program.ticks kinds captures → HaveTicks captured captures →
        AllHaveAnswers program.ticks captured captures → (answer : Answer) (i : ℕ) →
        HasCapture kinds i (kind.Splice answer) → (v : View) →
        Brings (is_value answer) v (after_ops (spliced_ops d program.ticks captures i) v)
    spliced_brings (kind.Dollar ∷ ks) (Word w cs) h a t all answer zero is v = absurd cc
    spliced_brings (kind.Dollar ∷ ks) (Word w cs) h a t all answer (suc i) is v =
        spliced_brings ks cs h a t all answer i is v
    spliced_brings (kind.Address ∷ ks) (Word w cs) h a t all answer zero is v = absurd cc
    spliced_brings (kind.Address ∷ ks) (Word w cs) h a t all answer (suc i) is v =
        spliced_brings ks cs h a t all answer i is v
    spliced_brings (kind.Variable ∷ ks) (Named key cs) h a t all answer zero is v = absurd cc
    spliced_brings (kind.Variable ∷ ks) (Named key cs) h a t all answer (suc i) is v =
        spliced_brings ks cs h a t all answer i is v
    spliced_brings (kind.Splice b ∷ ks) (Spliced syntax cs) h a t all answer zero is v =
        let e : b ≡ answer = cc in
        subst (λ z. Brings z v (after_ops (specification_ops d program.ticks syntax) v)) (a.0 ∙ ap is_value e)
        (syntax_brings syntax t.0 all.0 v)
    spliced_brings (kind.Splice b ∷ ks) (Spliced syntax cs) h a t all answer (suc i) is v =
        spliced_brings ks cs h a.1 t.1 all.1 answer i is v
    spliced_brings [] cs h a t all answer i is v = absurd cc
    spliced_brings ks cs h a t all answer i is v = absurd h

  pub captures_fill : (kinds : List CaptureKind) (captures : Captures) → HasKinds kinds captures →
      HaveAnswers program.ticks kinds captures → HaveTicks captured captures →
      AllHaveAnswers program.ticks captured captures →
      AreFilled kinds (filled captures (spliced_ops d program.ticks captures))
  captures_fill kinds captures h a t all =
      holes_filled kinds captures (spliced_ops d program.ticks captures)
      (λ answer i is v. spliced_brings kinds captures h a t all answer i is v)
