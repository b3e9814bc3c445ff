-- The machine follows the body of a made specification, in a call of the function that was compiled of it, from
-- whatever view of the builder: a tick's body in a site of its own, and what is spliced in as a body in it.
use Rattle.std.proofs.Common.{◌≡◌, ℕ, zero, suc, ◌+◌, ◌<◌, ◌≤◌, List, [], ◌∷◌, ◌++◌, Option, Some, None, Bool, true}
use Rattle.std.proofs.Common.{false, refl, sym, ap, ◌∙◌, subst, arith}
use Rattle.std.specs.Prelude.{slice_get}
use Rattle.history.specs.Syntax.{Syntax, Ticked, Captures, NoCapture, Word, Named, Spliced}
use Rattle.icode_ops.specs.declared.op.Op.{Op}
use Rattle.icode_ir.specs.declared.body.Body.{Body}
use Rattle.icode_ir.specs.declared.build_op.BuildOp.{BuildOp}
use Rattle.icode_ir.specs.declared.build_op.BuildOp.TheVariants as build
use Rattle.typed_tree.specs.Nodes.{Splice, has_value}
use Rattle.typed_tree.specs.Sizes.{is_value}
use Rattle.typed_tree.specs.declared.expression.Answer.{Answer}
use Rattle.typed_tree.specs.declared.expression.Answer.TheVariants as answer
use Rattle.typed_tree.specs.declared.expression.CaptureKind.{CaptureKind}
use Rattle.typed_tree.specs.declared.expression.CaptureKind.TheVariants as kind
use Rattle.staged_meaning.specs.Program.{Tick, OfExpression, OfStatement, is_expression}
use Rattle.staged_meaning.specs.Scope.{Scope, no_scope, HasCapture, IsReadyTickAt}
use Rattle.staged_meaning.specs.Size.{labels_in, labels, temps_in, temps, variables_in}
use Rattle.staged_meaning.specs.World.{World, Result, Gives, Flow, Normal, Broke, Continued, then_do}
use Rattle.staged_meaning.specs.Expressions.{word_of, key_of, left_by}
use Rattle.staged_meaning.specs.Meaning.{Context, eval, exec, within, apart, tick_value, syntax_value, spliced_value}
use Rattle.icode_meaning.specs.State.{Program}
use Rattle.tick_lower_spec.specs.Lower.{no_holes, Addresses, expr_filled, stmt_filled, nowhere}
use Rattle.tick_lower_spec.specs.Specifications.{capture_at, word_in, key_in_capture, filled, tick_ops}
use Rattle.tick_lower_spec.specs.Specifications.{specification_ops, spliced_ops}
use Rattle.tick_lower_spec.specs.Captured.{HasKinds, HasKindsAt, HasTicks, HaveTicks, leaves, HaveAnswers}
use Rattle.tick_lower_spec.specs.Captured.{HaveAnswersAt}
use Rattle.tick_lower_spec.specs.Captured.{HasAnswers, AllHaveAnswers}
use Rattle.tick_lower_proof.proofs.Machine.{Here, Regs, same_set, same_on}
use Rattle.tick_lower_proof.proofs.Builder.{View, top, after_op, after_ops, after_append, Stands, stands_front, NotKey}
use Rattle.tick_lower_proof.proofs.Brings.{AreFilled}
use Rattle.tick_lower_proof.proofs.Follow.{From, GoesBack, Follows, follows_then}
use Rattle.tick_lower_proof.proofs.Registers.{Within, AreHeld, AreBetween, held_same, Keeps}
use Rattle.tick_lower_proof.proofs.Standing.{Site, floor_of, Fits, At, Leaves, ExprRuns, IsOutset}
use Rattle.tick_lower_proof.proofs.Ways.{Labelled, Left}
use Rattle.tick_lower_proof.proofs.Callers.{CallsFollow}
use Rattle.tick_lower_proof.proofs.Calls.{none_filled}
use Rattle.tick_lower_proof.proofs.Keyed.{AreSingle, HolesRun}
use Rattle.tick_lower_proof.proofs.Expressions.{Around, expr_run}
use Rattle.tick_lower_proof.proofs.Parameters.{plain_left}
use Rattle.tick_lower_proof.proofs.Spliced.{AreReadyTicks, captures_fill}

-- what the captures put into the holes is what they mean
word_is : (captures : Captures) (i : ℕ) → word_in (capture_at captures i) ≡ word_of captures i
word_is NoCapture i = refl
word_is (Word word captures) zero = refl
word_is (Named key captures) zero = refl
word_is (Spliced syntax captures) zero = refl
word_is (Word word captures) (suc i) = word_is captures i
word_is (Named key captures) (suc i) = word_is captures i
word_is (Spliced syntax captures) (suc i) = word_is captures i

key_is : (captures : Captures) (i : ℕ) → key_in_capture (capture_at captures i) ≡ key_of captures i
key_is NoCapture i = refl
key_is (Word word captures) zero = refl
key_is (Named key captures) zero = refl
key_is (Spliced syntax captures) zero = refl
key_is (Word word captures) (suc i) = key_is captures i
key_is (Named key captures) (suc i) = key_is captures i
key_is (Spliced syntax captures) (suc i) = key_is captures i

-- registers below a bound that are no key's hold what they held
held_kept : (keys : List (ℕ × ℕ)) (low high : ℕ) (r r1 : Regs) (stack : List (ℕ × ℕ)) → AreBetween low high stack →
    Keeps r high keys r1 → AreHeld keys r stack → AreHeld keys r1 stack
held_kept keys low high r r1 [] b same h = tt
held_kept keys low high r r1 (m ∷ stack) b same h =
    (held_same keys r r1 m.0 m.1 (same.at m.0 b.1 h.0.apart) h.0, held_kept keys low high r r1 stack b.2 same h.1)

held_over : (keys : List (ℕ × ℕ)) (r : Regs) (front stack : List (ℕ × ℕ)) → AreHeld keys r front → AreHeld keys r stack
    →
    AreHeld keys r (front ++ stack)
held_over keys r [] stack f h = h
held_over keys r (m ∷ front) stack f h = (f.0, held_over keys r front stack f.1 h)

module _ (P : Program) (d : Addresses) (captured : List (List CaptureKind)) (f : Here) (keys : List (ℕ × ℕ)) (c :
    Context)
    (limit : ℕ) (turning : limit ≤ c.turns) (single : AreSingle keys) (labelled : Labelled f.function.ops)
    (calls : CallsFollow P d c.program captured c.call limit) (ready : AreReadyTicks c.program captured)
    (no_object : f.function.object ≡ 0) where
  abbrev code : List Op
  code = f.function.ops

  -- Where no body is entered yet, whose variables would begin at `base`.
  abbrev pub bare : (base : ℕ) → Regs → Site
  bare base outer = record {
    machine = P;
    context = c;
    addresses = d;
    kinds = [];
    holes = no_holes;
    filled = none_filled;
    ticks = captured;
    call = f;
    bodies = (let body : Body = record { first_variable = base; variables = 0; first_label = 0; labels = 0 } in body)
        ∷ [];
    named = 0;
    size = 0;
    few = omega arith;
    keys = keys;
    apart = λ i lt. absurd (omega (arith, lt));
    outer = outer;
    limit = limit;
    turning = turning;
  }

  -- Ops that stand for a body are followed, which leave a value or none, and the variables round them as they were.
  abbrev pub HoleRuns : Bool → List BuildOp → (World → Result ℕ) → Type 0
  HoleRuns b os act =
      (v : View) (regs : Regs) → Stands code keys os v → (from : From) (spare credit : ℕ) (w : World) →
      IsOutset (bare v.next regs) from → At (bare v.next regs) from no_scope v.place [] spare credit 0 w →
      Follows P from
      (λ x w1. Leaves b (bare v.next regs) from no_scope (after_ops os v) [] spare credit x w1
      × (w1.variables ≡ w.variables)) (GoesBack P f from) (act w)

  -- a tick's body, which is entered where the builder has this view, with these captures
  module _ (kinds : List CaptureKind) (captures : Captures) (splice_ops : ℕ → List BuildOp)
      (splice : ℕ → World → Result ℕ) (fill : AreFilled kinds (filled captures splice_ops)) (named size many : ℕ)
      (few : named ≤ size) (v : View) (apart_is : (i : ℕ) → i < size → NotKey keys (v.next + i)) (regs : Regs) where
    abbrev opened : View
    opened = after_op (build.Enter size many) v

    abbrev pub site : Site
    site = record {
      machine = P;
      context = within c captures splice;
      addresses = d;
      kinds = kinds;
      holes = filled captures splice_ops;
      filled = fill;
      ticks = captured;
      call = f;
      bodies = opened.bodies;
      named = named;
      size = size;
      few = few;
      keys = keys;
      apart = apart_is;
      outer = regs;
      limit = limit;
      turning = turning;
    }

    pub outset_in : (from : From) → IsOutset (bare v.next regs) from → IsOutset site from
    outset_in from on = record {
      few = on.few;
      sound = on.sound;
      housed = record {
        object_is = sym no_object;
        few_object = on.housed.few_object;
        whole = on.housed.whole;
      };
    }

    -- behind Enter
    pub enters : (from : From) (spare credit : ℕ) (w : World) →
        At (bare v.next regs) from no_scope v.place [] spare credit 0 w →
        At site from no_scope v.place [] spare credit 0 (record w { variables = λ i. 0 })
    enters from spare credit w z = record {
      regs = z.regs;
      log = z.log;
      goes = z.goes;
      vars = record { at = λ i h. absurd cc };
      held = tt;
      keys = z.keys;
      kept = record { at = λ x lt n. z.kept.at x lt n };
      shared_is = z.shared_is;
      fewer = z.fewer;
      low = z.low;
      high = z.high;
    }

    -- and behind Leave
    pub goes_out : (from : From) (place : ℕ) (front : List (ℕ × ℕ)) (spare credit : ℕ) (variables : ℕ → ℕ) (w : World) →
        At site from no_scope place front spare credit 0 w →
        At (bare v.next regs) from no_scope place front spare credit 0 (record w { variables = variables })
    goes_out from place front spare credit variables w z = record {
      regs = z.regs;
      log = z.log;
      goes = z.goes;
      vars = record { at = λ i h. absurd cc };
      held = z.held;
      keys = z.keys;
      kept = record { at = λ x lt n. z.kept.at x lt n };
      shared_is = z.shared_is;
      fewer = z.fewer;
      low = z.low;
      high = z.high;
    }

    leaves_out : (b : Bool) (from : From) (v1 : View) (spare credit x : ℕ) (variables : ℕ → ℕ) (w : World) →
        Leaves b site from no_scope v1 [] spare credit x w →
        Leaves b (bare v.next regs) from no_scope v1 [] spare credit x (record w { variables = variables })
    leaves_out true from v1 spare credit x variables w z =
        goes_out from v1.place ((top v1.operands, x) ∷ []) (spare + 1) (credit + 128) variables w z
    leaves_out false from v1 spare credit x variables w z =
        goes_out from v1.place [] spare credit variables w z

    -- Leave changes neither place nor operands
    leaves_left : (b : Bool) (from : From) (os : List BuildOp) (spare credit x : ℕ) (w : World) →
        Leaves b (bare v.next regs) from no_scope (after_ops os opened) [] spare credit x w →
        Leaves b (bare v.next regs) from no_scope (after_ops (os ++ build.Leave ∷ []) opened) [] spare credit x w
    leaves_left true from os spare credit x w z =
        subst (λ v1. Leaves true (bare v.next regs) from no_scope v1 [] spare credit x w)
        (sym (after_append os (build.Leave ∷ []) opened)) z
    leaves_left false from os spare credit x w z =
        subst (λ v1. Leaves false (bare v.next regs) from no_scope v1 [] spare credit x w)
        (sym (after_append os (build.Leave ∷ []) opened)) z

    -- ---- what is spliced in

    module _ (scope : Scope) (inside : Within scope named) where
      -- behind a body in this one everything stands as before it, but for the keys
      comes_back : (from : From) (place place1 : ℕ) (front stack : List (ℕ × ℕ)) (spare credit spare1 credit1 : ℕ)
          (v1 : View) (w w1 : World) → Fits site v1 stack → (z : At site from scope place stack spare credit 0 w) →
          At (bare v1.next z.regs) from no_scope place1 front spare1 credit1 0 w1 → w1.variables ≡ w.variables →
          At site from scope place1 (front ++ stack) spare1 credit1 0 w1
      comes_back from place place1 front stack spare credit spare1 credit1 v1 w w1 fits z y same =
          let free = fits.free in
          record {
            regs = y.regs;
            log = y.log;
            goes = y.goes;
            vars = record {
              at = λ i h.
                  let lt = inside.at i h in
                  let small : i < size = omega (arith, lt, few) in
                  let is = same_set z.regs y.regs (v.next + i) (w.variables i)
                  (y.kept.at (v.next + i) (omega (arith, small, free)) (apart_is i small)) (z.vars.at i h) in
                  record { on = is.on; value = is.value ∙ ap (λ q. q i) (sym same) };
            };
            held = held_over keys y.regs front stack y.held
                (held_kept keys (floor_of site) v1.next z.regs y.regs stack fits.below y.kept z.held);
            keys = y.keys;
            kept = record {
              at = λ x lt n.
                  same_on regs z.regs y.regs x (z.kept.at x lt n) (y.kept.at x (omega (arith, lt, free)) n);
            };
            shared_is = y.shared_is;
            fewer = y.fewer;
            low = y.low;
            high = y.high;
          }

      -- before it
      begins_in : (from : From) (spare credit : ℕ) (v1 : View) (stack : List (ℕ × ℕ)) (w : World)
          (z : At site from scope v1.place stack spare credit 0 w) →
          At (bare v1.next z.regs) from no_scope v1.place [] spare credit 0 w
      begins_in from spare credit v1 stack w z = record {
        regs = z.regs;
        log = z.log;
        goes = z.goes;
        vars = record { at = λ i h. absurd cc };
        held = tt;
        keys = z.keys;
        kept = record { at = λ x lt n. record { on = refl; value = refl } };
        shared_is = z.shared_is;
        fewer = z.fewer;
        low = z.low;
        high = z.high;
      }

      begins_outset : (from : From) (v1 : View) (r : Regs) → c.object ≡ 0 → IsOutset site from →
          IsOutset (bare v1.next r) from
      begins_outset from v1 r none on = record {
        few = on.few;
        sound = on.sound;
        housed = record {
          object_is = none ∙ sym no_object;
          few_object = on.housed.few_object;
          whole = on.housed.whole;
        };
      }

      spliced_back : (a : Answer) (from : From) (v1 v2 : View) (stack : List (ℕ × ℕ)) (spare credit x : ℕ)
          (w w1 : World) → Fits site v1 stack → (z : At site from scope v1.place stack spare credit 0 w) →
          Leaves (is_value a) (bare v1.next z.regs) from no_scope v2 [] spare credit x w1 →
          w1.variables ≡ w.variables → Leaves (is_value a) site from scope v2 stack spare credit (left_by a x) w1
      spliced_back answer.Value from v1 v2 stack spare credit x w w1 fits z y same =
          comes_back from v1.place v2.place ((top v2.operands, x) ∷ []) stack spare credit (spare + 1) (credit + 128)
          v1 w w1 fits z y same
      spliced_back answer.Void from v1 v2 stack spare credit x w w1 fits z y same =
          comes_back from v1.place v2.place [] stack spare credit spare credit v1 w w1 fits z y same

      pub splice_node : (a : Answer) (i : ℕ) → c.object ≡ 0 → HoleRuns (is_value a) (splice_ops i) (splice i) →
          ExprRuns site scope (Splice a i)
      splice_node a i none run ok l t st tn v1 stack fits at from spare credit w on z =
          let v2 = after_ops (splice_ops i) v1 in
          follows_then P from
          (λ x w1. Leaves (is_value a) (bare v1.next z.regs) from no_scope v2 [] spare credit x w1
          × (w1.variables ≡ w.variables)) (Leaves (is_value a) site from scope v2 stack spare credit)
          (GoesBack P f from) (splice i w) (λ x w1. Gives (left_by a x) w1)
          (run v1 z.regs at from spare credit w (begins_outset from v1 z.regs none on)
          (begins_in from spare credit v1 stack w z))
          (λ x w1 h. spliced_back a from v1 v2 stack spare credit x w w1 fits z h.0 h.1)

    -- the holes of the body
    pub holes_run : c.object ≡ 0 → ((a : Answer) (i : ℕ) → HasCapture kinds i (kind.Splice a) →
        HoleRuns (is_value a) (splice_ops i) (splice i)) → HolesRun site
    holes_run none run = record {
      captured = λ w i is. ap (λ x. build.Const x ∷ []) (word_is captures i);
      get = λ i is. ap (λ x. build.GetSpec x ∷ []) (key_is captures i);
      set = λ i is. ap (λ x. build.SetSpec x ∷ []) (key_is captures i);
      splice = λ scope inside a i is. splice_node scope inside a i none (run a i is);
      single = single;
    }

  -- ---- the body of a tick

  inside_none : (n : ℕ) → Within no_scope n
  inside_none n = record { at = λ i h. absurd cc }

  tick_runs : c.object ≡ 0 → (kinds : List CaptureKind) (captures : Captures) (splice_ops : ℕ → List BuildOp)
      (splice : ℕ → World → Result ℕ) → AreFilled kinds (filled captures splice_ops) →
      ((a : Answer) (i : ℕ) → HasCapture kinds i (kind.Splice a) → HoleRuns (is_value a) (splice_ops i) (splice i)) →
      (tick : Option Tick) → IsReadyTickAt c.program.functions captured kinds tick →
      HoleRuns (is_expression tick) (tick_ops (filled captures splice_ops) d tick)
      (apart (tick_value (within c captures splice) tick))
  tick_runs none kinds captures splice_ops splice fill run None ok v regs st from spare credit w on z = absurd ok
  tick_runs none kinds captures splice_ops splice fill run (Some (OfExpression e)) ok v regs st from spare credit w on z
      =
      let n = temps_in e in
      let m = labels_in e in
      let few : 0 ≤ n = omega arith in
      let apart_is : (i : ℕ) → i < n → NotKey keys (v.next + i) =
      λ i lt. st.0 (v.next + i) (omega arith) (omega (arith, lt)) in
      let S = site kinds captures splice_ops splice fill 0 n m few v apart_is regs in
      let v0 = after_op (build.Enter n m) v in
      let eo = expr_filled (filled captures splice_ops) d e 0 0 in
      let w0 : World = record w { variables = λ i. 0 } in
      let b = has_value e in
      let around : Around S = record {
        calls = calls;
        holes = holes_run kinds captures splice_ops splice fill 0 n m few v apart_is regs none run;
      } in
      let fits : Fits S v0 [] = record { bodies_are = refl; free = omega arith; below = tt } in
      follows_then P from (Leaves b S from no_scope (after_ops eo v0) [] spare credit)
      (λ x w1. Leaves b (bare v.next regs) from no_scope (after_ops (eo ++ build.Leave ∷ []) v0) [] spare credit x w1
      × (w1.variables ≡ w.variables)) (GoesBack P f from) (eval (within c captures splice) e w0)
      (λ x w1. Gives x (record w1 { variables = w.variables }))
      (expr_run S labelled no_scope (inside_none 0) around e ok.built ok.values ok.calls ok.ticks_are ok.frames
      ok.scoped
      0 0 (omega arith) (omega arith) v0 [] fits (stands_front code keys eo (build.Leave ∷ []) v0 st.1) from spare
      credit
      w0 (outset_in kinds captures splice_ops splice fill 0 n m few v apart_is regs from on)
      (enters kinds captures splice_ops splice fill 0 n m few v apart_is regs from spare credit w z))
      (λ x w1 h. (
        leaves_left kinds captures splice_ops splice fill 0 n m few v apart_is regs b from eo spare credit x
            (record w1 { variables = w.variables })
            (leaves_out kinds captures splice_ops splice fill 0 n m few v apart_is regs b from (after_ops eo v0) spare
            credit x w.variables w1 h),
        refl,
      ))
  tick_runs none kinds captures splice_ops splice fill run (Some (OfStatement s)) ok v regs st from spare credit w on z
      =
      let src = variables_in s in
      let n = src + temps s in
      let m = labels s in
      let few : src ≤ n = omega arith in
      let apart_is : (i : ℕ) → i < n → NotKey keys (v.next + i) =
      λ i lt. st.0 (v.next + i) (omega arith) (omega (arith, lt)) in
      let S = site kinds captures splice_ops splice fill src n m few v apart_is regs in
      let v0 = after_op (build.Enter n m) v in
      let so = stmt_filled (filled captures splice_ops) d s nowhere 0 src in
      let w0 : World = record w { variables = λ i. 0 } in
      let end = (after_ops so v0).place in
      let C = within c captures splice in
      let around : Around S = record {
        calls = calls;
        holes = holes_run kinds captures splice_ops splice fill src n m few v apart_is regs none run;
      } in
      let fits : Fits S v0 [] = record { bodies_are = refl; free = omega arith; below = tt } in
      let W : ℕ → World → Type 0 = λ x w1. Leaves false S from no_scope (after_ops so v0) [] spare credit x w1 in
      let zero_is : ℕ = 0 in
      follows_then P from W
      (λ x w1. Leaves false (bare v.next regs) from no_scope (after_ops (so ++ build.Leave ∷ []) v0) [] spare credit x
      w1 × (w1.variables ≡ w.variables)) (GoesBack P f from)
      (then_do (exec C s w0) (λ flow w1. Gives zero_is w1))
      (λ x w1. Gives x (record w1 { variables = w.variables }))
      (follows_then P from (Left S from no_scope no_scope [] spare credit end None None) W (GoesBack P f from)
      (exec C s w0) (λ flow w1. Gives zero_is w1)
      (plain_left S labelled around from
      (outset_in kinds captures splice_ops splice fill src n m few v apart_is regs from on) s ok.placed ok.built
      ok.values
      ok.calls ok.ticks_are ok.frames ok.scoped (inside_none src) (omega arith) 0 src (omega arith) (omega arith) v0
      fits
      (stands_front code keys so (build.Leave ∷ []) v0 st.1) spare credit w0
      (enters kinds captures splice_ops splice fill src n m few v apart_is regs from spare credit w z))
      (λ flow w1 h. left flow w1 end (after_ops so v0).place refl h))
      (λ x w1 h. (
        leaves_left kinds captures splice_ops splice fill src n m few v apart_is regs false from so spare credit x
            (record w1 { variables = w.variables })
            (leaves_out kinds captures splice_ops splice fill src n m few v apart_is regs false from (after_ops so v0)
            spare credit x w.variables w1 h),
        refl,
      ))
    where
      -- a statement is left by its end
      left : {S : Site} (flow : Flow) (w1 : World) (p q : ℕ) → p ≡ q →
          Left S from no_scope no_scope [] spare credit p None None flow w1 →
          At S from no_scope q [] spare credit 0 w1
      left {S} Normal w1 p q e h = subst (λ x. At S from no_scope x [] spare credit 0 w1) e h
      left {S} Broke w1 p q e h = absurd h
      left {S} Continued w1 p q e h = absurd h

  -- ---- whole specifications

  ticked_runs : c.object ≡ 0 → (tick : ℕ) (captures : Captures) →
      ((ks : List CaptureKind) → HasKinds ks captures → HaveAnswers c.program.ticks ks captures →
      AreFilled ks (filled captures (spliced_ops d c.program.ticks captures))) →
      ((ks : List CaptureKind) → HasKinds ks captures → HaveAnswers c.program.ticks ks captures → (a : Answer) (i : ℕ) →
      HasCapture ks i (kind.Splice a) →
      HoleRuns (is_value a) (spliced_ops d c.program.ticks captures i) (spliced_value c captures i)) →
      (o : Option (List CaptureKind)) → HasKindsAt o captures → HaveAnswersAt c.program.ticks o captures →
      ((ks : List CaptureKind) → o ≡ Some ks →
      IsReadyTickAt c.program.functions captured ks (slice_get c.program.ticks tick)) →
      HoleRuns (is_expression (slice_get c.program.ticks tick))
      (tick_ops (filled captures (spliced_ops d c.program.ticks captures)) d (slice_get c.program.ticks tick))
      (apart (tick_value (within c captures (spliced_value c captures)) (slice_get c.program.ticks tick)))
  ticked_runs none tick captures fill run None h a r = absurd h
  ticked_runs none tick captures fill run (Some ks) h a r =
      tick_runs none ks captures (spliced_ops d c.program.ticks captures) (spliced_value c captures) (fill ks h a)
      (run ks h a) (slice_get c.program.ticks tick) (r ks refl)

  -- another kind of answer is the same where it is equal
  runs_as : (a b : Bool) (os : List BuildOp) (act : World → Result ℕ) → a ≡ b → HoleRuns a os act → HoleRuns b os act
  runs_as a b os act e run = subst (λ x. HoleRuns x os act) e run

  mutual
    pub syntax_runs : c.object ≡ 0 → (syntax : Syntax) → HasTicks captured syntax →
        HasAnswers c.program.ticks captured syntax →
        HoleRuns (leaves c.program.ticks syntax) (specification_ops d c.program.ticks syntax) (syntax_value c syntax)
    syntax_runs none (Ticked tick captures) kinds answers =
        ticked_runs none tick captures
        (λ ks h a. captures_fill d c.program captured ready ks captures h a kinds.1 answers.1)
        (λ ks h a answer i is. splice_runs none ks captures h a kinds.1 answers.1 answer i is)
        (slice_get captured tick) kinds.0 answers.0 (ready tick)

    splice_runs : c.object ≡ 0 → (kinds : List CaptureKind) (captures : Captures) → HasKinds kinds captures →
        HaveAnswers c.program.ticks kinds captures → HaveTicks captured captures →
        AllHaveAnswers c.program.ticks captured captures → (a : Answer) (i : ℕ) → HasCapture kinds i (kind.Splice a) →
        HoleRuns (is_value a) (spliced_ops d c.program.ticks captures i) (spliced_value c captures i)
    splice_runs none (kind.Dollar ∷ ks) (Word w cs) h a t all answer zero is = absurd cc
    splice_runs none (kind.Dollar ∷ ks) (Word w cs) h a t all answer (suc i) is =
        splice_runs none ks cs h a t all answer i is
    splice_runs none (kind.Address ∷ ks) (Word w cs) h a t all answer zero is = absurd cc
    splice_runs none (kind.Address ∷ ks) (Word w cs) h a t all answer (suc i) is =
        splice_runs none ks cs h a t all answer i is
    splice_runs none (kind.Variable ∷ ks) (Named key cs) h a t all answer zero is = absurd cc
    splice_runs none (kind.Variable ∷ ks) (Named key cs) h a t all answer (suc i) is =
        splice_runs none ks cs h a t all answer i is
    splice_runs none (kind.Splice b ∷ ks) (Spliced syntax cs) h a t all answer zero is =
        let e : b ≡ answer = cc in
        runs_as (leaves c.program.ticks syntax) (is_value answer) (specification_ops d c.program.ticks syntax)
        (syntax_value c syntax) (a.0 ∙ ap is_value e) (syntax_runs none syntax t.0 all.0)
    splice_runs none (kind.Splice b ∷ ks) (Spliced syntax cs) h a t all answer (suc i) is =
        splice_runs none ks cs h a.1 t.1 all.1 answer i is
    splice_runs none [] cs h a t all answer i is = absurd cc
    splice_runs none ks cs h a t all answer i is = absurd h
