-- The machine follows calls that are nested to any depth: by induction over the depth, in each call with what stands
-- round the body of its own function.
use Rattle.std.proofs.Common.{◌≡◌, ℕ, zero, suc, ◌+◌, ◌-◌, ◌*◌, ◌<◌, ◌≤◌, List, [], ◌∷◌, length, Option, Some, None}
use Rattle.std.proofs.Common.{Bool, true, false, refl, sym, ap, ◌∙◌, ◌≢◌, subst, arith}
use Rattle.std.specs.Prelude.{nat_le, if◌then◌else◌, slice_get}
use Rattle.std.proofs.lemmas.Bool.{eq-eqb, ne_eqb}
use Rattle.std.proofs.lemmas.Bool.Decides.{nat_tests}
use Rattle.std.proofs.lemmas.Option.{slice_get_past}
use Rattle.limits.specs.declared.program.TheConstants.{SIZE_LIMIT}
use Rattle.history.specs.Syntax.{Syntax}
use Rattle.icode_ops.specs.declared.op.Op.{Op}
use Rattle.meaning_state.specs.Bodies.{Body}
use Rattle.meaning_state.specs.Rows.{numbered, parameters_of}
use Rattle.typed_tree.specs.declared.expression.CaptureKind.{CaptureKind}
use Rattle.typed_tree.specs.Nodes as node
use Rattle.staged_meaning.specs.Calls.{IsCallee}
use Rattle.staged_meaning.specs.Size.{size_of, charge_of}
use Rattle.staged_meaning.specs.Scope.{IsReadyIn}
use Rattle.staged_meaning.specs.Statements.{argument}
use Rattle.staged_meaning.specs.World.{World}
use Rattle.staged_meaning.specs.Program.{Static, Generated, callee_at, static_callee, generated_callee, tick_size}
use Rattle.staged_meaning.specs.Program.{syntax_size}
use Rattle.staged_meaning.specs.Meaning as meaning
use Rattle.staged_meaning.specs.Meaning.{around, call_callee, syntax_value, returned}
use Rattle.icode_meaning.specs.Costs.{least_of, most_of}
use Rattle.icode_meaning.specs.State.{Function, Program, Frame, Log, nothing, argued}
use Rattle.icode_meaning.specs.Steps.{paid, moved_on, call_at, enter, function_for, with_event}
use Rattle.tick_lower_spec.specs.Lower.{Addresses}
use Rattle.tick_lower_spec.specs.Generated.{generated_build, IsGenerated}
use Rattle.tick_lower_proof.specs.Laws.{row_for, HasProgram}
use Rattle.tick_lower_proof.proofs.Machine.{Goes, goes_more, Here}
use Rattle.tick_lower_proof.proofs.Stacks.{IsWhole, IsSound, goes_sound}
use Rattle.tick_lower_proof.proofs.Follow.{From, Later, GoesBack, Follows, follows_from}
use Rattle.tick_lower_proof.proofs.Callers.{argued_all, Answered, CallsFollow}
use Rattle.tick_lower_proof.proofs.Calls.{IsCode, body_run}
use Rattle.tick_lower_proof.proofs.Callees.{callee, callee_run}
use Rattle.tick_lower_proof.proofs.Opening.{AreKeys}
use Rattle.tick_lower_proof.proofs.Entering.{opens_call}
use Rattle.tick_lower_proof.proofs.Generated.{generated_run}
use Rattle.tick_lower_proof.proofs.Claims.{BodiesFollow, behind_prelude, from_prelude}

-- the machine has a function of the text at its address, with its code
pub record IsHeld (P : Program) (d : Addresses) (number : ℕ) (function : node.Function) : Type 0 where
  pub has : Function
  pub is : P.function_at (d.function_at number) ≡ Some has
  pub code : IsCode d function has.ops
  pub charge_is : has.charge ≡ charge_of (size_of function)
  pub object_is : has.object ≡ function.object

-- and each of these functions, all of which are ready, with its row
pub record AreHeld (P : Program) (d : Addresses) (program : meaning.Program) (ticks : List (List CaptureKind)) : Type 0
  where
    pub at : (number : ℕ) (function : node.Function) → numbered number program.functions ≡ Some function →
        IsHeld P d number function
    pub ready : (number : ℕ) (function : node.Function) → numbered number program.functions ≡ Some function →
        IsReadyIn program.functions ticks function
    pub rows : (number : ℕ) → P.row number ≡ row_for (d.function_at number) (numbered number program.functions)
    pub has : HasProgram P d program ticks
    pub few : (tick : ℕ) (kinds : List CaptureKind) → slice_get ticks tick ≡ Some kinds →
        tick_size (slice_get program.ticks tick) + SIZE_LIMIT * length kinds < 4294967296
    pub whole : IsWhole P

-- what is passed at a number
argued_at : (k x : ℕ) (f : ℕ → Option ℕ) (j : ℕ) → j ≡ k → argued k x f j ≡ Some x
argued_at k x f j e = ap (λ b. if b then Some x else f j) (eq-eqb j k e)

argued_past : (k x : ℕ) (f : ℕ → Option ℕ) (j : ℕ) → j ≢ k → argued k x f j ≡ f j
argued_past k x f j ne = ap (λ b. if b then Some x else f j) (ne_eqb j k ne)

-- an argument that was passed is not changed by the later ones
passed_before : (xs : List ℕ) (k : ℕ) (f : ℕ → Option ℕ) (j : ℕ) → j < k → argued_all k xs f j ≡ f j
passed_before [] k f j lt = refl
passed_before (x ∷ xs) k f j lt =
    let ne : j ≢ k = omega (arith, lt) in
    passed_before xs (suc k) (argued k x f) j (omega (arith, lt)) ∙ argued_past k x f j ne

passed_at : (xs : List ℕ) (k : ℕ) (f : ℕ → Option ℕ) (i j : ℕ) → i < length xs → j ≡ k + i →
    argued_all k xs f j ≡ Some (argument xs i)
passed_at [] k f i j lt e = absurd (omega (arith, lt))
passed_at (x ∷ xs) k f zero j lt e =
    passed_before xs (suc k) (argued k x f) j (omega (arith, e)) ∙ argued_at k x f j (omega (arith, e))
passed_at (x ∷ xs) k f (suc i) j lt e = passed_at xs (suc k) (argued k x f) i j (omega (arith, lt)) (omega (arith, e))

-- each argument is passed as the parameter of its number
passed_is : (xs : List ℕ) (j : ℕ) → j < length xs → argued_all 0 xs nothing j ≡ Some (argument xs j)
passed_is xs j lt = passed_at xs 0 nothing j j lt (omega arith)

-- a function of the text is found by its number, whatever was compiled
static_is : (program : meaning.Program) (bodies : List Body) (number : ℕ) (function : node.Function) →
    numbered number program.functions ≡ Some function → callee_at program bodies number ≡ Some (Static function)
static_is program bodies number function is = by (nat_le number (length program.functions)) refl
  where
    past : (k : ℕ) → nat_le k (length program.functions) ≡ false → numbered k program.functions ≡ None
    past zero q = refl
    past (suc k) q = slice_get_past program.functions k
        (let e : length program.functions ≤ k = grind (arith, nat_tests, q) in e)

    by : (b : Bool) → nat_le number (length program.functions) ≡ b →
        (if b then static_callee (numbered number program.functions) else
        generated_callee (numbered (number - length program.functions) bodies)) ≡ Some (Static function)
    by true q = ap static_callee is
    by false q = absurd (some_none (sym is ∙ past number q))
      where
        some_none : {A : Type 0} {x : A} → Some x ≡ None → ⊥
        some_none e = absurd cc

module _ (P : Program) (d : Addresses) (program : meaning.Program) (ticks : List (List CaptureKind))
    (held : AreHeld P d program ticks) (bodies : BodiesFollow P d program ticks) where
  -- a call, where those in it are followed
  call_next : (turns n : ℕ) → n ≤ turns → CallsFollow P d program ticks (meaning.call_at program turns n) n →
      (from : From) (o : Op) (number : ℕ) (vs : List ℕ) (w : World) (frame : Frame) (waiting : List Frame) (g : Log) →
      IsCallee program.functions number (length vs) → w.units < suc n → IsSound P d ticks from.state → g.shared ≡
      w.shared →
      Goes P from.state (call_at o (P.function_at (d.function_at number)) frame (argued_all 0 vs nothing) waiting g) →
      w.units ≤ from.units → from.units + from.log.least + 1 ≤ w.units + g.least + least_of o →
      g.most + most_of o + 512 * w.units ≤ from.log.most + 512 * from.units + 128 →
      Follows P from (Answered P from (moved_on frame ∷ waiting) w) (λ x w1. ⊥)
      (meaning.call_at program turns (suc n) number vs w)
  call_next turns n le deeper from o number vs w frame waiting g called lt sound same go less low high =
      let function = called.function in
      let h = held.at number function called.is in
      let r = held.ready number function called.is in
      let fn = h.has in
      let inner = meaning.call_at program turns n in
      let c = around program turns inner function.object in
      let passed = argued_all 0 vs nothing in
      let go1 = subst (λ f. Goes P from.state (call_at o f frame passed waiting g)) h.is go in
      let found = static_is program w.shared.bodies number function called.is in
      subst (λ z. Follows P from (Answered P from (moved_on frame ∷ waiting) w) (λ x w1. ⊥)
      (call_callee program turns inner number z vs w)) (sym found)
      (callee_run P c d ticks frame waiting fn function vs passed h.code h.charge_is h.object_is n le held.whole from w
      g o
      (sym h.object_is) (omega (arith, lt)) sound same go1 less low high
      (λ later w1 on e1 z.
      body_run P c d ticks (callee P c d ticks frame waiting fn function vs passed h.code h.charge_is h.object_is n le
      held.whole)
      function
      h.code n le r r.frames deeper later w1 on
      (λ j hi. passed_is vs j (omega (arith, hi, called.parameters)) ∙ ap (λ xs. Some (argument xs j)) (sym e1)) z))

  -- and of a function that was compiled
  compiled_next : (turns n : ℕ) → n ≤ turns → CallsFollow P d program ticks (meaning.call_at program turns n) n →
      (from : From) (o : Op) (number address : ℕ) (syntax : Syntax) (vs : List ℕ) (w : World) (frame : Frame)
      (waiting : List Frame) (g : Log) → callee_at program w.shared.bodies number ≡ Some (Generated syntax) →
      IsGenerated d ticks syntax → parameters_of syntax ≡ length vs → w.units < suc n → IsSound P d ticks from.state →
      g.shared ≡ w.shared →
      Goes P from.state
      (enter (function_for P syntax address) frame (argued_all 0 vs nothing) waiting (with_event number (paid o g))) →
      w.units ≤ from.units → from.units + from.log.least + 1 ≤ w.units + g.least + least_of o →
      g.most + most_of o + 512 * w.units ≤ from.log.most + 512 * from.units + 128 →
      Follows P from (Answered P from (moved_on frame ∷ waiting) w) (λ x w1. ⊥)
      (meaning.call_at program turns (suc n) number vs w)
  compiled_next turns n le deeper from o number address syntax vs w frame waiting g found made many lt sound same go
      less low high =
      let inner = meaning.call_at program turns n in
      let c = around program turns inner 0 in
      let passed = argued_all 0 vs nothing in
      let h : Here =
      record { function = function_for P syntax address; parameters = passed; waiting = moved_on frame ∷ waiting } in
      let code = held.has.compiled syntax in
      let opens = opens_call P d ticks syntax made h code vs many (passed_is vs) g in
      let place = behind_prelude d syntax in
      let size : syntax_size c.program syntax ≡ syntax_size P.source syntax =
      ap (λ p. syntax_size p syntax) (sym held.has.source) in
      subst (λ z. Follows P from (Answered P from (moved_on frame ∷ waiting) w) (λ x w1. ⊥)
      (call_callee program turns inner number z vs w)) (sym found)
      (generated_run P c syntax address number place (generated_build d syntax).keys vs passed frame waiting size opens
      from n w g o same go less low high (omega (arith, lt))
      (λ w1 g1 lt1 keys_are shared_is fewer go1 low1 high1.
      let later = from_prelude d syntax h opens.regs (opens.log g1) w1.units in
      let l : Later P from later 0 0 =
      record { goes = go1; fewer = fewer; low = omega (arith, low1); high = omega (arith, high1) } in
      follows_from P from (GoesBack P h later) (GoesBack P h from) (λ x w2. ⊥) (λ x w2. ⊥) later 0 0
      (returned (syntax_value c syntax w1)) l
      (λ x w2 z. record {
        log = z.log;
        goes = goes_more go1 z.goes;
        shared_is = z.shared_is;
        fewer = omega (arith, z.fewer, fewer);
        low = omega (arith, z.low, low1);
        high = omega (arith, z.high, high1);
      })
      (λ x w2 no'. no')
      (bodies turns n inner syntax h opens.regs (opens.log g1) w1 le lt1 deeper held.whole made
      code refl (goes_sound held.whole go1 sound)
      (subst (AreKeys (generated_build d syntax).keys opens.regs) (sym keys_are) opens.set) shared_is)))

  -- calls that are nested less than so deep, with fewer units than that
  pub calls_at : (turns depth : ℕ) → depth ≤ turns →
      CallsFollow P d program ticks (meaning.call_at program turns depth) depth
  calls_at turns zero le = record {
    by = λ from o number vs w frame waiting g called lt sound same go less low high. absurd (omega (arith, lt));
    compiled = λ from o number address syntax vs w frame waiting g found made many lt sound same go less low high.
        absurd (omega (arith, lt));
    rows = held.rows;
    has = held.has;
    few = held.few;
  }
  calls_at turns (suc n) le =
      record {
        by = call_next turns n (omega arith) (calls_at turns n (omega arith));
        compiled = compiled_next turns n (omega arith) (calls_at turns n (omega arith));
        rows = held.rows;
        has = held.has;
        few = held.few;
      }
