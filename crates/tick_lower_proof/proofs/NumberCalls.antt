-- The machine follows the call of a function by its number.
use Rattle.std.proofs.Common.{◌≡◌, ℕ, zero, suc, ◌+◌, ◌-◌, ◌*◌, ◌≤◌, List, [], ◌∷◌, ◌++◌, length, Option, Some}
use Rattle.std.proofs.Common.{None, Bool, true, false, refl, sym, ap, ◌∙◌, subst, arith}
use Rattle.std.specs.Prelude.{nat_eq, nat_le, if◌then◌else◌, ◌&&◌}
use Rattle.std.proofs.lemmas.Bool.Decides.{nat_tests}
use Rattle.word32.specs.declared.map.TheConstants.{ARENA}
use Rattle.host_edge.specs.declared.ending.Ending.TheVariants.{Trap}
use Rattle.host_edge.specs.declared.ending.TrapKind.TheVariants.{BadCall}
use Rattle.history.specs.Events.{Ended}
use Rattle.icode_ops.specs.declared.op.Op.{Op}
use Rattle.icode_ops.specs.declared.op.Op.TheVariants as op
use Rattle.icode_ir.specs.Sound.{Each}
use Rattle.icode_ir.specs.declared.build_op.BuildOp.TheVariants as build
use Rattle.meaning_state.specs.Bodies.{Body}
use Rattle.meaning_state.specs.Rows.{numbered, parameters_of}
use Rattle.typed_tree.specs.declared.expression.Answer.{Answer}
use Rattle.typed_tree.specs.Sizes as rule
use Rattle.typed_tree.specs.Nodes as node
use Rattle.typed_tree.specs.Nodes.{Expr, CallNumber, Args, has_value, count}
use Rattle.staged_meaning.specs.Calls.{IsCallee}
use Rattle.staged_meaning.specs.Size.{labels_in, temps_in}
use Rattle.staged_meaning.specs.Program.{Callee, Generated, callee_at, static_callee, generated_callee, call_trap}
use Rattle.staged_meaning.specs.Scope.{Scope}
use Rattle.staged_meaning.specs.World.{World, Result, then_do, spend, unless}
use Rattle.staged_meaning.specs.Expressions.{left_by, call_numbered}
use Rattle.staged_meaning.specs.Meaning.{eval, eval_args}
use Rattle.icode_meaning.specs.State.{Frame, Log, Halted, nothing, log_of}
use Rattle.icode_meaning.specs.Steps.{paid, moved_on, call_at, call_row, enter, function_for, with_event}
use Rattle.icode_meaning.specs.Steps as machine
use Rattle.tick_lower_spec.specs.Generated.{IsGenerated, AreGenerated}
use Rattle.tick_lower_spec.specs.Lower.{expr_filled, args_filled, dropping_call}
use Rattle.tick_lower_proof.specs.Laws.{row_for}
use Rattle.tick_lower_proof.proofs.Machine.{Goes, frame_at}
use Rattle.tick_lower_proof.proofs.Builder.{View, top, taken, picked, passed_ops, after_op, after_ops, after_append}
use Rattle.tick_lower_proof.proofs.Builder.{Has, NotKey, Apart, has_of, besides, issued}
use Rattle.tick_lower_proof.proofs.Builder.{stands_front, stands_back}
use Rattle.tick_lower_proof.proofs.Follow.{From, Follows, EndsAt, follows_then, then_follows, follows_from}
use Rattle.tick_lower_proof.proofs.Registers.{Within}
use Rattle.tick_lower_proof.proofs.Standing.{Site, IsOutset, outset_later, IsBack, Leaves, ExprRuns}
use Rattle.tick_lower_proof.proofs.Standing.{Part, at_less, back_from, later_at, stands_at, outset_at}
use Rattle.tick_lower_proof.proofs.Exprs.{one_run}
use Rattle.tick_lower_proof.proofs.Callers.{taken_all, picked_below, argued_all, held_under, held_set, any_op, pass_all}
use Rattle.tick_lower_proof.proofs.Callers.{ArgsLeave, ArgsRun, Answered, CallsFollow, leaves_before}
use Rattle.tick_lower_proof.proofs.Callers.{take_answer}

abbrev some_or : {A : Type 0} → A → Option A → A
some_or x None = x
some_or x (Some y) = y

-- a row in which each is so has one that is so at each place
each_at : {A : Type 0} (P : A → Type 0) (n : ℕ) (xs : List A) (x : A) → Each P xs → numbered n xs ≡ Some x → P x
each_at P zero xs x h e = absurd cc
each_at P (suc n) [] x h e = absurd cc
each_at P (suc zero) (y ∷ xs) x h e = subst P (ap (some_or y) e) h.0
each_at P (suc (suc n)) (y ∷ xs) x h e = each_at P (suc n) xs x h.1 e

module _ (site : Site) (scope : Scope) (inside : Within scope site.named)
    (calls : CallsFollow site.machine site.addresses site.context.program site.ticks site.context.call site.limit) where
  abbrev functions : List node.Function
  functions = site.context.program.functions

  -- where a call of a number is, from behind the op to the answer
  module _ (later : From) (number n : ℕ) (vs : List ℕ) (w1 : World) (frame : Frame) (waiting : List Frame) (g : Log)
      (V : ℕ → World → Type 0) (next : ℕ → World → Result ℕ) (r : ℕ) (many : length vs ≡ n) (few : n ≤ 8)
      (lt : IsOutset site later) (same : g.shared ≡ w1.shared) (less : w1.units ≤ later.units)
      (low : later.units + later.log.least + 1 ≤ w1.units + g.least + 5)
      (high : g.most + 52 + 512 * w1.units ≤ later.log.most + 512 * later.units + 128)
      (behind : (x : ℕ) (w2 : World) → Answered site.machine later (moved_on frame ∷ waiting) w1 x w2 →
      Follows site.machine later V (IsBack site later) (next x w2)) where
    abbrev o : Op
    o = op.CallNumber r n

    abbrev args : ℕ → Option ℕ
    args = argued_all 0 vs nothing

    -- what the call means, where the number stands for this
    abbrev Calls : Option Callee → Type 0
    Calls callee =
        Follows site.machine later V (IsBack site later)
        (unless (call_trap callee (length vs)) w1 (then_do (site.context.call number vs w1) next))

    no_call : Goes site.machine later.state (Halted (Ended (Trap BadCall)) (paid o g)) →
        EndsAt site.machine later (Ended (Trap BadCall)) w1.shared
    no_call go = record { log = paid o g; goes = go; shared_is = same; high = omega (arith, high, less) }

    -- one that is followed
    followed : Follows site.machine later (Answered site.machine later (moved_on frame ∷ waiting) w1) (λ x w2. ⊥)
        (site.context.call number vs w1) →
        Follows site.machine later V (IsBack site later) (then_do (site.context.call number vs w1) next)
    followed run =
        then_follows site.machine later (Answered site.machine later (moved_on frame ∷ waiting) w1) V (λ x w. ⊥)
        (IsBack site later) (site.context.call number vs w1) next run (λ x w2 no'. absurd no') behind

    -- of a function of the text
    static_count : (function : node.Function) → numbered number functions ≡ Some function → (b : Bool) →
        nat_eq function.parameters n ≡ b →
        Goes site.machine later.state
        (if b then call_at o (site.machine.function_at (site.addresses.function_at number)) frame args waiting g else
        Halted (Ended (Trap BadCall)) (paid o g)) →
        Follows site.machine later V (IsBack site later)
        (unless (if b then None else Some BadCall) w1 (then_do (site.context.call number vs w1) next))
    static_count function is true q go =
        let same_count : function.parameters ≡ n = grind (arith, nat_tests, q) in
        let callee : IsCallee functions number (length vs) = record {
          function = function;
          is = is;
          parameters = same_count ∙ sym many;
          few = omega (arith, many, few);
        } in
        followed
        (calls.by later o number vs w1 frame waiting g callee
        (let f = lt.few in omega (arith, less, f)) lt.sound same go less (omega (arith, low)) (omega (arith, high)))
    static_count function is false q go = no_call go

    static_row : (f : Option node.Function) → numbered number functions ≡ f →
        Goes site.machine later.state
        (call_row site.machine o n (row_for (site.addresses.function_at number) f) frame args waiting g) →
        Calls (static_callee f)
    static_row None is go = no_call go
    static_row (Some function) is go =
        subst (λ m. Follows site.machine later V (IsBack site later)
        (unless (if nat_eq function.parameters m then None else Some BadCall) w1
        (then_do (site.context.call number vs w1) next))) (sym many)
        (static_count function is (nat_eq function.parameters n) refl go)

    -- of one that was compiled
    compiled_count : (body : Body) →
        callee_at site.context.program w1.shared.bodies number ≡ Some (Generated body.syntax) →
        IsGenerated site.addresses site.ticks body.syntax → (b : Bool) → nat_eq (parameters_of body.syntax) n ≡ b →
        Goes site.machine later.state
        (if b then enter (function_for site.machine body.syntax (ARENA + 4 * body.first)) frame args waiting
        (with_event number (paid o g)) else Halted (Ended (Trap BadCall)) (paid o g)) →
        Follows site.machine later V (IsBack site later)
        (unless (if b then None else Some BadCall) w1 (then_do (site.context.call number vs w1) next))
    compiled_count body found made true q go =
        let same_count : parameters_of body.syntax ≡ n = grind (arith, nat_tests, q) in
        followed
        (calls.compiled later o number (ARENA + 4 * body.first) body.syntax vs w1 frame waiting g found made
        (same_count ∙ sym many) (let f = lt.few in omega (arith, less, f)) lt.sound same go less (omega (arith, low))
        (omega (arith, high)))
    compiled_count body found made false q go = no_call go

    compiled_live : (body : Body) → IsGenerated site.addresses site.ticks body.syntax → (live : Bool) →
        callee_at site.context.program w1.shared.bodies number
        ≡ (if live then Some (Generated body.syntax) else None) →
        Goes site.machine later.state
        (if live && nat_eq (parameters_of body.syntax) n
        then enter (function_for site.machine body.syntax (ARENA + 4 * body.first)) frame args waiting
        (with_event number (paid o g)) else Halted (Ended (Trap BadCall)) (paid o g)) →
        Calls (if live then Some (Generated body.syntax) else None)
    compiled_live body made true found go =
        subst (λ m. Follows site.machine later V (IsBack site later)
        (unless (if nat_eq (parameters_of body.syntax) m then None else Some BadCall) w1
        (then_do (site.context.call number vs w1) next))) (sym many)
        (compiled_count body found made (nat_eq (parameters_of body.syntax) n) refl go)
    compiled_live body made false found go = no_call go

    compiled_row : (b : Option Body) →
        ((body : Body) → b ≡ Some body → IsGenerated site.addresses site.ticks body.syntax) →
        callee_at site.context.program w1.shared.bodies number ≡ generated_callee b →
        Goes site.machine later.state (machine.call_compiled site.machine o number b n frame args waiting g) →
        Calls (generated_callee b)
    compiled_row None made found go = no_call go
    compiled_row (Some body) made found go = compiled_live body (made body refl) body.live found go

    -- A call of a number.
    pub numbered_run : AreGenerated site.addresses site.ticks g.shared.bodies →
        Goes site.machine later.state (machine.call_number site.machine o number n frame args waiting g) →
        Calls (callee_at site.context.program w1.shared.bodies number)
    numbered_run made go =
        by (nat_le number (length functions)) refl
        (subst (λ p. Goes site.machine later.state
        (if nat_le number (length p.functions) then call_row site.machine o n (site.machine.row number) frame args
        waiting g else machine.call_compiled site.machine o number
        (numbered (number - length p.functions) g.shared.bodies) n frame args waiting g)) calls.has.source go)
      where
        by : (b : Bool) → nat_le number (length functions) ≡ b →
            Goes site.machine later.state
            (if b then call_row site.machine o n (site.machine.row number) frame args waiting g else
            machine.call_compiled site.machine o number (numbered (number - length functions) g.shared.bodies) n frame
            args waiting g) →
            Calls
            (if b then static_callee (numbered number functions) else
            generated_callee (numbered (number - length functions) w1.shared.bodies))
        by true q go1 =
            static_row (numbered number functions) refl
            (subst (λ row. Goes site.machine later.state (call_row site.machine o n row frame args waiting g))
            (calls.rows number) go1)
        by false q go1 =
            let bodies_are : g.shared.bodies ≡ w1.shared.bodies = ap (λ s. s.bodies) same in
            let made1 = subst (AreGenerated site.addresses site.ticks) bodies_are made in
            compiled_row (numbered (number - length functions) w1.shared.bodies)
            (λ body is. each_at (λ (x : Body). IsGenerated site.addresses site.ticks x.syntax)
            (number - length functions) w1.shared.bodies body made1 is)
            (ap (λ b. if b then static_callee (numbered number functions) else
            generated_callee (numbered (number - length functions) w1.shared.bodies)) q)
            (subst (λ bodies. Goes site.machine later.state
            (machine.call_compiled site.machine o number (numbered (number - length functions) bodies) n frame args
            waiting g)) bodies_are go1)

  pub number_node : (a : Answer) (e : Expr) (args : Args) → count args ≤ 8 → Part site scope e → has_value e ≡ true →
      ArgsRun site scope args → ExprRuns site scope (CallNumber a e args)
  number_node a e args few part is_e run ok l t st tn v stack fits at from spare credit w lt z =
      let P = site.machine in
      let c = site.context in
      let code = site.call.function.ops in
      let n = count args in
      let le = l + labels_in e in
      let te = t + temps_in e in
      let eo = expr_filled site.holes site.addresses e l t in
      let ao = args_filled site.holes site.addresses args le te in
      let co = build.CallNumber n ∷ dropping_call a in
      let v1 = after_ops eo v in
      let v2 = after_ops ao v1 in
      let v3 = after_op (build.CallNumber n) v2 in
      let at1 = stands_back code site.keys eo (ao ++ co) v at in
      let later : From = outset_at site v.place z.regs z.log w.units in
      let l1 = later_at site from scope v.place stack spare credit w z in
      let lt1 = outset_later site from later spare credit l1 lt in
      let z0 = stands_at site scope v.place stack z.regs z.log w z.vars z.held z.keys z.kept z.shared_is in
      let b = rule.is_value a in
      let end = after_ops (dropping_call a) v3 in
      let V = Leaves b site later scope end stack 0 0 in
      let r = top v1.operands in
      subst (λ y. Follows P from (Leaves b site from scope y stack spare credit) (IsBack site from)
      (eval c (CallNumber a e args) w)) (sym (after_append eo (ao ++ co) v ∙ after_append ao co v1))
      (follows_from P from V (Leaves b site from scope end stack spare credit) (IsBack site later) (IsBack site from)
      later spare credit (eval c (CallNumber a e args) w) l1
      (leaves_before site scope inside calls b from later spare credit l1 end stack)
      (back_from site from later spare credit l1)
      (one_run site scope inside e part is_e ok.0 l t st (omega arith) v stack fits
      (stands_front code site.keys eo (ao ++ co) v at)
      later 0 0 w lt1 z0 V (λ f w1. then_do (eval_args c args w1) (call_numbered c a f))
      (λ f w1 fits1 h1.
      follows_then P later (ArgsLeave site later scope v1 v2 ((r, f) ∷ stack) 1 128 n) V (IsBack site later)
      (eval_args c args w1) (call_numbered c a f)
      (run ok.1 le te (omega arith) (omega arith) v1 ((r, f) ∷ stack) fits1 (stands_front code site.keys ao co v1 at1)
      later 1 128 w1 lt1 (at_less site later scope v1.place ((r, f) ∷ stack) (0 + 1) (0 + 128) 0 1 128 0 w1 (omega
      arith)
      (omega arith) h1))
      (λ vs w2 y.
      let o = build.CallNumber n in
      let here = (stands_back code site.keys ao co v1 at1).0 in
      called later f v1 v2 vs w2 lt1 (has_of (Apart site.keys o v2) code v2.place (issued o v2) here)
      (besides (Apart site.keys o v2) code v2.place (issued o v2) here v2.next (omega arith) (omega arith)) y))))
    where
      called : (later : From) (f : ℕ) (v1 v2 : View) (vs : List ℕ) (w2 : World) → IsOutset site later →
          Has site.call.function.ops v2.place
          (passed_ops 0 (taken (count args) v2.operands [])
          ++ op.CallNumber (picked (count args) v2.operands) (count args) ∷ op.Result v2.next ∷ []) →
          NotKey site.keys v2.next → ArgsLeave site later scope v1 v2 ((top v1.operands, f) ∷ stack) 1 128 (count args)
          vs w2 →
          Follows site.machine later
          (Leaves (rule.is_value a) site later scope
          (after_ops (dropping_call a) (after_op (build.CallNumber (count args)) v2)) stack 0 0)
          (IsBack site later) (call_numbered site.context a f vs w2)
      called later f v1 v2 vs w2 lt1 has apart y =
          let P = site.machine in
          let n = count args in
          let here = site.call in
          let code = here.function.ops in
          let rs = y.registers in
          let regs = y.at.regs in
          let r = top v1.operands in
          let S = (r, f) ∷ stack in
          let taken_is : taken n v2.operands [] ≡ rs =
          ap (λ os. taken n os []) y.operands ∙ taken_all n rs v1.operands y.many in
          let picked_is : picked n v2.operands ≡ r =
          ap (λ os. picked n os) y.operands ∙ picked_below n rs v1.operands y.many in
          let there1 = subst (λ xs. Has code v2.place
          (passed_ops 0 xs ++ op.CallNumber (picked n v2.operands) n ∷ op.Result v2.next ∷ [])) taken_is has in
          let there = subst (λ q. Has code v2.place (passed_ops 0 rs ++ op.CallNumber q n ∷ op.Result v2.next ∷ []))
          picked_is there1 in
          let same : length vs ≡ length rs = y.values ∙ sym y.many in
          let pass = pass_all P later.state here regs (op.CallNumber r n ∷ op.Result v2.next ∷ []) rs vs 0 v2.place
          nothing y.at.log (held_set site.keys regs rs vs S same y.at.held) same there y.at.goes in
          let m = pass.0 in
          let p2 = v2.place + length rs in
          let frame = frame_at here p2 regs in
          let held = held_under site.keys regs rs vs S y.at.held in
          let o = op.CallNumber r n in
          let go2 = any_op here p2 regs (argued_all 0 vs nothing) None m.log o m.goes pass.1.0
          (ap (λ b. b && true) held.0.on) in
          let go4 = subst (λ q. Goes P later.state
          (machine.call_number P o q n frame (argued_all 0 vs nothing) here.waiting m.log)) held.0.value go2 in
          let made = subst (λ u. AreGenerated site.addresses site.ticks (log_of u).shared.bodies) m.goes.comes
          (lt1.sound.generated m.goes.steps) in
          let v3 = after_op (build.CallNumber n) v2 in
          let V = Leaves (rule.is_value a) site later scope (after_ops (dropping_call a) v3) stack 0 0 in
          numbered_run later f n vs w2 frame here.waiting m.log V (λ x w3. spend (left_by a x) w3) r y.values few lt1
          (m.shared_is ∙ y.at.shared_is) y.at.fewer (omega (arith, y.at.low, m.low))
          (omega (arith, y.at.high, m.high, y.many))
          (λ x w3 b.
          let at_end : v3.place ≡ suc (suc p2) = omega (arith, y.many) in
          take_answer site scope inside calls later a p2 v2.next x v3 stack regs w2 w3 pass.1.1.0 y.fits.free
          apart y.fits.below.2 held.1 y.at.vars y.at.keys y.at.kept b at_end refl)
          made go4
