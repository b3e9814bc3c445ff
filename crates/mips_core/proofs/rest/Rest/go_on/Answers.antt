use Rattle.std.proofs.Common.{ℕ, ◌≡◌, ◌≢◌, ◌<◌, ◌+◌, ◌-◌, None, Ok, true, false, refl, sym, ap, subst, ◌∙◌, arith}
use Rattle.std.proofs.lemmas.Bool.Decides.{nat_tests}
use Rattle.mips_model.specs.State.{World}
use Rattle.mips_model.specs.Steps.{word_at}
use Rattle.mips_core.specs.Core.{CoreKept, GoesOn, Pauses, at, ending_from, moved, state_of, world_of}
use Rattle.mips_core.proofs.Rows.{not_ended}
use Rattle.mips_core.proofs.Loops.{goes_count, goes_none}
use Rattle.mips_core.proofs.Stepped.{aside_next, some_left, none_left, nop_is_other, nop_moves, some_of}
use Rattle.mips_core.proofs.Stepped.{pauses_stopped, stopped_not, service_runs}
use Rattle.mips_core.proofs.Stretches.{Ran, fewer_left, follows, further, left_by, stepped, onward, stops, stopped}
use Rattle.mips_core.proofs.Stretches.{halts, stays, serves}
use Rattle.mips_core.proofs.Stretches.{serves_or_spent, serves_next, along, stands, same_words}
use Rattle.mips_core.proofs.rest.Rest.go_on.Goals as goal

pub loop-clear-init : goal.loop-clear-init
loop-clear-init c =
    let e = c.new-at.ensures in
    let left = e.left in
    let own = ap (λ (a : ℕ). at a c.args.self.now) e.pc ∙ c.pc.ensures.own in
    record {
      within = omega (arith, left);
      ran = subst (GoesOn (c.args.n - c.new-at.result.left) c.args.self.now) (sym own)
          (goes_count (omega (arith, left)) (goes_none c.args.self.now));
      on = c.requires.on;
      text = refl;
      reach = e.reach;
      clear = c.is_clear-clear.ensures;
    }

pub loop-clear-2-init : goal.loop-clear-2-init
loop-clear-2-init c =
    let i = c.loop-clear.invariant in
    record {
      within = i.within;
      ran = i.ran;
      on = i.on;
      text = i.text;
      reach = i.reach;
      clear = i.clear;
      fewer = omega (arith);
    }

pub step-requires-clause-clear : goal.step-requires-clause-clear
step-requires-clause-clear c =
    c.loop-clear-2.invariant.clear c.loop-clear-2-test.true

pub overflow_sub-result : goal.overflow_sub-result
overflow_sub-result c =
    let some = some_left c.loop-clear-2.at.left c.in-Stopped.ensures.spent stopped_not in
    let same = c.left.ensures in
    omega (arith, same, some)

pub returns-in-Stopped : goal.returns-in-Stopped
returns-in-Stopped c =
    let i = c.loop-clear-2.invariant in
    let r : Ran c.args.n c.loop-clear-2.at.left c.loop-clear-2.at.pc c.args.self.now c.loop-clear-2.self =
    record { within = i.within; ran = i.ran; on = i.on; text = i.text } in
    let some = some_left c.loop-clear-2.at.left c.in-Stopped.ensures.spent stopped_not in
    let f = c.in-Stopped.ensures.service some in
    let g = c.in-Stopped.ensures.other some in
    let same = c.left.ensures in
    let some' = subst (λ (m : ℕ). 0 < m) (sym same) some in
    let r' = along same refl r in
    let is = stands c.step.new.self c.stand.ensures.core c.pc-in-Stopped.ensures in
    let ends = stopped {mid = c.loop-clear-2.self} false some' r' f g is in
    let halted = halts {mid = c.loop-clear-2.self} false r' f g is in
    let within = i.within in
    record {
      within = omega (arith, within, same);
      ran = ends.ran;
      pauses = pauses_stopped (c.left.result - 1) c.stand.new.self halted;
      next = λ not on. absurd (halted on);
      text = same_words c.args.text.now c.requires.text ends;
    }

pub overflow_sub-result-in-Stopped-step_aside : goal.overflow_sub-result-in-Stopped-step_aside
overflow_sub-result-in-Stopped-step_aside c =
    let some = c.in-Some.ensures.some in
    let same = c.left-in-Stopped-step_aside.ensures in
    omega (arith, same, some)

pub returns-in-Stopped-step_aside : goal.returns-in-Stopped-step_aside
returns-in-Stopped-step_aside c =
    let i = c.loop-clear-2.invariant in
    let r : Ran c.args.n c.loop-clear-2.at.left c.loop-clear-2.at.pc c.args.self.now c.loop-clear-2.self =
    record { within = i.within; ran = i.ran; on = i.on; text = i.text } in
    let some = c.in-Some.ensures.some in
    let f = c.in-Stopped-step_aside.ensures.service in
    let g = c.in-Stopped-step_aside.ensures.other in
    let same = c.left-in-Stopped-step_aside.ensures in
    let some' = subst (λ (m : ℕ). 0 < m) (sym same) some in
    let r' = along same c.pc-in-Some.ensures r in
    let is = stands c.step_aside.new.self c.stand-in-Stopped-step_aside.ensures.core
    (c.pc-in-Stopped-step_aside.ensures ∙ sym c.pc-in-Some.ensures) in
    let ends = stopped {mid = c.loop-clear-2.self} true some' r' f g is in
    let halted = halts {mid = c.loop-clear-2.self} true r' f g is in
    let within = i.within in
    record {
      within = omega (arith, within, same);
      ran = ends.ran;
      pauses = pauses_stopped (c.left-in-Stopped-step_aside.result - 1) c.stand-in-Stopped-step_aside.new.self halted;
      next = λ not on. absurd (halted on);
      text = same_words c.args.text.now c.requires.text ends;
    }

pub returns-in-Service : goal.returns-in-Service
returns-in-Service c =
    let i = c.loop-clear-2.invariant in
    let r : Ran c.args.n c.loop-clear-2.at.left c.loop-clear-2.at.pc c.args.self.now c.loop-clear-2.self =
    record { within = i.within; ran = i.ran; on = i.on; text = i.text } in
    let e = c.in-Service.ensures in
    let left = c.left-in-Service.ensures in
    let here = stands c.step.new.self c.stand-in-Service.ensures.core c.pc-in-Service.ensures in
    let same = serves_or_spent {pc = c.loop-clear-2.at.pc} c.loop-clear-2.at.left e.spent e.service e.other in
    let ends = stays (along left refl r) same here in
    let within = i.within in
    record {
      within = omega (arith, within, left);
      ran = ends.ran;
      pauses = subst (λ (m : ℕ). Pauses m c.stand-in-Service.new.self) (sym left)
          (serves_next {pc = c.loop-clear-2.at.pc} {mid = c.loop-clear-2.self} {new = c.step.new.self}
          c.loop-clear-2.at.left i.on e.service e.other here);
      next = λ not on.
          let some = subst (λ (m : ℕ). 0 < m) left (some_of c.left-in-Service.result not) in
          c.stand-in-Service.ensures.next
          (subst (λ (a : ℕ). a < 4294967288) (sym c.pc-in-Service.ensures) (e.near service_runs some));
      text = same_words c.args.text.now c.requires.text ends;
    }

pub returns-in-Service-step_aside-clause-ran : goal.returns-in-Service-step_aside-clause-ran
returns-in-Service-step_aside-clause-ran c =
    let i = c.loop-clear-2.invariant in
    let r : Ran c.args.n c.loop-clear-2.at.left c.loop-clear-2.at.pc c.args.self.now c.loop-clear-2.self =
    record { within = i.within; ran = i.ran; on = i.on; text = i.text } in
    let same = serves {pc = c.pc-in-Some.result} true c.in-Service-step_aside.ensures.service
    c.in-Service-step_aside.ensures.other in
    let ends = stays (along c.left-in-Service-step_aside.ensures refl r) same
    (stands c.step_aside.new.self c.stand-in-Service-step_aside.ensures.core c.pc-in-Service-step_aside.ensures) in
    ends.ran

pub returns-in-Service-step_aside-clause-text : goal.returns-in-Service-step_aside-clause-text
returns-in-Service-step_aside-clause-text c =
    let i = c.loop-clear-2.invariant in
    let r : Ran c.args.n c.loop-clear-2.at.left c.loop-clear-2.at.pc c.args.self.now c.loop-clear-2.self =
    record { within = i.within; ran = i.ran; on = i.on; text = i.text } in
    let same = serves {pc = c.pc-in-Some.result} true c.in-Service-step_aside.ensures.service
    c.in-Service-step_aside.ensures.other in
    let ends = stays (along c.left-in-Service-step_aside.ensures refl r) same
    (stands c.step_aside.new.self c.stand-in-Service-step_aside.ensures.core c.pc-in-Service-step_aside.ensures) in
    same_words c.args.text.now c.requires.text ends

pub refuse-went-requires-clause-none : goal.refuse-went-requires-clause-none
refuse-went-requires-clause-none c =
    c.in-None.ensures.none refl

pub overflow_sub-result-in-Stopped-went : goal.overflow_sub-result-in-Stopped-went
overflow_sub-result-in-Stopped-went c =
    let some = some_left c.loop-clear-2.at.left c.in-Stopped-went.ensures.spent stopped_not in
    let same = c.left-in-Stopped-went.ensures in
    omega (arith, same, some)

pub returns-in-Stopped-went : goal.returns-in-Stopped-went
returns-in-Stopped-went c =
    let i = c.loop-clear-2.invariant in
    let r : Ran c.args.n c.loop-clear-2.at.left c.loop-clear-2.at.pc c.args.self.now c.loop-clear-2.self =
    record { within = i.within; ran = i.ran; on = i.on; text = i.text } in
    let some = some_left c.loop-clear-2.at.left c.in-Stopped-went.ensures.spent stopped_not in
    let e = c.in-Stopped-went.ensures in
    let same = c.left-in-Stopped-went.ensures in
    let some' = subst (λ (m : ℕ). 0 < m) (sym same) some in
    let r' = along same refl r in
    let is = stands c.refuse-went.new.self c.stand-in-None.ensures.core c.pc-in-None.ensures in
    let ends = stops {mid = c.loop-clear-2.self} {new = c.refuse-went.new.self} some' r'
    (stepped i.on (e.service some) (e.world some) r'.ran) is in
    let halted = subst (λ (k : CoreKept). k.stopped ≢ None) (sym is) (e.went some).1 in
    let within = i.within in
    record {
      within = omega (arith, within, same);
      ran = ends.ran;
      pauses = pauses_stopped (c.left-in-Stopped-went.result - 1) c.stand-in-None.new.self halted;
      next = λ not on. absurd (halted on);
      text = same_words c.args.text.now c.requires.text ends;
    }

pub returns-in_default-went : goal.returns-in_default-went
returns-in_default-went c =
    let i = c.loop-clear-2.invariant in
    let r : Ran c.args.n c.loop-clear-2.at.left c.loop-clear-2.at.pc c.args.self.now c.loop-clear-2.self =
    record { within = i.within; ran = i.ran; on = i.on; text = i.text } in
    let e = c.refuse-went.ensures in
    let none = none_left c.loop-clear-2.at.left e.went c.in_default-went.not-Stopped in
    let ends = stays (along (sym none) refl r) (e.spent none).1
    (stands c.refuse-went.new.self c.stand-in-None.ensures.core c.pc-in-None.ensures) in
    record {
      within = omega (arith);
      ran = ends.ran;
      pauses = tt;
      next = λ not on. absurd (not refl);
      text = same_words c.args.text.now c.requires.text ends;
    }

pub follow-clear-requires : goal.follow-clear-requires
follow-clear-requires c =
    let i = c.loop-clear-2.invariant in
    let r : Ran c.args.n c.loop-clear-2.at.left c.loop-clear-2.at.pc c.args.self.now c.loop-clear-2.self =
    record { within = i.within; ran = i.ran; on = i.on; text = i.text } in
    let e = c.step.ensures in
    let some = some_left c.loop-clear-2.at.left e.spent c.in_default.not-Service in
    let l = left_by {mid = c.loop-clear-2.self} {new = c.step.new.self} r (e.service some) (e.other some)
    c.in_default.not-Service in
    record {
      runs = c.in_default.not-Stopped;
      leaves = l.0;
      some = some;
      near = e.near c.in_default.not-Stopped some;
      text = c.requires.text ∙ sym l.1;
      fits = c.requires.fits;
      reach = i.reach;
    }

pub loop-clear-2-preserved : goal.loop-clear-2-preserved
loop-clear-2-preserved c =
    let i = c.loop-clear-2.invariant in
    let r : Ran c.args.n c.loop-clear-2.at.left c.loop-clear-2.at.pc c.args.self.now c.loop-clear-2.self =
    record { within = i.within; ran = i.ran; on = i.on; text = i.text } in
    let e = c.step.ensures in
    let some = some_left c.loop-clear-2.at.left e.spent c.in_default.not-Service in
    let h = c.follow-clear.ensures.goes in
    let f = follows {mid = c.loop-clear-2.self} {new = c.step.new.self} c.follow-clear.result some r (e.service some)
    (e.other some) c.in_default.not-Service c.in_default.not-Stopped h in
    let less = fewer_left some h in
    let fewer = i.fewer in
    record {
      within = f.within;
      ran = f.ran;
      on = f.on;
      text = f.text;
      reach = c.follow-clear.ensures.reach;
      clear = h.clear;
      fewer = omega (arith, less, fewer);
    }

pub go_to-requires : goal.go_to-requires
go_to-requires c = record { some = c.in-Some-eq0.ensures.some }

pub loop-clear-preserved-in-Some-eq0 : goal.loop-clear-preserved-in-Some-eq0
loop-clear-preserved-in-Some-eq0 c =
    let i = c.loop-clear-2.invariant in
    let k = c.loop-clear-2.self in
    let pc = c.loop-clear-2.at.pc in
    let new = c.settle-next.new.self in
    let r : Ran c.args.n c.loop-clear-2.at.left pc c.args.self.now k =
    record { within = i.within; ran = i.ran; on = i.on; text = i.text } in
    let test = c.in-Some-eq0.field-0-test in
    let zero : c.in-Some-eq0.field-0 ≡ 0 = grind (arith, nat_tests, test) in
    let here : word_at (state_of k).code pc ≡ Ok 0 = c.in-Some-eq0.ensures.word ∙ ap Ok zero in
    let moves = subst (λ (n : ℕ). world_of (at c.settle-next.result new)
    ≡ moved ((at n k).next + 4) false (world_of (at n k))) c.pc-in-Some-eq0.ensures c.settle-next.ensures.world in
    let on = not_ended new.stopped (ap (λ (w : World). w.ending) moves ∙ ap ending_from i.on) in
    let world = moves ∙ sym (nop_moves (at pc k) i.on here) in
    let e = c.go_to.ensures in
    let f = along e.left e.pc (further c.in-Some-eq0.ensures.some r
    (onward {new = new} on (stepped i.on (nop_is_other (at pc k) here) world i.ran))) in
    record {
      within = f.within;
      ran = f.ran;
      on = f.on;
      text = f.text;
      reach = e.reach;
      clear = c.is_clear-clear-in-Some-eq0.ensures;
    }

pub go_to-requires-in-On : goal.go_to-requires-in-On
go_to-requires-in-On c = record { some = c.in-Some.ensures.some }

pub loop-clear-smaller : goal.loop-clear-smaller
loop-clear-smaller c =
    let some = c.in-Some.ensures.some in
    let left = c.go_to-in-On.ensures.left in
    let fewer = c.loop-clear-2.invariant.fewer in
    omega (arith, some, left, fewer)

pub loop-clear-preserved : goal.loop-clear-preserved
loop-clear-preserved c =
    let i = c.loop-clear-2.invariant in
    let r : Ran c.args.n c.loop-clear-2.at.left c.loop-clear-2.at.pc c.args.self.now c.loop-clear-2.self =
    record { within = i.within; ran = i.ran; on = i.on; text = i.text } in
    let r' = along refl c.pc-in-Some.ensures r in
    let h = aside_next c.pc-in-Some.result c.loop-clear-2.self c.step_aside.new.self c.step_aside.ensures.service
    c.step_aside.ensures.other c.in-On.is i.on r'.ran in
    let e = c.go_to-in-On.ensures in
    let f = along e.left e.pc (further c.in-Some.ensures.some r' h) in
    record {
      within = f.within;
      ran = f.ran;
      on = f.on;
      text = f.text;
      reach = e.reach;
      clear = c.is_clear-clear-in-On.ensures;
    }
