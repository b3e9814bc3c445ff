use Rattle.std.proofs.Common.{◌≡◌, ◌≢◌, ◌+◌, ◌-◌, ◌≤◌, suc, length, slice_get, refl, ap, sym}
use Rattle.std.proofs.Common.{subst, ◌∙◌}
use Rattle.std.proofs.Common.{arith}
use Rattle.meaning_state.specs.Rows.{numbered}
use Rattle.meaning_state.specs.Shared.{limit_trap}
use Rattle.eval_state.specs.declared.state.Event.TheVariants as event
use Rattle.eval_state.specs.declared.state.Parts.{Parts}
use Rattle.eval_state.specs.Grown.{code_body, with_called, with_left}
use Rattle.eval_state.specs.Kept.{rows_view}
use Rattle.eval_state.specs.Run.{run_of, world}
use Rattle.eval_state.specs.Specified.{IsCode}
use Rattle.eval_state.proofs.Callees.{no_callee, none_at}
use Rattle.eval_state.proofs.Codes.{begins_code, code_charged, code_traps, made_is_code, stops_at_entry, within_limits}
use Rattle.eval_state.proofs.Growth.{code_within}
use Rattle.eval_state.proofs.Rows.{count}
use Rattle.eval_state.proofs.Changes.{units_are}
use Rattle.eval_state.proofs.Lightens.{units_same}
use Rattle.eval_stages.proofs.calls.call_compiled.Goals as goal

pub returns-in-None-clause-same : goal.returns-in-None-clause-same
returns-in-None-clause-same c =
    let p = c.args.m.now in
    let first = length c.functions.result.now in
    let i = c.args.number - 1 - first in
    let functions = c.functions.ensures ∙ ap (λ (p : Parts). p.typed.now.functions) c.m.view_is in
    let same : first ≡ length p.typed.now.functions = ap length functions in
    let next : c.args.number ≡ length p.typed.now.functions + suc i = omega (arith, same, c.requires.1) in
    let at = ap (λ (q : Parts). slice_get q.compiled i) (sym c.m.view_is) ∙ sym c.in-None.ensures.value in
    no_callee p c.args.answer c.args.number c.args.arguments c.requires.0 (none_at p c.args.number i next at)

pub returns-in-Some-limit-clause-same : goal.returns-in-Some-limit-clause-same
returns-in-Some-limit-clause-same c =
    let p = c.args.m.now in
    let m = c.in-Some.made.now in
    let first = length c.functions.result.now in
    let i = c.args.number - 1 - first in
    let functions = c.functions.ensures ∙ ap (λ (p : Parts). p.typed.now.functions) c.m.view_is in
    let same : first ≡ length p.typed.now.functions = ap length functions in
    let next : c.args.number ≡ length p.typed.now.functions + suc i = omega (arith, same, c.requires.1) in
    let at = ap (λ (q : Parts). slice_get q.compiled i) (sym c.m.view_is) ∙ sym c.in-Some.ensures.value in
    let q = c.happens.new.m in
    let charge = code_charged p q i m (event.Entered c.args.number) c.size_of_row.result c.charge_of-charge.result
    c.keeps_law.ensures at c.in_ok-happens.ensures c.size_of_row.ensures.size c.charge_of-charge.ensures in
    code_traps p c.args.answer c.args.number i c.charge_of-charge.result m c.args.arguments c.keeps_law.ensures
    c.requires.0 next at charge q c.in-Some-limit.kind c.in_ok-happens.ensures c.in-Some-limit.ensures

pub enter_code-requires : goal.enter_code-requires
enter_code-requires c =
    let p = c.args.m.now in
    let m = c.in-Some.made.now in
    let q = c.happens.new.m in
    let i = c.args.number - 1 - length c.functions.result.now in
    let at = ap (λ (q : Parts). slice_get q.compiled i) (sym c.m.view_is) ∙ sym c.in-Some.ensures.value in
    let is = (made_is_code p i m c.keeps_law.ensures at).0 in
    let named : m.row ≤ length p.rows = omega (arith, code_within m.row (rows_view p.rows) is, count p.rows) in
    let within = within_limits q c.charge_of-charge.result 0 (sym c.in_default.is ∙ c.limit.ensures) in (
      subst (λ (q : Parts). q.depth ≢ 0) (sym c.in_ok-happens.ensures) c.requires.0,
      subst (λ (q : Parts). m.row ≤ length q.rows) (sym c.in_ok-happens.ensures) named,
      within.0,
    )

pub returns-then-not-spend_many-clause-same : goal.returns-then-not-spend_many-clause-same
returns-then-not-spend_many-clause-same c =
    let p = c.args.m.now in
    let m = c.in-Some.made.now in
    let n = c.args.number in
    let vs = c.args.arguments in
    let first = length c.functions.result.now in
    let i = n - 1 - first in
    let functions = c.functions.ensures ∙ ap (λ (p : Parts). p.typed.now.functions) c.m.view_is in
    let same : first ≡ length p.typed.now.functions = ap length functions in
    let next : n ≡ length p.typed.now.functions + suc i = omega (arith, same, c.requires.1) in
    let at = ap (λ (q : Parts). slice_get q.compiled i) (sym c.m.view_is) ∙ sym c.in-Some.ensures.value in
    let q = c.happens.new.m in
    let charge = c.charge_of-charge.result in
    let charged = code_charged p q i m (event.Entered n) c.size_of_row.result charge c.keeps_law.ensures at
    c.in_ok-happens.ensures c.size_of_row.ensures.size c.charge_of-charge.ensures in
    let entered = c.in_ok-enter_code.ensures
    ∙ ap (λ (q : Parts). with_called c.args.answer charge (code_body m.row vs) q) c.in_ok-happens.ensures in
    let free = (sym c.in_default.is ∙ c.limit.ensures)
    ∙ ap (λ (q : Parts). limit_trap charge 0 (world (run_of q)).shared) c.in_ok-happens.ensures in
    let units : c.enter_code.new.m.units ≡ p.units = ap (λ (q : Parts). q.units) entered in
    let none = c.if-not-spend_many.ensures.none refl in
    stops_at_entry p c.args.answer n i charge m vs c.keeps_law.ensures c.requires.0 next at charged free
    c.spend_many.new.self 0 (none.1 ∙ ap (with_left 0) entered) (omega (arith, units, none.0))

pub returns-then-not-spend_many-2-clause-same : goal.returns-then-not-spend_many-2-clause-same
returns-then-not-spend_many-2-clause-same c =
    let p = c.args.m.now in
    let m = c.in-Some.made.now in
    let n = c.args.number in
    let vs = c.args.arguments in
    let first = length c.functions.result.now in
    let i = n - 1 - first in
    let functions = c.functions.ensures ∙ ap (λ (p : Parts). p.typed.now.functions) c.m.view_is in
    let same : first ≡ length p.typed.now.functions = ap length functions in
    let next : n ≡ length p.typed.now.functions + suc i = omega (arith, same, c.requires.1) in
    let at = ap (λ (q : Parts). slice_get q.compiled i) (sym c.m.view_is) ∙ sym c.in-Some.ensures.value in
    let q = c.happens.new.m in
    let charge = c.charge_of-charge.result in
    let charged = code_charged p q i m (event.Entered n) c.size_of_row.result charge c.keeps_law.ensures at
    c.in_ok-happens.ensures c.size_of_row.ensures.size c.charge_of-charge.ensures in
    let entered = c.in_ok-enter_code.ensures
    ∙ ap (λ (q : Parts). with_called c.args.answer charge (code_body m.row vs) q) c.in_ok-happens.ensures in
    let free = (sym c.in_default.is ∙ c.limit.ensures)
    ∙ ap (λ (q : Parts). limit_trap charge 0 (world (run_of q)).shared) c.in_ok-happens.ensures in
    let units : c.enter_code.new.m.units ≡ p.units = ap (λ (q : Parts). q.units) entered in
    let some = c.if-not-spend_many.ensures.some refl in
    let none = c.if-not-spend_many-2.ensures.none refl in
    let left : c.spend_many.new.self.units ≡ c.enter_code.new.m.units - 1 = ap (λ (q : Parts). q.units) some.1 in
    stops_at_entry p c.args.answer n i charge m vs c.keeps_law.ensures c.requires.0 next at charged free
    c.spend_many-2.new.self 0 (none.1 ∙ ap (with_left 0) some.1 ∙ ap (with_left 0) entered)
    (omega (arith, units, left, some.0, none.0))

pub begin_tick-requires : goal.begin_tick-requires
begin_tick-requires c =
    let p = c.args.m.now in
    let m = c.in-Some.made.now in
    let n = c.args.number in
    let vs = c.args.arguments in
    let first = length c.functions.result.now in
    let i = n - 1 - first in
    let functions = c.functions.ensures ∙ ap (λ (p : Parts). p.typed.now.functions) c.m.view_is in
    let same : first ≡ length p.typed.now.functions = ap length functions in
    let next : n ≡ length p.typed.now.functions + suc i = omega (arith, same, c.requires.1) in
    let at = ap (λ (q : Parts). slice_get q.compiled i) (sym c.m.view_is) ∙ sym c.in-Some.ensures.value in
    let q = c.happens.new.m in
    let charge = c.charge_of-charge.result in
    let charged = code_charged p q i m (event.Entered n) c.size_of_row.result charge c.keeps_law.ensures at
    c.in_ok-happens.ensures c.size_of_row.ensures.size c.charge_of-charge.ensures in
    let entered = c.in_ok-enter_code.ensures
    ∙ ap (λ (q : Parts). with_called c.args.answer charge (code_body m.row vs) q) c.in_ok-happens.ensures in
    let free = (sym c.in_default.is ∙ c.limit.ensures)
    ∙ ap (λ (q : Parts). limit_trap charge 0 (world (run_of q)).shared) c.in_ok-happens.ensures in
    let units : c.enter_code.new.m.units ≡ p.units = ap (λ (q : Parts). q.units) entered in
    let first = c.if-not-spend_many.ensures.some refl in
    let second = c.if-not-spend_many-2.ensures.some refl in
    let is = (made_is_code p i m c.keeps_law.ensures at).0 in
    let now = second.1 ∙ ap (with_left _) first.1 ∙ ap (with_left _) entered in
    subst (λ (q : Parts). IsCode (numbered q.body.row (rows_view q.rows))) (sym now) is

pub returns-clause-same : goal.returns-clause-same
returns-clause-same c =
    let p = c.args.m.now in
    let m = c.in-Some.made.now in
    let n = c.args.number in
    let vs = c.args.arguments in
    let first = length c.functions.result.now in
    let i = n - 1 - first in
    let functions = c.functions.ensures ∙ ap (λ (p : Parts). p.typed.now.functions) c.m.view_is in
    let same : first ≡ length p.typed.now.functions = ap length functions in
    let next : n ≡ length p.typed.now.functions + suc i = omega (arith, same, c.requires.1) in
    let at = ap (λ (q : Parts). slice_get q.compiled i) (sym c.m.view_is) ∙ sym c.in-Some.ensures.value in
    let q = c.happens.new.m in
    let charge = c.charge_of-charge.result in
    let charged = code_charged p q i m (event.Entered n) c.size_of_row.result charge c.keeps_law.ensures at
    c.in_ok-happens.ensures c.size_of_row.ensures.size c.charge_of-charge.ensures in
    let entered = c.in_ok-enter_code.ensures
    ∙ ap (λ (q : Parts). with_called c.args.answer charge (code_body m.row vs) q) c.in_ok-happens.ensures in
    let free = (sym c.in_default.is ∙ c.limit.ensures)
    ∙ ap (λ (q : Parts). limit_trap charge 0 (world (run_of q)).shared) c.in_ok-happens.ensures in
    let units : c.enter_code.new.m.units ≡ p.units = ap (λ (q : Parts). q.units) entered in
    let one = c.if-not-spend_many.ensures.some refl in
    let two = c.if-not-spend_many-2.ensures.some refl in
    let left : c.spend_many.new.self.units ≡ c.enter_code.new.m.units - 1 = ap (λ (q : Parts). q.units) one.1 in
    let rest = c.spend_many.new.self.units - m.locals in
    let now = two.1 ∙ ap (with_left rest) one.1 ∙ ap (with_left rest) entered in
    c.begin_tick.ensures.same
    ∙ begins_code p c.args.answer n i charge m vs c.keeps_law.ensures c.requires.0 next at charged free
    c.spend_many-2.new.self rest now (omega (arith, units, left, one.0, two.0)) (omega (arith, units, left))

pub returns-in-Some-limit-clause-units : goal.returns-in-Some-limit-clause-units
returns-in-Some-limit-clause-units c =
    let stays = units_same c.args.m.now c.happens.new.m (ap (λ (q : Parts). q.units) c.in_ok-happens.ensures) in
    omega (arith, stays)

pub returns-then-not-spend_many-clause-units : goal.returns-then-not-spend_many-clause-units
returns-then-not-spend_many-clause-units c =
    let none : (run_of c.spend_many.new.self).state.units ≡ 0 =
    units_are c.spend_many.new.self ∙ ap (λ (q : Parts). q.units) (c.if-not-spend_many.ensures.none refl).1 in
    omega (arith, none)

pub returns-then-not-spend_many-2-clause-units : goal.returns-then-not-spend_many-2-clause-units
returns-then-not-spend_many-2-clause-units c =
    let none : (run_of c.spend_many-2.new.self).state.units ≡ 0 =
    units_are c.spend_many-2.new.self ∙ ap (λ (q : Parts). q.units) (c.if-not-spend_many-2.ensures.none refl).1 in
    omega (arith, none)

pub returns-clause-units : goal.returns-clause-units
returns-clause-units c =
    let p = c.args.m.now in
    let entered : c.enter_code.new.m.units ≡ p.units =
    ap (λ (q : Parts). q.units) c.in_ok-enter_code.ensures ∙ ap (λ (q : Parts). q.units) c.in_ok-happens.ensures in
    let one = c.if-not-spend_many.ensures.some refl in
    let locals = c.if-not-spend_many-2.ensures.some refl in
    let first : c.spend_many.new.self.units ≡ c.enter_code.new.m.units - 1 = ap (λ (q : Parts). q.units) one.1 in
    let then : c.spend_many-2.new.self.units ≡ c.spend_many.new.self.units - c.in-Some.made.now.locals =
    ap (λ (q : Parts). q.units) locals.1 in
    let new : (run_of c.spend_many-2.new.self).state.units ≡ c.spend_many-2.new.self.units =
    units_are c.spend_many-2.new.self in
    let old : (run_of p).state.units ≡ p.units = units_are p in
    let some : 1 ≤ c.enter_code.new.m.units = one.0 in
    omega (arith, entered, first, then, new, old, some)

pub returns-clause-less : goal.returns-clause-less
returns-clause-less c = λ same.
    let p = c.args.m.now in
    let entered : c.enter_code.new.m.units ≡ p.units =
    ap (λ (q : Parts). q.units) c.in_ok-enter_code.ensures ∙ ap (λ (q : Parts). q.units) c.in_ok-happens.ensures in
    let one = c.if-not-spend_many.ensures.some refl in
    let locals = c.if-not-spend_many-2.ensures.some refl in
    let first : c.spend_many.new.self.units ≡ c.enter_code.new.m.units - 1 = ap (λ (q : Parts). q.units) one.1 in
    let then : c.spend_many-2.new.self.units ≡ c.spend_many.new.self.units - c.in-Some.made.now.locals =
    ap (λ (q : Parts). q.units) locals.1 in
    let new : (run_of c.spend_many-2.new.self).state.units ≡ c.spend_many-2.new.self.units =
    units_are c.spend_many-2.new.self in
    let old : (run_of p).state.units ≡ p.units = units_are p in
    let some : 1 ≤ c.enter_code.new.m.units = one.0 in
    absurd (omega (arith, entered, first, then, new, old, some, same))
