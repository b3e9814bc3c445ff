use Rattle.std.proofs.Common.{◌≢◌, ◌+◌, ◌^◌, ◌<◌, ◌≤◌, length, refl, ap, sym, subst, ◌∙◌, arith}
use Rattle.typed_tree.specs.declared.expression.Stmt.{Stmt}
use Rattle.typed_tree.specs.View.{stmt_view}
use Rattle.meaning_state.specs.Shared.{limit_trap}
use Rattle.staged_meaning.specs.Size.{charge_of}
use Rattle.eval_state.specs.Pending as pending
use Rattle.eval_state.specs.Rest.{spent}
use Rattle.eval_state.specs.declared.state.Body.{Body}
use Rattle.eval_state.specs.declared.state.Parts.{Parts}
use Rattle.eval_state.specs.declared.state.Entry.TheVariants as entry
use Rattle.eval_state.specs.Late.{function_body, with_body, with_entry}
use Rattle.eval_state.specs.Sound.{calls}
use Rattle.eval_state.specs.Run.{here, leads, run_of, world}
use Rattle.eval_state.proofs.Callees.{static_enters, static_limit}
use Rattle.eval_state.proofs.Codes.{within_limits}
use Rattle.eval_state.proofs.Lightens.{units_same}
use Rattle.eval_stages.proofs.calls.call_function.Goals as goal

pub returns-in-Some-clause-same : goal.returns-in-Some-clause-same
returns-in-Some-clause-same c = λ f h.
    let p = c.args.m.now in
    let function = c.args.function.now in
    let charge = c.charge_of-charge.ensures ∙ ap charge_of c.requires.1 in
    static_limit p c.args.answer f c.args.arguments function c.in-Some.kind c.requires.0 h
    (ap (λ n. limit_trap n function.object (world (run_of p)).shared) (sym charge) ∙ sym c.in-Some.ensures)

pub enter_body-requires : goal.enter_body-requires
enter_body-requires c =
    let charge = c.charge_of-charge.ensures in
    let none = (sym c.in_default.is ∙ c.limit.ensures)
    ∙ ap (λ n. limit_trap n c.args.function.now.object (world (run_of c.args.m.now)).shared) charge in
    let within = within_limits c.args.m.now (charge_of c.args.function.now.size) c.args.function.now.object none in
    (c.requires.0, c.requires.2, within.0, within.1)

pub suspend-requires : goal.suspend-requires
suspend-requires c =
    let p = c.args.m.now in
    let i = c.keeps_law.ensures in
    let some : p.depth ≢ 0 = c.requires.0 in
    let row : c.in_ok-caller.caller.row ≤ length p.rows =
    subst (λ (b : Body). b.row ≤ length p.rows) (sym c.in_ok-caller.ensures.0) i.0 in
    subst (λ (q : Parts). (c.in_ok-caller.caller.row ≤ length q.rows) × (q.depth + calls q.entries + 1 < 2 ^ 64))
    (sym c.in_ok-caller.ensures.1) (row, omega (arith, some, i.5))

pub returns-clause-same : goal.returns-clause-same
returns-clause-same c = λ f h.
    let p = c.args.m.now in
    let q = c.suspend.new.m in
    let function = c.args.function.now in
    let none = sym c.in_default.is ∙ c.limit.ensures in
    let charge = c.charge_of-charge.result in
    let charged = c.charge_of-charge.ensures ∙ ap charge_of c.requires.1 in
    let body = function_body function c.args.arguments p in
    let entered = c.in_ok-suspend.ensures
    ∙ ap (λ (b : Body). with_entry (entry.Called c.args.answer charge b) c.enter_body.new.self) c.in_ok-caller.ensures.0
    ∙ ap (λ (s : Parts). with_entry (entry.Called c.args.answer charge p.body) s) c.in_ok-caller.ensures.1
    ∙ ap (λ n. with_entry (entry.Called c.args.answer charge p.body) (with_body n body p))
    (sym c.charge_of-charge.ensures) in
    c.spend.ensures.same
    ∙ ap (λ (s : Stmt). leads (run_of q) (spent (here (run_of q)) (world (run_of q)).units (pending.Exec (stmt_view s))
    (world (run_of q)))) c.get.ensures
    ∙ static_enters p q c.args.answer f charge c.args.arguments function body c.requires.0 h charged none refl entered

pub returns-clause-units : goal.returns-clause-units
returns-clause-units c =
    let p = c.args.m.now in
    let at_entry = units_same p c.suspend.new.m (ap (λ (q : Parts). q.units) c.in_ok-suspend.ensures
    ∙ ap (λ (q : Parts). q.units) c.in_ok-caller.ensures.1) in
    omega (arith, c.spend.ensures.units, at_entry)

pub returns-clause-less : goal.returns-clause-less
returns-clause-less c = λ same.
    let p = c.args.m.now in
    let at_entry = units_same p c.suspend.new.m (ap (λ (q : Parts). q.units) c.in_ok-suspend.ensures
    ∙ ap (λ (q : Parts). q.units) c.in_ok-caller.ensures.1) in
    let none = c.spend.ensures.less (same ∙ sym at_entry) in
    omega (arith, none)
