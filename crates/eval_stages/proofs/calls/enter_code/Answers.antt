use Rattle.std.proofs.Common.{◌≢◌, ◌≤◌, length, sym, subst, arith}
use Rattle.eval_state.specs.declared.state.Body.{Body}
use Rattle.eval_state.specs.declared.state.Parts.{Parts}
use Rattle.eval_stages.proofs.calls.enter_code.Goals as goal

pub invariant_of-m : goal.invariant_of-m
invariant_of-m c =
    let i = c.m.invariant in
    let p = c.m.inside.parts in
    let some : p.depth ≢ 0 = subst (λ (q : Parts). q.depth ≢ 0) (sym c.m.view_is) c.requires.0 in
    let there : c.args.row ≤ length p.rows =
    subst (λ (q : Parts). c.args.row ≤ length q.rows) (sym c.m.view_is) c.requires.1 in
    let row = subst (λ (b : Body). b.row ≤ length p.rows) (sym c.replace-caller.ensures.after) there in
    (row, i.1, i.2, i.3, i.4, omega (arith, some, i.5))

pub suspend-requires : goal.suspend-requires
suspend-requires c =
    let i = c.m.invariant in
    let p = c.m.inside.parts in
    let caller : c.replace-caller.result.row ≤ length p.rows =
    subst (λ (b : Body). b.row ≤ length p.rows) (sym c.replace-caller.ensures.value) i.0 in
    let some : p.depth ≢ 0 = subst (λ (q : Parts). q.depth ≢ 0) (sym c.m.view_is) c.requires.0 in
    (caller, omega (arith, some, i.5))
