use Rattle.std.proofs.Common.{◌≡◌, ◌+◌, ◌≤◌, length, ap, sym, subst, ◌∙◌, arith}
use Rattle.word32.specs.declared.map.TheConstants.{CLOSURE_BYTES}
use Rattle.meaning_state.specs.Rows.{closure_bytes}
use Rattle.eval_state.specs.Pending as pending
use Rattle.eval_state.specs.Rest.{spent}
use Rattle.eval_state.specs.declared.state.Parts.{Parts}
use Rattle.eval_state.specs.Grown.{specification_in}
use Rattle.eval_state.specs.Run.{here, leads, run_of, world}
use Rattle.eval_state.specs.Sound.{IsSound}
use Rattle.eval_state.proofs.Lightens.{row_weighs}
use Rattle.eval_state.proofs.Makes.{makes, no_closure}
use Rattle.eval_stages.proofs.specifications.specify.Goals as goal

pub returns-then-saturating_sub-bytes-clause-same : goal.returns-then-saturating_sub-bytes-clause-same
returns-then-saturating_sub-bytes-clause-same c =
    let p = c.args.m.now in
    let same : c.m.inside.parts.closures ≡ p.closures = ap (λ (p : Parts). p.closures) c.m.view_is in
    no_closure p (specification_in p c.args.row) c.args.captures
    (omega (arith, same, c.saturating_sub.ensures, c.if-saturating_sub-bytes.true))

pub returns-clause-same : goal.returns-clause-same
returns-clause-same c =
    let p = c.args.m.now in
    let q = c.add_row.new.m in
    let sound = subst IsSound c.m.view_is c.m.invariant in
    let same : c.m.inside.parts.closures ≡ p.closures = ap (λ (p : Parts). p.closures) c.m.view_is in
    let fits : p.closures + closure_bytes c.args.captures ≤ CLOSURE_BYTES =
    omega (arith, same, c.saturating_sub.ensures, c.if-saturating_sub-bytes.false) in
    c.spend.ensures.same
    ∙ ap (λ n. leads (run_of q) (spent (here (run_of q)) (world (run_of q)).units (pending.Value n) (world (run_of q))))
    (c.len-number.ensures ∙ ap (λ (q : Parts). length q.rows) c.m-2.view_is)
    ∙ makes p q c.args.row c.args.captures sound fits c.in_ok-add_row.ensures

pub returns-clause-units : goal.returns-clause-units
returns-clause-units c =
    let still = row_weighs c.args.m.now c.add_row.new.m c.args.row _
    (subst IsSound c.m.view_is c.m.invariant)
    c.in_ok-add_row.ensures in
    omega (arith, c.spend.ensures.units, still.1)

pub returns-clause-less : goal.returns-clause-less
returns-clause-less c = λ same.
    let still = row_weighs c.args.m.now c.add_row.new.m c.args.row _
    (subst IsSound c.m.view_is c.m.invariant)
    c.in_ok-add_row.ensures in
    let less = c.spend.ensures.less (same ∙ sym still.1) in
    omega (arith, less, still.0)
