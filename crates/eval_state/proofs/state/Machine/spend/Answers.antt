use Rattle.std.proofs.Common.{rules, ◌≡◌, ◌≢◌, ◌-◌, refl, ap, sym, ◌∙◌, arith}
use Rattle.eval_state.specs.Rest.{spent}
use Rattle.eval_state.specs.declared.state.Parts.{Parts}
use Rattle.eval_state.specs.Run.{here, leads, run_of, world}
use Rattle.eval_state.specs.Views.{now_view}
use Rattle.eval_state.proofs.Changes.{has_none, spends_unit, units_are}
use Rattle.eval_state.proofs.state.Machine.spend.Goals as goal

pub returns-then-self-eq0-clause-same : goal.returns-then-self-eq0-clause-same
returns-then-self-eq0-clause-same c =
    let zero : c.self.inside.parts.units ≡ 0 = search rules in
    has_none c.args.self.now (now_view c.args.next) (ap (λ (p : Parts). p.units) (sym c.self.view_is) ∙ zero)

pub returns-clause-same : goal.returns-clause-same
returns-clause-same c =
    let p = c.self.inside.parts in
    let some : p.units ≢ 0 = search rules in
    spends_unit p (record p { units = p.units - 1 }) (now_view c.args.next) some refl
    ∙ ap (λ (p : Parts). leads (run_of p) (spent (here (run_of p)) (world (run_of p)).units (now_view c.args.next)
    (world (run_of p)))) c.self.view_is

pub returns-clause-units : goal.returns-clause-units
returns-clause-units c =
    let p = c.self.inside.parts in
    let old = units_are c.args.self.now ∙ ap (λ (p : Parts). p.units) (sym c.self.view_is) in
    let new = units_are (record p { units = p.units - 1 }) in
    omega (arith, old, new)

pub returns-clause-less : goal.returns-clause-less
returns-clause-less c = λ same.
    let p = c.self.inside.parts in
    let some : p.units ≢ 0 = search rules in
    let old = units_are c.args.self.now ∙ ap (λ (p : Parts). p.units) (sym c.self.view_is) in
    let new = units_are (record p { units = p.units - 1 }) in
    absurd (omega (arith, old, new, some, same))
