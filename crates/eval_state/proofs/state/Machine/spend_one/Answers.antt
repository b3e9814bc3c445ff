use Rattle.std.proofs.Common.{rules, ◌≡◌, ◌≢◌, ◌-◌, refl, ap, sym, ◌∙◌}
use Rattle.eval_state.specs.declared.state.Parts.{Parts}
use Rattle.eval_state.specs.Run.{run_of, with_units, world}
use Rattle.eval_state.proofs.Changes.{takes_unit, units_are}
use Rattle.eval_state.proofs.state.Machine.spend_one.Goals as goal

pub returns-then-self-eq0-clause-none : goal.returns-then-self-eq0-clause-none
returns-then-self-eq0-clause-none c =
    let zero : c.self.inside.parts.units ≡ 0 = search rules in
    λ h. (units_are c.args.self.now ∙ ap (λ (p : Parts). p.units) (sym c.self.view_is) ∙ zero, refl)

pub returns-clause-some : goal.returns-clause-some
returns-clause-some c =
    let p = c.self.inside.parts in
    let some : p.units ≢ 0 = search rules in
    λ h. (
      λ e. some (ap (λ (p : Parts). p.units) c.self.view_is ∙ sym (units_are c.args.self.now) ∙ e),
      takes_unit p (record p { units = p.units - 1 }) refl
          ∙ ap (λ (p : Parts). with_units ((world (run_of p)).units - 1) (run_of p)) c.self.view_is,
    )
