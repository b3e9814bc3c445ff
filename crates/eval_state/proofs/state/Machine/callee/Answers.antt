use Rattle.std.proofs.Common.{rules, ◌≡◌, ◌≢◌, ◌-◌, suc, slice_get, ap, sym, subst, ◌∙◌, arith}
use Rattle.meaning_state.specs.Shared.{limit_trap}
use Rattle.wellformed.specs.Program.{IsWellFormed}
use Rattle.eval_state.specs.declared.state.Parts.{Parts}
use Rattle.eval_state.specs.Run.{run_of, world}
use Rattle.eval_state.proofs.Bodies.{is_callee}
use Rattle.eval_state.proofs.Codes.{function_small}
use Rattle.eval_state.proofs.state.Machine.callee.Goals as goal

pub charge_of-requires : goal.charge_of-requires
charge_of-requires c =
    let at = ap (λ fs. slice_get fs (c.args.number - 1)) (sym c.functions.ensures) ∙ sym c.in-Some.ensures in
    (function_small _ (c.args.number - 1) c.in-Some.function.now c.keeps_law.ensures at).1

pub returns-in-None-limit : goal.returns-in-None-limit
returns-in-None-limit c =
    let p = c.args.self.now in
    let i = c.args.number - 1 in
    let row : c.self.inside.parts.body.row ≡ 0 = search rules in
    let some : c.self.inside.parts.depth ≢ 0 = search rules in
    let next : c.args.number ≡ suc i = omega (arith, c.if-number-eq0.false) in
    let functions = c.functions.ensures ∙ ap (λ (p : Parts). p.typed.now.functions) c.self.view_is in
    let law = subst (λ (p : Parts). IsWellFormed p.typed.now) c.self.view_is c.keeps_law.ensures in
    is_callee p c.args.number i c.in-Some.function.now
    (ap (λ (p : Parts). p.body.row) (sym c.self.view_is) ∙ row)
    (λ e. some (ap (λ (p : Parts). p.depth) c.self.view_is ∙ e))
    next law (ap (λ fs. slice_get fs i) (sym functions) ∙ sym c.in-Some.ensures)
    (c.in-None-limit.ensures
    ∙ ap (λ n. limit_trap n c.in-Some.function.now.object (world (run_of p)).shared) c.charge_of.ensures)
