use Rattle.std.proofs.Common.{◌≡◌, ◌+◌, ◌-◌, ◌≤◌, suc, length, slice_get, Some, ap, sym, ◌∙◌, arith}
use Rattle.std.specs.Option.{option_map}
use Rattle.staged_meaning.specs.Program.{parameters}
use Rattle.eval_state.specs.declared.state.Parts.{Parts}
use Rattle.eval_state.specs.Kept.{rows_view}
use Rattle.eval_state.proofs.Callees.{code_at, made_at, none_at, static_at}
use Rattle.eval_state.proofs.Codes.{past_end}
use Rattle.eval_stages.proofs.calls.parameters_of.Goals as goal

pub returns-in-Some : goal.returns-in-Some
returns-in-Some c =
    let p = c.args.m.now in
    let i = c.args.number - 1 in
    let next : c.args.number ≡ suc i = omega (arith, c.if-number-eq0.false) in
    let functions = c.functions-functions.ensures ∙ ap (λ (p : Parts). p.typed.now.functions) c.m.view_is in
    let at = ap (λ fs. slice_get fs i) (sym functions) ∙ sym c.in-Some.ensures in
    ap (option_map parameters) (sym (static_at p c.args.number i c.in-Some.function.now next at))

pub returns-in-None-get : goal.returns-in-None-get
returns-in-None-get c =
    let p = c.args.m.now in
    let first = length c.functions-functions.result.now in
    let i = c.args.number - 1 - first in
    let functions = c.functions-functions.ensures ∙ ap (λ (p : Parts). p.typed.now.functions) c.m.view_is in
    let same : first ≡ length p.typed.now.functions = ap length functions in
    let past : first ≤ c.args.number - 1 = past_end _ _ (sym c.in-None.ensures) in
    let next : c.args.number ≡ length p.typed.now.functions + suc i =
    omega (arith, c.if-number-eq0.false, same, past) in
    let at = ap (λ (q : Parts). slice_get q.compiled i) (sym c.m.view_is) ∙ sym c.in-None-get.ensures.value in
    ap (option_map parameters) (sym (none_at p c.args.number i next at))

pub returns-in-Some-get : goal.returns-in-Some-get
returns-in-Some-get c =
    let p = c.args.m.now in
    let first = length c.functions-functions.result.now in
    let i = c.args.number - 1 - first in
    let functions = c.functions-functions.ensures ∙ ap (λ (p : Parts). p.typed.now.functions) c.m.view_is in
    let same : first ≡ length p.typed.now.functions = ap length functions in
    let past : first ≤ c.args.number - 1 = past_end _ _ (sym c.in-None.ensures) in
    let next : c.args.number ≡ length p.typed.now.functions + suc i =
    omega (arith, c.if-number-eq0.false, same, past) in
    let at = ap (λ (q : Parts). slice_get q.compiled i) (sym c.m.view_is) ∙ sym c.in-Some-get.ensures.value in
    let made = made_at (rows_view p.rows) p.compiled i c.in-Some-get.made.now at c.keeps_law.ensures.3.made in
    ap Some (c.parameters_of_row.ensures made.0)
    ∙ ap (option_map parameters) (sym (code_at p c.args.number i c.in-Some-get.made.now next at))
