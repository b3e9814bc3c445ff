use Rattle.std.proofs.Common.{rules, ◌≡◌, ◌≢◌, ◌-◌, ◌≤◌, suc, length, slice_get, Some, ap, sym, ◌∙◌, arith}
use Rattle.typed_tree.specs.View.{function_view}
use Rattle.staged_meaning.specs.Program.{Static}
use Rattle.eval_state.specs.declared.state.Parts.{Parts}
use Rattle.eval_state.specs.Run.{run_of}
use Rattle.eval_state.proofs.Callees.{callee_in, calls_to, no_callee, static_at, too_deep, zero_at}
use Rattle.eval_state.proofs.Codes.{function_small, ok_at, past_end}
use Rattle.eval_stages.proofs.calls.call.Goals as goal

pub returns-then-m-eq0-clause-same : goal.returns-then-m-eq0-clause-same
returns-then-m-eq0-clause-same c =
    let none : c.m.inside.parts.depth ≡ 0 = search rules in
    too_deep c.args.m.now c.args.answer c.args.number c.args.arguments
    (ap (λ (p : Parts). p.depth) (sym c.m.view_is) ∙ none)

pub returns-then-number-eq0-clause-same : goal.returns-then-number-eq0-clause-same
returns-then-number-eq0-clause-same c =
    let some : c.m.inside.parts.depth ≢ 0 = search rules in
    let zero : c.args.number ≡ 0 = search rules in
    no_callee c.args.m.now c.args.answer c.args.number c.args.arguments
    (λ e. some (ap (λ (p : Parts). p.depth) c.m.view_is ∙ e)) (zero_at c.args.m.now c.args.number zero)

pub call_compiled-requires : goal.call_compiled-requires
call_compiled-requires c =
    let some : c.m.inside.parts.depth ≢ 0 = search rules in
    let functions = c.functions.ensures ∙ ap (λ (p : Parts). p.typed.now.functions) c.m.view_is in
    let same : length c.functions.result.now ≡ length c.args.m.now.typed.now.functions = ap length functions in
    let past : length c.functions.result.now ≤ c.args.number - 1 = past_end _ _ (sym c.in-None.ensures) in (
      λ e. some (ap (λ (p : Parts). p.depth) c.m.view_is ∙ e),
      omega (arith, same, past, c.if-number-eq0.false),
    )

pub call_function-requires : goal.call_function-requires
call_function-requires c =
    let some : c.m.inside.parts.depth ≢ 0 = search rules in
    let at = ap (λ fs. slice_get fs (c.args.number - 1)) (sym c.functions.ensures) ∙ sym c.in-Some.ensures in
    let small = function_small _ (c.args.number - 1) c.in-Some.function.now c.keeps_law.ensures at in
    (λ e. some (ap (λ (p : Parts). p.depth) c.m.view_is ∙ e), small.0, small.1)

pub returns-in-Some-clause-same : goal.returns-in-Some-clause-same
returns-in-Some-clause-same c =
    let p = c.args.m.now in
    let i = c.args.number - 1 in
    let next : c.args.number ≡ suc i = omega (arith, c.if-number-eq0.false) in
    let functions = c.functions.ensures ∙ ap (λ (p : Parts). p.typed.now.functions) c.m.view_is in
    let at = ap (λ fs. slice_get fs i) (sym functions) ∙ sym c.in-Some.ensures in
    ok_at c.call_function.result (run_of c.call_function.new.m)
    (λ f. calls_to c.args.m.now c.args.answer f c.args.arguments)
    (λ f. callee_in c.args.m.now f ≡ Some (Static (function_view c.in-Some.function.now))) c.args.number
    (static_at p c.args.number i c.in-Some.function.now next at) c.call_function.ensures.same
