use Rattle.std.proofs.Common.{rules, ◌≡◌, ◌<◌, ◌≤◌, [], ◌∷◌, ◌++◌, length, map, get_or, refl, sym, ap, ◌∙◌, subst}
use Rattle.std.proofs.Common.{arith}
use Rattle.icode_ir.specs.Sound.{Each}
use Rattle.typed_tree.specs.View.{function_view}
use Rattle.static_image.specs.Layout.{Placed}
use Rattle.static_image.specs.Served.{IsStatic, most_words}
use Rattle.static_backend.specs.Ticks.{ticks_view}
use Rattle.static_backend.proofs.Grown.{functions_more}
use Rattle.static_backend.proofs.Loops.{front_more, front_static, front_few, next_static, all_in_front}
use Rattle.static_backend.proofs.Planned as plan
use Rattle.static_backend.proofs.Drafts.{first_draft}
use Rattle.static_backend.proofs.plan.planned.Goals as goal

pub loop-function-init : goal.loop-function-init
loop-function-init c = (
  [],
  refl,
  record {
    plan = plan.first_plan c.new.result.items _ c.new.ensures.items (ap (map (λ v. v.items)) c.new-2.ensures.items);
    words = first_draft (ticks_view c.args.ticks.now) c.new-3.result.items c.new-4.result.items c.new-4.ensures.items;
    many = ap length c.new-3.ensures.items;
  },
)

pub place-requires-clause-served : goal.place-requires-clause-served
place-requires-clause-served c =
    let fs = c.args.functions.now in
    let gs = map function_view fs in (
      gs,
      c.requires.functions.0,
      next_static gs c.requires.functions.0 c.loop-function.function-index fs c.function-item.result (search rules)
          (search rules)
          c.requires.functions.1.each,
    )

pub place-requires-clause-aligned : goal.place-requires-clause-aligned
place-requires-clause-aligned c =
    let p = c.loop-function.invariant in
    plan.aligned p.0 c.loop-function.draft.plan.starts.items _ c.loop-function.draft.plan.end p.2.plan

pub place-requires-clause-low : goal.place-requires-clause-low
place-requires-clause-low c =
    let p = c.loop-function.invariant in
    let fs = c.args.functions.now in
    let gs = map function_view fs in
    let i = c.loop-function.function-index in
    let each = subst (Each (IsStatic gs c.requires.functions.0)) (sym p.1)
    (front_static gs c.requires.functions.0 i fs c.requires.functions.1.each) in
    let less : most_words (map (λ (x : Placed). x.function) p.0) ≤ most_words gs =
    omega (arith, front_few i fs, ap most_words p.1) in
    plan.low gs c.requires.functions.0 (ticks_view c.args.ticks.now) p.0 c.loop-function.draft.plan.starts.items _
    c.loop-function.draft.plan.end c.requires.functions.1 each less p.2.plan

pub loop-function-preserved : goal.loop-function-preserved
loop-function-preserved c =
    let p = c.loop-function.invariant in
    let i = c.loop-function.function-index in
    let fs = c.args.functions.now in
    let f = c.function-item.result in
    let low : i < length fs = search rules in
    let is : f ≡ get_or fs i f = search rules in
    let next = c.in_ok-place.ensures p.0 p.2 in
    let x : Placed = record { function = function_view f; places = next.0 } in (
      p.0 ++ x ∷ [],
      functions_more p.0 x ∙ ap (λ gs. gs ++ function_view f ∷ []) p.1 ∙ front_more i fs f low is,
      next.1,
    )

pub returns : goal.returns
returns c =
    let p = c.loop-function.invariant in
    (p.0, p.1 ∙ all_in_front c.loop-function.function-index c.args.functions.now (search rules), p.2)
