use Rattle.std.proofs.Common.{◌+◌, ◌*◌, ◌≤◌, ℕ, List, length, map, sym, subst}
use Rattle.word32.specs.declared.map.TheConstants.{ARENA}
use Rattle.typed_tree.specs.View.{function_view}
use Rattle.static_image.specs.Layout.{generators}
use Rattle.static_backend.specs.Ticks.{ticks_view}
use Rattle.static_backend.proofs.Generators.{room, numbers}
use Rattle.static_backend.proofs.functions.functions_code.Goals as goal

pub generated-requires-clause-room : goal.generated-requires-clause-room
generated-requires-clause-room c =
    let plan = c.in_ok-plan.field-0.plan in
    let ticks = ticks_view c.args.ticks.now in
    let p = c.in_ok-plan.ensures in
    subst (λ (ss : List ℕ). plan.end + 4 * length (generators ss ticks) ≤ ARENA) (sym c.deref.ensures.value)
    (room (map function_view c.args.functions.now) c.requires.functions.0 ticks p.0 plan.starts.items _ plan.end
    c.requires.functions.1 p.1 p.2.plan)

pub generated-requires-clause-numbers : goal.generated-requires-clause-numbers
generated-requires-clause-numbers c =
    numbers (map function_view c.args.functions.now) c.requires.functions.0 c.args.ticks.now c.requires.functions.1
