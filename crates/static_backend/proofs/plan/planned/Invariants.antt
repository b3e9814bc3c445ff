use Rattle.std.proofs.Common.{◌≡◌, List}
use Rattle.static_image.specs.Layout.{Placed, functions_of}
use Rattle.static_backend.specs.Plans.{IsDraftOf}
use Rattle.static_backend.specs.Ticks.{ticks_view}
use Rattle.static_backend.proofs.Loops.{front_of}
use Rattle.static_backend.proofs.plan.planned.Given as goal

abbrev pub invariant-loop-function : goal.invariant-loop-function
invariant-loop-function l =
    (placed : List Placed) × (functions_of placed ≡ front_of l.function-index l.functions)
    × IsDraftOf (ticks_view l.ticks) placed l.draft
