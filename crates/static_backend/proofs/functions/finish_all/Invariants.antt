use Rattle.std.proofs.Common.{◌≡◌, List, length, map}
use Rattle.typed_tree.specs.View.{function_view}
use Rattle.static_image.specs.Layout.{Placed, functions_of}
use Rattle.static_backend.specs.Plans.{IsPlanOf, all_at}
use Rattle.static_backend.specs.Ticks.{ticks_view}
use Rattle.static_backend.proofs.Coded.{HasCode}
use Rattle.static_backend.proofs.functions.finish_all.Given as goal

abbrev pub invariant-loop-i : goal.invariant-loop-i
invariant-loop-i l =
    (xs : List Placed) × (functions_of xs ≡ map function_view l.functions) × IsPlanOf xs l.plan
    × (length l.plan.made.items ≡ length xs)
    × HasCode (all_at l.plan l.generators (ticks_view l.ticks)) l.i xs l.plan.made.items l.code.words.items
    l.code.rows.items
