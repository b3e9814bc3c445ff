use Rattle.std.proofs.Common.{◌+◌, ◌*◌, length}
use Rattle.typed_tree.specs.View.{expr_view}
use Rattle.eval_state.specs.Run.{run_of}
use Rattle.eval_state.specs.Views.{items_view}
use Rattle.eval_direct.proofs.Called.{Going}
use Rattle.eval_direct.proofs.Running.{Runs}
use Rattle.eval_direct.proofs.+direct.Given as goal

-- each function passes one level less of the depth on, or the same one to a function of a lower rank
abbrev pub decreases-expressions::compound : goal.decreases-expressions::compound
decreases-expressions::compound l = 16 * l.depth + 0

abbrev pub decreases-expressions::part : goal.decreases-expressions::part
decreases-expressions::part l = 16 * l.depth + 1

abbrev pub decreases-expressions::returned : goal.decreases-expressions::returned
decreases-expressions::returned l = 16 * l.depth + 2

abbrev pub decreases-statements::expression : goal.decreases-statements::expression
decreases-statements::expression l = 16 * l.depth + 2

abbrev pub decreases-statements::statement : goal.decreases-statements::statement
decreases-statements::statement l = 16 * l.depth + 3

abbrev pub decreases-statements::plain : goal.decreases-statements::plain
decreases-statements::plain l = 16 * l.depth + 4

abbrev pub decreases-statements::item : goal.decreases-statements::item
decreases-statements::item l = 16 * l.depth + 5

abbrev pub decreases-statements::items : goal.decreases-statements::items
decreases-statements::items l = 16 * l.depth + 6

abbrev pub decreases-statements::block : goal.decreases-statements::block
decreases-statements::block l = 16 * l.depth + 7

abbrev pub decreases-calls::body : goal.decreases-calls::body
decreases-calls::body l = 16 * l.depth + 8

abbrev pub decreases-calls::entered : goal.decreases-calls::entered
decreases-calls::entered l = 16 * l.depth + 9

abbrev pub decreases-calls::called : goal.decreases-calls::called
decreases-calls::called l = 16 * l.depth + 10

abbrev pub decreases-calls::call : goal.decreases-calls::call
decreases-calls::call l = 16 * l.depth + 11

abbrev pub decreases-expressions::second : goal.decreases-expressions::second
decreases-expressions::second l = 16 * l.depth + 11

abbrev pub decreases-expressions::binary : goal.decreases-expressions::binary
decreases-expressions::binary l = 16 * l.depth + 12

abbrev pub decreases-expressions::set_variable : goal.decreases-expressions::set_variable
decreases-expressions::set_variable l = 16 * l.depth + 12

-- the loops over arguments, over the variables of a block, and over items

abbrev pub invariant-calls::call-loop-a : goal.invariant-calls::call-loop-a
invariant-calls::call-loop-a l =
    Going l.answer l.f (expr_view l.e) l.list l.rest l.done l.late (run_of l.fn.m) (run_of l.m)

abbrev pub decreases-calls::call-loop-a : goal.decreases-calls::call-loop-a
decreases-calls::call-loop-a l = length l.rest

abbrev pub invariant-statements::block-loop-s : goal.invariant-statements::block-loop-s
invariant-statements::block-loop-s l =
    Runs (items_view l.variables) (items_view l.rest) l.late (run_of l.fn.m) (run_of l.m)

abbrev pub decreases-statements::block-loop-s : goal.decreases-statements::block-loop-s
decreases-statements::block-loop-s l = length l.rest

abbrev pub invariant-statements::items-loop-s : goal.invariant-statements::items-loop-s
invariant-statements::items-loop-s l =
    Runs (items_view l.list) (items_view l.rest) l.late (run_of l.fn.m) (run_of l.m)

abbrev pub decreases-statements::items-loop-s : goal.decreases-statements::items-loop-s
decreases-statements::items-loop-s l = length l.rest
