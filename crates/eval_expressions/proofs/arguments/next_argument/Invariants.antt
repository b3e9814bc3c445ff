use Rattle.std.proofs.Common.{length}
use Rattle.eval_state.specs.Run.{run_of}
use Rattle.eval_state.specs.Views.{args_view, target_view}
use Rattle.eval_expressions.proofs.AtOnce.{IsLeft}
use Rattle.eval_expressions.proofs.arguments.next_argument.Given as goal

abbrev pub invariant-loop-e : goal.invariant-loop-e
invariant-loop-e l =
    IsLeft (target_view l.target) (args_view l.rest) (args_view l.list) l.done l.fn.done (run_of l.m) (run_of l.fn.m)

abbrev pub decreases-loop-e : goal.decreases-loop-e
decreases-loop-e l = length l.rest
