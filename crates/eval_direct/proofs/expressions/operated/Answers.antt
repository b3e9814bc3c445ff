use Rattle.std.proofs.Common.{◌∙◌}
use Rattle.eval_state.specs.Run.{run_of}
use Rattle.eval_direct.proofs.Operands.{operator_came, operator_waits}
use Rattle.eval_direct.proofs.expressions.operated.Goals as goal

pub returns-in-None : goal.returns-in-None
returns-in-None c =
    operator_waits c.waits.result c.later.new.late c.waits.new.late c.args.kind c.args.x c.args.y
    (run_of c.args.m.now) c.later.ensures.told (c.later.ensures.still ∙ c.requires) c.waits.ensures

pub returns-in-Some : goal.returns-in-Some
returns-in-Some c =
    operator_came c.came.result c.came.new.late c.args.kind c.args.x c.args.y c.in-Some.v (run_of c.args.m.now)
    (run_of c.came.new.m) c.in-Some.ensures c.came.ensures
