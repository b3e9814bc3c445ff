use Rattle.std.proofs.Common.{◌∙◌}
use Rattle.eval_state.specs.Run.{run_of}
use Rattle.eval_direct.proofs.Operands.{came_is, no_unit_left, unit_spent}
use Rattle.eval_direct.proofs.expressions.came.Goals as goal

pub returns-then-not-spend_one : goal.returns-then-not-spend_one
returns-then-not-spend_one c =
    came_is _ _ _ _ _ _ c.later.ensures.came
    (no_unit_left c.later.new.late c.args.v c.args.m.now c.spend_one.new.self c.later.ensures.told
    (c.later.ensures.still ∙ c.requires) (c.spend_one.ensures.none c.if-not-spend_one.true))

pub returns : goal.returns
returns c =
    let some = c.spend_one.ensures.some c.if-not-spend_one.false in
    unit_spent c.args.late.now c.args.v (run_of c.args.m.now) (run_of c.spend_one.new.self) c.requires some.0 some.1
