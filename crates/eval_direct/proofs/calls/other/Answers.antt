use Rattle.std.proofs.Common.{◌∙◌}
use Rattle.eval_state.specs.Run.{run_of}
use Rattle.eval_direct.proofs.Called.{call_later, last_waits}
use Rattle.eval_direct.proofs.Operands.{came_is}
use Rattle.eval_direct.proofs.calls.other.Goals as goal

pub returns-in-None : goal.returns-in-None
returns-in-None c =
    came_is _ _ _ _ _ _ c.later.ensures.came
    (call_later c.later.new.late c.args.e (run_of c.args.m.now) _ c.later.ensures.told
    (c.later.ensures.still ∙ c.requires.0) (c.requires.3 c.in-None.ensures.0))

pub returns-in-Some : goal.returns-in-Some
returns-in-Some c =
    last_waits c.argument_waits.result c.later-in-Some.new.late c.argument_waits.new.late c.args.answer c.args.f
    c.args.rest c.pop.new.self c.args.done c.in-Some.last (run_of c.args.m.now) _ c.in-Some.ensures c.requires.1
    c.later-in-Some.ensures.told (c.later-in-Some.ensures.still ∙ c.requires.0) c.argument_waits.ensures c.requires.2
