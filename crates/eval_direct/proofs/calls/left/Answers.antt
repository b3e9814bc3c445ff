use Rattle.std.proofs.Common.{arith}
use Rattle.eval_state.specs.Run.{run_of}
use Rattle.eval_direct.proofs.Called.{call_left}
use Rattle.eval_direct.proofs.calls.left.Goals as goal

pub back-requires : goal.back-requires
back-requires c = (omega (arith, c.requires.1), c.requires.2)

pub returns : goal.returns
returns c =
    call_left c.came.result c.came.new.late c.args.m.now c.back.new.self c.args.charge c.args.v c.args.caller
    (run_of c.came.new.m) c.requires.1 c.back.ensures c.came.ensures
