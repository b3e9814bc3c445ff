use Rattle.eval_state.specs.Run.{run_of}
use Rattle.eval_state.specs.Views.{now_view}
use Rattle.eval_expressions.proofs.Steps.{gives}
use Rattle.eval_expressions.proofs.next.give.Goals as goal

pub returns : goal.returns
returns c =
    gives (now_view c.spend.result) c.args.v (run_of c.args.m.now) (run_of c.spend.new.self) c.spend.ensures.same
    c.spend.ensures.units c.spend.ensures.less
