use Rattle.eval_state.specs.Run.{run_of}
use Rattle.eval_state.specs.Views.{items_view}
use Rattle.eval_statements.proofs.Labels.{otherwise_lightens, weighed}
use Rattle.eval_statements.proofs.switches.otherwise.Goals as goal

pub returns-in-Some-clause-less : goal.returns-in-Some-clause-less
returns-in-Some-clause-less c =
    let r = run_of c.args.m.now in
    otherwise_lightens c.push.result (run_of c.push.new.self) r 0 (items_view c.in-Some.more.now)
    (items_view c.args.items.now) c.push.ensures.less (c.in-Some.ensures.tail (weighed r))
