use Rattle.std.proofs.Common.{◌+◌, arith}
use Rattle.typed_tree.specs.Nodes as node
use Rattle.eval_state.specs.Pending as pending
use Rattle.eval_state.specs.Less.{heft, waiting}
use Rattle.eval_state.specs.Run.{run_of}
use Rattle.eval_state.specs.Views.{items_view}
use Rattle.eval_simple.proofs.Going.{same_as}
use Rattle.eval_simple.proofs.Going as going
use Rattle.eval_statements.proofs.Starts as start
use Rattle.eval_statements.proofs.parts.block.Goals as goal

pub returns-in-true-clause-same : goal.returns-in-true-clause-same
returns-in-true-clause-same c =
    same_as c.run.result (run_of c.run.new.m) _ _ c.run.ensures.same
    (start.declared (items_view c.args.variables.now) (items_view c.in_ok-rest.rest.now)
    (items_view c.args.items.now) (run_of c.args.m.now) (run_of c.ran_all.new.m) c.in_ok-rest.ensures
    (start.none_left c.in_ok-rest.rest.now c.in-true.ensures))

pub returns-in-true-clause-less : goal.returns-in-true-clause-less
returns-in-true-clause-less c =
    let variables = items_view c.args.variables.now in
    let rest = items_view c.in_ok-rest.rest.now in
    let items = items_view c.args.items.now in
    let r = run_of c.args.m.now in
    let t = run_of c.ran_all.new.m in
    going.lighter_yet c.run.result r t (run_of c.run.new.m) (heft (pending.Run items) t)
    (heft (pending.Exec (node.Block variables items)) r)
    (start.ran_fewer variables rest r t c.in_ok-rest.ensures)
    (λ same. omega (arith, start.block_lighter_yet variables rest items r t c.in_ok-rest.ensures))
    c.run.ensures.units c.run.ensures.less

pub returns-in-false-clause-less : goal.returns-in-false-clause-less
returns-in-false-clause-less c =
    let variables = items_view c.args.variables.now in
    let rest = items_view c.in_ok-rest.rest.now in
    let items = items_view c.args.items.now in
    let r = run_of c.args.m.now in
    let t = run_of c.ran_all.new.m in
    start.lighter_now c.push.result r (run_of c.push.new.self)
    (heft (pending.Run rest) t + waiting (pending.Rest items) t)
    (heft (pending.Exec (node.Block variables items)) r) c.push.ensures.less
    (start.block_lighter variables rest items r t c.in_ok-rest.ensures)
