use Rattle.std.proofs.Common.{arith}
use Rattle.typed_tree.specs.View.{expr_view, stmt_view}
use Rattle.eval_state.specs.Pending as pending
use Rattle.eval_state.specs.Run.{run_of}
use Rattle.eval_state.specs.Views.{now_view, step_view}
use Rattle.eval_simple.proofs.Stepped.{parts_below}
use Rattle.eval_statements.proofs.Starts as start
use Rattle.eval_statements.proofs.Taken.{test_fails}
use Rattle.eval_statements.proofs.loops.test.Goals as goal

pub returns-then-v-eq0 : goal.returns-then-v-eq0
returns-then-v-eq0 c =
    test_fails c.args.more (expr_view c.args.e.now) (step_view c.args.step) (stmt_view c.args.s.now) c.args.v
    (run_of c.args.m.now) c.if-v-eq0.true

pub returns : goal.returns
returns c =
    let r = run_of c.args.m.now in
    let t = run_of c.going.new.m in
    let u = run_of c.push.new.self in
    let e = expr_view c.args.e.now in
    let step = step_view c.args.step in
    let s = stmt_view c.args.s.now in
    let n = now_view c.in_ok-next.next in
    parts_below c.push.result _ _ _ _ r u
    (start.turn_goes c.args.more e step s c.args.v n r t c.if-v-eq0.false c.in_ok-next.ensures) (omega arith)
    c.push.ensures.same (start.pushed_fewer c.push.result s n r t u c.in_ok-next.ensures c.push.ensures.units)
    (start.pushed_lighter c.push.result (pending.Turn c.args.more e step s) s n r t u _ c.in_ok-next.ensures
    c.push.ensures.units c.push.ensures.less (start.turn_weighs c.args.more e step s r))
