use Rattle.std.proofs.Common.{◌≤◌, ◌∙◌, arith}
use Rattle.typed_tree.specs.View.{stmt_view}
use Rattle.eval_state.specs.Run.{run_of}
use Rattle.eval_state.specs.Views.{now_view}
use Rattle.eval_simple.proofs.Going.{same_as}
use Rattle.eval_statements.proofs.AtOnce as once
use Rattle.eval_statements.proofs.Starts as start
use Rattle.eval_statements.proofs.begin.exec.Goals as goal

pub returns-clause-same : goal.returns-clause-same
returns-clause-same c =
    same_as c.further-2.result (run_of c.further-2.new.m) _ _ c.further-2.ensures.same
    (c.in_ok-begun.ensures.same
    ∙ start.starts (stmt_view c.args.s.now) (now_view c.in_ok-next.next) (run_of c.args.m.now) (run_of c.going.new.m)
    c.in_ok-next.ensures)

pub returns-clause-units : goal.returns-clause-units
returns-clause-units c =
    once.units_behind c.further-2.result (run_of c.further.new.m) (run_of c.further-2.new.m) (run_of c.args.m.now)
    (omega (
      arith,
      start.goes_fewer (stmt_view c.args.s.now) (now_view c.in_ok-next.next) (run_of c.args.m.now)
          (run_of c.going.new.m) c.in_ok-next.ensures,
      c.in_ok-begun.ensures.units,
    ))
    c.further-2.ensures.units

pub returns-clause-less : goal.returns-clause-less
returns-clause-less c =
    start.lighter_behind c.further-2.result (stmt_view c.args.s.now) (now_view c.in_ok-next.next)
    (now_view c.in_ok-begun.begun) (run_of c.args.m.now) (run_of c.going.new.m) (run_of c.further.new.m)
    (run_of c.further-2.new.m) c.in_ok-next.ensures c.in_ok-begun.ensures.units c.in_ok-begun.ensures.less
    c.further-2.ensures.units c.further-2.ensures.less
