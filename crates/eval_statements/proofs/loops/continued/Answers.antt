use Rattle.std.proofs.Common.{refl}
use Rattle.typed_tree.specs.View.{expr_view, stmt_view}
use Rattle.eval_state.specs.Run.{run_of}
use Rattle.eval_statements.proofs.Turns.{round_lacks, round_waits}
use Rattle.eval_statements.proofs.loops.continued.Goals as goal

pub returns-then-not-spend_one : goal.returns-then-not-spend_one
returns-then-not-spend_one c =
    round_lacks c.args.m.now c.spend_one.new.self c.args.many (stmt_view c.args.s.now) (expr_view c.args.e.now)
    (c.if-not-spend_one.ensures.none refl)

pub returns : goal.returns
returns c =
    round_waits (run_of c.args.m.now) (run_of c.spend_one.new.self) (c.if-not-spend_one.ensures.some refl)
    c.push.result (run_of c.push.new.self) c.args.many (stmt_view c.args.s.now) (expr_view c.args.e.now)
    c.push.ensures.same c.push.ensures.units
