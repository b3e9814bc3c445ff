use Rattle.typed_tree.specs.View.{expr_view, stmt_view}
use Rattle.eval_state.specs.Run.{run_of}
use Rattle.eval_statements.proofs.Turns.{again_ends, again_more, again_none}
use Rattle.eval_statements.proofs.loops.again.Goals as goal

pub returns-then-v-eq0 : goal.returns-then-v-eq0
returns-then-v-eq0 c =
    again_ends (run_of c.args.m.now) c.args.v c.args.many (stmt_view c.args.s.now) (expr_view c.args.e.now)
    c.if-v-eq0.true

pub returns-then-many-eq0 : goal.returns-then-many-eq0
returns-then-many-eq0 c =
    again_none (run_of c.args.m.now) c.args.v c.args.many (stmt_view c.args.s.now) (expr_view c.args.e.now)
    c.if-v-eq0.false c.if-many-eq0.true

pub returns : goal.returns
returns c =
    again_more c.push.result (run_of c.args.m.now) (run_of c.push.new.self) c.args.v c.args.many
    (stmt_view c.args.s.now) (expr_view c.args.e.now) c.if-v-eq0.false c.if-many-eq0.false c.push.ensures.same
    c.push.ensures.units c.push.ensures.less
