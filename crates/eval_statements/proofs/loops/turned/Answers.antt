use Rattle.std.proofs.Common.{refl}
use Rattle.typed_tree.specs.View.{expr_view, stmt_view}
use Rattle.eval_state.specs.Run.{run_of}
use Rattle.eval_state.specs.Views.{step_view}
use Rattle.eval_statements.proofs.Turns.{turn_lacks, turn_more, turn_none}
use Rattle.eval_statements.proofs.loops.turned.Goals as goal

pub returns-then-not-spend_one : goal.returns-then-not-spend_one
returns-then-not-spend_one c =
    turn_lacks c.args.m.now c.spend_one.new.self _ (c.if-not-spend_one.ensures.none refl)

pub returns-then-many-eq0 : goal.returns-then-many-eq0
returns-then-many-eq0 c =
    turn_none (run_of c.args.m.now) (run_of c.spend_one.new.self) (c.if-not-spend_one.ensures.some refl) c.args.many
    (expr_view c.args.e.now) (step_view c.args.step) (stmt_view c.args.s.now) c.if-many-eq0.true

pub returns : goal.returns
returns c =
    turn_more (run_of c.args.m.now) (run_of c.spend_one.new.self) (c.if-not-spend_one.ensures.some refl) c.turn.result
    (run_of c.turn.new.m) c.args.many (expr_view c.args.e.now) (step_view c.args.step) (stmt_view c.args.s.now)
    c.if-many-eq0.false c.turn.ensures
