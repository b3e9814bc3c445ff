use Rattle.typed_tree.specs.View.{expr_view}
use Rattle.eval_state.specs.Run.{run_of}
use Rattle.eval_simple.proofs.Done.{sets}
use Rattle.eval_simple.proofs.effects.set_variable.Goals as goal

pub returns-in_ok-set_variable-in-Some : goal.returns-in_ok-set_variable-in-Some
returns-in_ok-set_variable-in-Some c =
    sets (run_of c.args.m.now) (run_of c.leave.new.m) (run_of c.set_variable.new.self) (expr_view c.args.a.now)
    c.args.i
    c.units-left.result c.in-Some.v c.last_part.new.left c.units-left.ensures c.in-Some.ensures.value
    c.in-Some.ensures.less c.leave.ensures c.in_ok-set_variable-in-Some.ensures
