use Rattle.typed_tree.specs.View.{expr_view}
use Rattle.eval_state.specs.Run.{run_of}
use Rattle.eval_simple.proofs.Done.{stores}
use Rattle.eval_simple.proofs.effects.store.Goals as goal

pub returns-in-Ok : goal.returns-in-Ok
returns-in-Ok c =
    stores (run_of c.args.m.now) (run_of c.store.new.self) (run_of c.leave.new.m) (expr_view c.args.a.now)
    (expr_view c.args.b.now) c.args.width c.units-left.result c.in_ok-at.at c.part.new.left c.in_ok-v.v
    c.last_part.new.left c.units-left.ensures c.in_ok-at.ensures.value c.in_ok-at.ensures.less c.in_ok-v.ensures.value
    c.in_ok-v.ensures.less c.in-Ok.ensures.0 c.in-Ok.ensures.1 c.leave.ensures
