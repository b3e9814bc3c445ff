use Rattle.eval_expressions.proofs.Accesses as access
use Rattle.eval_state.specs.Run.{run_of}
use Rattle.eval_expressions.proofs.memory.post.Goals as goal

pub returns-in-Err : goal.returns-in-Err
returns-in-Err c = access.post_traps _ _ _ _ _ _ c.trap.ensures c.in-Err.ensures

pub returns-in-Ok-store : goal.returns-in-Ok-store
returns-in-Ok-store c =
    access.post_gives c.args.width c.args.step c.args.at c.in-Ok.old c.narrowed.result _ (run_of c.args.m.now)
    (run_of c.store.new.self) (run_of c.give.new.m) c.in-Ok.ensures.0 c.in-Ok.ensures.1 c.narrowed.ensures
    c.in-Ok-store.ensures.1 c.give.ensures
