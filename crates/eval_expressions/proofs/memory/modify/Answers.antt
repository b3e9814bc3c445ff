use Rattle.eval_expressions.proofs.Accesses as access
use Rattle.eval_expressions.proofs.Frames as frame
use Rattle.eval_expressions.proofs.memory.modify.Goals as goal

pub returns-in-Err : goal.returns-in-Err
returns-in-Err c = access.load_trap_modifies _ _ _ _ _ _ _ c.trap.ensures c.in-Err.ensures

pub returns-in-Ok : goal.returns-in-Ok
returns-in-Ok c =
    frame.goes _ _ _ _ _ _ _ (frame.modify_value _ _ _ _ _ _ c.in-Ok.ensures.0 c.in-Ok.ensures.1) c.wait.ensures
