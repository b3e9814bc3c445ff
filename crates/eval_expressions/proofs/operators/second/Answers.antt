use Rattle.std.proofs.Common.{sym, ◌∙◌}
use Rattle.eval_expressions.proofs.Accesses as access
use Rattle.eval_expressions.proofs.operators.second.Goals as goal

pub returns-in-None : goal.returns-in-None
returns-in-None c = access.second_traps _ _ _ _ _ _ c.trap.ensures c.division_trap.ensures

pub returns-in-Some : goal.returns-in-Some
returns-in-Some c =
    access.second_gives _ _ _ c.in-Some.v _ _ _ (sym c.binary_value.ensures ∙ c.in-Some.is) c.give.ensures
