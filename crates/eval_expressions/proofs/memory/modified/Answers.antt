use Rattle.std.proofs.Common.{sym, ◌∙◌}
use Rattle.eval_expressions.proofs.Accesses as access
use Rattle.eval_expressions.proofs.memory.modified.Goals as goal

pub returns-in-None : goal.returns-in-None
returns-in-None c = access.modify_traps _ _ _ _ _ _ _ _ c.trap.ensures c.division_trap.ensures

pub returns-in-Some : goal.returns-in-Some
returns-in-Some c =
    access.modify_puts _ _ _ _ _ c.in-Some.new c.narrowed.result _ _ _ c.args.place.fits (sym c.binary_value.ensures ∙
    c.in-Some.is) c.narrowed.ensures c.put.ensures
