-- Traps as what is done now.
use Rattle.host_edge.specs.declared.ending.TrapKind.{TrapKind}
use Rattle.host_edge.specs.declared.ending.Ending.TheVariants.{Trap}
use Rattle.history.specs.Events.{Ended}
use Rattle.eval_state.specs.Pending.{Now}
use Rattle.eval_state.specs.Pending as pending

abbrev pub trap_at : TrapKind → Now
trap_at kind = pending.Ended (Ended (Trap kind))
