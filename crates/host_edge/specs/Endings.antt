-- The names that lines on standard error give to traps and machine faults, as UTF-8 bytes.
-- Each is spelled as its variant is; the spelling is the product's own rule, and scripts may read it.
use Rattle.std.specs.Prelude.{ℕ, List, codes}
use Rattle.host_edge.specs.declared.ending.TrapKind.{TrapKind}
use Rattle.host_edge.specs.declared.ending.MachineKind.{MachineKind}
use Rattle.host_edge.specs.declared.ending.TrapKind.TheVariants as trap
use Rattle.host_edge.specs.declared.ending.MachineKind.TheVariants as machine

-- the name of a trap
abbrev pub trap_name : TrapKind → List ℕ
trap_name trap.Range = codes "Range"
trap_name trap.Misaligned = codes "Misaligned"
trap_name trap.DivideByZero = codes "DivideByZero"
trap_name trap.DivideOverflow = codes "DivideOverflow"
trap_name trap.BadCall = codes "BadCall"
trap_name trap.BadSpec = codes "BadSpec"
trap_name trap.BadParam = codes "BadParam"
trap_name trap.StackLimit = codes "StackLimit"
trap_name trap.FrameLimit = codes "FrameLimit"
trap_name trap.SpecLimit = codes "SpecLimit"
trap_name trap.SizeLimit = codes "SizeLimit"
trap_name trap.ArenaLimit = codes "ArenaLimit"
trap_name trap.TableLimit = codes "TableLimit"

-- the name of a machine fault
abbrev pub machine_name : MachineKind → List ℕ
machine_name machine.Hazard = codes "Hazard"
machine_name machine.Stale = codes "Stale"
machine_name machine.Reserved = codes "Reserved"
machine_name machine.BadService = codes "BadService"
machine_name machine.Fetch = codes "Fetch"
machine_name machine.Overflow = codes "Overflow"
