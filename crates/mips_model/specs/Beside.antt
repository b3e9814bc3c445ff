-- A state with another outside. Only services see what passed between a run and the outside, so whoever keeps the rest
-- of a state can run all other instructions, and the outside may be anything.
use Rattle.std.specs.Prelude.{ℕ, Bool, false, nat_eq, Result, Ok, Err}
use Rattle.host_edge.specs.declared.ending.MachineKind.{MachineKind}
use Rattle.mips_model.specs.State.{Outside, Data, State, World}
use Rattle.mips_model.specs.Steps.{word_at}

abbrev pub aside : Outside → Data → Data
aside o d = record d { outside = o }

abbrev pub beside_state : Outside → State → State
beside_state o s = record s { d = aside o s.d }

abbrev pub beside : Outside → World → World
beside o w = record w { state = beside_state o w.state }

-- the next word is that of SYSCALL
abbrev pub is_service : Result ℕ MachineKind → Bool
is_service (Ok w) = nat_eq w 12
is_service (Err k) = false

abbrev pub is_at_service : State → Bool
is_at_service s = is_service (word_at s.code s.pc)
