-- What is known of the states of the staged machine in a run of an accepted text. These are this project's own rules.
use Rattle.std.specs.Prelude.{◌≡◌, ℕ, ◌≤◌, length, Some, None, slice_get}
use Rattle.limits.specs.declared.program.TheConstants.{SIZE_LIMIT}
use Rattle.meaning_state.specs.Shared.{Shared}
use Rattle.meaning_state.specs.Rows.{closure_trap}
use Rattle.typed_tree.specs.Nodes as node
use Rattle.wellformed.specs.Program.{IsProgram}
use Rattle.icode_meaning.specs.State.{Program, Draft, Summing, Filling, State, Making, Compiling}
use Rattle.icode_meaning.specs.State.{log_of}
use Rattle.generator_spec.specs.FittingLaws.{ticks_of}
use Rattle.known_closures_proof.specs.Known.{IsCode, AreKnown}

-- The machine has the text: its source has the ticks of the typed tree, it knows the kinds of what each tick captures,
-- and a function that it takes for a tick's is of a tick that is there.
pub record HasText (p : node.Program) (accepted : IsProgram p) (machine : Program) : Type 0 where
  pub ticks : machine.source.ticks ≡ ticks_of p
  pub there : (address tick : ℕ) → machine.tick_at address ≡ Some tick →
      slice_get accepted.captures tick ≡ Some (machine.kinds tick)

-- a closure that still gets words is of a tick that is there, and there is room for it
pub record IsFilling (p : node.Program) (accepted : IsProgram p) (machine : Program) (tick size : ℕ) (shared : Shared) :
    Type 0 where
  pub there : slice_get accepted.captures tick ≡ Some (machine.kinds tick)
  pub small : size ≤ SIZE_LIMIT
  pub room : closure_trap (length (machine.kinds tick)) shared ≡ None

abbrev pub IsDraft : (p : node.Program) → IsProgram p → Program → Draft → Shared → Type 0
IsDraft p accepted machine (Summing size parameters) shared = Unit {0}
IsDraft p accepted machine (Filling tick size parameters words) shared = IsFilling p accepted machine tick size shared

-- what is only begun: the closure that is being filled, and what is compiled
abbrev pub IsBegun : (p : node.Program) → IsProgram p → Program → State → Type 0
IsBegun p accepted machine (Making draft frame waiting log) = IsDraft p accepted machine draft log.shared
IsBegun p accepted machine (Compiling more syntax to frame waiting log) = IsCode p accepted syntax
IsBegun p accepted machine state = Unit {0}

-- the rows of a state are known, and what it has begun
pub record IsKnownState (p : node.Program) (accepted : IsProgram p) (machine : Program) (state : State) : Type 0 where
  pub known : AreKnown p accepted (log_of state).shared
  pub begun : IsBegun p accepted machine state
