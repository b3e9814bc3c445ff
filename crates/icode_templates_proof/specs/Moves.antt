-- Runs of the machine between two counts of instructions: to an address, with a value put to a spot, or with all spots
-- kept; and to the run's end.
use Rattle.std.specs.Prelude.{◌≡◌, ℕ, ◌+◌, ◌≤◌, false, Some}
use Rattle.std.specs.Fn.{iterate}
use Rattle.history.specs.Events.{End}
use Rattle.mips_model.specs.State.{Outside, Code, Data, State}
use Rattle.mips_model.specs.Steps.{step, going}
use Rattle.mips_model.specs.Laws.{Reaches, at}
use Rattle.icode_templates.specs.Layout.{Spot}
use Rattle.icode_templates_proof.specs.Spots.{KeepsSpots, PutsTo}

-- from one state to another in at least and at most so many instructions
pub record Runs (least most : ℕ) (s after : State) : Type 0 where
  pub count : ℕ
  pub over : least ≤ count
  pub under : count ≤ most
  pub reaches : Reaches count s after

-- to this address of the code, with the value put to the spot
pub record Writes (spot : Spot) (x least most : ℕ) (s : State) (c : Code) (a : ℕ) (d : Data) : Type 0 where
  pub after : Data
  pub runs : Runs least most s (at c a 0 after)
  pub puts : PutsTo spot x d after

-- to this address of the code, with all spots kept
pub record Comes (least most : ℕ) (s : State) (c : Code) (a : ℕ) (d : Data) : Type 0 where
  pub after : Data
  pub runs : Runs least most s (at c a 0 after)
  pub keeps : KeepsSpots d after

-- a state at an address, where HI and LO must not be set for so many instructions
abbrev pub behind : Code → ℕ → ℕ → Data → State
behind c a recent d = record { pc = a; next = a + 4; loaded = 0; recent = recent; slot = false; code = c; d = d }

-- to this address of the code, with the value put to the spot; HI or LO may have been read by the last but one
pub record Computes (spot : Spot) (x least most : ℕ) (s : State) (c : Code) (a : ℕ) (d : Data) : Type 0 where
  pub after : Data
  pub recent : ℕ
  pub few : recent ≤ 1
  pub runs : Runs least most s (behind c a recent after)
  pub puts : PutsTo spot x d after

-- the run ends within so many instructions, at least and at most, with this outside and with the code as it was
pub record EndsIn (least most : ℕ) (end : End) (s : State) (c : Code) (outside : Outside) : Type 0 where
  pub count : ℕ
  pub over : least ≤ count
  pub under : count ≤ most
  pub ending : (iterate step count (going s)).ending ≡ Some end
  pub outside_is : (iterate step count (going s)).state.d.outside ≡ outside
  pub code_is : (iterate step count (going s)).state.code ≡ c
