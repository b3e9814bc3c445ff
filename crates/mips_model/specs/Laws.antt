-- What every proof about a run of known code stands on: what stands at an address, how the machine gets from one state
-- to another, that a run's history only grows, and that an ending is final. Instructions stand one behind another, at
-- addresses that are only ever 4 more than the last.
use Rattle.std.specs.Prelude.{◌≡◌, ℕ, ◌+◌, ◌<◌, false, List, [], ◌∷◌, map, Some}
use Rattle.std.specs.Fn.{iterate}
use Rattle.pace.specs.Claims as claims
use Rattle.history.specs.Events.{End, Input}
use Rattle.image_file.specs.Image.{ImageParts}
use Rattle.mips_model.specs.Choices.{Choice}
use Rattle.mips_encoder.specs.declared.instruction.Instr.{Instr}
use Rattle.mips_model.specs.State.{Code, Data, State, World}
use Rattle.mips_model.specs.Steps.{Is, fetch, step, run, going}
use Rattle.mips_model.specs.Run.{begins, runs}
use Rattle.mips_model.specs.Told.{Passed, passed, tells, IsQuiet}

-- the instructions stand from this address on
abbrev pub HasAt : Code → ℕ → List Instr → Type 0
HasAt c at [] = Unit {0}
HasAt c at (i ∷ is) = (fetch c at ≡ Is i) × HasAt c (at + 4) is

-- a state at an address, where the last instruction loaded a register, or none (0)
abbrev pub at : Code → ℕ → ℕ → Data → State
at c a loaded d = record { pc = a; next = a + 4; loaded = loaded; recent = 0; slot = false; code = c; d = d }

-- exactly k instructions, none of which ends the run
pub record Reaches (k : ℕ) (s s' : State) : Type 0 where
  pub by : iterate step k (going s) ≡ going s'

-- what is fetched stays fetched
pub record Grows (c c' : Code) : Type 0 where
  pub stays : (x : ℕ) (i : Instr) → fetch c x ≡ Is i → fetch c' x ≡ Is i

-- an ending doesn't depend on how many more instructions are allowed
abbrev pub EndsOnce : Type 0
EndsOnce = (m n : ℕ) (w : World) (e : End) → (run m w).ending ≡ Some e → run (m + n) w ≡ run m w

-- what is seen of a run only grows, and stays once it has ended
abbrev pub RunsGrow : Type 0
RunsGrow = (image : ImageParts) (input : Input) (choices : List Choice) → claims.Grows (runs image input choices)

-- what a run tells only grows too
abbrev pub TellsGrow : Type 0
TellsGrow = (image : ImageParts) (input : Input) (row : List Choice) → claims.Grows (tells image input row)

-- what passed in what a run tells is its history, and the endings are equal
abbrev pub TellsItsRun : Type 0
TellsItsRun =
    (image : ImageParts) (input : Input) (row : List Choice) (n : ℕ) →
    (passed (tells image input row n).history ≡ (runs image input row n).history)
    × ((tells image input row n).ending ≡ (runs image input row n).ending)

-- where no function is made or entered, that is all that is told
abbrev pub TellsPlainly : Type 0
TellsPlainly =
    (image : ImageParts) (input : Input) (row : List Choice) (n : ℕ) →
    ((i : ℕ) → i < n → IsQuiet (run i (begins image input row))) →
    (tells image input row n).history ≡ map Passed (runs image input row n).history
