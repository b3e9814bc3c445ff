-- What a run tells as it goes. An item is an event of the world's own history; or that a function was made, where it is
-- published, with what it was built of; or that a function was entered, where an instruction is fetched at the arena's
-- address of a published row. The last two leave nothing behind in the machine, so they stand beside the run, on this
-- side in an item type of its own. That the least of several rows is told is this project's own rule.
use Rattle.std.specs.Prelude.{ℕ, zero, suc, ◌≡◌, nat_eq, nat_lt, if◌then◌else◌, List, [], ◌∷◌, ◌++◌, length, drop, map}
use Rattle.std.specs.Prelude.{Option, Some, None, is_some}
use Rattle.word32.specs.declared.map.TheConstants.{ARENA, FUNCTION_ROWS}
use Rattle.pace.specs.Pace.{Seen}
use Rattle.history.specs.Events.{Item, End, Input}
use Rattle.image_file.specs.Image.{ImageParts}
use Rattle.mips_model.specs.Choices.{Choice}
use Rattle.mips_model.specs.CodeServices as services
use Rattle.mips_model.specs.CodeServices.{Outcome}
use Rattle.mips_model.specs.State.{Built, Finish, State, World, register}
use Rattle.mips_model.specs.Services.{generator_of}
use Rattle.mips_model.specs.Steps.{Fetched, Refused, Is, fetch, step, run}
use Rattle.mips_model.specs.Run.{begins, is_serving}

-- Something passed between the run and the outside; the function of this row was published, and was built of this where
-- one was finished at its address; or the function of this row was entered.
pub data Told : Type 0 where
  Passed : Item → Told
  Made : (function : ℕ) → Option Built → Told
  Entered : (function : ℕ) → Told

-- what passed between the run and the outside
abbrev pub passed : List Told → List Item
passed [] = []
passed (Passed item ∷ items) = item ∷ passed items
passed (Made f built ∷ items) = passed items
passed (Entered f ∷ items) = passed items

-- the least of so many rows from a row on that has this address
unfoldable pub row_from : (count row at : ℕ) → (ℕ → ℕ × ℕ) → Option ℕ
row_from zero row at table = None
row_from (suc n) row at table = if nat_eq (table row).0 at then Some row else row_from n (suc row) at table

abbrev pub entry_of : Option ℕ → List Told
entry_of None = []
entry_of (Some f) = Entered f ∷ []

abbrev pub entry_at : Fetched → State → List Told
entry_at (Refused kind) s = []
entry_at (Is i) s = entry_of (row_from FUNCTION_ROWS 0 s.pc s.d.table)

-- that a function is entered by the next instruction
abbrev pub entered : World → List Told
entered w =
    if is_some w.ending then []
    else (if nat_lt w.state.pc ARENA then [] else entry_at (fetch w.state.code w.state.pc) w.state)

-- what the newest finish at an address was built of
abbrev pub built_at : ℕ → List Finish → Option Built
built_at at [] = None
built_at at (f ∷ fs) = if nat_eq f.at at then Some f.built else built_at at fs

-- a service that isn't refused makes the function of a row, by what was finished at its address
abbrev pub made_by : Outcome → (row at : ℕ) → List Finish → List Told
made_by (services.Refused why) row at finishes = []
made_by (services.Does answer g change set) row at finishes = Made row (built_at at finishes) ∷ []

-- that a function is made by the next instruction, the service that publishes it
abbrev pub made : World → List Told
made w =
    if is_serving 68 w
    then made_by
    (services.publish (register 4 w.state.d) (register 5 w.state.d) (register 6 w.state.d) (generator_of w.state.d))
    (register 4 w.state.d) (register 5 w.state.d) w.state.d.outside.making.finishes
    else []

-- the events that the next instruction leaves
abbrev pub said : World → List Item
said w = drop (length w.state.d.outside.history) (step w).state.d.outside.history

-- what so many instructions tell
abbrev pub told : ℕ → World → List Told
told zero w = []
told (suc n) w = entered w ++ (map Passed (said w) ++ (made w ++ told n (step w)))

-- what is told of n instructions of an image on an input, for a row of choices of register places
abbrev pub tells : ImageParts → Input → List Choice → ℕ → Seen Told End
tells image input row n = record {
  history = told n (begins image input row);
  ending = (run n (begins image input row)).ending;
}

-- no function is made or entered by the next instruction
abbrev pub IsQuiet : World → Type 0
IsQuiet w = (entered w ≡ []) × (made w ≡ [])
