-- What one call of a machine did: the bytes that it took and gave, and how far the run has come. The same record speaks
-- of one service, of a stretch without services, of a loop, of a call and of two calls in a row. The machine stores no
-- history, so it speaks for all that was said before and all that may still come.
use Rattle.std.specs.Prelude.{◌≡◌, ◌≢◌, ℕ, ◌+◌, ◌≤◌, ◌<◌, true, false, List, [], ◌∷◌, ◌++◌, length, take, Option, Some}
use Rattle.std.specs.Prelude.{None, nat_eq, if◌then◌else◌, ⊤}
use Rattle.std.specs.Io.KnownBytes.{Appends, Consumes, IsAtEnd}
use Rattle.host_edge.specs.Causes.{Rose}
use Rattle.history.specs.Events.{Item, Out, In, Made, Entered, End, Input, output, outs}
use Rattle.history.specs.Events as event
use Rattle.icode_service.specs.Served.{ChosenFor}
use Rattle.mips_model.specs.Choices.{Choice}
use Rattle.mips_model.specs.State.{World, register}
use Rattle.mips_model.specs.Services.{generator_of, next_choice}
use Rattle.mips_model.specs.Steps.{run}
use Rattle.mips_model.specs.Run.{is_serving}
use Rattle.mips_machine.specs.declared.stop.Stop.{Stop}
use Rattle.mips_machine.specs.declared.stop.Stop.TheVariants.{Ended, Fault, Steps, ReadFault, WriteFault}
use Rattle.mips_machine.specs.Progress.{Progress, Notes, Unkept, is_at_end, no_input, choosing, more, world}

-- the ending that a stop tells of
abbrev pub ending_of : Stop → Option End
ending_of (Ended e) = Some (event.Ended e)
ending_of (Fault kind at) = Some (event.Fault kind at)
ending_of Steps = None
ending_of ReadFault = Some event.ReadFault
ending_of WriteFault = None

-- what a machine keeps of a stop
abbrev pub kept_stop : Stop → Option Stop
kept_stop (Ended e) = Some (Ended e)
kept_stop (Fault kind at) = Some (Fault kind at)
kept_stop Steps = None
kept_stop ReadFault = Some ReadFault
kept_stop WriteFault = Some WriteFault

-- these bytes, and then what is to come
abbrev pub before : List ℕ → Input → Input
before bytes rest = record rest { bytes = bytes ++ rest.bytes }

-- what may be to come after a call: nothing after the end, and a fault where the read failed
pub record MayFollow (old new : Progress) (stop : Stop) (rest : Input) : Type 0 where
  pub ended : is_at_end new ≡ true → is_at_end old ≡ false → rest ≡ no_input
  pub failed : stop ≡ ReadFault → rest ≡ record { bytes = []; failing = true }

-- told bytes came to their end
abbrev pub EndsFrom : Option (List ℕ) → Option (List ℕ) → Type 0
EndsFrom None later = ⊤
EndsFrom (Some bytes) later = IsAtEnd later

-- the bytes that a history took from the input: an answer of -1 took none
abbrev pub bytes_read : List Item → List ℕ
bytes_read [] = []
bytes_read (Out b ∷ items) = bytes_read items
bytes_read (In w ∷ items) = if nat_eq w 4294967295 then bytes_read items else (w ∷ bytes_read items)
bytes_read (Made f syntax ∷ items) = bytes_read items
bytes_read (Entered f ∷ items) = bytes_read items

-- where the next instruction is the service that finishes a function, the choice of places is that of linear scan, and
-- legal, if the function gets as far as that
abbrev pub IsScannedAt : World → Type 0
IsScannedAt w =
    is_serving 66 w ≡ true → ChosenFor (generator_of w.state.d).build (register 4 w.state.d) (register 5 w.state.d)
    (register 6 w.state.d) (next_choice w.state.d.outside.making.row)

-- these events took place behind those before, and so much more is said of functions
abbrev pub told_of : List Item → (Notes → Notes) → Unkept → Unkept
told_of events noted u = record u { history = u.history ++ events; notes = noted u.notes }

-- where a call begins that is given these bytes and choices
abbrev pub start : Progress → List ℕ → (chosen refused : List Choice) → Input → Unkept → World
start old given chosen refused rest u = world old (before given rest) (choosing chosen (choosing refused u)) None

-- Within n instructions: the input began with the bytes `given`, the events took place, whose bytes were put out,
-- and of the last service, whose write failed, a front part of its bytes `last`. The functions that were finished took
-- the choices `chosen`, and one whose finish was refused as the last instruction had looked at those of `refused`.
-- Exactly `count` instructions were executed, since the run had not ended before the last of them. A read fails only
-- where the end wasn't read.
pub record Ran (n : ℕ) (old new : Progress) (left later taken told : Option (List ℕ)) (stop : Stop) : Type 0 where
  pub count : ℕ
  pub within : count ≤ n
  pub counted : new.steps ≡ old.steps + count
  pub all : stop ≡ Steps → count ≡ n
  pub given : List ℕ
  pub consumed : Consumes left later given
  pub events : List Item
  pub taken_in : bytes_read events ≡ given
  pub last : List ℕ
  pub front : ℕ
  pub appended : Appends taken told (output events ++ take front last)
  pub whole : stop ≢ WriteFault → last ≡ []
  pub cut : stop ≡ WriteFault → front < length last
  pub stays : is_at_end old ≡ true → (given ≡ []) × (is_at_end new ≡ true)
  pub at_end : is_at_end new ≡ true → is_at_end old ≡ false → EndsFrom left later
  pub unended : stop ≡ ReadFault → is_at_end new ≡ false
  pub noted : Notes → Notes
  pub chosen : List Choice
  pub refused : List Choice
  pub spent : stop ≡ Steps → refused ≡ []
  pub ran : (rest : Input) (u : Unkept) → MayFollow old new stop rest
      → run count (start old given chosen refused rest u)
      ≡ world new rest (choosing refused (more (outs last) (told_of events noted u))) (ending_of stop)
  pub alive : (rest : Input) (u : Unkept) → MayFollow old new stop rest
      → (m : ℕ) → m < count → (run m (start old given chosen refused rest u)).ending ≡ None
  pub earlier : stop ≡ WriteFault → (m : ℕ) × (count ≡ m + 1)
      × ((rest : Input) (u : Unkept) → MayFollow old new stop rest
      → (run m (start old given chosen refused rest u)).state.d.outside.history ≡ u.history ++ events)
  pub scanned : (rest : Input) (u : Unkept) → MayFollow old new stop rest
      → (m : ℕ) → m < count → IsScannedAt (run m (start old given chosen refused rest u))

-- a fault comes only where its count rose, and else the count stays
abbrev pub ReadCause : Stop → ℕ → ℕ → Type 0
ReadCause ReadFault old new = Rose old new
ReadCause (Ended e) old new = new ≡ old
ReadCause (Fault kind at) old new = new ≡ old
ReadCause Steps old new = new ≡ old
ReadCause WriteFault old new = new ≡ old

abbrev pub WriteCause : Stop → ℕ → ℕ → Type 0
WriteCause WriteFault old new = Rose old new
WriteCause (Ended e) old new = new ≡ old
WriteCause (Fault kind at) old new = new ≡ old
WriteCause Steps old new = new ≡ old
WriteCause ReadFault old new = new ≡ old
