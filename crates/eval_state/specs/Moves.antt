-- Where what is still to come changes its place: calls, spliced code, and the beginning and the end of a run.
use Rattle.std.specs.Prelude.{ℕ, zero, suc, ◌%◌, List, Option, Some, None}
use Rattle.host_edge.specs.declared.ending.Ending.TheVariants.{Done}
use Rattle.history.specs.Syntax.{Syntax, Captures, NoCapture, Word, Named, Spliced}
use Rattle.history.specs.Events as event
use Rattle.history.specs.Events.{End, Ended, Entered, Input}
use Rattle.pace.specs.Pace.{Seen}
use Rattle.meaning_state.specs.Shared.{happens}
use Rattle.meaning_state.specs.Rows.{locals_of}
use Rattle.staged_meaning.specs.Size.{size_of, charge_of}
use Rattle.staged_meaning.specs.Meaning.{Program, syntax_size, entered, keys_at_entry, begins}
use Rattle.staged_meaning.specs.World.{World, Result, Gives, Returns, Ends, Stops, Flow, Normal, then_do, spend}
use Rattle.staged_meaning.specs.World.{spend_all, with_shared}
use Rattle.eval_state.specs.Pending as pending
use Rattle.eval_state.specs.Pending.{Frame}
use Rattle.eval_state.specs.Rest.{Signal, value_of, Place}

-- the place of a function's body, and of generated code
abbrev pub in_function : (depth object : ℕ) → Place
in_function depth object = record { depth = depth; object = object; captures = NoCapture }

abbrev pub in_code : (depth : ℕ) → Captures → Place
in_code depth captures = record { depth = depth; object = 0; captures = captures }

-- ---- a call of a compiled function: the event of its entry stands before the limits

abbrev pub at_entry : (function : ℕ) → World → World
at_entry f w = with_shared (happens (Entered f) w.shared) w

abbrev pub code_charge : Program → Syntax → ℕ
code_charge program syntax = charge_of (syntax_size program syntax)

-- the world in which the code of a compiled function begins, but for the units that come first
abbrev pub passed_to : Program → (function : ℕ) → List ℕ → Syntax → World → World
passed_to program f vs syntax w =
    record (entered (code_charge program syntax) 0 (at_entry f w)) { arguments = vs; generated = keys_at_entry vs }

-- those units: that of the call, and one for each local variable
abbrev pub entry_units : Program → (function : ℕ) → List ℕ → Syntax → World → Result Flow
entry_units program f vs syntax w =
    then_do (spend Normal (passed_to program f vs syntax w)) (λ flow w. spend_all (locals_of syntax) w)

-- ---- spliced code

-- the syntax that a capture stands for
abbrev pub syntax_at : Captures → (capture : ℕ) → Option Syntax
syntax_at (Spliced syntax captures) zero = Some syntax
syntax_at (Spliced syntax captures) (suc i) = syntax_at captures i
syntax_at (Word word captures) (suc i) = syntax_at captures i
syntax_at (Named key captures) (suc i) = syntax_at captures i
syntax_at _ i = None

-- ---- the end of a body, and of a run

-- a frame that is no call's
abbrev pub IsInside : Frame → Type 0
IsInside (pending.Called a charge caller) = ⊥
IsInside _ = Unit {0}

-- what is seen of the body of main that was left
abbrev pub told : Result Signal → Seen event.Item End
told (Gives s w) = record { history = w.shared.history; ending = Some (Ended (Done (value_of s % 256))) }
told (Returns v w) = record { history = w.shared.history; ending = Some (Ended (Done (v % 256))) }
told (Ends e shared) = record { history = shared.history; ending = Some e }
told (Stops shared) = record { history = shared.history; ending = None }

-- the world as the body of main is entered, before the unit of its call
abbrev pub entered_main : Program → Input → ℕ → World
entered_main program input units = entered (charge_of (size_of program.main)) program.main.object
    (begins program input units)
