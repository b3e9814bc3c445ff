-- The parts with a specification, an event or a call more, and behind a call.
use Rattle.std.specs.Prelude.{ℕ, suc, ◌+◌, ◌-◌, Bool, true, false, length, List, [], ◌∷◌, ◌++◌, Option, Some}
use Rattle.meaning_state.specs.Shared.{Specification}
use Rattle.eval_state.specs.KeptRows.{row_kept}
use Rattle.history.specs.Syntax.{Syntax, Ticked}
use Rattle.typed_tree.specs.declared.expression.Answer.{Answer}
use Rattle.eval_state.specs.declared.state.Body.{Body}
use Rattle.eval_state.specs.declared.state.Entry.TheVariants as entry
use Rattle.eval_state.specs.declared.state.Compiled.{Compiled}
use Rattle.eval_state.specs.declared.state.Event.{Event}
use Rattle.eval_state.specs.declared.state.Event.TheVariants as event
use Rattle.meaning_state.specs.Shared as shared
use Rattle.eval_state.specs.declared.state.Parts.{Parts}
use Rattle.eval_state.specs.declared.state.Row.{Row}
use Rattle.eval_state.specs.Kept.{row_view, rows_view}
use Rattle.eval_state.specs.Run.{program_of}
use Rattle.eval_state.specs.Specified.{IsRow}

-- a row that may stand behind those that are there
abbrev pub IsNew : Parts → Row → Type 0
IsNew p row = IsRow (program_of p) (rows_view p.rows) (length (rows_view p.rows)) row

-- the specification that it is there
abbrev pub specification_in : Parts → Row → Specification
specification_in p row = row_kept (rows_view p.rows) (row_view row)

-- its closure has so many bytes
abbrev pub with_row : Row → (bytes : ℕ) → Parts → Parts
with_row row bytes p = record p { rows = p.rows ++ row ∷ []; closures = p.closures + bytes }

-- a call of a charge is over: the caller's body is back
abbrev pub with_caller : (charge : ℕ) → Body → Parts → Parts
with_caller charge caller p = record p {
  used = p.used - charge;
  frames = p.frames - p.body.object;
  depth = suc p.depth;
  body = caller;
}

-- a body is entered under a call of a charge: the caller's waits
abbrev pub with_called : Answer → (charge : ℕ) → Body → Parts → Parts
with_called answer charge body p = record p {
  used = p.used + charge;
  frames = p.frames + body.object;
  depth = p.depth - 1;
  body = body;
  entries = p.entries ++ entry.Called answer charge p.body ∷ [];
}

-- the code of a specification is active: what was active waits
abbrev pub with_spliced : Answer → (row : ℕ) → Parts → Parts
with_spliced answer row p = record p {
  body = record p.body { variables = []; object = 0; row = row };
  entries = p.entries ++ entry.Spliced answer p.body.variables p.body.object p.body.row ∷ [];
}

-- the body of generated code that was passed these arguments
abbrev pub code_body : (row : ℕ) → List ℕ → Body
code_body row vs = record {
  variables = [];
  arguments = vs;
  generated = record { arguments = vs; values = [] };
  object = 0;
  row = row;
}

-- an event more
abbrev pub with_event : Event → Parts → Parts
with_event e p = record p { events = p.events ++ e ∷ [] }

-- the tick of generated code
abbrev pub tick_of : Syntax → ℕ
tick_of (Ticked tick captures) = tick

-- so many units are left
abbrev pub with_left : (units : ℕ) → Parts → Parts
with_left units p = record p { units = units }

-- a compiled function more, of this number, and the event of it
abbrev pub with_made : (function : ℕ) → Compiled → Parts → Parts
with_made function made p = record p {
  events = p.events ++ event.Made function made.row ∷ [];
  compiled = p.compiled ++ made ∷ [];
  arena = p.arena + made.words;
}

-- whether a specification is one of a tick
abbrev pub is_code : Option Specification → Bool
is_code (Some (shared.Expression syntax)) = true
is_code (Some (shared.Statement syntax)) = true
is_code _ = false
