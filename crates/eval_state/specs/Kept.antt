-- What the code keeps of bodies, specifications and events, as the meaning has it.
use Rattle.std.specs.Prelude.{ℕ, suc, true, false, List, [], ◌∷◌, map, get_or, nat_eq, if◌then◌else◌, Option, Some}
use Rattle.history.specs.Syntax.{Syntax, Ticked, Captures, NoCapture}
use Rattle.history.specs.Events as event
use Rattle.meaning_state.specs.Bodies as made
use Rattle.meaning_state.specs.Rows.{numbered}
use Rattle.meaning_state.specs.Shared.{Specification}
use Rattle.meaning_state.specs.Shared as shared
use Rattle.staged_meaning.specs.Meaning.{keys_at_entry}
use Rattle.staged_meaning.specs.Specifications.{syntax_in}
use Rattle.eval_state.specs.KeptRows as kept
use Rattle.eval_state.specs.Pending as pending
use Rattle.eval_state.specs.declared.state.Generated.{Generated}
use Rattle.eval_state.specs.declared.state.Setting.{Setting}
use Rattle.eval_state.specs.declared.state.Body.{Body}
use Rattle.eval_state.specs.declared.state.Kept.{Kept}
use Rattle.eval_state.specs.declared.state.Kept.TheVariants as code
use Rattle.eval_state.specs.declared.state.RowKind.TheVariants as kind
use Rattle.eval_state.specs.declared.state.Row.{Row}
use Rattle.eval_state.specs.declared.state.RowKind.{RowKind}
use Rattle.eval_state.specs.declared.state.Compiled.{Compiled}
use Rattle.eval_state.specs.declared.state.Event.{Event}
use Rattle.eval_state.specs.declared.state.Event.TheVariants as happened
use Rattle.eval_state.specs.declared.state.Entry.{Entry}
use Rattle.eval_state.specs.declared.state.Entry.TheVariants as entry
use Rattle.eval_state.specs.Views.{frame_view}

-- ---- variables

abbrev pub variables_of : List ℕ → ℕ → ℕ
variables_of variables i = get_or variables i 0

-- the value of a key that was set, and of another one
abbrev pub set_or : List Setting → (key other : ℕ) → ℕ
set_or [] key other = other
set_or (v ∷ values) key other = if nat_eq key v.key then v.value else set_or values key other

-- where a key stands among those that were set; their count, where it doesn't
abbrev pub place_of : List Setting → (key : ℕ) → ℕ
place_of [] key = 0
place_of (v ∷ values) key = if nat_eq key v.key then 0 else suc (place_of values key)

abbrev pub generated_of : Generated → ℕ → ℕ
generated_of g key = set_or g.values key (keys_at_entry g.arguments key)

-- ---- specifications

abbrev pub kept_view : Kept → kept.Kept
kept_view (code.Word word) = kept.Word word
kept_view (code.Key key) = kept.Key key
kept_view (code.Number number) = kept.Number number

abbrev pub row_of : RowKind → ℕ → List kept.Kept → kept.Row
row_of kind.Expression tick captures = kept.Code true tick captures
row_of kind.Statement tick captures = kept.Code false tick captures
row_of kind.Local tick captures = kept.Local
row_of (kind.Param index) tick captures = kept.Param index

abbrev pub row_view : Row → kept.Row
row_view row = row_of row.kind row.tick (map kept_view row.kept)

abbrev pub rows_view : List Row → List Specification
rows_view rows = kept.rows_kept (map row_view rows)

-- the syntax of a specification, and what its captures stand for
abbrev pub captures_in : Option Specification → Captures
captures_in (Some (shared.Expression (Ticked tick captures))) = captures
captures_in (Some (shared.Statement (Ticked tick captures))) = captures
captures_in _ = NoCapture

abbrev pub captures_at : List Specification → (number : ℕ) → Captures
captures_at rows number = captures_in (numbered number rows)

abbrev pub syntax_at : List Specification → (number : ℕ) → Syntax
syntax_at rows number = syntax_in (numbered number rows)

-- ---- bodies, events and what is pending, where these are the specifications

abbrev pub body_view : List Specification → Body → pending.Body
body_view rows b = record {
  variables = variables_of b.variables;
  arguments = b.arguments;
  generated = generated_of b.generated;
  object = b.object;
  captures = captures_at rows b.row;
}

abbrev pub event_view : List Specification → Event → event.Item
event_view rows (happened.Out b) = event.Out b
event_view rows (happened.In w) = event.In w
event_view rows (happened.Made f row) = event.Made f (syntax_at rows row)
event_view rows (happened.Entered f) = event.Entered f

abbrev pub compiled_view : List Specification → Compiled → made.Body
compiled_view rows c = record { syntax = syntax_at rows c.row; first = c.first; count = c.words; live = true }

abbrev pub entry_view : List Specification → Entry → pending.Frame
entry_view rows (entry.Inside f) = frame_view f
entry_view rows (entry.Called answer charge caller) = pending.Called answer charge (body_view rows caller)
entry_view rows (entry.Spliced answer variables object row) =
    pending.Spliced answer (variables_of variables) object (captures_at rows row)
