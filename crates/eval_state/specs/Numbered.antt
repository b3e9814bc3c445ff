-- What is read off the row of a number.
use Rattle.std.specs.Prelude.{ℕ, Bool, true, false, nat_lt, if◌then◌else◌, List, [], Option, Some, None, slice_get}
use Rattle.std.specs.BTreeSet.{insert_key}
use Rattle.std.specs.Ordering.{nat_cmp}
use Rattle.limits.specs.declared.program.TheConstants.{MOST_ARGUMENTS}
use Rattle.meaning_state.specs.Rows.{numbered}
use Rattle.meaning_state.specs.Shared.{Specification}
use Rattle.eval_state.specs.KeptRows.{row_kept}
use Rattle.eval_state.specs.Kept.{row_of}
use Rattle.eval_state.specs.declared.state.Kept.{Kept}
use Rattle.eval_state.specs.declared.state.Kept.TheVariants as code
use Rattle.eval_state.specs.declared.state.Parts.{Parts}
use Rattle.eval_state.specs.declared.state.Row.{Row}
use Rattle.eval_state.specs.declared.state.RowKind.{RowKind}
use Rattle.eval_state.specs.declared.state.RowKind.TheVariants as kind

-- its captures
abbrev pub kept_in : Option Row → List Kept
kept_in None = []
kept_in (Some row) = row.kept

-- what is kept of a capture of the code that is active
abbrev pub kept_at : Parts → (capture : ℕ) → Option Kept
kept_at p capture = slice_get (kept_in (numbered p.body.row p.rows)) capture

-- the number that is kept
abbrev pub number_kept : Option Kept → Option ℕ
number_kept (Some (code.Number number)) = Some number
number_kept _ = None

-- what it is
abbrev pub kind_in : Option Row → Option RowKind
kind_in None = None
kind_in (Some row) = Some row.kind

-- one of a kind, with no captures
abbrev pub of_kind : RowKind → Specification
of_kind kind = row_kept [] (row_of kind 0 [])

-- what the specification of a tick is, by whether the tick is one of an expression
abbrev pub code_kind : (of_expression : Bool) → RowKind
code_kind true = kind.Expression
code_kind false = kind.Statement

-- the keys of local variables that were seen, in their order, and one more
abbrev pub noted : (key : ℕ) → List ℕ → List ℕ
noted key keys = if nat_lt key MOST_ARGUMENTS then keys else insert_key nat_cmp keys key
