-- What is true of the specifications, of the functions that were compiled, and of their charges: a capture names an
-- earlier specification of a tick, and what was counted once, as a row was made, is what its syntax has.
use Rattle.std.specs.Prelude.{◌≡◌, ℕ, ◌+◌, ◌*◌, ◌<◌, ◌≤◌, length, List, [], ◌∷◌, map, slice_get, Option, Some}
use Rattle.limits.specs.declared.program.TheConstants.{SIZE_LIMIT}
use Rattle.limits.specs.declared.run.TheConstants.{CLOSURE_HEAD_BYTES}
use Rattle.word32.specs.declared.map.TheConstants.{ARENA_WORDS, CLOSURE_BYTES}
use Rattle.meaning_state.specs.Bodies.{AreSummed, charged}
use Rattle.meaning_state.specs.Rows.{locals_of, numbered, parameters_in}
use Rattle.meaning_state.specs.Shared.{Specification, Expression, Statement}
use Rattle.staged_meaning.specs.Program.{Program, captures_size, tick_size}
use Rattle.eval_state.specs.KeptRows.{captures_kept, row_kept}
use Rattle.eval_state.specs.declared.state.Compiled.{Compiled}
use Rattle.eval_state.specs.declared.state.Kept.{Kept}
use Rattle.eval_state.specs.declared.state.Kept.TheVariants as code
use Rattle.eval_state.specs.declared.state.Row.{Row}
use Rattle.eval_state.specs.declared.state.RowKind.{RowKind}
use Rattle.eval_state.specs.declared.state.RowKind.TheVariants as kind
use Rattle.eval_state.specs.Kept.{compiled_view, kept_view, row_view, rows_view, syntax_at}

-- it is a specification of a tick
abbrev pub IsCode : Option Specification → Type 0
IsCode (Some (Expression syntax)) = Unit {0}
IsCode (Some (Statement syntax)) = Unit {0}
IsCode _ = ⊥

-- a number that is kept is that of a specification of a tick, among the first n
abbrev pub IsEarlier : List Specification → (n : ℕ) → Kept → Type 0
IsEarlier rows n (code.Number number) = (number ≤ n) × IsCode (numbered number rows)
IsEarlier rows n _ = Unit {0}

abbrev pub AreEarlier : List Specification → (n : ℕ) → List Kept → Type 0
AreEarlier rows n [] = Unit {0}
AreEarlier rows n (k ∷ kept) = IsEarlier rows n k × AreEarlier rows n kept

-- what was counted of a tick with these captures; what is no tick has none
abbrev pub IsCounted : Program → List Specification → RowKind → Row → Type 0
IsCounted program rows kind.Local row = row.kept ≡ []
IsCounted program rows (kind.Param index) row = row.kept ≡ []
IsCounted program rows _ row =
    (row.size ≡ tick_size (slice_get program.ticks row.tick)
    + captures_size program (captures_kept rows (map kept_view row.kept)))
    × (row.parameters ≡ parameters_in (captures_kept rows (map kept_view row.kept)))

-- a row, behind the first n of these specifications
pub record IsRow (program : Program) (rows : List Specification) (n : ℕ) (row : Row) : Type 0 where
  pub earlier : AreEarlier rows n row.kept
  pub counted : IsCounted program rows row.kind row
  pub small : row.size ≤ SIZE_LIMIT

abbrev pub AreRows : Program → List Specification → List Row → Type 0
AreRows program rows list = (n : ℕ) (row : Row) → slice_get list n ≡ Some row
    → (slice_get rows n ≡ Some (row_kept rows (row_view row))) × IsRow program rows n row

-- a compiled function is one of a specification of a tick
abbrev pub IsMade : List Specification → Compiled → Type 0
IsMade rows made = IsCode (numbered made.row rows) × (made.locals ≡ locals_of (syntax_at rows made.row))

abbrev pub AreMade : List Specification → List Compiled → Type 0
AreMade rows [] = Unit {0}
AreMade rows (m ∷ ms) = IsMade rows m × AreMade rows ms

-- it is the next, behind so many words of the arena, and within the arena
pub record IsNext (made : Compiled) (arena : ℕ) : Type 0 where
  pub first : made.first ≡ arena
  pub some : 0 < made.words
  pub within : arena + made.words ≤ ARENA_WORDS

-- what is true of the rows, and of what they and the compiled functions are charged: none was freed, and the arena's
-- words are all of theirs
pub record HasRows (program : Program) (rows : List Row) (closures : ℕ) (compiled : List Compiled) (arena : ℕ) :
    Type 0 where
  pub each : AreRows program (rows_view rows) rows
  pub made : AreMade (rows_view rows) compiled
  pub count : CLOSURE_HEAD_BYTES * length rows ≤ closures
  pub closure_bytes : closures ≤ CLOSURE_BYTES
  pub arena_words : arena ≤ ARENA_WORDS
  pub bodies : AreSummed ARENA_WORDS (map (compiled_view (rows_view rows)) compiled)
  pub words : charged (map (compiled_view (rows_view rows)) compiled) ≡ arena
