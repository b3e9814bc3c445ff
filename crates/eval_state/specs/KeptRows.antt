-- Specifications as they are kept by numbers: a capture that names an earlier specification keeps its number, and not
-- its syntax, so that a row takes no more room than its captures. The rows of the meaning, which hold the syntax whole,
-- are read off them, each by those before it. These are this project's own definitions.
use Rattle.std.specs.Prelude.{ℕ, ◌+◌, Bool, max, List, [], ◌∷◌, ◌++◌, Option, Some, None}
use Rattle.history.specs.Syntax.{Syntax, Ticked, Captures, NoCapture, Named, Spliced}
use Rattle.history.specs.Syntax as syntax
use Rattle.meaning_state.specs.Rows.{numbered, key_parameters, parameters_of}
use Rattle.meaning_state.specs.Shared.{Specification}
use Rattle.meaning_state.specs.Shared as shared
use Rattle.typed_tree.specs.declared.expression.CaptureKind.{CaptureKind}
use Rattle.typed_tree.specs.declared.expression.CaptureKind.TheVariants as kind
use Rattle.staged_meaning.specs.Program.{Program, syntax_size}
use Rattle.staged_meaning.specs.Specifications.{key_in, specification_of, syntax_in}

-- what is kept of a capture: a word, the key of a variable of generated code, or the number of a specification
pub data Kept : Type 0 where
  Word : (word : ℕ) → Kept
  Key : (key : ℕ) → Kept
  Number : (number : ℕ) → Kept

-- what is kept of a specification: of a tick, whether of an expression, with its captures; a variable; a parameter
pub data Row : Type 0 where
  Code : (of_expression : Bool) → (tick : ℕ) → List Kept → Row
  Local : Row
  Param : (index : ℕ) → Row

-- what captures stand for, by the specifications before theirs
abbrev pub captures_kept : List Specification → List Kept → Captures
captures_kept rows [] = NoCapture
captures_kept rows (Word word ∷ kept) = syntax.Word word (captures_kept rows kept)
captures_kept rows (Key key ∷ kept) = Named key (captures_kept rows kept)
captures_kept rows (Number number ∷ kept) = Spliced (syntax_in (numbered number rows)) (captures_kept rows kept)

abbrev pub row_kept : List Specification → Row → Specification
row_kept rows (Code of_expression tick kept) = specification_of of_expression (Ticked tick (captures_kept rows kept))
row_kept rows Local = shared.Local
row_kept rows (Param index) = shared.Param index

-- the specifications behind others
abbrev pub rows_behind : List Specification → List Row → List Specification
rows_behind rows [] = rows
rows_behind rows (row ∷ more) = rows_behind (rows ++ row_kept rows row ∷ []) more

-- all specifications
abbrev pub rows_kept : List Row → List Specification
rows_kept = rows_behind []

-- what is kept of a captured word
abbrev pub kept_of : CaptureKind → (word : ℕ) → Option Specification → Kept
kept_of kind.Dollar word row = Word word
kept_of kind.Address word row = Word word
kept_of (kind.Splice answer) number row = Number number
kept_of kind.Variable number row = Key (key_in number row)

abbrev pub all_kept : List Specification → List CaptureKind → List ℕ → List Kept
all_kept rows (k ∷ kinds) (v ∷ words) = kept_of k v (numbered v rows) ∷ all_kept rows kinds words
all_kept rows _ words = []

-- ---- what is read off a row that is kept

abbrev pub word_kept : Option Kept → ℕ
word_kept (Some (Word word)) = word
word_kept _ = 0

abbrev pub key_kept : Option Kept → ℕ
key_kept (Some (Key key)) = key
key_kept _ = 0

-- the syntax that is spliced in by a capture
abbrev pub splice_kept : List Specification → Option Kept → Option Syntax
splice_kept rows (Some (Number number)) = Some (syntax_in (numbered number rows))
splice_kept rows _ = None

-- the nodes of all that is spliced in
abbrev pub size_kept : Program → List Specification → List Kept → ℕ
size_kept program rows [] = 0
size_kept program rows (Number number ∷ kept) =
    syntax_size program (syntax_in (numbered number rows)) + size_kept program rows kept
size_kept program rows (k ∷ kept) = size_kept program rows kept

-- the parameters of what it names
abbrev pub parameters_kept : List Specification → List Kept → ℕ
parameters_kept rows [] = 0
parameters_kept rows (Key key ∷ kept) = max (key_parameters key) (parameters_kept rows kept)
parameters_kept rows (Number number ∷ kept) = max (parameters_of (syntax_in (numbered number rows)))
    (parameters_kept rows kept)
parameters_kept rows (Word word ∷ kept) = parameters_kept rows kept
