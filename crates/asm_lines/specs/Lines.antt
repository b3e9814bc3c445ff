-- What a line of assembly text says: an optional label with a colon, and an optional statement, which is a directive or
-- an instruction. A line of another form says nothing. The form is this project's own.
use Rattle.std.specs.Prelude.{ℕ, ◌≤◌, if◌then◌else◌, List, [], ◌∷◌, length, Option, Some, None, codes}
use Rattle.std.specs.Str.{bytes_eq}
use Rattle.asm_words.specs.declared.operation.Operation.{Operation}
use Rattle.asm_words.specs.Names.{is_name}
use Rattle.asm_words.specs.Data.{are_pairs}
use Rattle.asm_words.specs.Numbers.{number_of}
use Rattle.asm_words.specs.Operations.{operation_of}
use Rattle.asm_lines.specs.declared.piece.Piece.{Piece}
use Rattle.asm_lines.specs.declared.line.Statement.{Statement}
use Rattle.asm_lines.specs.declared.line.Statement.TheVariants as statement
use Rattle.asm_lines.specs.declared.line.Line.{Line}
use Rattle.asm_lines.specs.Pieces.{word_in, is_colon, pieces}
use Rattle.asm_lines.specs.Operands.{◌>>=◌, pure, operands_of, target_of}
use Rattle.asm_lines.specs.Drafts.{drafted}

-- `.entry A`
abbrev pub entry : List Piece → Option Statement
entry (a ∷ []) = do
  w ← word_in a
  t ← target_of w
  pure (statement.Entry t)
entry z = None

-- `.fn A COUNT`
abbrev pub function : List Piece → Option Statement
function (a ∷ c ∷ []) = do
  w ← word_in a
  v ← word_in c
  t ← target_of w
  n ← number_of v
  pure (statement.Function t n)
function z = None

-- `.data HEX`
abbrev pub data_bytes : List Piece → Option Statement
data_bytes (h ∷ []) = do
  w ← word_in h
  if are_pairs w then pure (statement.Data w) else None
data_bytes z = None

-- `.word N`
abbrev pub plain_word : List Piece → Option Statement
plain_word (a ∷ []) = do
  w ← word_in a
  n ← number_of w
  pure (statement.Word n)
plain_word z = None

-- an operation and its operands
abbrev pub instruction : Option Operation → List Piece → Option Statement
instruction None z = None
instruction (Some op) z = do
  operands ← operands_of z
  d ← drafted op operands
  pure (statement.Instruction d)

-- The statement that a word begins, with the words and marks behind it.
abbrev pub statement_by : List ℕ → List Piece → Option Statement
statement_by w z =
    if bytes_eq w (codes ".entry") then entry z
    else (if bytes_eq w (codes ".fn") then function z
    else (if bytes_eq w (codes ".data") then data_bytes z
    else (if bytes_eq w (codes ".word") then plain_word z
    else instruction (operation_of w) z)))

unfoldable pub statement_of : List Piece → Option Statement
statement_of [] = Some statement.Nothing
statement_of (a ∷ z) = do
  w ← word_in a
  statement_by w z

-- A label before a statement.
abbrev pub labelled : Piece → List Piece → Option Line
labelled a z = do
  w ← word_in a
  s ← statement_of z
  if is_name w then pure (record { label = Some w; statement = s }) else None

abbrev pub unlabelled : List Piece → Option Line
unlabelled z = do
  s ← statement_of z
  pure (record { label = None; statement = s })

-- The line that words and marks are.
abbrev pub line_in : List Piece → Option Line
line_in (a ∷ m ∷ z) = if is_colon m then labelled a z else unlabelled (a ∷ m ∷ z)
line_in z = unlabelled z

-- What a line says, and none where it has another form.
unfoldable pub line_of : List ℕ → Option Line
line_of line = line_in (pieces line)

-- How many digits of data a line has, and that they are at most so many.
abbrev pub digits_of : Statement → ℕ
digits_of (statement.Data digits) = length digits
digits_of s = 0

abbrev pub HasDigits : ℕ → Option Line → Type 0
HasDigits n None = Unit {0}
HasDigits n (Some l) = digits_of l.statement ≤ n
