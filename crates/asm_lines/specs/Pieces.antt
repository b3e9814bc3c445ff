-- The words and marks of a line of assembly text. Space, tab and carriage return are blanks; `,`, `:`, `(` and `)` are
-- marks; `#` begins a comment, which goes on to the end of the line; every other byte belongs to a word, which ends at
-- a blank, a mark or a comment. The form is this project's own.
use Rattle.std.specs.Prelude.{ℕ, Bool, true, false, ◌==◌, ◌||◌, if◌then◌else◌, List, [], ◌∷◌, Option, Some, None}
use Rattle.asm_lines.specs.declared.piece.Piece.{Piece}
use Rattle.asm_lines.specs.declared.piece.Piece.TheVariants as piece
use Rattle.asm_lines.specs.declared.piece.Class.{Class}
use Rattle.asm_lines.specs.declared.piece.Class.TheVariants as class

-- What a byte is.
abbrev pub class_of : ℕ → Class
class_of b =
    if b == 32 || (b == 9 || b == 13) then class.Blank
    else (if b == 35 then class.Comment
    else (if b == 44 then class.Mark piece.Comma
    else (if b == 58 then class.Mark piece.Colon
    else (if b == 40 then class.Mark piece.Open
    else (if b == 41 then class.Mark piece.Close
    else class.Part)))))

abbrev pub is_class_part : Class → Bool
is_class_part class.Blank = false
is_class_part class.Comment = false
is_class_part (class.Mark p) = false
is_class_part class.Part = true

-- Whether a byte belongs to a word.
abbrev pub is_part : ℕ → Bool
is_part b = is_class_part (class_of b)

-- The word at the front of a line, empty where none begins there, and the words and marks behind it.
pub record Split : Type 0 where
  pub word : List ℕ
  pub more : List Piece

-- All words and marks of a line whose front is split off.
abbrev pub closed_by : List ℕ → List Piece → List Piece
closed_by [] more = more
closed_by (b ∷ w) more = piece.Word (b ∷ w) ∷ more

abbrev pub closed : Split → List Piece
closed s = closed_by s.word s.more

-- A byte of this class before the rest of a line.
abbrev pub split_by : ℕ → Class → Split → Split
split_by b class.Blank s = record { word = []; more = closed s }
split_by b class.Comment s = record { word = []; more = [] }
split_by b (class.Mark p) s = record { word = []; more = p ∷ closed s }
split_by b class.Part s = record { word = b ∷ s.word; more = s.more }

abbrev pub split : List ℕ → Split
split [] = record { word = []; more = [] }
split (b ∷ z) = split_by b (class_of b) (split z)

-- The words and marks of a line.
unfoldable pub pieces : List ℕ → List Piece
pieces line = closed (split line)

-- The word that a piece is.
abbrev pub word_in : Piece → Option (List ℕ)
word_in (piece.Word w) = Some w
word_in p = None

abbrev pub is_comma : Piece → Bool
is_comma piece.Comma = true
is_comma p = false

abbrev pub is_colon : Piece → Bool
is_colon piece.Colon = true
is_colon p = false

abbrev pub is_open : Piece → Bool
is_open piece.Open = true
is_open p = false

abbrev pub is_close : Piece → Bool
is_close piece.Close = true
is_close p = false
