-- The words and signs of the language: how each is spelt, the keyword that a word is, and the longest sign that begins
-- a text. The lists are C's, cut to this project's language, with `C's `cspec`, `vspec`, `compile`, `local`, `param`,
-- `$` and the backquote.
use Rattle.std.specs.Prelude.{ℕ, ◌+◌, Bool, true, ◌&&◌, if◌then◌else◌, ◌==◌, List, [], ◌∷◌, slice_index, Option, Some}
use Rattle.std.specs.Prelude.{None, codes}
use Rattle.std.specs.Option.{option_or}
use Rattle.std.specs.Str.{bytes_eq}
use Rattle.lex_words.specs.declared.keywords.Keyword.{Keyword}
use Rattle.lex_words.specs.declared.keywords.Keyword.TheVariants as word
use Rattle.lex_words.specs.declared.signs.Sign.{Sign}
use Rattle.lex_words.specs.declared.signs.Sign.TheVariants as mark

abbrev pub Text : Type 0
Text = List ℕ

-- ---- keywords

-- how a keyword is spelt
abbrev pub keyword_spelling : Keyword → Text
keyword_spelling word.Void = codes "void"
keyword_spelling word.Char = codes "char"
keyword_spelling word.Short = codes "short"
keyword_spelling word.Int = codes "int"
keyword_spelling word.Long = codes "long"
keyword_spelling word.Signed = codes "signed"
keyword_spelling word.Unsigned = codes "unsigned"
keyword_spelling word.If = codes "if"
keyword_spelling word.Else = codes "else"
keyword_spelling word.While = codes "while"
keyword_spelling word.Do = codes "do"
keyword_spelling word.For = codes "for"
keyword_spelling word.Switch = codes "switch"
keyword_spelling word.Case = codes "case"
keyword_spelling word.Default = codes "default"
keyword_spelling word.Break = codes "break"
keyword_spelling word.Continue = codes "continue"
keyword_spelling word.Return = codes "return"
keyword_spelling word.Sizeof = codes "sizeof"
keyword_spelling word.Cspec = codes "cspec"
keyword_spelling word.Vspec = codes "vspec"
keyword_spelling word.Compile = codes "compile"
keyword_spelling word.Local = codes "local"
keyword_spelling word.Param = codes "param"

-- all keywords
abbrev pub keywords : List Keyword
keywords =
    word.Void ∷ word.Char ∷ word.Short ∷ word.Int ∷ word.Long ∷ word.Signed ∷ word.Unsigned ∷ word.If ∷
    word.Else ∷ word.While ∷ word.Do ∷ word.For ∷ word.Switch ∷ word.Case ∷ word.Default ∷ word.Break ∷
    word.Continue ∷ word.Return ∷ word.Sizeof ∷ word.Cspec ∷ word.Vspec ∷ word.Compile ∷ word.Local ∷
    word.Param ∷ []

-- the one of these keywords that a word is
abbrev pub spelt : List Keyword → Text → Option Keyword
spelt [] w = None
spelt (k ∷ ks) w = if bytes_eq w (keyword_spelling k) then Some k else spelt ks w

unfoldable pub keyword_of : Text → Option Keyword
keyword_of = spelt keywords

-- ---- signs

-- how a sign is spelt
abbrev pub spelling : Sign → Text
spelling mark.BraceOpen = codes "{"
spelling mark.BraceClose = codes "}"
spelling mark.ParenOpen = codes "("
spelling mark.ParenClose = codes ")"
spelling mark.BracketOpen = codes "["
spelling mark.BracketClose = codes "]"
spelling mark.Semicolon = codes ";"
spelling mark.Comma = codes ","
spelling mark.Question = codes "?"
spelling mark.Colon = codes ":"
spelling mark.Tilde = codes "~"
spelling mark.Not = codes "!"
spelling mark.Plus = codes "+"
spelling mark.Minus = codes "-"
spelling mark.Star = codes "*"
spelling mark.Slash = codes "/"
spelling mark.Percent = codes "%"
spelling mark.And = codes "&"
spelling mark.Or = codes "|"
spelling mark.Caret = codes "^"
spelling mark.Less = codes "<"
spelling mark.Greater = codes ">"
spelling mark.Assign = codes "="
spelling mark.Equal = codes "=="
spelling mark.NotEqual = codes "!="
spelling mark.LessEqual = codes "<="
spelling mark.GreaterEqual = codes ">="
spelling mark.ShiftLeft = codes "<<"
spelling mark.ShiftRight = codes ">>"
spelling mark.AndAnd = codes "&&"
spelling mark.OrOr = codes "||"
spelling mark.PlusPlus = codes "++"
spelling mark.MinusMinus = codes "--"
spelling mark.PlusAssign = codes "+="
spelling mark.MinusAssign = codes "-="
spelling mark.StarAssign = codes "*="
spelling mark.SlashAssign = codes "/="
spelling mark.PercentAssign = codes "%="
spelling mark.AndAssign = codes "&="
spelling mark.OrAssign = codes "|="
spelling mark.CaretAssign = codes "^="
spelling mark.ShiftLeftAssign = codes "<<="
spelling mark.ShiftRightAssign = codes ">>="
spelling mark.Dollar = codes "$"
spelling mark.Dot = codes "."
spelling mark.Arrow = codes "->"
spelling mark.Backquote = codes "`"

-- the signs of three bytes
abbrev pub of_three : List Sign
of_three =
    mark.ShiftLeftAssign ∷ mark.ShiftRightAssign ∷ []

-- the signs of two bytes
abbrev pub of_two : List Sign
of_two =
    mark.Equal ∷ mark.NotEqual ∷ mark.LessEqual ∷ mark.GreaterEqual ∷ mark.ShiftLeft ∷ mark.ShiftRight ∷
    mark.AndAnd ∷ mark.OrOr ∷ mark.PlusPlus ∷ mark.MinusMinus ∷ mark.PlusAssign ∷ mark.MinusAssign ∷
    mark.StarAssign ∷ mark.SlashAssign ∷ mark.PercentAssign ∷ mark.AndAssign ∷ mark.OrAssign ∷ mark.CaretAssign ∷
    mark.Arrow ∷ []

-- the signs of one byte
abbrev pub of_one : List Sign
of_one =
    mark.BraceOpen ∷ mark.BraceClose ∷ mark.ParenOpen ∷ mark.ParenClose ∷ mark.BracketOpen ∷ mark.BracketClose ∷
    mark.Semicolon ∷ mark.Comma ∷ mark.Question ∷ mark.Colon ∷ mark.Tilde ∷ mark.Not ∷ mark.Plus ∷ mark.Minus ∷
    mark.Star ∷ mark.Slash ∷ mark.Percent ∷ mark.And ∷ mark.Or ∷ mark.Caret ∷ mark.Less ∷ mark.Greater ∷
    mark.Assign ∷ mark.Dollar ∷ mark.Dot ∷ mark.Backquote ∷ []

-- whether these bytes stand in the text from a place on (no byte is 0, which is read behind the text's end)
abbrev pub stands : Text → Text → ℕ → Bool
stands [] z at = true
stands (b ∷ w) z at = slice_index z at == b && stands w z (at + 1)

-- the first of these signs that begins the text
abbrev pub first : List Sign → Text → Option Sign
first [] z = None
first (s ∷ ss) z = if stands (spelling s) z 0 then Some s else first ss z

-- the longest sign that begins the text
unfoldable pub sign_at : Text → Option Sign
sign_at z = option_or (first of_three z) (option_or (first of_two z) (first of_one z))
