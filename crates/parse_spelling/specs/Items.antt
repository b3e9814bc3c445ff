-- What the grammar reads of each token of a text: its kind, by its bytes; its line; the value of a number or a
-- character; the bytes of a name, or those behind the opening quote of a string. The kinds are the grammar's own.
use Rattle.std.specs.Prelude.{ℕ, Bool, false, List, [], take, drop, map, Option, Some, None}
use Rattle.tick_tree.specs.declared.base.BinaryOp.TheVariants as op
use Rattle.tick_tree.specs.declared.base.ModifyOp.TheVariants as modify
use Rattle.tick_tree.specs.declared.base.StepOp.TheVariants as step_op
use Rattle.tick_tree.specs.declared.base.UnaryOp.TheVariants as unary_op
use Rattle.tick_tree.specs.declared.token.Token.{Token}
use Rattle.tick_tree.specs.declared.token.TokenKind.{TokenKind}
use Rattle.tick_tree.specs.declared.token.TokenKind.TheVariants as kind
use Rattle.lex_words.specs.declared.keywords.Keyword.{Keyword}
use Rattle.lex_words.specs.declared.keywords.Keyword.TheVariants as word
use Rattle.lex_words.specs.declared.signs.Sign.{Sign}
use Rattle.lex_words.specs.declared.signs.Sign.TheVariants as mark
use Rattle.lex_words.specs.Words.{keyword_of, sign_at}
use Rattle.lex_literals.specs.Literals.{numeral_at, character_value}
use Rattle.parse_grammar.specs.declared.item.Item.{Item}
use Rattle.parse_grammar.specs.declared.kind.Kind.{Kind}
use Rattle.parse_grammar.specs.declared.kind.Kind.TheVariants as k
use Rattle.parse_grammar.specs.declared.kind.BaseWord.TheVariants as base
use Rattle.parse_grammar.specs.declared.kind.Word.TheVariants as w
use Rattle.parse_grammar.specs.declared.kind.Mark.TheVariants as m

abbrev pub Text : Type 0
Text = List ℕ

-- the bytes of a token
abbrev pub bytes_of : Text → Token → Text
bytes_of text t = take t.len (drop t.at text)

abbrev pub keyword_kind : Keyword → Kind
keyword_kind word.Void = k.Base base.Void
keyword_kind word.Char = k.Base base.Char
keyword_kind word.Short = k.Base base.Short
keyword_kind word.Int = k.Base base.Int
keyword_kind word.Long = k.Base base.Long
keyword_kind word.Signed = k.Base base.Signed
keyword_kind word.Unsigned = k.Base base.Unsigned
keyword_kind word.If = k.Word w.If
keyword_kind word.Else = k.Mark m.Else
keyword_kind word.While = k.Word w.While
keyword_kind word.Do = k.Word w.Do
keyword_kind word.For = k.Word w.For
keyword_kind word.Switch = k.Word w.Switch
keyword_kind word.Case = k.Word w.Case
keyword_kind word.Default = k.Word w.Default
keyword_kind word.Break = k.Word w.Break
keyword_kind word.Continue = k.Word w.Continue
keyword_kind word.Return = k.Word w.Return
keyword_kind word.Sizeof = k.Sizeof
keyword_kind word.Cspec = k.Cspec
keyword_kind word.Vspec = k.Vspec
keyword_kind word.Compile = k.Compile
keyword_kind word.Local = k.Local
keyword_kind word.Param = k.Param

abbrev pub sign_kind : Sign → Kind
sign_kind mark.BraceOpen = k.Mark m.BraceOpen
sign_kind mark.BraceClose = k.Mark m.BraceClose
sign_kind mark.ParenOpen = k.Mark m.ParenOpen
sign_kind mark.ParenClose = k.Mark m.ParenClose
sign_kind mark.BracketOpen = k.Mark m.BracketOpen
sign_kind mark.BracketClose = k.Mark m.BracketClose
sign_kind mark.Semicolon = k.Mark m.Semicolon
sign_kind mark.Comma = k.Mark m.Comma
sign_kind mark.Question = k.Mark m.Question
sign_kind mark.Colon = k.Mark m.Colon
sign_kind mark.Tilde = k.Unary unary_op.Complement
sign_kind mark.Not = k.Unary unary_op.Not
sign_kind mark.Plus = k.Operator op.Add
sign_kind mark.Minus = k.Operator op.Sub
sign_kind mark.Star = k.Operator op.Mul
sign_kind mark.Slash = k.Operator op.Div
sign_kind mark.Percent = k.Operator op.Rem
sign_kind mark.And = k.Operator op.BitAnd
sign_kind mark.Or = k.Operator op.BitOr
sign_kind mark.Caret = k.Operator op.BitXor
sign_kind mark.Less = k.Operator op.Less
sign_kind mark.Greater = k.Operator op.Greater
sign_kind mark.Assign = k.Mark m.Assign
sign_kind mark.Equal = k.Operator op.Equal
sign_kind mark.NotEqual = k.Operator op.NotEqual
sign_kind mark.LessEqual = k.Operator op.AtMost
sign_kind mark.GreaterEqual = k.Operator op.AtLeast
sign_kind mark.ShiftLeft = k.Operator op.ShiftLeft
sign_kind mark.ShiftRight = k.Operator op.ShiftRight
sign_kind mark.AndAnd = k.Operator op.And
sign_kind mark.OrOr = k.Operator op.Or
sign_kind mark.PlusPlus = k.Step step_op.Increment
sign_kind mark.MinusMinus = k.Step step_op.Decrement
sign_kind mark.PlusAssign = k.Modify modify.Add
sign_kind mark.MinusAssign = k.Modify modify.Sub
sign_kind mark.StarAssign = k.Modify modify.Mul
sign_kind mark.SlashAssign = k.Modify modify.Div
sign_kind mark.PercentAssign = k.Modify modify.Rem
sign_kind mark.AndAssign = k.Modify modify.BitAnd
sign_kind mark.OrAssign = k.Modify modify.BitOr
sign_kind mark.CaretAssign = k.Modify modify.BitXor
sign_kind mark.ShiftLeftAssign = k.Modify modify.ShiftLeft
sign_kind mark.ShiftRightAssign = k.Modify modify.ShiftRight
sign_kind mark.Dollar = k.Unary unary_op.Dollar
sign_kind mark.Dot = k.Mark m.Dot
sign_kind mark.Arrow = k.Mark m.Arrow
sign_kind mark.Backquote = k.Backquote

-- A keyword token is a keyword and a sign token a sign; bytes that are neither are what no production takes.
abbrev pub keyword_by : Option Keyword → Kind
keyword_by None = k.End
keyword_by (Some found) = keyword_kind found

abbrev pub sign_by : Option Sign → Kind
sign_by None = k.End
sign_by (Some found) = sign_kind found

abbrev pub kind_by : TokenKind → Text → Kind
kind_by kind.Name bytes = k.Name
kind_by kind.Keyword bytes = keyword_by (keyword_of bytes)
kind_by kind.Number bytes = k.Number
kind_by kind.Character bytes = k.Character
kind_by kind.String bytes = k.String
kind_by kind.Sign bytes = sign_by (sign_at bytes)

-- the value of a number token; none is over 4,294,967,295
abbrev pub fitting : Option ℕ → ℕ
fitting None = 0
fitting (Some n) = n

abbrev pub value_by : TokenKind → Text → ℕ
value_by kind.Number bytes = fitting (numeral_at bytes).value
value_by kind.Character bytes = character_value (drop 1 bytes)
value_by _ bytes = 0

abbrev pub unsigned_by : TokenKind → Text → Bool
unsigned_by kind.Number bytes = (numeral_at bytes).unsigned
unsigned_by _ bytes = false

abbrev pub text_by : TokenKind → Text → Text
text_by kind.Name bytes = bytes
text_by kind.String bytes = drop 1 bytes
text_by _ bytes = []

unfoldable pub item_of : Text → Token → Item
item_of text t = let bytes = bytes_of text t in record {
  kind = kind_by t.kind bytes;
  line = t.line;
  value = value_by t.kind bytes;
  unsigned = unsigned_by t.kind bytes;
  text = text_by t.kind bytes;
}

abbrev pub items_of : Text → List Token → List Item
items_of text tokens = map (item_of text) tokens
