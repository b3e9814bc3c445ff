-- The tokens of a text: at each place the longest token, with blanks and comments skipped, or the first fault in text
-- order with its line. The token classes are C's, cut to this project's language; the order of the faults and the limit
-- on tokens are this project's own rules.
use Rattle.std.specs.Prelude.{◌≡◌, ◌≤◌, ℕ, zero, suc, ◌+◌, ◌-◌, Bool, not, ◌&&◌, ◌||◌, if◌then◌else◌, ◌==◌, nat_le}
use Rattle.std.specs.Prelude.{nat_lt, List, [], ◌∷◌, length, take, drop, slice_index, Option, Some, None, option_map}
use Rattle.std.specs.Prelude.{is_some, Result, Ok, Err}
use Rattle.std.specs.Char.{is_ascii_digit, is_ascii_alphabetic, is_ascii_alphanumeric}
use Rattle.std.specs.List.{prefix_len, count_by}
use Rattle.lex_words.specs.Words.{keyword_of, sign_at, spelling}
use Rattle.lex_words.specs.declared.signs.Sign.{Sign}
use Rattle.lex_literals.specs.Literals.{numeral_at, closing_of}
use Rattle.lex_literals.specs.declared.numbers.Numeral.{Numeral}
use Rattle.lex_literals.specs.declared.closings.Closing.{Closing}
use Rattle.lex_literals.specs.declared.closings.Closing.TheVariants.{Closed, Open, Wrong}
use Rattle.tick_tree.specs.declared.token.Token.{Token}
use Rattle.tick_tree.specs.declared.token.TokenKind.{TokenKind}
use Rattle.tick_tree.specs.declared.token.TokenKind.TheVariants as kind
use Rattle.tick_tree.specs.declared.fault.Fault.{Fault}
use Rattle.tick_tree.specs.declared.fault.FaultKind.{FaultKind}
use Rattle.tick_tree.specs.declared.fault.FaultKind.TheVariants as fault
use Rattle.c_lexer.specs.declared.classes.Class.{Class}
use Rattle.c_lexer.specs.declared.classes.Class.TheVariants as class
use Rattle.c_lexer.specs.declared.pieces.Piece.{Piece}
use Rattle.c_lexer.specs.declared.pieces.Piece.TheVariants.{Gap, Taken, Bad}
use Rattle.limits.specs.declared.text.TheConstants.{MAX_TOKENS}

abbrev pub Text : Type 0
Text = List ℕ

-- ---- classes of bytes: blanks are 32 and 9 to 13; a name goes on with letters, digits and `_`; a line up to its line
-- feed

abbrev pub is_in : Class → ℕ → Bool
is_in class.Blank b = b == 32 || (nat_le 9 b && nat_le b 13)
is_in class.Letter b = is_ascii_alphabetic b || b == 95
is_in class.Name b = is_ascii_alphanumeric b || b == 95
is_in class.Line b = not (b == 10)

-- the first place from `at` on whose byte is not of the class
abbrev pub past : Class → Text → ℕ → ℕ
past c z at = at + prefix_len (is_in c) (drop at z)

-- ---- the piece at the front of a text: a gap (blanks or a comment), a token with its kind and length, or a fault

-- a keyword or a name
abbrev pub word : Text → Piece
word z = let end = past class.Name z 0 in
    Taken (if is_some (keyword_of (take end z)) then kind.Keyword else kind.Name) end

abbrev pub number : Numeral → Piece
number n = if is_some n.value then Taken kind.Number n.len else Bad fault.BigLiteral

-- a string, by how it ends behind its quote
abbrev pub string : Closing → Piece
string (Closed end chars) = Taken kind.String (end + 1)
string Open = Bad fault.OpenLiteral
string (Wrong chars) = Bad fault.BadEscape

-- A character literal, which has exactly one character. Behind its first character no other is looked at, and no
-- escape.
abbrev pub character : Closing → Piece
character (Closed end chars) = if chars == 1 then Taken kind.Character (end + 1) else Bad fault.OpenLiteral
character Open = Bad fault.OpenLiteral
character (Wrong chars) = Bad (if chars == 0 then fault.BadEscape else fault.OpenLiteral)

-- the length of the rest of a comment, up to and with `*/`
abbrev pub comment_len : Text → Option ℕ
comment_len [] = None
comment_len (b ∷ z) = if b == 42 && slice_index z 0 == 47 then Some 2 else option_map (λ n. 1 + n) (comment_len z)

-- a comment, by the length of what follows its `/*`
abbrev pub comment : Option ℕ → Piece
comment None = Bad fault.OpenComment
comment (Some n) = Gap (2 + n)

abbrev pub sign : Option Sign → Piece
sign None = Bad fault.BadByte
sign (Some s) = Taken kind.Sign (length (spelling s))

unfoldable pub piece : Text → Piece
piece z =
    let b = slice_index z 0 in
    if is_in class.Blank b then Gap (past class.Blank z 1)
    else (if is_in class.Letter b then word z
    else (if is_ascii_digit b then number (numeral_at z)
    else (if b == 39 then character (closing_of 39 (drop 1 z))
    else (if b == 34 then string (closing_of 34 (drop 1 z))
    else (if b == 47 && slice_index z 1 == 47 then Gap (past class.Line z 2)
    else (if b == 47 && slice_index z 1 == 42 then comment (comment_len (drop 2 z))
    else sign (sign_at z)))))))

-- ---- the tokens

-- 1 plus the number of line feeds before a place
abbrev pub line_at : Text → ℕ → ℕ
line_at text at = 1 + count_by (λ b. b == 10) (take at text)

abbrev pub token_at : Text → TokenKind → ℕ → ℕ → Token
token_at text kind at len = record { kind = kind; at = at; len = len; line = line_at text at }

abbrev pub fault_at : Text → FaultKind → ℕ → Fault
fault_at text kind at = record { kind = kind; line = line_at text at; token = 0 }

abbrev pub Lexed : Type 0
Lexed = Result (List Token) Fault

-- a token before the others
abbrev pub before : Token → Lexed → Lexed
before t (Ok ts) = Ok (t ∷ ts)
before t (Err f) = Err f

-- the most tokens that a text may have
abbrev pub max_tokens : ℕ
max_tokens = MAX_TOKENS

-- What follows a piece at the place `at`, where `count` tokens stand before it and `goes` gives the tokens after the
-- piece,
-- from their count so far and the bytes of the piece that are still to pass.
abbrev pub by_piece : Text → ℕ → ℕ → (ℕ → ℕ → Lexed) → Piece → Lexed
by_piece text count at goes (Gap n) = goes count (n - 1)
by_piece text count at goes (Taken kind n) =
    if nat_lt count max_tokens then before (token_at text kind at n) (goes (count + 1) (n - 1))
    else Err (fault_at text fault.TooManyTokens at)
by_piece text count at goes (Bad kind) = Err (fault_at text kind at)

-- The tokens of the rest of a text from the place `at` on, of which `left` bytes belong to the last piece.
abbrev pub lex : Text → ℕ → ℕ → ℕ → Text → Lexed
lex text at count left [] = Ok []
lex text at count (suc left) (b ∷ z) = lex text (at + 1) count left z
lex text at count zero (b ∷ z) = by_piece text count at (λ c left. lex text (at + 1) c left z) (piece (b ∷ z))

-- the tokens of a text, or its first fault
abbrev pub tokens : Text → Lexed
tokens text = lex text 0 0 0 text

-- ---- what the functions ensure

-- a piece is not empty, and within the text
abbrev pub Within : ℕ → Piece → Type 0
Within len (Gap n) = (1 ≤ n) × (n ≤ len)
Within len (Taken kind n) = (1 ≤ n) × (n ≤ len)
Within len (Bad kind) = Unit {0}

-- a number, by the length of one that isn't too large
abbrev pub number_by : Option ℕ → Piece
number_by None = Bad fault.BigLiteral
number_by (Some n) = Taken kind.Number n

-- a name, keyword or sign has no line feed
abbrev pub Flat : Text → Piece → Type 0
Flat z (Taken kind.Name n) = count_by (λ b. b == 10) (take n z) ≡ 0
Flat z (Taken kind.Keyword n) = count_by (λ b. b == 10) (take n z) ≡ 0
Flat z (Taken kind.Sign n) = count_by (λ b. b == 10) (take n z) ≡ 0
Flat z _ = Unit {0}
