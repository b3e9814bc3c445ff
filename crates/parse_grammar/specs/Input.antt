-- What a parser reads from, and the steps that every production is made of. A parser takes a list of tokens, and gives
-- a value and the tokens behind it, or says which token is refused, and why. The combinators are this project's own.
use Rattle.std.specs.Prelude.{◌≡◌, ◌≢◌, ℕ, zero, suc, Bool, true, false, if◌then◌else◌, List, [], ◌∷◌, ◌++◌, length}
use Rattle.std.specs.Prelude.{Result, Ok, Err}
use denote.Enum.Bare.{sameb}
use Rattle.parse_grammar.specs.contracts.kind.Mark as of_mark
use Rattle.parse_grammar.specs.contracts.kind.Word as of_word
use Rattle.parse_grammar.specs.declared.kind.Kind.{Kind}
use Rattle.parse_grammar.specs.declared.kind.Kind.TheVariants as k
use Rattle.parse_grammar.specs.declared.kind.Mark.{Mark}
use Rattle.parse_grammar.specs.declared.kind.Word.{Word}
use Rattle.parse_grammar.specs.declared.item.Item.{Item}
use Rattle.parse_grammar.specs.declared.stop.Stop.{Stop}
use Rattle.parse_grammar.specs.declared.stop.Stop.TheVariants.{NoMemory, Syntax, TooDeep}

abbrev pub Input : Type 0
Input = List Item

-- the kind of the next token; the end of the text counts as a token
unfoldable pub kind : Input → Kind
kind [] = k.End
kind (t ∷ i) = t.kind

unfoldable pub line : Input → ℕ
line [] = 0
line (t ∷ i) = t.line

unfoldable pub value : Input → ℕ
value [] = 0
value (t ∷ i) = t.value

unfoldable pub unsigned : Input → Bool
unsigned [] = false
unsigned (t ∷ i) = t.unsigned

unfoldable pub text : Input → List ℕ
text [] = []
text (t ∷ i) = t.text

unfoldable pub next : Input → Input
next [] = []
next (t ∷ i) = i

unfoldable pub same_mark : Mark → Mark → Bool
same_mark = sameb of_mark.the_type

unfoldable pub same_word : Word → Word → Bool
same_word = sameb of_word.the_type

unfoldable pub is_mark : Mark → Kind → Bool
is_mark mark (k.Mark found) = same_mark found mark
is_mark mark _ = false

unfoldable pub is_word : Word → Kind → Bool
is_word word (k.Word found) = same_word found word
is_word word _ = false

-- ---- parsers: a value and the tokens after it, or why there is none

abbrev pub Outcome : Type 0 → Type 0
Outcome A = Result (A × Input) Stop

abbrev pub Parser : Type 0 → Type 0
Parser A = Input → Outcome A

abbrev pub and_then : {A B : Type 0} → Outcome A → (A → Parser B) → Outcome B
and_then (Ok p) f = f p.0 p.1
and_then (Err e) f = Err e

infixl 10 ◌>>=◌
abbrev pub ◌>>=◌ : {A B : Type 0} → Parser A → (A → Parser B) → Parser B
p >>= f = λ i. and_then (p i) f

infixl 10 ◌>>◌
abbrev pub ◌>>◌ : {A B : Type 0} → Parser A → Parser B → Parser B
p >> q = p >>= (λ _. q)

abbrev pub pure : {A : Type 0} → A → Parser A
pure a = λ i. Ok (a, i)

infixr 11 ◌<$>◌
abbrev pub ◌<$>◌ : {A B : Type 0} → (A → B) → Parser A → Parser B
f <$> p = p >>= (λ x. pure (f x))

-- no production takes the next token
abbrev pub refuse : {A : Type 0} → Parser A
refuse = λ i. Err (Syntax (length i))

-- the next token nests too deep
abbrev pub too_deep : {A : Type 0} → Parser A
too_deep = λ i. Err (TooDeep (length i))

abbrev pub peek : Parser Kind
peek = λ i. Ok (kind i, i)

-- the kind of the token behind the next one
abbrev pub peek_second : Parser Kind
peek_second = λ i. Ok (kind (next i), i)

abbrev pub at_line : Parser ℕ
at_line = λ i. Ok (line i, i)

abbrev pub take_token : Parser (Unit {0})
take_token = λ i. Ok (tt, next i)

abbrev pub sees : Mark → Input → Bool
sees mark i = is_mark mark (kind i)

abbrev pub after : Mark → Input → Input
after mark i = if sees mark i then next i else i

-- takes this mark, if it comes next
abbrev pub eat : Mark → Parser Bool
eat mark = λ i. Ok (sees mark i, after mark i)

abbrev pub expect : Mark → Parser (Unit {0})
expect mark = λ i. if sees mark i then Ok (tt, next i) else refuse i

abbrev pub expect_word : Word → Parser (Unit {0})
expect_word word = λ i. if is_word word (kind i) then Ok (tt, next i) else refuse i

-- ---- what a function that parses ensures: the parser's outcome, unless memory fails

abbrev pub Reads : {A : Type 0} → Outcome A → Result A Stop → Input → Type 0
Reads outcome (Ok a) new = outcome ≡ Ok (a, new)
Reads outcome (Err e) new = e ≢ NoMemory → outcome ≡ Err e
