-- Numbers, character literals and strings: how far each goes in a text, and what it stands for. The rules are C's, cut
-- to this project's profile: numbers are 32-bit words, a `char` is a signed byte, and an escape takes as many digits as
-- stand there, up to three octal or two hexadecimal ones.
use Rattle.std.specs.Prelude.{◌≤◌, ℕ, zero, suc, ◌+◌, ◌-◌, ◌*◌, min, Bool, ◌&&◌, ◌||◌, if◌then◌else◌, ◌==◌, nat_le}
use Rattle.std.specs.Prelude.{nat_lt, List, [], ◌∷◌, take, drop, slice_index, Option, Some, None, option_map}
use Rattle.std.specs.Char.{is_ascii_digit, is_ascii_hexdigit}
use Rattle.std.specs.List.{prefix_len}
use Rattle.lex_literals.specs.declared.numbers.Base.{Base}
use Rattle.lex_literals.specs.declared.numbers.Base.TheVariants as base
use Rattle.lex_literals.specs.declared.numbers.Numeral.{Numeral}
use Rattle.lex_literals.specs.declared.characters.Character.{Character}
use Rattle.lex_literals.specs.declared.closings.Closing.{Closing}
use Rattle.lex_literals.specs.declared.closings.Closing.TheVariants.{Closed, Open, Wrong}

abbrev pub Text : Type 0
Text = List ℕ

-- ---- digits

abbrev pub radix : Base → ℕ
radix base.Octal = 8
radix base.Decimal = 10
radix base.Hexadecimal = 16

abbrev pub is_digit : Base → ℕ → Bool
is_digit base.Octal b = nat_le 48 b && nat_le b 55
is_digit base.Decimal b = is_ascii_digit b
is_digit base.Hexadecimal b = is_ascii_hexdigit b

-- how many digits stand at the front of a text
abbrev pub digit_count : Base → Text → ℕ
digit_count base z = prefix_len (is_digit base) z

-- the value of a digit, `0` to `9`, `A` to `F` or `a` to `f`
abbrev pub digit_value : ℕ → ℕ
digit_value b = if nat_le b 57 then b - 48 else (if nat_le b 70 then b - 55 else b - 87)

-- the number that digits spell, where `n` is what the digits before them spell
abbrev pub value_of : ℕ → ℕ → Text → ℕ
value_of radix n [] = n
value_of radix n (b ∷ z) = value_of radix (n * radix + digit_value b) z

-- the number that the first `count` bytes spell
abbrev pub spelt : Base → ℕ → Text → ℕ
spelt base count z = value_of (radix base) 0 (take count z)

-- ---- numbers

-- the suffix `u` or `U`
abbrev pub is_suffix : ℕ → Bool
is_suffix b = b == 117 || b == 85

-- the value of a number token, and none where it doesn't fit a word
abbrev pub fitting : ℕ → Option ℕ
fitting n = if nat_le n 4294967295 then Some n else None

-- a number that ends at the place `end`, before its suffix
abbrev pub suffixed : ℕ → ℕ → Bool → Numeral
suffixed end n suffix = record {
  len = end + (if suffix then 1 else 0);
  value = fitting n;
  unsigned = suffix || nat_lt 2147483647 n;
}

-- a number whose digits begin at the place `from`
abbrev pub written : Base → ℕ → Text → Numeral
written base from z =
    let count = digit_count base (drop from z) in
    suffixed (from + count) (spelt base count (drop from z)) (is_suffix (slice_index z (from + count)))

-- `0x` or `0X` with a digit
abbrev pub is_hexadecimal : Text → Bool
is_hexadecimal z =
    slice_index z 0 == 48 && (slice_index z 1 == 120 || slice_index z 1 == 88) && is_ascii_hexdigit (slice_index z 2)

-- The number at the front of a text that begins with a digit: its length with the suffix, its value (none over
-- 4,294,967,295), and whether its type is unsigned (by the suffix, or over 2,147,483,647) and not int.
unfoldable pub numeral_at : Text → Numeral
numeral_at z =
    if is_hexadecimal z then written base.Hexadecimal 2 z
    else (if slice_index z 0 == 48 then written base.Octal 0 z
    else written base.Decimal 0 z)

-- ---- characters

-- the value of the escape of one letter or sign: n t r a b f v \ ' " ?
abbrev pub simple_escape : ℕ → Option ℕ
simple_escape b =
    if b == 110 then Some 10
    else (if b == 116 then Some 9
    else (if b == 114 then Some 13
    else (if b == 97 then Some 7
    else (if b == 98 then Some 8
    else (if b == 102 then Some 12
    else (if b == 118 then Some 11
    else (if b == 92 || b == 39 || b == 34 || b == 63 then Some b
    else None)))))))

-- the character of `len` bytes and this value
abbrev pub of_len : ℕ → ℕ → Character
of_len len value = record { len = len; value = value }

-- An escape of digits whose first digit stands at the place `from`, where `count` of them stand there: none where no
-- digit does, or where they spell more than a byte.
abbrev pub numbered : Base → ℕ → ℕ → Text → Option Character
numbered base from count z =
    if nat_lt 0 count && nat_le (spelt base count (drop from z)) 255
    then Some (of_len (from + count) (spelt base count (drop from z)))
    else None

-- The escape that follows a `\`, of so many bytes: none where none begins.
unfoldable pub escape : Text → Option Character
escape z =
    if slice_index z 0 == 120 then numbered base.Hexadecimal 1 (min 2 (digit_count base.Hexadecimal (drop 1 z))) z
    else (if is_digit base.Octal (slice_index z 0) then numbered base.Octal 0 (min 3 (digit_count base.Octal z)) z
    else option_map (of_len 1) (simple_escape (slice_index z 0)))

-- the character with one byte more before it
abbrev pub one_longer : Character → Character
one_longer c = of_len (c.len + 1) c.value

-- The character at the front of a text inside a literal: how many bytes it takes, and the byte that it stands for. None
-- where a `\` begins no escape.
unfoldable pub character_at : Text → Option Character
character_at z =
    if slice_index z 0 == 92 then option_map one_longer (escape (drop 1 z))
    else Some (of_len 1 (slice_index z 0))

-- the word of a byte as a signed char
abbrev pub signed_word : ℕ → ℕ
signed_word b = if nat_lt b 128 then b else b + 4294967040

abbrev pub word_of : Option Character → ℕ
word_of None = 0
word_of (Some c) = signed_word c.value

-- The value of a character literal, as a word: of the character at the front of the text behind its quote.
unfoldable pub character_value : Text → ℕ
character_value z = word_of (character_at z)

-- ---- literals

-- what follows a character of so many bytes
abbrev pub by_character : {A : Type 0} → A → (Character → A) → Option Character → A
by_character wrong goes None = wrong
by_character wrong goes (Some c) = goes c

-- How a literal goes on from the place `at`, behind its opening quote. The next `left` bytes belong to the last of
-- `chars` characters. Any byte but a line feed, a `\` and the closing quote stands for itself.
abbrev pub closes : ℕ → ℕ → ℕ → ℕ → Text → Closing
closes quote chars left at [] = Open
closes quote chars (suc left) at (b ∷ z) = closes quote chars left (at + 1) z
closes quote chars zero at (b ∷ z) =
    if b == quote then Closed (at + 1) chars
    else (if b == 10 then Open
    else by_character (Wrong chars) (λ c. closes quote (chars + 1) (c.len - 1) (at + 1) z) (character_at (b ∷ z)))

-- How a literal ends: at its closing quote, with its length up to and with the quote and its count of characters; or
-- not on its line; or at a `\` that begins no escape, with the count of characters before it.
unfoldable pub closing_of : ℕ → Text → Closing
closing_of quote z = closes quote 0 0 0 z

-- The bytes of a string from here on. The next `left` bytes belong to the last character.
abbrev pub bytes_from : ℕ → Text → List ℕ
bytes_from left [] = []
bytes_from (suc left) (b ∷ z) = bytes_from left z
bytes_from zero (b ∷ z) =
    if b == 34 then [] else by_character [] (λ c. c.value ∷ bytes_from (c.len - 1) z) (character_at (b ∷ z))

-- the bytes that a string stands for, without the closing zero byte: of its characters up to the closing quote
unfoldable pub string_bytes : Text → List ℕ
string_bytes z = bytes_from 0 z

-- a literal ends within its text
abbrev pub Ends : ℕ → Closing → Type 0
Ends len (Closed end chars) = end ≤ len
Ends len Open = Unit {0}
Ends len (Wrong chars) = chars ≤ len
