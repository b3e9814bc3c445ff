-- The numbers of assembly text, and the fields that they fit. A number is decimal digits, with a minus sign before
-- them where it is negative, or `0x` and hexadecimal digits of either case, as many as stand there. The form is this
-- project's own; the fields are those of the MIPS R2000 instruction formats.
use Rattle.std.specs.Prelude.{
  ℕ,
  ◌+◌,
  ◌-◌,
  ◌*◌,
  Bool,
  true,
  false,
  not,
  ◌&&◌,
  if◌then◌else◌,
  ◌==◌,
  nat_le,
  nat_lt,
  List,
  [],
  ◌∷◌,
  drop,
  length,
  slice_index,
  Option,
  Some,
  None,
}
use Rattle.std.specs.Char.{is_ascii_digit, is_ascii_hexdigit}
use Rattle.std.specs.List.{list_all}
use Rattle.asm_words.specs.declared.number.Base.{Base}
use Rattle.asm_words.specs.declared.number.Base.TheVariants.{Decimal, Hexadecimal}
use Rattle.asm_words.specs.declared.number.Number.{Number}

abbrev pub radix : Base → ℕ
radix Decimal = 10
radix Hexadecimal = 16

abbrev pub is_digit : Base → ℕ → Bool
is_digit Decimal b = is_ascii_digit b
is_digit Hexadecimal b = is_ascii_hexdigit b

-- The value of a digit, `0` to `9`, `A` to `F` or `a` to `f`.
abbrev pub digit_value : ℕ → ℕ
digit_value b = if nat_le b 57 then b - 48 else (if nat_le b 70 then b - 55 else b - 87)

-- The number that digits spell, where `n` is what the digits before them spell.
abbrev pub value_of : ℕ → ℕ → List ℕ → ℕ
value_of radix n [] = n
value_of radix n (b ∷ z) = value_of radix (n * radix + digit_value b) z

-- A number, where it fits a word.
abbrev pub fitting : ℕ → Option ℕ
fitting n = if nat_le n 4294967295 then Some n else None

-- Whether digits stand here, at least one and nothing else.
abbrev pub are_digits : Base → List ℕ → Bool
are_digits base z = nat_lt 0 (length z) && list_all (is_digit base) z

-- The number of these digits.
abbrev pub number_in : Bool → Base → List ℕ → Option Number
number_in negative base z =
    if are_digits base z then Some (record { negative = negative; magnitude = fitting (value_of (radix base) 0 z) })
    else None

-- The number that a word is, and none where it isn't of the form of a number.
unfoldable pub number_of : List ℕ → Option Number
number_of w =
    if slice_index w 0 == 45 then number_in true Decimal (drop 1 w)
    else (if slice_index w 0 == 48 && slice_index w 1 == 120 then number_in false Hexadecimal (drop 2 w)
    else number_in false Decimal w)

-- A number as a word without a sign; 0 may have a minus.
abbrev pub unsigned_by : Bool → Option ℕ → Option ℕ
unsigned_by negative None = None
unsigned_by negative (Some m) = if negative && not (m == 0) then None else Some m

abbrev pub unsigned : Number → Option ℕ
unsigned n = unsigned_by n.negative n.magnitude

-- A number from -32,768 to 32,767 as 16 bits, of which bit 15 is the sign.
abbrev pub signed_half_by : Bool → Option ℕ → Option ℕ
signed_half_by negative None = None
signed_half_by negative (Some m) =
    if negative && not (m == 0) then (if nat_le m 32768 then Some (65536 - m) else None)
    else (if nat_lt m 32768 then Some m else None)

abbrev pub signed_half : Number → Option ℕ
signed_half n = signed_half_by n.negative n.magnitude
