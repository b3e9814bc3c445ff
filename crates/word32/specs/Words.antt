-- Words of 32 bits, as the numbers below 4,294,967,296, and their arithmetic: results are taken modulo 2 ^ 32,
-- the signed view is two's complement, and a shift uses the low five bits of its count. These are the rules of the
-- MIPS R2000 architecture manual for registers, and this project's language has the same words.
use Rattle.std.specs.Prelude.{ℕ, ◌+◌, ◌-◌, ◌*◌, ◌/◌, ◌%◌, ◌^◌, Bool, nat_lt, if◌then◌else◌, ℤ, pos, negsuc, int_lt}

-- a number modulo 2 ^ 32
abbrev pub wrap : ℕ → ℕ
wrap x = x % 4294967296

abbrev pub sum : ℕ → ℕ → ℕ
sum a b = wrap (a + b)

abbrev pub difference : ℕ → ℕ → ℕ
difference a b = wrap (a + (4294967296 - b))

abbrev pub product : ℕ → ℕ → ℕ
product a b = wrap (a * b)

-- the signed view: the number itself below 2 ^ 31, and 2 ^ 32 less from there on
abbrev pub signed : ℕ → ℤ
signed w = if nat_lt w 2147483648 then pos w else negsuc (4294967295 - w)

-- the word whose signed view is this integer, modulo 2 ^ 32
abbrev pub word_of : ℤ → ℕ
word_of (pos n) = wrap n
word_of (negsuc n) = 4294967295 - wrap n

-- the order of the signed views
abbrev pub is_less_signed : ℕ → ℕ → Bool
is_less_signed a b = int_lt (signed a) (signed b)

-- a word with its sign bit turned: the order of signed views is the order of these
abbrev pub sign_turned : ℕ → ℕ
sign_turned w = sum w 2147483648

-- shifts, by the low five bits of the count
abbrev pub shifted_left : ℕ → ℕ → ℕ
shifted_left w count = wrap (w * 2 ^ (count % 32))

-- zeros come in
abbrev pub shifted_right : ℕ → ℕ → ℕ
shifted_right w count = w / 2 ^ (count % 32)

-- copies of the sign bit come in
abbrev pub shifted_right_signed : ℕ → ℕ → ℕ
shifted_right_signed w count =
    if nat_lt w 2147483648 then (w / 2 ^ (count % 32)) else (4294967295 - (4294967295 - w) / 2 ^ (count % 32))

-- a byte, widened with its sign
abbrev pub widened_byte : ℕ → ℕ
widened_byte b = if nat_lt b 128 then b else (b + 4294967040)

-- two bytes, widened with their sign
abbrev pub widened_half : ℕ → ℕ
widened_half h = if nat_lt h 32768 then h else (h + 4294901760)

-- the low byte of a word, widened with its sign
abbrev pub sext8 : ℕ → ℕ
sext8 w = widened_byte (w % 256)

-- the low two bytes of a word, widened with their sign
abbrev pub sext16 : ℕ → ℕ
sext16 w = widened_half (w % 65536)
