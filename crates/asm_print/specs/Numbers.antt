-- How numbers stand in the text of an image: decimal, a minus sign before a negative one, and eight lower-case
-- hexadecimal digits for addresses and for words that are no instructions. The text's form is this project's own.
use Rattle.std.specs.Prelude.{ℕ, ◌+◌, ◌-◌, ◌/◌, ◌%◌, nat_lt, List, [], ◌∷◌, ◌++◌, if◌then◌else◌, codes, decimal}
use Rattle.asm_print.specs.declared.operand.Operand.{Operand}
use Rattle.asm_print.specs.declared.operand.Operand.TheVariants.{Numbered, Signed, Unsigned, Address}

-- a hexadecimal digit in lower case
abbrev pub hex_digit : ℕ → ℕ
hex_digit d = if nat_lt d 10 then d + 48 else d + 87

-- a byte as two of them
abbrev pub hex_byte : ℕ → List ℕ
hex_byte b = hex_digit (b / 16 % 16) ∷ hex_digit (b % 16) ∷ []

-- a word as eight of them
abbrev pub hex_word : ℕ → List ℕ
hex_word w =
    hex_digit (w / 268435456 % 16) ∷ hex_digit (w / 16777216 % 16)
    ∷ hex_digit (w / 1048576 % 16) ∷ hex_digit (w / 65536 % 16)
    ∷ hex_digit (w / 4096 % 16) ∷ hex_digit (w / 256 % 16)
    ∷ hex_digit (w / 16 % 16) ∷ hex_digit (w % 16) ∷ []

-- an address, or a word that is no instruction
abbrev pub prefixed_word : ℕ → List ℕ
prefixed_word w = codes "0x" ++ hex_word w

-- the number that 16 bits stand for, where bit 15 is the sign
abbrev pub signed_half : ℕ → List ℕ
signed_half n = if nat_lt n 32768 then decimal n else codes "-" ++ decimal (65536 - n)

-- an operand
abbrev pub operand_text : Operand → List ℕ
operand_text (Numbered n) = codes "$" ++ decimal n
operand_text (Signed n) = signed_half n
operand_text (Unsigned n) = decimal n
operand_text (Address a) = prefixed_word a
