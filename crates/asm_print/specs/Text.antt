-- The text of an image: its entry, its functions, its data in lines of at most 32 bytes, and one line for each word
-- of its text, the instruction, or the word where the table has no instruction with it. The form is this project's
-- own; the assembler reads it back as the image.
use Rattle.std.specs.Prelude.{ℕ, ◌*◌, List, ◌++◌, length, take, drop, Option, Some, None, codes, decimal}
use Rattle.std.specs.Int.{div_ceil}
use Rattle.std.specs.List.{flat_map, range_with_len}
use Rattle.mips_encoder.specs.declared.instruction.Instr.{Instr}
use Rattle.mips_encoder.specs.Decoded.{instr_of}
use Rattle.image_file.specs.Image.{ImageParts}
use Rattle.image_file.specs.declared.image.FunctionEntry.{FunctionEntry}
use Rattle.asm_print.specs.Numbers.{hex_byte, prefixed_word}
use Rattle.asm_print.specs.Instructions.{spelled}

abbrev pub entry_line : ℕ → List ℕ
entry_line address = codes ".entry " ++ prefixed_word address ++ codes "\n"

abbrev pub function_line : FunctionEntry → List ℕ
function_line f = codes ".fn " ++ prefixed_word f.address ++ codes " " ++ decimal f.count ++ codes "\n"

-- A line of data.
abbrev pub data_line : List ℕ → List ℕ
data_line bytes = codes ".data " ++ flat_map hex_byte bytes ++ codes "\n"

-- The line of data with this number, counted from 0: 32 bytes, and fewer where the data end.
abbrev pub data_line_at : List ℕ → ℕ → List ℕ
data_line_at bytes k = data_line (take 32 (drop (32 * k) bytes))

-- All lines of data.
abbrev pub data_lines : List ℕ → List ℕ
data_lines bytes = flat_map (data_line_at bytes) (range_with_len 0 (div_ceil (length bytes) 32))

-- The line of a word that is no instruction.
abbrev pub plain_word_line : ℕ → List ℕ
plain_word_line w = codes ".word " ++ prefixed_word w ++ codes "\n"

-- The line of a word by its instruction, or by its number.
abbrev pub line_of : ℕ → Option Instr → List ℕ
line_of w None = plain_word_line w
line_of w (Some i) = spelled i

unfoldable pub word_line : ℕ → List ℕ
word_line w = line_of w (instr_of w)

-- The text of an image.
abbrev pub text_of : ImageParts → List ℕ
text_of i = entry_line i.entry ++
    (flat_map function_line i.functions ++ (data_lines i.bytes ++ flat_map word_line i.text))
