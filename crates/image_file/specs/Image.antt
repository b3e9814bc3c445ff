-- What an image holds, and the rules that every image keeps. An image is what this project's compiler and assembler
-- make and its machine loads; the limits are those of the machine's memory map, whose text begins at 0x00400000. The
-- rules are this project's own, and the image file format tests them.
use Rattle.std.specs.Prelude.{
  ℕ,
  ◌+◌,
  ◌*◌,
  ◌%◌,
  ◌<◌,
  ◌≤◌,
  ◌==◌,
  ◌&&◌,
  nat_le,
  nat_lt,
  Bool,
  IsTrue,
  List,
  length,
  slice_index,
}
use Rattle.limits.specs.declared.program.TheConstants.{MOST_ARGUMENTS, MOST_FUNCTIONS}
use Rattle.word32.specs.declared.map.TheConstants.{GLOBAL_BYTES, TEXT, TEXT_WORDS}
use Rattle.std.specs.List.{list_all}
use Rattle.image_file.specs.declared.image.FunctionEntry.{FunctionEntry}

pub record ImageParts : Type 0 where
  pub entry : ℕ
  pub text : List ℕ
  pub bytes : List ℕ
  pub functions : List FunctionEntry

-- The image of these parts.
abbrev pub image_of : ℕ → List ℕ → List ℕ → List FunctionEntry → ImageParts
image_of entry text bytes functions = record { entry = entry; text = text; bytes = bytes; functions = functions }

-- Whether an address is that of a word, in a text of so many words.
abbrev pub is_in_text : ℕ → ℕ → Bool
is_in_text words address = (nat_le TEXT address && nat_lt address (TEXT + 4 * words)) && (address % 4 == 0)

-- Whether a function begins at a word of the text and takes at most 8 arguments.
abbrev pub is_function_in : ℕ → FunctionEntry → Bool
is_function_in words f = is_in_text words f.address && nat_le f.count MOST_ARGUMENTS

-- Whether the entry and each function stand at words of the text, and each count is at most 8.
abbrev pub has_good_entries : ImageParts → Bool
has_good_entries i = is_in_text (length i.text) i.entry && list_all (is_function_in (length i.text)) i.functions

-- The rules: the parts are words and bytes, not too many of them, and the entries are good.
pub record IsImage (i : ImageParts) : Type 0 where
  pub each_word_fits : (k : ℕ) → slice_index i.text k < 4294967296
  pub each_byte_fits : (k : ℕ) → slice_index i.bytes k < 256
  pub text_is_small : length i.text ≤ TEXT_WORDS
  pub bytes_are_few : length i.bytes ≤ GLOBAL_BYTES
  pub functions_are_few : length i.functions ≤ MOST_FUNCTIONS
  pub entries_are_good : IsTrue (has_good_entries i)
