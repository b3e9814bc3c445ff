-- The image file format, version 1, both ways: `spelling` is the one spelling of an image, and `parsed` gives the
-- image that bytes spell, or the first rule that they break. Words stand big-endian, the most significant byte first.
-- The format is this project's own: six words of header, the text, the data, and two words for each function.
use Rattle.std.specs.Prelude.{
  ◌≡◌,
  ℕ,
  zero,
  suc,
  ◌+◌,
  ◌*◌,
  ◌/◌,
  ◌%◌,
  ◌==◌,
  ◌&&◌,
  nat_le,
  Bool,
  cond,
  List,
  [],
  ◌∷◌,
  ◌++◌,
  length,
  take,
  drop,
  Option,
  Some,
  None,
  Result,
  Ok,
  Err,
}
use Rattle.limits.specs.declared.program.TheConstants.{MOST_FUNCTIONS}
use Rattle.word32.specs.declared.map.TheConstants.{GLOBAL_BYTES, TEXT_WORDS}
use Rattle.std.specs.List.{flat_map}
use Rattle.word32.specs.Bytes.{word_in}
use Rattle.image_file.specs.Image.{ImageParts, has_good_entries}
use Rattle.image_file.specs.declared.image.FunctionEntry.{FunctionEntry}
use Rattle.image_file.specs.declared.fault.ImageFault.{ImageFault}
use Rattle.image_file.specs.declared.fault.ImageFault.TheVariants.{Short, Magic, Version, Counts, Entry, Trailing}
use Rattle.image_file.specs.declared.fault.ImageDeny.{ImageDeny}
use Rattle.image_file.specs.declared.fault.ImageDeny.TheVariants.{Bad, NoMemory}

-- The four bytes of a word.
abbrev pub word_bytes : ℕ → List ℕ
word_bytes w = (w / 16777216) ∷ (w / 65536 % 256) ∷ (w / 256 % 256) ∷ (w % 256) ∷ []

-- The two words of a function.
abbrev pub function_bytes : FunctionEntry → List ℕ
function_bytes f = word_bytes f.address ++ word_bytes f.count

-- The six words before the parts: the magic number (the letters TICK), the version, the entry, and the three counts.
abbrev pub header : ImageParts → List ℕ
header i =
    word_bytes 0x5449434b ++ (word_bytes 1 ++ (word_bytes i.entry
    ++ (word_bytes (length i.text) ++ (word_bytes (length i.bytes) ++ word_bytes (length i.functions)))))

-- The bytes of an image file.
abbrev pub spelling : ImageParts → List ℕ
spelling i = header i ++ (flat_map word_bytes i.text ++ (i.bytes ++ flat_map function_bytes i.functions))

-- So many words from this place on.
abbrev pub words_in : List ℕ → ℕ → ℕ → List ℕ
words_in bytes at zero = []
words_in bytes at (suc n) = word_in bytes at ∷ words_in bytes (at + 4) n

-- The function whose two words begin at this place.
abbrev pub function_in : List ℕ → ℕ → FunctionEntry
function_in bytes at = record { address = word_in bytes at; count = word_in bytes (at + 4) }

-- So many functions from this place on.
abbrev pub functions_in : List ℕ → ℕ → ℕ → List FunctionEntry
functions_in bytes at zero = []
functions_in bytes at (suc n) = function_in bytes at ∷ functions_in bytes (at + 8) n

-- Where the data and the functions begin, and where the file ends, by the header's counts.
abbrev pub data_at : List ℕ → ℕ
data_at bytes = 24 + 4 * word_in bytes 12

abbrev pub functions_at : List ℕ → ℕ
functions_at bytes = data_at bytes + word_in bytes 16

abbrev pub end_at : List ℕ → ℕ
end_at bytes = functions_at bytes + 8 * word_in bytes 20

-- The parts that bytes spell, whatever rules they break.
abbrev pub parts_in : List ℕ → ImageParts
parts_in bytes = record {
  entry = word_in bytes 8;
  text = words_in bytes 24 (word_in bytes 12);
  bytes = take (word_in bytes 16) (drop (data_at bytes) bytes);
  functions = functions_in bytes (functions_at bytes) (word_in bytes 20);
}

-- Whether the header's counts are within the limits.
abbrev pub has_small_counts : List ℕ → Bool
has_small_counts bytes =
    (nat_le (word_in bytes 12) TEXT_WORDS && nat_le (word_in bytes 16) GLOBAL_BYTES) && nat_le (word_in bytes 20)
    MOST_FUNCTIONS

-- This fault where the rule doesn't hold, else what the later rules say.
abbrev pub rule : Bool → ImageFault → Option ImageFault → Option ImageFault
rule holds fault later = cond holds later (Some fault)

-- The first rule that bytes break, in the order in which the rules are tested.
abbrev pub fault_of : List ℕ → Option ImageFault
fault_of bytes =
    rule (nat_le 24 (length bytes)) Short
    (rule (word_in bytes 0 == 0x5449434b) Magic
    (rule (word_in bytes 4 == 1) Version
    (rule (has_small_counts bytes) Counts
    (rule (nat_le (end_at bytes) (length bytes)) Short
    (rule (has_good_entries (parts_in bytes)) Entry
    (rule (nat_le (length bytes) (end_at bytes)) Trailing None))))))

-- The image that bytes spell, or the first rule that they break.
abbrev pub or_fault : Option ImageFault → ImageParts → Result ImageParts ImageFault
or_fault None i = Ok i
or_fault (Some f) i = Err f

abbrev pub parsed : List ℕ → Result ImageParts ImageFault
parsed bytes = or_fault (fault_of bytes) (parts_in bytes)

-- What `read` may answer where this is parsed: the same, or that memory was not found.
abbrev pub Answers : Result ImageParts ImageFault → Result ImageParts ImageDeny → Type 0
Answers p (Ok i) = p ≡ Ok i
Answers p (Err (Bad f)) = p ≡ Err f
Answers p (Err NoMemory) = Unit {0}

-- The numbers of the rules.
abbrev pub fault_number : ImageFault → ℕ
fault_number Short = 1
fault_number Magic = 2
fault_number Version = 3
fault_number Counts = 4
fault_number Entry = 5
fault_number Trailing = 6
