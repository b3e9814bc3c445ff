-- The bytes of globals and of strings. Globals stand in the order of the text from 0x10000000 on, then strings in the
-- order of the text, each from a multiple of 4 on. An earlier walk says where the globals end, and so where the strings
-- begin. These are this project's own rules.
use Rattle.std.specs.Prelude.{ℕ, ◌+◌, ◌-◌, ◌*◌, ◌/◌, ◌%◌, min, nat_le, if◌then◌else◌, List, [], ◌∷◌, ◌++◌, length}
use Rattle.std.specs.Prelude.{replicate}
use Rattle.check_rules.specs.declared.image.Image.{Image}
use Rattle.word32.specs.declared.map.TheConstants.{GLOBAL_BYTES, OBJECTS}
use Rattle.limits.specs.declared.program.TheConstants.{PLACE_TOP}

abbrev pub new : Image
new = record { globals = []; end = 0; strings = []; strings_at = 0 }

-- the next multiple of 4, up to one word over the limit
abbrev pub aligned : ℕ → ℕ
aligned n = min ((n + 3) / 4 * 4) PLACE_TOP

-- ---- strings

-- so many bytes are missing to a multiple of 4
abbrev pub gap : ℕ → ℕ
gap n = (4 - n % 4) % 4

-- bytes up to a multiple of 4
abbrev pub padded : List ℕ → List ℕ
padded bytes = bytes ++ replicate (gap (length bytes)) 0

abbrev pub word : ℕ → ℕ
word n = min n 4294967295

-- the address of the next string
abbrev pub string_place : Image → ℕ
string_place s = word (OBJECTS + s.strings_at + word (length (padded s.strings)))

-- after a string, with its zero byte
abbrev pub with_string : List ℕ → Image → Image
with_string bytes s = record s { strings = padded s.strings ++ bytes ++ 0 ∷ [] }

-- ---- globals

-- the place of the next global, from the first one on
abbrev pub place : Image → ℕ
place s = aligned s.end

-- after a global of so many bytes
abbrev pub with_global : ℕ → Image → Image
with_global size s = record s { end = min (place s + size) PLACE_TOP }

-- bytes up to this length, zeros behind them
abbrev pub up_to : ℕ → List ℕ → List ℕ
up_to n bytes = bytes ++ replicate (n - length bytes) 0

-- with these first bytes of the global at this place; over the limit on sizes none are kept
abbrev pub with_bytes : ℕ → List ℕ → Image → Image
with_bytes at bytes s = if nat_le at GLOBAL_BYTES then record s { globals = up_to at s.globals ++ bytes } else s

-- before all items, with the end of the globals of an earlier walk
abbrev pub again : Image → Image
again s = record { globals = []; end = 0; strings = []; strings_at = aligned s.end }
