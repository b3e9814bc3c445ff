-- A load and a store of a byte, of a half (two bytes) or of a word, within the word of memory that holds it. Byte 0
-- of a word is its most significant one, and an access stands on a multiple of its size (the MIPS R2000 architecture
-- manual, big-endian). The meaning of the language, the staged machine and the MIPS machine all load and store by
-- these definitions.
use Rattle.std.specs.Prelude.{ℕ, ◌+◌, ◌-◌, ◌*◌, ◌/◌, ◌%◌, ◌^◌, Bool, true, ◌==◌, if◌then◌else◌}
use Rattle.word32.specs.Words.{widened_byte, widened_half, sext8, sext16}
use Rattle.word32.specs.declared.width.Width.{Width}
use Rattle.word32.specs.declared.width.Width.TheVariants.{SignedByte, Byte, SignedHalf, Half, Word}

-- an access at this address stands on a multiple of its size
abbrev pub is_aligned : ℕ → Width → Bool
is_aligned at SignedByte = true
is_aligned at Byte = true
is_aligned at SignedHalf = at % 2 == 0
is_aligned at Half = at % 2 == 0
is_aligned at Word = at % 4 == 0

-- the byte of a word that stands at this address
unfoldable pub byte_of : ℕ → ℕ → ℕ
byte_of word at = word / 2 ^ (24 - 8 * (at % 4)) % 256

-- the half of a word that holds the byte at this address
unfoldable pub half_of : ℕ → ℕ → ℕ
half_of word at = if (at % 4 / 2 == 0) then (word / 65536) else (word % 65536)

-- the word after its byte at this address became the low byte of w
unfoldable pub with_byte : ℕ → ℕ → ℕ → ℕ
with_byte word at w =
    let unit = 2 ^ (24 - 8 * (at % 4)) in word - word / unit % 256 * unit + w % 256 * unit

-- the word after its half at this address became the low half of w
unfoldable pub with_half : ℕ → ℕ → ℕ → ℕ
with_half word at w =
    if (at % 4 / 2 == 0) then (w % 65536 * 65536 + word % 65536) else (word / 65536 * 65536 + w % 65536)

-- what an aligned access at this address loads from the word that holds it
abbrev pub loaded_part : ℕ → ℕ → Width → ℕ
loaded_part word at SignedByte = widened_byte (byte_of word at)
loaded_part word at Byte = byte_of word at
loaded_part word at SignedHalf = widened_half (half_of word at)
loaded_part word at Half = half_of word at
loaded_part word at Word = word

-- the word that holds an aligned access at this address, after it stored w. A signed width stores as the unsigned one
abbrev pub stored_part : ℕ → ℕ → Width → ℕ → ℕ
stored_part word at SignedByte w = with_byte word at w
stored_part word at Byte w = with_byte word at w
stored_part word at SignedHalf w = with_half word at w
stored_part word at Half w = with_half word at w
stored_part word at Word w = w

-- a word converted to a width: its low byte or half, widened as the width says. It is what an access at this width
-- reads back after it stored the word, and a conversion to a narrow type
abbrev pub narrowed : Width → ℕ → ℕ
narrowed SignedByte w = sext8 w
narrowed Byte w = w % 256
narrowed SignedHalf w = sext16 w
narrowed Half w = w % 65536
narrowed Word w = w

-- the bytes that an access moves
abbrev pub size : Width → ℕ
size SignedByte = 1
size Byte = 1
size SignedHalf = 2
size Half = 2
size Word = 4
