-- A word among bytes: four of them, the most significant first. Image files and the memory of the machine hold words
-- so; a byte behind the end of the list reads as 0.
use Rattle.std.specs.Prelude.{ℕ, ◌+◌, ◌*◌, ◌/◌, ◌%◌, List, slice_index, slice_set}

-- the word whose first byte stands at this place
abbrev pub word_in : List ℕ → ℕ → ℕ
word_in bytes at =
    16777216 * slice_index bytes at
    + 65536 * slice_index bytes (at + 1)
    + 256 * slice_index bytes (at + 2)
    + slice_index bytes (at + 3)

-- the bytes after a word was written at this place
abbrev pub with_word : List ℕ → ℕ → ℕ → List ℕ
with_word bytes at w =
    slice_set (slice_set (slice_set (slice_set bytes at (w / 16777216))
    (at + 1) (w / 65536 % 256))
    (at + 2) (w / 256 % 256))
    (at + 3) (w % 256)
