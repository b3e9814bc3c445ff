-- Symbols below 16, two to a byte.
use Rattle.std.specs.Prelude.{ℕ, ◌/◌, ◌%◌, List, [], ◌∷◌, Option, Some, None}

-- the symbols of bytes: two of each, the high half first
abbrev pub halves : List ℕ → List ℕ
halves [] = []
halves (b ∷ bs) = b / 16 ∷ b % 16 ∷ halves bs

-- the bytes that are lent, where any are
abbrev pub bytes_in : Option (List ℕ) → List ℕ
bytes_in None = []
bytes_in (Some bytes) = bytes
