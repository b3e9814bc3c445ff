-- What the two whole calls move, where it is told: the writing of a whole piece, and the reading of one byte.
-- All output of the product is made by the first, and all reading of the machine by the second, so no other
-- layer meets a write that takes a part.
use Rattle.std.specs.Prelude.{ℕ, ◌<◌, List, [], ◌∷◌, length, take, Option, Some, None}
use Rattle.std.specs.Io.KnownBytes.{Keeps, Appends, Consumes, IsAtEnd}

-- a front part of the bytes, and not all of them, was taken
pub record TakesFront (old new : Option (List ℕ)) (bytes : List ℕ) : Type 0 where
  pub count : ℕ
  pub short : count < length bytes
  pub taken : Appends old new (take count bytes)

-- the next byte was given, or the end, where none is left
abbrev pub GivesByte : Option (List ℕ) → Option (List ℕ) → Option ℕ → Type 0
GivesByte old new (Some byte) = Consumes old new (byte ∷ [])
GivesByte old new None = Keeps old new × IsAtEnd new
