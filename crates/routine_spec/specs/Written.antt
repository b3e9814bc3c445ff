-- What the words of a piece ask of it.
use Rattle.std.specs.Prelude.{◌<◌, ◌^◌}
use Rattle.icode_ir.specs.Codes.{first_of, second_of}
use Rattle.tick_lower_spec.specs.declared.piece.Piece.{Piece}
use Rattle.tick_lower_spec.specs.declared.piece.Piece.TheVariants.{Plain, Captured, GetKey, SetKey, Splice, Nothing}

-- the arguments of an op are words
abbrev pub HasWords : Piece → Type 0
HasWords (Plain op) = (first_of op < 2 ^ 32) × (second_of op < 2 ^ 32)
HasWords (Captured i) = Unit {0}
HasWords (GetKey i) = Unit {0}
HasWords (SetKey i) = Unit {0}
HasWords (Splice i) = Unit {0}
HasWords Nothing = Unit {0}
