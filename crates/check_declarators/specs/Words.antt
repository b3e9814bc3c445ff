-- The base of a type, by the words that name it. These are C's words, cut to this project's language: without
-- `unsigned` an integer type is signed, and `long` is int.
use Rattle.std.specs.Prelude.{Bool, true, false, if◌then◌else◌, Option, Some}
use Rattle.c_types.specs.declared.ctype.Integer.TheVariants as kind
use Rattle.c_types.specs.declared.ctype.Integer.{Integer}
use Rattle.c_types.specs.declared.ctype.Base.{Base}
use Rattle.c_types.specs.declared.ctype.Base.TheVariants as base
use Rattle.tick_tree.specs.declared.base.Signedness.{Signedness}
use Rattle.tick_tree.specs.declared.base.Signedness.TheVariants as sign
use Rattle.tick_tree.specs.declared.base.Base.{Base as Words}
use Rattle.tick_tree.specs.declared.base.Base.TheVariants as words

abbrev pub is_unsigned : Option Signedness → Bool
is_unsigned (Some sign.Unsigned) = true
is_unsigned _ = false

-- the one integer type, or the other where the word `unsigned` stands
abbrev pub signed_or : Option Signedness → Integer → Integer → Base
signed_or s a b = if is_unsigned s then base.Integer b else base.Integer a

-- the base that these words name
abbrev pub base_of : Words → Base
base_of words.Void = base.Void
base_of (words.Char s) = signed_or s kind.Char kind.UnsignedChar
base_of (words.Short s int) = signed_or s kind.Short kind.UnsignedShort
base_of (words.Long s int) = signed_or s kind.Int kind.Unsigned
base_of (words.Int s) = signed_or s kind.Int kind.Unsigned
base_of (words.Alone sign.Signed) = base.Integer kind.Int
base_of (words.Alone sign.Unsigned) = base.Integer kind.Unsigned
