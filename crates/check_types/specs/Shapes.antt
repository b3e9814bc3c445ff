-- What the rules on expressions ask of a type: whether it is an integer, a pointer or a word type, what its values
-- convert to,
-- and which types are made of it. The words are C's.
use Rattle.std.specs.Prelude.{ℕ, Bool, true, false, not, ◌&&◌, ◌||◌, if◌then◌else◌, List, [], ◌∷◌, ◌++◌, Option, Some}
use Rattle.std.specs.Prelude.{None}
use Rattle.word32.specs.declared.width.Width.{Width}
use Rattle.word32.specs.declared.width.Width.TheVariants as width
use Rattle.icode_ops.specs.declared.kind.UnKind.{UnKind}
use Rattle.icode_ops.specs.declared.kind.UnKind.TheVariants as un
use Rattle.c_types.specs.declared.ctype.Integer.{Integer}
use Rattle.c_types.specs.declared.ctype.Integer.TheVariants as kind
use Rattle.c_types.specs.declared.ctype.Base.{Base}
use Rattle.c_types.specs.declared.ctype.Base.TheVariants as base
use Rattle.c_types.specs.declared.ctype.Layer.{Layer, out-Layer}
use Rattle.c_types.specs.declared.ctype.Layer.TheVariants as layer
use Rattle.c_types.specs.declared.ctype.CType.{CType}
use Rattle.c_types.specs.Types as types
use Rattle.c_types.specs.Kinds as kinds

-- ---- tests

abbrev pub base_integer : Base → Option Integer
base_integer base.Void = None
base_integer (base.Integer k) = Some k

abbrev pub integer_parts : Base → List Layer → Option Integer
integer_parts b [] = base_integer b
integer_parts b (l ∷ ls) = None

-- the integer type that a type is
abbrev pub integer_of : CType → Option Integer
integer_of t = integer_parts (types.base_of t) (types.layers_of t)

abbrev pub is_some : Option Integer → Bool
is_some None = false
is_some (Some k) = true

abbrev pub is_integer : CType → Bool
is_integer t = is_some (integer_of t)

abbrev pub is_void : CType → Bool
is_void t = types.is_void (types.base_of t) (types.layers_of t)

abbrev pub is_pointer : CType → Bool
is_pointer t = types.is_pointer (types.outermost (types.layers_of t))

abbrev pub is_function : CType → Bool
is_function t = kinds.is_function (types.layers_of t)

-- an array or a function, whose value is a pointer
abbrev pub decays : CType → Bool
decays t = kinds.is_array (types.layers_of t) || kinds.is_function (types.layers_of t)

-- int, unsigned int or a pointer
abbrev pub is_word : CType → Bool
is_word t = kinds.is_word (types.base_of t) (types.layers_of t)

-- an integer or a pointer
abbrev pub is_scalar : CType → Bool
is_scalar t = is_integer t || is_pointer t

abbrev pub is_cspec_layer : Option Layer → Bool
is_cspec_layer None = false
is_cspec_layer (Some l) = types.is_cspec_at (out-Layer l)

abbrev pub is_vspec_layer : Option Layer → Bool
is_vspec_layer None = false
is_vspec_layer (Some l) = types.is_vspec_at (out-Layer l)

abbrev pub is_cspec : CType → Bool
is_cspec t = is_cspec_layer (types.outermost (types.layers_of t))

abbrev pub is_vspec : CType → Bool
is_vspec t = is_vspec_layer (types.outermost (types.layers_of t))

abbrev pub points_to_void : CType → Bool
points_to_void t = is_pointer t && types.is_void (types.base_of t) (types.under (types.layers_of t))

abbrev pub points_to_function : CType → Bool
points_to_function t = is_pointer t && kinds.is_function (types.under (types.layers_of t))

-- ---- types made of others

abbrev pub integer : Integer → CType
integer k = types.ctype (base.Integer k) []

abbrev pub void : CType
void = types.ctype base.Void []

abbrev pub over : Layer → CType → CType
over l t = types.ctype (types.base_of t) (types.layers_of t ++ l ∷ [])

-- what a pointer points to, a function answers, or a specification has
abbrev pub inner : CType → CType
inner t = types.ctype (types.base_of t) (types.under (types.layers_of t))

abbrev pub promoted_by : CType → Option Integer → CType
promoted_by t (Some k) = integer (types.promoted k)
promoted_by t None = t

-- a narrow integer becomes an int
abbrev pub promoted : CType → CType
promoted t = promoted_by t (integer_of t)

-- ---- values

abbrev pub integer_width : Integer → Width
integer_width kind.Char = width.SignedByte
integer_width kind.UnsignedChar = width.Byte
integer_width kind.Short = width.SignedHalf
integer_width kind.UnsignedShort = width.Half
integer_width kind.Int = width.Word
integer_width kind.Unsigned = width.Word

abbrev pub width_by : Option Integer → Width
width_by (Some k) = integer_width k
width_by None = width.Word

-- how many bytes a scalar has, and how they become a word
abbrev pub width_of : CType → Width
width_of t = width_by (integer_of t)

-- what makes any word a value of an integer type
abbrev pub narrowing : Integer → Option UnKind
narrowing kind.Char = Some un.SignedByte
narrowing kind.UnsignedChar = Some un.Byte
narrowing kind.Short = Some un.SignedHalf
narrowing kind.UnsignedShort = Some un.Half
narrowing kind.Int = None
narrowing kind.Unsigned = None

-- a narrow type that has each value of the first
abbrev pub holds : Integer → Integer → Bool
holds kind.Char kind.Char = true
holds kind.Char kind.Short = true
holds kind.UnsignedChar kind.UnsignedChar = true
holds kind.UnsignedChar kind.Short = true
holds kind.UnsignedChar kind.UnsignedShort = true
holds kind.Short kind.Short = true
holds kind.UnsignedShort kind.UnsignedShort = true
holds _ _ = false

abbrev pub conversion_by : Option Integer → Integer → Option UnKind
conversion_by None to = narrowing to
conversion_by (Some from) to = if holds from to then None else narrowing to

abbrev pub conversion_to : Option Integer → Option Integer → Option UnKind
conversion_to from None = None
conversion_to from (Some to) = conversion_by from to

-- what a conversion does to a word; none where no value of the one type is another in the other
abbrev pub conversion : CType → CType → Option UnKind
conversion from to = conversion_to (integer_of from) (integer_of to)
