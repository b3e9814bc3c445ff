-- The rules on types: sizes, which types are the same, promotion, the common type, and which values convert to which
-- type.
-- They are C's, cut to this project's language: a scalar is at most one 32-bit word, and `long` is int.
use Rattle.std.specs.Prelude.{ℕ, ◌*◌, ◌-◌, Bool, true, false, not, ◌&&◌, ◌||◌, ◌==◌, List, [], ◌∷◌, length, take}
use Rattle.std.specs.Prelude.{slice_get, Option, Some, None}
use Rattle.c_types.specs.declared.ctype.Integer.{Integer}
use Rattle.c_types.specs.declared.ctype.Integer.TheVariants as kind
use Rattle.c_types.specs.declared.ctype.Base.{Base}
use Rattle.c_types.specs.declared.ctype.Base.TheVariants as base
use Rattle.c_types.specs.declared.ctype.CType.{CType, out-CType, roll-CType}
use Rattle.c_types.specs.declared.ctype.Layer.{Layer, out-Layer}
use Rattle.c_types.specs.declared.ctype.Layer.TheOpen.{Layer-F, CType-F}
use Rattle.c_types.specs.declared.ctype.Layer.TheFolds.{fold-Layer, fold-CType}

-- ---- integers

-- the bytes of an integer type
abbrev pub width : Integer → ℕ
width kind.Char = 1
width kind.UnsignedChar = 1
width kind.Short = 2
width kind.UnsignedShort = 2
width kind.Int = 4
width kind.Unsigned = 4

-- a narrow integer becomes an int
abbrev pub promoted : Integer → Integer
promoted kind.Unsigned = kind.Unsigned
promoted _ = kind.Int

-- unsigned where either is, else int
abbrev pub common : Integer → Integer → Integer
common kind.Unsigned b = kind.Unsigned
common _ b = promoted b

abbrev pub base_size : Base → ℕ
base_size base.Void = 0
base_size (base.Integer k) = width k

abbrev pub base_of : CType → Base
base_of t = (out-CType t).base

-- the layers over the base, the outermost last
abbrev pub layers_of : CType → List Layer
layers_of t = (out-CType t).layers

-- the type of these layers over this base
abbrev pub ctype : Base → List Layer → CType
ctype b ls = roll-CType (record { base = b; layers = ls })

-- a layer, opened
abbrev pub Opened : Type 0
Opened = Layer-F Layer CType

-- ---- sizes

-- the size of what a layer makes of a type of so many bytes
abbrev pub size_at : ℕ → Opened → ℕ
size_at size (Layer-F.Array count) = size * count
size_at size (Layer-F.Function list) = 0
size_at size Layer-F.Unlisted = 0
size_at size Layer-F.Pointer = 4
size_at size Layer-F.Cspec = 4
size_at size Layer-F.Vspec = 4

-- the size under these layers, over what has so many bytes
abbrev pub size_under : ℕ → List Layer → ℕ
size_under size [] = size
size_under size (l ∷ ls) = size_under (size_at size (out-Layer l)) ls

-- the bytes of a type; void and functions have none
abbrev pub size : CType → ℕ
size t = size_under (base_size (base_of t)) (layers_of t)

abbrev pub is_sized_at : Bool → Opened → Bool
is_sized_at sized (Layer-F.Array count) = sized
is_sized_at sized (Layer-F.Function list) = false
is_sized_at sized Layer-F.Unlisted = false
is_sized_at sized Layer-F.Pointer = true
is_sized_at sized Layer-F.Cspec = true
is_sized_at sized Layer-F.Vspec = true

abbrev pub is_sized_under : Bool → List Layer → Bool
is_sized_under sized [] = sized
is_sized_under sized (l ∷ ls) = is_sized_under (is_sized_at sized (out-Layer l)) ls

abbrev pub is_integer_base : Base → Bool
is_integer_base base.Void = false
is_integer_base (base.Integer k) = true

-- neither void nor a function nor an array of these
abbrev pub is_sized : CType → Bool
is_sized t = is_sized_under (is_integer_base (base_of t)) (layers_of t)

-- ---- the same types

abbrev pub same_integer : Integer → Integer → Bool
same_integer kind.Char kind.Char = true
same_integer kind.UnsignedChar kind.UnsignedChar = true
same_integer kind.Short kind.Short = true
same_integer kind.UnsignedShort kind.UnsignedShort = true
same_integer kind.Int kind.Int = true
same_integer kind.Unsigned kind.Unsigned = true
same_integer _ _ = false

abbrev pub same_base : Base → Base → Bool
same_base base.Void base.Void = true
same_base (base.Integer a) (base.Integer b) = same_integer a b
same_base _ _ = false

-- each of the tests holds of the thing in its place, and there are as many
abbrev pub each_holds : {A : Type 0} → List (A → Bool) → List A → Bool
each_holds [] [] = true
each_holds (f ∷ fs) (b ∷ bs) = f b && each_holds fs bs
each_holds _ _ = false

abbrev pub is_pointer_at : Opened → Bool
is_pointer_at Layer-F.Pointer = true
is_pointer_at _ = false

abbrev pub is_array_at : ℕ → Opened → Bool
is_array_at n (Layer-F.Array m) = n == m
is_array_at n _ = false

abbrev pub is_function_at : List (CType → Bool) → Opened → Bool
is_function_at fs (Layer-F.Function bs) = each_holds fs bs
is_function_at fs _ = false

abbrev pub is_unlisted_at : Opened → Bool
is_unlisted_at Layer-F.Unlisted = true
is_unlisted_at _ = false

abbrev pub is_cspec_at : Opened → Bool
is_cspec_at Layer-F.Cspec = true
is_cspec_at _ = false

abbrev pub is_vspec_at : Opened → Bool
is_vspec_at Layer-F.Vspec = true
is_vspec_at _ = false

-- a layer, with the test of each type of its list in its place, against another layer
abbrev pub same_at : Layer-F (Layer → Bool) (CType → Bool) → Opened → Bool
same_at Layer-F.Pointer b = is_pointer_at b
same_at (Layer-F.Array n) b = is_array_at n b
same_at (Layer-F.Function fs) b = is_function_at fs b
same_at Layer-F.Unlisted b = is_unlisted_at b
same_at Layer-F.Cspec b = is_cspec_at b
same_at Layer-F.Vspec b = is_vspec_at b

abbrev pub same_layer_rule : Layer-F (Layer → Bool) (CType → Bool) → Layer → Bool
same_layer_rule a b = same_at a (out-Layer b)

abbrev pub same_rule : CType-F (Layer → Bool) (CType → Bool) → CType → Bool
same_rule a b = same_base a.base (base_of b) && each_holds a.layers (layers_of b)

-- the same layer, of the same count or list
unfoldable pub same_layer : Layer → Layer → Bool
same_layer = fold-Layer (Layer → Bool) (CType → Bool) same_layer_rule same_rule

-- the same base under the same layers
unfoldable pub same : CType → CType → Bool
same = fold-CType (Layer → Bool) (CType → Bool) same_layer_rule same_rule

abbrev pub same_layers : List Layer → List Layer → Bool
same_layers [] [] = true
same_layers (a ∷ as_) (b ∷ bs) = same_layer a b && same_layers as_ bs
same_layers _ _ = false

abbrev pub same_lists : List CType → List CType → Bool
same_lists [] [] = true
same_lists (a ∷ as_) (b ∷ bs) = same a b && same_lists as_ bs
same_lists _ _ = false

-- ---- conversions

-- the outermost of these layers
abbrev pub outermost : List Layer → Option Layer
outermost ls = slice_get ls (length ls - 1)

-- the layers under the outermost one
abbrev pub under : List Layer → List Layer
under ls = take (length ls - 1) ls

abbrev pub is_pointer : Option Layer → Bool
is_pointer None = false
is_pointer (Some l) = is_pointer_at (out-Layer l)

abbrev pub is_unlisted : Option Layer → Bool
is_unlisted None = false
is_unlisted (Some l) = is_unlisted_at (out-Layer l)

abbrev pub is_listed_at : Opened → Bool
is_listed_at (Layer-F.Function list) = true
is_listed_at _ = false

abbrev pub is_listed : Option Layer → Bool
is_listed None = false
is_listed (Some l) = is_listed_at (out-Layer l)

-- the types of a function's arguments
abbrev pub list_at : Opened → List CType
list_at (Layer-F.Function list) = list
list_at _ = []

abbrev pub list_of : Option Layer → List CType
list_of None = []
list_of (Some l) = list_at (out-Layer l)

-- the types of these bases under these layers are the same
abbrev pub same_parts : Base → List Layer → Base → List Layer → Bool
same_parts a as_ b bs = same_base a b && same_layers as_ bs

abbrev pub is_void : Base → List Layer → Bool
is_void b [] = not (is_integer_base b)
is_void b (l ∷ ls) = false

abbrev pub is_integer : Base → List Layer → Bool
is_integer b [] = is_integer_base b
is_integer b (l ∷ ls) = false

-- functions with the same result, one of any arguments
abbrev pub serves_function : Base → List Layer → Base → List Layer → Bool
serves_function a as_ b bs =
    (is_unlisted (outermost as_) && is_listed (outermost bs) || is_listed (outermost as_) && is_unlisted (outermost bs))
    && same_parts a (under as_) b (under bs)

-- pointers to these two convert, beside where they are the same
abbrev pub serves : Base → List Layer → Base → List Layer → Bool
serves a as_ b bs = is_void a as_ || is_void b bs || serves_function a as_ b bs

-- Whether a value of these layers over its base converts to a type: both are integers, or the same; or it is the
-- literal 0 and a pointer is wanted; or both are pointers, one of them to void, or both to functions with the same
-- result, of which one takes any arguments.
abbrev pub converts_parts : Base → List Layer → Base → List Layer → Bool → Bool
converts_parts a as_ b bs zero =
    is_integer a as_ && is_integer b bs
    || same_parts a as_ b bs
    || zero && is_pointer (outermost bs)
    || is_pointer (outermost as_) && is_pointer (outermost bs) && serves a (under as_) b (under bs)

unfoldable pub converts : CType → CType → Bool → Bool
converts from to zero = converts_parts (base_of from) (layers_of from) (base_of to) (layers_of to) zero
