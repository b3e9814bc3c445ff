-- Which kind of type it is, by its base and the layers over it: an array, a function, a word type. The rules on types
-- ask this of the declared ones (`check_declarators`) and of those of expressions (`check_types`).
use Rattle.std.specs.Prelude.{Bool, true, false, List, [], ◌∷◌, Option, Some, None}
use Rattle.c_types.specs.declared.ctype.Integer.TheVariants as kind
use Rattle.c_types.specs.declared.ctype.Base.{Base}
use Rattle.c_types.specs.declared.ctype.Base.TheVariants as base
use Rattle.c_types.specs.declared.ctype.Layer.{Layer, out-Layer}
use Rattle.c_types.specs.declared.ctype.Layer.TheOpen.{Layer-F}
use Rattle.c_types.specs.Types.{Opened, outermost, is_pointer}

abbrev pub is_array_at : Opened → Bool
is_array_at (Layer-F.Array n) = true
is_array_at _ = false

abbrev pub is_array_layer : Option Layer → Bool
is_array_layer None = false
is_array_layer (Some l) = is_array_at (out-Layer l)

abbrev pub is_array : List Layer → Bool
is_array ls = is_array_layer (outermost ls)

abbrev pub is_function_at : Opened → Bool
is_function_at (Layer-F.Function list) = true
is_function_at Layer-F.Unlisted = true
is_function_at _ = false

abbrev pub is_function_layer : Option Layer → Bool
is_function_layer None = false
is_function_layer (Some l) = is_function_at (out-Layer l)

abbrev pub is_function : List Layer → Bool
is_function ls = is_function_layer (outermost ls)

abbrev pub is_word_base : Base → Bool
is_word_base (base.Integer kind.Int) = true
is_word_base (base.Integer kind.Unsigned) = true
is_word_base _ = false

-- int, unsigned int or a pointer
abbrev pub is_word : Base → List Layer → Bool
is_word b [] = is_word_base b
is_word b (l ∷ ls) = is_pointer (outermost (l ∷ ls))
