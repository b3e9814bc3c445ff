-- A code of layers, with those in the lists of functions: symbols below 16. Two lists of layers have the same code just
-- where they are the same layers.
use Rattle.std.specs.Prelude.{ℕ, zero, suc, ◌+◌, ◌-◌, ◌*◌, ◌/◌, ◌%◌, List, [], ◌∷◌, ◌++◌, length, map, get_or}
use Rattle.std.specs.Prelude.{nat_eq, nat_lt, if◌then◌else◌}
use Rattle.c_types.specs.declared.ctype.Integer.{Integer}
use Rattle.c_types.specs.declared.ctype.Integer.TheVariants as kind
use Rattle.c_types.specs.declared.ctype.Base.{Base}
use Rattle.c_types.specs.declared.ctype.Base.TheVariants as base
use Rattle.c_types.specs.declared.ctype.CType.{CType}
use Rattle.c_types.specs.declared.ctype.Layer.{Layer, out-Layer}
use Rattle.c_types.specs.declared.ctype.Layer.TheOpen.{Layer-F, CType-F}
use Rattle.c_type_refs.specs.declared.code.Code.{Code}
use Rattle.c_types.specs.Types.{Opened, layers_of}
use Rattle.c_types.specs.declared.ctype.Layer.TheFolds.{fold-Layer, fold-CType}

abbrev pub kind_code : Integer → ℕ
kind_code kind.Char = 1
kind_code kind.UnsignedChar = 2
kind_code kind.Short = 3
kind_code kind.UnsignedShort = 4
kind_code kind.Int = 5
kind_code kind.Unsigned = 6

abbrev pub base_code : Base → ℕ
base_code base.Void = 0
base_code (base.Integer k) = kind_code k

-- the hexadecimal digits of a number, so many and one more, the low one first; the last is all the rest
abbrev pub digits : ℕ → ℕ → List ℕ
digits zero n = n ∷ []
digits (suc more) n = n % 16 ∷ digits more (n / 16)

-- what has more digits than so many and one more
abbrev pub beyond : ℕ → ℕ
beyond zero = 16
beyond (suc more) = 16 * beyond more

-- how many hexadecimal digits a length has beyond the first
abbrev pub more_digits : ℕ → ℕ
more_digits n =
    if nat_lt n 16 then 0
    else if nat_lt n 256 then 1
    else if nat_lt n 4096 then 2
    else if nat_lt n 65536 then 3
    else if nat_lt n 1048576 then 4
    else if nat_lt n 16777216 then 5
    else if nat_lt n 268435456 then 6
    else 7

-- an array of so many: the first symbol says how many digits the length has
abbrev pub array_code : ℕ → List ℕ
array_code n = (7 + more_digits n) ∷ digits (more_digits n) n

-- what ends a list of codes, and begins none
abbrev pub end_mark : ℕ
end_mark = 15

-- codes one behind the other
abbrev pub joined : List (List ℕ) → List ℕ
joined [] = []
joined (c ∷ cs) = c ++ joined cs

-- a function with the codes of the types of its list: the first symbol tells none, one and more, which have the mark at
-- the end
abbrev pub function_code : List (List ℕ) → List ℕ
function_code [] = 4 ∷ []
function_code (c ∷ []) = 5 ∷ c
function_code (c ∷ d ∷ cs) = 6 ∷ (joined (c ∷ d ∷ cs) ++ end_mark ∷ [])

-- a layer, with the code of each type of its list in its place
abbrev pub layer_rule : Layer-F (List ℕ) (List ℕ) → List ℕ
layer_rule Layer-F.Pointer = 0 ∷ []
layer_rule Layer-F.Unlisted = 1 ∷ []
layer_rule Layer-F.Cspec = 2 ∷ []
layer_rule Layer-F.Vspec = 3 ∷ []
layer_rule (Layer-F.Function cs) = function_code cs
layer_rule (Layer-F.Array n) = array_code n

abbrev pub type_rule : CType-F (List ℕ) (List ℕ) → List ℕ
type_rule t = base_code t.base ∷ (joined t.layers ++ end_mark ∷ [])

-- the code of a layer
unfoldable pub layer_code : Layer → List ℕ
layer_code = fold-Layer (List ℕ) (List ℕ) layer_rule type_rule

-- the code of a type of a list
unfoldable pub type_code : CType → List ℕ
type_code = fold-CType (List ℕ) (List ℕ) layer_rule type_rule

-- the code of layers
abbrev pub codes : List Layer → List ℕ
codes ls = joined (map layer_code ls)

-- the code of layers with the mark at the end
abbrev pub closed : List Layer → List ℕ
closed ls = codes ls ++ end_mark ∷ []

-- ---- with the place where the code of each layer ends

-- the ends, if the first code begins here
abbrev pub ends : ℕ → List Layer → List ℕ
ends n [] = []
ends n (l ∷ ls) = (n + length (layer_code l)) ∷ ends (n + length (layer_code l)) ls

-- that of the first so many
abbrev pub end_of : List ℕ → ℕ → ℕ
end_of es n = if nat_eq n 0 then 0 else get_or es (n - 1) 0

abbrev pub code_of : List Layer → Code
code_of ls = record { symbols = codes ls; ends = ends 0 ls }

-- ---- the codes of the types of a list

abbrev pub codes_of_list : List CType → List Code
codes_of_list ts = map (λ t. code_of (layers_of t)) ts

abbrev pub codes_in_at : Opened → List Code
codes_in_at (Layer-F.Function list) = codes_of_list list
codes_in_at _ = []

abbrev pub codes_in : Layer → List Code
codes_in l = codes_in_at (out-Layer l)

abbrev pub codes_of_lists : List Layer → List (List Code)
codes_of_lists ls = map codes_in ls
