-- The sizes that the rules on types ask for: those of at most 4,194,304 bytes.
use Rattle.std.specs.Prelude.{ℕ, ◌&&◌, nat_le, if◌then◌else◌, List, Option, Some, None}
use Rattle.c_types.specs.declared.ctype.Base.{Base}
use Rattle.c_types.specs.declared.ctype.CType.{CType}
use Rattle.c_types.specs.declared.ctype.Layer.{Layer}
use Rattle.c_types.specs.Types.{base_size, size_under, is_integer_base, is_sized_under, base_of, layers_of, outermost}
use Rattle.c_types.specs.Types.{under, is_pointer}
use Rattle.limits.specs.declared.program.TheConstants.{MAX_SIZE}

-- the size under these layers, where there is one of at most 4,194,304 bytes
abbrev pub limited_parts : Base → List Layer → Option ℕ
limited_parts b ls =
    if is_sized_under (is_integer_base b) ls && nat_le (size_under (base_size b) ls) MAX_SIZE
    then Some (size_under (base_size b) ls) else None

-- the size of a type that has one, of at most 4,194,304 bytes
unfoldable pub limited_size : CType → Option ℕ
limited_size t = limited_parts (base_of t) (layers_of t)

-- the size of what a pointer points to, where that has one
unfoldable pub pointed_size : CType → Option ℕ
pointed_size t = if is_pointer (outermost (layers_of t)) then limited_parts (base_of t) (under (layers_of t)) else None
