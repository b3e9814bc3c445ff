-- How many bytes layers over a base have, from the base outwards: the size, cut at the first that is too large, and
-- whether there is a size at all.
use Rattle.std.specs.Prelude.{ℕ, ◌*◌, min, nat_le, true, false, ◌&&◌, if◌then◌else◌, List, [], ◌∷◌, Option, Some, None}
use Rattle.c_types.specs.declared.ctype.Base.{Base}
use Rattle.c_types.specs.declared.ctype.Layer.{Layer, out-Layer}
use Rattle.c_types.specs.declared.ctype.Layer.TheOpen.{Layer-F}
use Rattle.c_type_refs.specs.declared.extents.Extent.{Extent}
use Rattle.c_types.specs.Types.{Opened, base_size, is_integer_base}
use Rattle.limits.specs.declared.program.TheConstants.{MAX_SIZE, SIZE_TOP}

abbrev pub start : Base → Extent
start b = record { size = base_size b; sized = is_integer_base b }

abbrev pub grown_at : Extent → Opened → Extent
grown_at e (Layer-F.Array count) = record { size = min (e.size * count) SIZE_TOP; sized = e.sized }
grown_at e (Layer-F.Function list) = record { size = 0; sized = false }
grown_at e Layer-F.Unlisted = record { size = 0; sized = false }
grown_at e Layer-F.Pointer = record { size = 4; sized = true }
grown_at e Layer-F.Cspec = record { size = 4; sized = true }
grown_at e Layer-F.Vspec = record { size = 4; sized = true }

abbrev pub grown : Extent → Layer → Extent
grown e l = grown_at e (out-Layer l)

-- over all these layers
abbrev pub after : Extent → List Layer → Extent
after e [] = e
after e (l ∷ ls) = after (grown e l) ls

-- under each of these layers, and over the last
abbrev pub extents : Extent → List Layer → List Extent
extents e [] = e ∷ []
extents e (l ∷ ls) = e ∷ extents (grown e l) ls

-- the size, where there is one of at most 4,194,304 bytes
abbrev pub limited : Extent → Option ℕ
limited e = if e.sized && nat_le e.size MAX_SIZE then Some e.size else None
