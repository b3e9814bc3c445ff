-- What the parts of a shared type say: a row of layers with their code and extents, of which a type has the first so
-- many, and its own layers on top.
use Rattle.std.specs.Prelude.{ℕ, ◌≡◌, ◌≤◌, ◌⊎◌, List, [], ◌++◌, length, take, Option, Some, None}
use Rattle.c_types.specs.declared.ctype.Base.{Base}
use Rattle.c_types.specs.declared.ctype.Layer.{Layer}
use Rattle.c_types.specs.declared.ctype.CType.{CType}
use Rattle.c_type_refs.specs.declared.extents.Extent.{Extent}
use Rattle.c_types.specs.Types.{base_of, layers_of}
use Rattle.c_type_refs.specs.declared.code.Code.{Code}
use Rattle.c_type_refs.specs.Codes as Codes
use Rattle.c_type_refs.specs.Codes.{codes, code_of, codes_in, codes_of_list, codes_of_lists}
use Rattle.c_type_refs.specs.Extents.{start, extents}

-- the first of the layers have this code, which ends there for each, and the types of the lists of the first of them
-- have these
abbrev pub AreLent : List Layer → List ℕ → List ℕ → List (List Code) → Type 0
AreLent row symbols ends lists = record {
  coded : symbols ≡ codes (take (length ends) row);
  ended : ends ≡ Codes.ends 0 (take (length ends) row);
  listed : lists ≡ codes_of_lists (take (length lists) row);
}

-- the first types of a list have these codes
abbrev pub AreTypes : List CType → List Code → Type 0
AreTypes types lists = lists ≡ codes_of_list (take (length lists) types)

-- no code, or that of these layers
abbrev pub IsCodeOf : List Layer → Option Code → Type 0
IsCodeOf ls None = Unit {0}
IsCodeOf ls (Some code) = code ≡ code_of ls

-- no codes, or those of the types of a layer's list
abbrev pub CodesOf : Option Layer → List Code → Type 0
CodesOf None lists = lists ≡ []
CodesOf (Some l) lists = (lists ≡ []) ⊎ (lists ≡ codes_in l)

-- the first of the layers have this code, and the types of their lists have these, and no extent is kept, or that under
-- each of them
abbrev pub IsRow : Base → List Layer → Code → List (List Code) → List Extent → Type 0
IsRow b row code lists sizes = record {
  lent : AreLent row code.symbols code.ends lists;
  counted : (sizes ≡ []) ⊎ (sizes ≡ extents (start b) row);
}

abbrev pub row_layers : Option CType → List Layer
row_layers None = []
row_layers (Some r) = layers_of r

-- the row is over this base
abbrev pub StandsOn : Base → Option CType → Type 0
StandsOn b None = Unit {0}
StandsOn b (Some r) = base_of r ≡ b

-- the first so many layers of a row, and more on top
abbrev pub all_layers : Option CType → ℕ → List Layer → List Layer
all_layers row len more = take len (row_layers row) ++ more

abbrev pub IsShared : Base → Option CType → ℕ → Type 0
IsShared b row len = record {
  within : len ≤ length (row_layers row);
  stands : StandsOn b row;
}
