-- A type that stands for no pointer is the type of its value.
use Rattle.std.proofs.Common.{◌≡◌, Bool, true, false, List, [], ◌∷◌, ◌++◌, refl, ap, ◌∙◌}
use Rattle.std.specs.Prelude.{◌||◌, if◌then◌else◌}
use Rattle.c_types.specs.declared.ctype.CType.{CType, roll-out-CType}
use Rattle.c_types.specs.declared.ctype.Layer.{Layer}
use Rattle.c_types.specs.declared.ctype.Layer.TheVariants as layer
use Rattle.c_types.specs.Types.{ctype, base_of, layers_of, under}
use Rattle.check_declarators.specs.Making.{is_array, is_function, decayed}
use Rattle.check_types.specs.Shapes.{decays}

neither : (array function : Bool) (first second ls : List Layer) → (array || function) ≡ false →
    (if array then first else (if function then second else ls)) ≡ ls
neither false false first second ls h = refl
neither false true first second ls h = cc
neither true function first second ls h = cc

pub kept : (t : CType) → decays t ≡ false → decayed t ≡ t
unfolding decayed
kept t h =
    let ls = layers_of t in
    ap (ctype (base_of t))
    (neither (is_array ls) (is_function ls) (under ls ++ layer.Pointer ∷ []) (ls ++ layer.Pointer ∷ []) ls h)
    ∙ roll-out-CType t
