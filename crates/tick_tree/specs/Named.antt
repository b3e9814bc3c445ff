-- The functions of a text: behind the name of each stands a list of parameters at once, not even a parenthesis between
-- them. The grammar takes a body nowhere else.
use Rattle.std.specs.Prelude.{◌≡◌, Bool, true, false, not, List, [], ◌∷◌}
use Rattle.tick_tree.specs.declared.syntax.Core.{Core}
use Rattle.tick_tree.specs.declared.syntax.Declarator.{Declarator}
use Rattle.tick_tree.specs.declared.syntax.External.{External}
use Rattle.tick_tree.specs.declared.syntax.External.TheVariants as ext
use Rattle.tick_tree.specs.declared.syntax.Core.TheOpen.{Core-F, Declarator-F}
use Rattle.tick_tree.specs.declared.syntax.Core.TheFolds.{fold-Core, fold-Declarator}

-- a layer of the tree, with what is asked of its parts in their places: of the inner part of a declarator, by whether a
-- suffix stands behind it
abbrev pub Core-L : Type 0
Core-L = Core-F (Bool → Bool) (Unit {0}) (Unit {0}) (Unit {0}) (Unit {0}) (Unit {0}) (Unit {0}) Bool (Unit {0})
    (Unit {0}) (Unit {0})

abbrev pub Declarator-L : Type 0
Declarator-L = Declarator-F (Bool → Bool) (Unit {0}) (Unit {0}) (Unit {0}) (Unit {0}) (Unit {0}) (Unit {0}) Bool
    (Unit {0}) (Unit {0}) (Unit {0})

abbrev pub is_nil : {A : Type 0} → List A → Bool
is_nil [] = true
is_nil (x ∷ xs) = false

abbrev pub nothing : {A : Type 0} → A → Unit {0}
nothing x = tt

abbrev pub core_rule : Core-L → Bool → Bool
core_rule Core-F.Core::Absent b = false
core_rule (Core-F.Core::Name n text) b = b
core_rule (Core-F.Core::Paren d) b = d

abbrev pub declarator_rule : Declarator-L → Bool
declarator_rule d = d.core (not (is_nil d.suffixes))

-- whether a suffix stands at once behind the name that a declarator declares
unfoldable pub is_listed : Declarator → Bool
is_listed = fold-Declarator (Bool → Bool) (Unit {0}) (Unit {0}) (Unit {0}) (Unit {0}) (Unit {0}) (Unit {0}) Bool
    (Unit {0}) (Unit {0}) (Unit {0}) core_rule nothing nothing nothing nothing nothing nothing declarator_rule nothing
    nothing nothing

unfoldable pub is_listed_core : Core → Bool → Bool
is_listed_core = fold-Core (Bool → Bool) (Unit {0}) (Unit {0}) (Unit {0}) (Unit {0}) (Unit {0}) (Unit {0}) Bool
    (Unit {0}) (Unit {0}) (Unit {0}) core_rule nothing nothing nothing nothing nothing nothing declarator_rule nothing
    nothing nothing

abbrev pub EachNamed : List External → Type 0
EachNamed [] = Unit {0}
EachNamed (ext.Function line b d items ∷ xs) = (is_listed d ≡ true) × EachNamed xs
EachNamed (ext.Declaration d ∷ xs) = EachNamed xs
