-- The parameters of the function that a declarator declares, as they are written: the list that stands first behind its
-- name.
use Rattle.std.specs.Prelude.{ℕ, List, [], ◌∷◌, Option, Some, None}
use Rattle.check_forms.specs.Forms.{Name}
use Rattle.tick_tree.specs.declared.syntax.Core.{Core}
use Rattle.tick_tree.specs.declared.syntax.Declarator.{Declarator}
use Rattle.tick_tree.specs.declared.syntax.Parameter.{Parameter}
use Rattle.tick_tree.specs.declared.syntax.Suffix.{Suffix}
use Rattle.tick_tree.specs.declared.syntax.Core.TheOpen.{Core-F, Declarator-F, Parameter-F, Suffix-F}
use Rattle.tick_tree.specs.declared.syntax.Core.TheFolds.{fold-Core, fold-Declarator, fold-Parameter, fold-Suffix}
use Rattle.check_globals.specs.Functions.{Given}

-- a declarator: the name that it declares, with its line, and the parameters behind it
pub record Head : Type 0 where
  pub name : Option (ℕ × Name)
  pub list : List Given

-- the inner part of a declarator: the name, and the parameters by those of the suffix behind it
pub record Inner : Type 0 where
  pub name : Option (ℕ × Name)
  pub list : List Given → List Given

-- a layer of the tree, with what is known of its parts in their places
abbrev pub Core-P : Type 0
Core-P = Core-F Inner (Unit {0}) (Unit {0}) (Unit {0}) (Unit {0}) (List Given) (Unit {0}) Head (Unit {0}) Given
    (Unit {0})

abbrev pub Declarator-P : Type 0
Declarator-P = Declarator-F Inner (Unit {0}) (Unit {0}) (Unit {0}) (Unit {0}) (List Given) (Unit {0}) Head (Unit {0})
    Given (Unit {0})

abbrev pub Suffix-P : Type 0
Suffix-P = Suffix-F Inner (Unit {0}) (Unit {0}) (Unit {0}) (Unit {0}) (List Given) (Unit {0}) Head (Unit {0}) Given
    (Unit {0})

abbrev pub Parameter-P : Type 0
Parameter-P = Parameter-F Inner (Unit {0}) (Unit {0}) (Unit {0}) (Unit {0}) (List Given) (Unit {0}) Head (Unit {0})
    Given (Unit {0})

abbrev pub nothing : {A : Type 0} → A → Unit {0}
nothing x = tt

abbrev pub inner_rule : Core-P → Inner
inner_rule Core-F.Core::Absent = record { name = None; list = λ first. [] }
inner_rule (Core-F.Core::Name n text) = record { name = Some (n, text); list = λ first. first }
inner_rule (Core-F.Core::Paren d) = record { name = d.name; list = λ first. d.list }

-- the parameters of the first suffix
abbrev pub first_of : List (List Given) → List Given
first_of [] = []
first_of (gs ∷ rest) = gs

abbrev pub head_of : Inner → List (List Given) → Head
head_of core suffixes = record { name = core.name; list = core.list (first_of suffixes) }

abbrev pub head_rule : Declarator-P → Head
head_rule d = head_of d.core d.suffixes

abbrev pub list_rule : Suffix-P → List Given
list_rule (Suffix-F.Array e) = []
list_rule Suffix-F.Unlisted = []
list_rule Suffix-F.Nothing = []
list_rule (Suffix-F.Listed ps) = ps

abbrev pub given_rule : Parameter-P → Given
given_rule p = (p.line, p.declarator.name)

unfoldable pub inner : Core → Inner
inner = fold-Core Inner (Unit {0}) (Unit {0}) (Unit {0}) (Unit {0}) (List Given) (Unit {0}) Head (Unit {0}) Given
    (Unit {0}) inner_rule nothing nothing nothing nothing list_rule nothing head_rule nothing given_rule nothing

unfoldable pub head : Declarator → Head
head = fold-Declarator Inner (Unit {0}) (Unit {0}) (Unit {0}) (Unit {0}) (List Given) (Unit {0}) Head (Unit {0}) Given
    (Unit {0}) inner_rule nothing nothing nothing nothing list_rule nothing head_rule nothing given_rule nothing

unfoldable pub list : Suffix → List Given
list = fold-Suffix Inner (Unit {0}) (Unit {0}) (Unit {0}) (Unit {0}) (List Given) (Unit {0}) Head (Unit {0}) Given
    (Unit {0}) inner_rule nothing nothing nothing nothing list_rule nothing head_rule nothing given_rule nothing

unfoldable pub written : Parameter → Given
written = fold-Parameter Inner (Unit {0}) (Unit {0}) (Unit {0}) (Unit {0}) (List Given) (Unit {0}) Head (Unit {0}) Given
    (Unit {0}) inner_rule nothing nothing nothing nothing list_rule nothing head_rule nothing given_rule nothing

-- the parameters of the function that a declarator declares
abbrev pub parameters_of : Declarator → List Given
parameters_of d = (head d).list
