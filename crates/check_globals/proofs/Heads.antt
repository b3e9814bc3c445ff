-- The parameters of the function that a declarator declares, by the parts of the declarator. Written by
-- tools/checker/heads.py.
use Rattle.std.proofs.Common.{◌≡◌, ℕ, Bool, List, [], ◌∷◌, map, refl, ap, sym, ◌∙◌, subst}
use Rattle.check_forms.specs.Forms as forms
use Rattle.check_forms.specs.Forms.{Written, Declared}
use Rattle.tick_tree.specs.declared.syntax.Core.TheVariants as co
use Rattle.tick_tree.specs.declared.syntax.Suffix.TheVariants as sx
use Rattle.tick_tree.specs.declared.syntax.Declarator.{out-Declarator}
use Rattle.tick_tree.specs.declared.syntax.Parameter.{out-Parameter}
use Rattle.tick_tree.specs.declared.syntax.Core.{Core, roll-Core}
use Rattle.tick_tree.specs.declared.syntax.Expr.{Expr}
use Rattle.tick_tree.specs.declared.syntax.Initializer.{Initializer}
use Rattle.tick_tree.specs.declared.syntax.OptionalExpr.{OptionalExpr}
use Rattle.tick_tree.specs.declared.syntax.Stmt.{Stmt}
use Rattle.tick_tree.specs.declared.syntax.Suffix.{Suffix}
use Rattle.tick_tree.specs.declared.syntax.Declaration.{Declaration}
use Rattle.tick_tree.specs.declared.syntax.Declarator.{Declarator, roll-Declarator}
use Rattle.tick_tree.specs.declared.syntax.Init.{Init}
use Rattle.tick_tree.specs.declared.syntax.Parameter.{Parameter}
use Rattle.tick_tree.specs.declared.syntax.Typename.{Typename}
use Rattle.tick_tree.specs.declared.syntax.Core.TheOpen.{Core-F, Suffix-F, Declarator-F}
use Rattle.tick_tree.specs.declared.syntax.Core.TheFolds.{ind-Declarator, map-Core, map-Declarator, fold-roll-Core}
use Rattle.tick_tree.specs.declared.syntax.Core.TheFolds.{fold-roll-Declarator, fold-roll-Suffix, fold_out-Declarator}
use Rattle.tick_tree.specs.declared.syntax.Core.TheFolds.{fold_out-Parameter}
use Rattle.check_globals.specs.Functions.{Given, given}
use Rattle.check_globals.specs.Parameters.{Head, Inner, nothing, inner_rule, head_rule, head_of, first_of, list_rule}
use Rattle.check_globals.specs.Parameters.{given_rule, inner, head, list, written, parameters_of}

pub inner_absent : inner co.Absent ≡ inner_rule Core-F.Core::Absent
unfolding inner head list written
inner_absent = ap inner (sym co.rolls-Absent) ∙
    fold-roll-Core Inner (Unit {0}) (Unit {0}) (Unit {0}) (Unit {0}) (List Given) (Unit {0}) Head (Unit {0}) Given
    (Unit {0}) inner_rule nothing nothing nothing nothing list_rule nothing head_rule nothing given_rule nothing
    Core-F.Core::Absent

pub inner_name : (a : ℕ) (b : (List ℕ)) → inner (co.Name a b) ≡ inner_rule (Core-F.Core::Name a b)
unfolding inner head list written
inner_name a b = ap inner (sym (co.rolls-Name a b)) ∙
    fold-roll-Core Inner (Unit {0}) (Unit {0}) (Unit {0}) (Unit {0}) (List Given) (Unit {0}) Head (Unit {0}) Given
    (Unit {0}) inner_rule nothing nothing nothing nothing list_rule nothing head_rule nothing given_rule nothing
    (Core-F.Core::Name a b)

pub inner_paren : (a : Declarator) → inner (co.Paren a) ≡ inner_rule (Core-F.Core::Paren (head a))
unfolding inner head list written
inner_paren a = ap inner (sym (co.rolls-Paren a)) ∙
    fold-roll-Core Inner (Unit {0}) (Unit {0}) (Unit {0}) (Unit {0}) (List Given) (Unit {0}) Head (Unit {0}) Given
    (Unit {0}) inner_rule nothing nothing nothing nothing list_rule nothing head_rule nothing given_rule nothing
    (Core-F.Core::Paren a)

pub ruleset cores = (inner_absent, inner_name, inner_paren)

-- what a declarator is by its parts
opened : (d : Declarator) → head d ≡ head_of (inner (out-Declarator d).core) (map list (out-Declarator d).suffixes)
unfolding inner head list written
opened d = fold_out-Declarator Inner (Unit {0}) (Unit {0}) (Unit {0}) (Unit {0}) (List Given) (Unit {0}) Head (Unit {0})
    Given (Unit {0}) inner_rule nothing nothing nothing nothing list_rule nothing head_rule nothing given_rule nothing d

pub by_core : (ps : List Given) (d : Declarator) →
    ps ≡ (inner (out-Declarator d).core).list (first_of (map list (out-Declarator d).suffixes)) → ps ≡ parameters_of d
by_core ps d h = h ∙ ap (λ x. x.list) (sym (opened d))

-- ---- the name is that of check_forms

abbrev CoreAgrees : Core → Type 0
CoreAgrees c = (inner c).name ≡ (forms.declared_core c).name

abbrev DeclaratorAgrees : Declarator → Type 0
DeclaratorAgrees d = (head d).name ≡ (forms.declared d).name

abbrev Any : {A : Type 0} → A → Type 0
Any x = Unit {0}

abbrev KnownCore : Type 0
KnownCore = (x : Core) × CoreAgrees x

abbrev KnownExpr : Type 0
KnownExpr = (x : Expr) × Any x

abbrev KnownInitializer : Type 0
KnownInitializer = (x : Initializer) × Any x

abbrev KnownOptionalExpr : Type 0
KnownOptionalExpr = (x : OptionalExpr) × Any x

abbrev KnownStmt : Type 0
KnownStmt = (x : Stmt) × Any x

abbrev KnownSuffix : Type 0
KnownSuffix = (x : Suffix) × Any x

abbrev KnownDeclaration : Type 0
KnownDeclaration = (x : Declaration) × Any x

abbrev KnownDeclarator : Type 0
KnownDeclarator = (x : Declarator) × DeclaratorAgrees x

abbrev KnownInit : Type 0
KnownInit = (x : Init) × Any x

abbrev KnownParameter : Type 0
KnownParameter = (x : Parameter) × Any x

abbrev KnownTypename : Type 0
KnownTypename = (x : Typename) × Any x

walk_core : (x : Core-F Core Expr Initializer OptionalExpr Stmt Suffix Declaration Declarator Init Parameter Typename) →
    inner (roll-Core x) ≡ inner_rule
    (map-Core Core Expr Initializer OptionalExpr Stmt Suffix Declaration Declarator Init Parameter Typename Inner
    (Unit {0}) (Unit {0}) (Unit {0}) (Unit {0}) (List Given) (Unit {0}) Head (Unit {0}) Given (Unit {0}) inner nothing
    nothing nothing nothing list nothing head nothing written nothing x)
unfolding inner head list written
walk_core x = fold-roll-Core Inner (Unit {0}) (Unit {0}) (Unit {0}) (Unit {0}) (List Given) (Unit {0}) Head (Unit {0})
    Given (Unit {0}) inner_rule nothing nothing nothing nothing list_rule nothing head_rule nothing given_rule nothing x

form_core : (x : Core-F Core Expr Initializer OptionalExpr Stmt Suffix Declaration Declarator Init Parameter Typename) →
    forms.declared_core (roll-Core x) ≡ forms.core_rule
    (map-Core Core Expr Initializer OptionalExpr Stmt Suffix Declaration Declarator Init Parameter Typename Declared
    Written (Unit {0}) (Unit {0}) (Unit {0}) Bool (Unit {0}) Declared (Unit {0}) Bool Bool forms.declared_core
    forms.written nothing nothing nothing forms.is_staged_suffix nothing forms.declared nothing forms.is_staged_parameter
    forms.is_integer_name x)
unfolding forms.written forms.declared forms.declared_core forms.is_staged_suffix forms.is_staged_parameter
    forms.is_integer_name
form_core x = fold-roll-Core Declared Written (Unit {0}) (Unit {0}) (Unit {0}) Bool (Unit {0}) Declared (Unit {0}) Bool
    Bool forms.core_rule forms.expr_rule nothing nothing nothing forms.suffix_rule nothing forms.declarator_rule nothing
    forms.parameter_rule forms.typename_rule x

core_layer : (y : Core-F KnownCore KnownExpr KnownInitializer KnownOptionalExpr KnownStmt KnownSuffix KnownDeclaration
    KnownDeclarator KnownInit KnownParameter KnownTypename) →
    (inner_rule (map-Core Core Expr Initializer OptionalExpr Stmt Suffix Declaration Declarator Init Parameter Typename
    Inner (Unit {0}) (Unit {0}) (Unit {0}) (Unit {0}) (List Given) (Unit {0}) Head (Unit {0}) Given (Unit {0}) inner
    nothing nothing nothing nothing list nothing head nothing written nothing
    (map-Core KnownCore KnownExpr KnownInitializer KnownOptionalExpr KnownStmt KnownSuffix KnownDeclaration
    KnownDeclarator KnownInit KnownParameter KnownTypename Core Expr Initializer OptionalExpr Stmt Suffix Declaration
    Declarator Init Parameter Typename (λ k. k.0) (λ k. k.0) (λ k. k.0) (λ k. k.0) (λ k. k.0) (λ k. k.0) (λ k. k.0)
    (λ k. k.0) (λ k. k.0) (λ k. k.0) (λ k. k.0) y))).name ≡
    (forms.core_rule (map-Core Core Expr Initializer OptionalExpr Stmt Suffix Declaration Declarator Init Parameter
    Typename Declared Written (Unit {0}) (Unit {0}) (Unit {0}) Bool (Unit {0}) Declared (Unit {0}) Bool Bool
    forms.declared_core forms.written nothing nothing nothing forms.is_staged_suffix nothing forms.declared nothing
    forms.is_staged_parameter forms.is_integer_name
    (map-Core KnownCore KnownExpr KnownInitializer KnownOptionalExpr KnownStmt KnownSuffix KnownDeclaration
    KnownDeclarator KnownInit KnownParameter KnownTypename Core Expr Initializer OptionalExpr Stmt Suffix Declaration
    Declarator Init Parameter Typename (λ k. k.0) (λ k. k.0) (λ k. k.0) (λ k. k.0) (λ k. k.0) (λ k. k.0) (λ k. k.0)
    (λ k. k.0) (λ k. k.0) (λ k. k.0) (λ k. k.0) y))).name
core_layer Core-F.Core::Absent = refl
core_layer (Core-F.Core::Name n x) = refl
core_layer (Core-F.Core::Paren d) = d.1

core_step : (x : Core-F Core Expr Initializer OptionalExpr Stmt Suffix Declaration Declarator Init Parameter Typename)
    (y : Core-F KnownCore KnownExpr KnownInitializer KnownOptionalExpr KnownStmt KnownSuffix KnownDeclaration
    KnownDeclarator KnownInit KnownParameter KnownTypename) →
    (map-Core KnownCore KnownExpr KnownInitializer KnownOptionalExpr KnownStmt KnownSuffix KnownDeclaration
    KnownDeclarator KnownInit KnownParameter KnownTypename Core Expr Initializer OptionalExpr Stmt Suffix Declaration
    Declarator Init Parameter Typename (λ k. k.0) (λ k. k.0) (λ k. k.0) (λ k. k.0) (λ k. k.0) (λ k. k.0) (λ k. k.0)
    (λ k. k.0) (λ k. k.0) (λ k. k.0) (λ k. k.0) y) ≡ x → CoreAgrees (roll-Core x)
core_step x y is = subst (λ z. CoreAgrees (roll-Core z)) is
    (ap (λ w. w.name) (walk_core
    (map-Core KnownCore KnownExpr KnownInitializer KnownOptionalExpr KnownStmt KnownSuffix KnownDeclaration
    KnownDeclarator KnownInit KnownParameter KnownTypename Core Expr Initializer OptionalExpr Stmt Suffix Declaration
    Declarator Init Parameter Typename (λ k. k.0) (λ k. k.0) (λ k. k.0) (λ k. k.0) (λ k. k.0) (λ k. k.0) (λ k. k.0)
    (λ k. k.0) (λ k. k.0) (λ k. k.0) (λ k. k.0) y)) ∙ core_layer y ∙
    sym (ap (λ w. w.name) (form_core
    (map-Core KnownCore KnownExpr KnownInitializer KnownOptionalExpr KnownStmt KnownSuffix KnownDeclaration
    KnownDeclarator KnownInit KnownParameter KnownTypename Core Expr Initializer OptionalExpr Stmt Suffix Declaration
    Declarator Init Parameter Typename (λ k. k.0) (λ k. k.0) (λ k. k.0) (λ k. k.0) (λ k. k.0) (λ k. k.0) (λ k. k.0)
    (λ k. k.0) (λ k. k.0) (λ k. k.0) (λ k. k.0) y))))

walk_declarator : (x : Declarator-F Core Expr Initializer OptionalExpr Stmt Suffix Declaration Declarator Init Parameter
    Typename) → head (roll-Declarator x) ≡ head_rule
    (map-Declarator Core Expr Initializer OptionalExpr Stmt Suffix Declaration Declarator Init Parameter Typename Inner
    (Unit {0}) (Unit {0}) (Unit {0}) (Unit {0}) (List Given) (Unit {0}) Head (Unit {0}) Given (Unit {0}) inner nothing
    nothing nothing nothing list nothing head nothing written nothing x)
unfolding inner head list written
walk_declarator x = fold-roll-Declarator Inner (Unit {0}) (Unit {0}) (Unit {0}) (Unit {0}) (List Given) (Unit {0}) Head
    (Unit {0}) Given (Unit {0}) inner_rule nothing nothing nothing nothing list_rule nothing head_rule nothing given_rule
    nothing x

form_declarator : (x : Declarator-F Core Expr Initializer OptionalExpr Stmt Suffix Declaration Declarator Init Parameter
    Typename) → forms.declared (roll-Declarator x) ≡ forms.declarator_rule
    (map-Declarator Core Expr Initializer OptionalExpr Stmt Suffix Declaration Declarator Init Parameter Typename Declared
    Written (Unit {0}) (Unit {0}) (Unit {0}) Bool (Unit {0}) Declared (Unit {0}) Bool Bool forms.declared_core
    forms.written nothing nothing nothing forms.is_staged_suffix nothing forms.declared nothing forms.is_staged_parameter
    forms.is_integer_name x)
unfolding forms.written forms.declared forms.declared_core forms.is_staged_suffix forms.is_staged_parameter
    forms.is_integer_name
form_declarator x = fold-roll-Declarator Declared Written (Unit {0}) (Unit {0}) (Unit {0}) Bool (Unit {0}) Declared
    (Unit {0}) Bool Bool forms.core_rule forms.expr_rule nothing nothing nothing forms.suffix_rule nothing
    forms.declarator_rule nothing forms.parameter_rule forms.typename_rule x

declarator_layer : (y : Declarator-F KnownCore KnownExpr KnownInitializer KnownOptionalExpr KnownStmt KnownSuffix
    KnownDeclaration KnownDeclarator KnownInit KnownParameter KnownTypename) →
    (head_rule (map-Declarator Core Expr Initializer OptionalExpr Stmt Suffix Declaration Declarator Init Parameter
    Typename Inner (Unit {0}) (Unit {0}) (Unit {0}) (Unit {0}) (List Given) (Unit {0}) Head (Unit {0}) Given (Unit {0})
    inner nothing nothing nothing nothing list nothing head nothing written nothing
    (map-Declarator KnownCore KnownExpr KnownInitializer KnownOptionalExpr KnownStmt KnownSuffix KnownDeclaration
    KnownDeclarator KnownInit KnownParameter KnownTypename Core Expr Initializer OptionalExpr Stmt Suffix Declaration
    Declarator Init Parameter Typename (λ k. k.0) (λ k. k.0) (λ k. k.0) (λ k. k.0) (λ k. k.0) (λ k. k.0) (λ k. k.0)
    (λ k. k.0) (λ k. k.0) (λ k. k.0) (λ k. k.0) y))).name ≡
    (forms.declarator_rule (map-Declarator Core Expr Initializer OptionalExpr Stmt Suffix Declaration Declarator Init
    Parameter Typename Declared Written (Unit {0}) (Unit {0}) (Unit {0}) Bool (Unit {0}) Declared (Unit {0}) Bool Bool
    forms.declared_core forms.written nothing nothing nothing forms.is_staged_suffix nothing forms.declared nothing
    forms.is_staged_parameter forms.is_integer_name
    (map-Declarator KnownCore KnownExpr KnownInitializer KnownOptionalExpr KnownStmt KnownSuffix KnownDeclaration
    KnownDeclarator KnownInit KnownParameter KnownTypename Core Expr Initializer OptionalExpr Stmt Suffix Declaration
    Declarator Init Parameter Typename (λ k. k.0) (λ k. k.0) (λ k. k.0) (λ k. k.0) (λ k. k.0) (λ k. k.0) (λ k. k.0)
    (λ k. k.0) (λ k. k.0) (λ k. k.0) (λ k. k.0) y))).name
declarator_layer y = y.core.1

declarator_step : (x : Declarator-F Core Expr Initializer OptionalExpr Stmt Suffix Declaration Declarator Init Parameter
    Typename) (y : Declarator-F KnownCore KnownExpr KnownInitializer KnownOptionalExpr KnownStmt KnownSuffix
    KnownDeclaration KnownDeclarator KnownInit KnownParameter KnownTypename) →
    (map-Declarator KnownCore KnownExpr KnownInitializer KnownOptionalExpr KnownStmt KnownSuffix KnownDeclaration
    KnownDeclarator KnownInit KnownParameter KnownTypename Core Expr Initializer OptionalExpr Stmt Suffix Declaration
    Declarator Init Parameter Typename (λ k. k.0) (λ k. k.0) (λ k. k.0) (λ k. k.0) (λ k. k.0) (λ k. k.0) (λ k. k.0)
    (λ k. k.0) (λ k. k.0) (λ k. k.0) (λ k. k.0) y) ≡ x → DeclaratorAgrees (roll-Declarator x)
declarator_step x y is = subst (λ z. DeclaratorAgrees (roll-Declarator z)) is
    (ap (λ w. w.name) (walk_declarator
    (map-Declarator KnownCore KnownExpr KnownInitializer KnownOptionalExpr KnownStmt KnownSuffix KnownDeclaration
    KnownDeclarator KnownInit KnownParameter KnownTypename Core Expr Initializer OptionalExpr Stmt Suffix Declaration
    Declarator Init Parameter Typename (λ k. k.0) (λ k. k.0) (λ k. k.0) (λ k. k.0) (λ k. k.0) (λ k. k.0) (λ k. k.0)
    (λ k. k.0) (λ k. k.0) (λ k. k.0) (λ k. k.0) y)) ∙ declarator_layer y ∙
    sym (ap (λ w. w.name) (form_declarator
    (map-Declarator KnownCore KnownExpr KnownInitializer KnownOptionalExpr KnownStmt KnownSuffix KnownDeclaration
    KnownDeclarator KnownInit KnownParameter KnownTypename Core Expr Initializer OptionalExpr Stmt Suffix Declaration
    Declarator Init Parameter Typename (λ k. k.0) (λ k. k.0) (λ k. k.0) (λ k. k.0) (λ k. k.0) (λ k. k.0) (λ k. k.0)
    (λ k. k.0) (λ k. k.0) (λ k. k.0) (λ k. k.0) y))))

name_agrees : (d : Declarator) → DeclaratorAgrees d
name_agrees = ind-Declarator CoreAgrees Any Any Any Any Any Any DeclaratorAgrees Any Any Any core_step (λ x y is. tt)
    (λ x y is. tt) (λ x y is. tt) (λ x y is. tt) (λ x y is. tt) (λ x y is. tt) declarator_step (λ x y is. tt)
    (λ x y is. tt) (λ x y is. tt)

-- a parameter of a list, as it is written
given_agrees : (p : Parameter) → given p ≡ written p
unfolding inner head list written
given_agrees p = ap (λ n. ((out-Parameter p).line, n)) (sym (name_agrees (out-Parameter p).declarator)) ∙
    sym (fold_out-Parameter Inner (Unit {0}) (Unit {0}) (Unit {0}) (Unit {0}) (List Given) (Unit {0}) Head (Unit {0})
    Given (Unit {0}) inner_rule nothing nothing nothing nothing list_rule nothing head_rule nothing given_rule nothing p)

pub givens_agree : (ps : List Parameter) → map given ps ≡ map written ps
givens_agree [] = refl
givens_agree (p ∷ ps) = ap (λ g. g ∷ map given ps) (given_agrees p) ∙ ap (λ gs. written p ∷ gs) (givens_agree ps)

pub list_array : (a : OptionalExpr) → list (sx.Array a) ≡ list_rule (Suffix-F.Array (nothing a))
unfolding inner head list written
list_array a = ap list (sym (sx.rolls-Array a)) ∙
    fold-roll-Suffix Inner (Unit {0}) (Unit {0}) (Unit {0}) (Unit {0}) (List Given) (Unit {0}) Head (Unit {0}) Given
    (Unit {0}) inner_rule nothing nothing nothing nothing list_rule nothing head_rule nothing given_rule nothing
    (Suffix-F.Array a)

pub list_unlisted : list sx.Unlisted ≡ list_rule Suffix-F.Unlisted
unfolding inner head list written
list_unlisted = ap list (sym sx.rolls-Unlisted) ∙
    fold-roll-Suffix Inner (Unit {0}) (Unit {0}) (Unit {0}) (Unit {0}) (List Given) (Unit {0}) Head (Unit {0}) Given
    (Unit {0}) inner_rule nothing nothing nothing nothing list_rule nothing head_rule nothing given_rule nothing
    Suffix-F.Unlisted

pub list_nothing : list sx.Nothing ≡ list_rule Suffix-F.Nothing
unfolding inner head list written
list_nothing = ap list (sym sx.rolls-Nothing) ∙
    fold-roll-Suffix Inner (Unit {0}) (Unit {0}) (Unit {0}) (Unit {0}) (List Given) (Unit {0}) Head (Unit {0}) Given
    (Unit {0}) inner_rule nothing nothing nothing nothing list_rule nothing head_rule nothing given_rule nothing
    Suffix-F.Nothing

pub list_listed : (a : (List Parameter)) → list (sx.Listed a) ≡ list_rule (Suffix-F.Listed (map written a))
unfolding inner head list written
list_listed a = ap list (sym (sx.rolls-Listed a)) ∙
    fold-roll-Suffix Inner (Unit {0}) (Unit {0}) (Unit {0}) (Unit {0}) (List Given) (Unit {0}) Head (Unit {0}) Given
    (Unit {0}) inner_rule nothing nothing nothing nothing list_rule nothing head_rule nothing given_rule nothing
    (Suffix-F.Listed a)

pub ruleset suffixes = (list_array, list_unlisted, list_nothing, list_listed, givens_agree)
