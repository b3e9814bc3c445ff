-- A declarator has no more parameters than nodes. Written by tools/checker/weights.py.
use Rattle.std.proofs.Common.{◌≡◌, ℕ, ◌+◌, ◌≤◌, List, [], ◌∷◌, map, length, sym, subst, arith}
use Rattle.tick_tree.specs.declared.syntax.Core.{Core, roll-Core}
use Rattle.tick_tree.specs.declared.syntax.Expr.{Expr}
use Rattle.tick_tree.specs.declared.syntax.Initializer.{Initializer}
use Rattle.tick_tree.specs.declared.syntax.OptionalExpr.{OptionalExpr}
use Rattle.tick_tree.specs.declared.syntax.Stmt.{Stmt}
use Rattle.tick_tree.specs.declared.syntax.Suffix.{Suffix, roll-Suffix}
use Rattle.tick_tree.specs.declared.syntax.Declaration.{Declaration}
use Rattle.tick_tree.specs.declared.syntax.Declarator.{Declarator, roll-Declarator}
use Rattle.tick_tree.specs.declared.syntax.Init.{Init}
use Rattle.tick_tree.specs.declared.syntax.Parameter.{Parameter, roll-Parameter}
use Rattle.tick_tree.specs.declared.syntax.Typename.{Typename}
use Rattle.tick_tree.specs.declared.syntax.Core.TheOpen.{Core-F, Suffix-F, Declarator-F}
use Rattle.tick_tree.specs.declared.syntax.Core.TheFolds.{map-Core, map-Suffix, map-Declarator, ind-Declarator}
use Rattle.tick_tree.specs.declared.syntax.Core.TheFolds.{fold-roll-Core, fold-roll-Suffix, fold-roll-Declarator}
use Rattle.check_globals.specs.Functions.{Given}
use Rattle.check_globals.specs.Parameters.{Head, Inner, nothing, first_of, inner_rule, head_rule, list_rule, given_rule}
use Rattle.check_globals.specs.Parameters.{inner, head, list, written, parameters_of}
use Rattle.tick_tree.specs.Weights.{total, core_nodes, suffix_nodes, declarator_nodes, core_weight, suffix_weight}
use Rattle.tick_tree.specs.Weights.{declarator_weight, parameter_weight}
use Rattle.syntax_size.proofs.Folds.{weigh-Core, weigh-Suffix, weigh-Declarator, weigh-Parameter}
use Rattle.syntax_size.specs.Layers.{Core-T, Suffix-T, Declarator-T, Parameter-T, weighed-Core, weighed-Suffix}
use Rattle.syntax_size.specs.Layers.{weighed-Declarator}

abbrev Any : {A : Type 0} → A → Type 0
Any x = Unit {0}

-- where the suffix behind it has this many parameters
abbrev FewInner : Core → Type 0
FewInner c = (gs : List Given) (n : ℕ) → length gs ≤ n → length ((inner c).list gs) ≤ core_weight c + n

abbrev FewListed : Suffix → Type 0
FewListed s = length (list s) ≤ suffix_weight s

abbrev FewHead : Declarator → Type 0
FewHead d = length (head d).list ≤ declarator_weight d

abbrev OneNode : Parameter → Type 0
OneNode p = 1 ≤ parameter_weight p

abbrev Core-G : Type 0
Core-G = Core-F ((x : Core) × FewInner x) ((x : Expr) × Any x) ((x : Initializer) × Any x) ((x : OptionalExpr) × Any x)
    ((x : Stmt) × Any x) ((x : Suffix) × FewListed x) ((x : Declaration) × Any x) ((x : Declarator) × FewHead x)
    ((x : Init) × Any x) ((x : Parameter) × OneNode x) ((x : Typename) × Any x)

abbrev front-Core : Core-G → Core-T
front-Core = map-Core ((x : Core) × FewInner x) ((x : Expr) × Any x) ((x : Initializer) × Any x)
    ((x : OptionalExpr) × Any x) ((x : Stmt) × Any x) ((x : Suffix) × FewListed x) ((x : Declaration) × Any x)
    ((x : Declarator) × FewHead x) ((x : Init) × Any x) ((x : Parameter) × OneNode x) ((x : Typename) × Any x) Core Expr
    Initializer OptionalExpr Stmt Suffix Declaration Declarator Init Parameter Typename (λ k. k.0) (λ k. k.0) (λ k. k.0)
    (λ k. k.0) (λ k. k.0) (λ k. k.0) (λ k. k.0) (λ k. k.0) (λ k. k.0) (λ k. k.0) (λ k. k.0)

given-Core : (x : Core-T) →
    inner (roll-Core x) ≡ inner_rule
    (map-Core Core Expr Initializer OptionalExpr Stmt Suffix Declaration Declarator Init Parameter Typename Inner
    (Unit {0}) (Unit {0}) (Unit {0}) (Unit {0}) (List Given) (Unit {0}) Head (Unit {0}) Given (Unit {0}) inner nothing
    nothing nothing nothing list nothing head nothing written nothing x)
unfolding inner head list written
given-Core x = fold-roll-Core Inner (Unit {0}) (Unit {0}) (Unit {0}) (Unit {0}) (List Given) (Unit {0}) Head (Unit {0})
    Given (Unit {0}) inner_rule nothing nothing nothing nothing list_rule nothing head_rule nothing given_rule nothing x

abbrev Suffix-G : Type 0
Suffix-G = Suffix-F ((x : Core) × FewInner x) ((x : Expr) × Any x) ((x : Initializer) × Any x)
    ((x : OptionalExpr) × Any x) ((x : Stmt) × Any x) ((x : Suffix) × FewListed x) ((x : Declaration) × Any x)
    ((x : Declarator) × FewHead x) ((x : Init) × Any x) ((x : Parameter) × OneNode x) ((x : Typename) × Any x)

abbrev front-Suffix : Suffix-G → Suffix-T
front-Suffix = map-Suffix ((x : Core) × FewInner x) ((x : Expr) × Any x) ((x : Initializer) × Any x)
    ((x : OptionalExpr) × Any x) ((x : Stmt) × Any x) ((x : Suffix) × FewListed x) ((x : Declaration) × Any x)
    ((x : Declarator) × FewHead x) ((x : Init) × Any x) ((x : Parameter) × OneNode x) ((x : Typename) × Any x) Core Expr
    Initializer OptionalExpr Stmt Suffix Declaration Declarator Init Parameter Typename (λ k. k.0) (λ k. k.0) (λ k. k.0)
    (λ k. k.0) (λ k. k.0) (λ k. k.0) (λ k. k.0) (λ k. k.0) (λ k. k.0) (λ k. k.0) (λ k. k.0)

given-Suffix : (x : Suffix-T) →
    list (roll-Suffix x) ≡ list_rule
    (map-Suffix Core Expr Initializer OptionalExpr Stmt Suffix Declaration Declarator Init Parameter Typename Inner
    (Unit {0}) (Unit {0}) (Unit {0}) (Unit {0}) (List Given) (Unit {0}) Head (Unit {0}) Given (Unit {0}) inner nothing
    nothing nothing nothing list nothing head nothing written nothing x)
unfolding inner head list written
given-Suffix x = fold-roll-Suffix Inner (Unit {0}) (Unit {0}) (Unit {0}) (Unit {0}) (List Given) (Unit {0}) Head
    (Unit {0}) Given (Unit {0}) inner_rule nothing nothing nothing nothing list_rule nothing head_rule nothing given_rule
    nothing x

abbrev Declarator-G : Type 0
Declarator-G = Declarator-F ((x : Core) × FewInner x) ((x : Expr) × Any x) ((x : Initializer) × Any x)
    ((x : OptionalExpr) × Any x) ((x : Stmt) × Any x) ((x : Suffix) × FewListed x) ((x : Declaration) × Any x)
    ((x : Declarator) × FewHead x) ((x : Init) × Any x) ((x : Parameter) × OneNode x) ((x : Typename) × Any x)

abbrev front-Declarator : Declarator-G → Declarator-T
front-Declarator = map-Declarator ((x : Core) × FewInner x) ((x : Expr) × Any x) ((x : Initializer) × Any x)
    ((x : OptionalExpr) × Any x) ((x : Stmt) × Any x) ((x : Suffix) × FewListed x) ((x : Declaration) × Any x)
    ((x : Declarator) × FewHead x) ((x : Init) × Any x) ((x : Parameter) × OneNode x) ((x : Typename) × Any x) Core Expr
    Initializer OptionalExpr Stmt Suffix Declaration Declarator Init Parameter Typename (λ k. k.0) (λ k. k.0) (λ k. k.0)
    (λ k. k.0) (λ k. k.0) (λ k. k.0) (λ k. k.0) (λ k. k.0) (λ k. k.0) (λ k. k.0) (λ k. k.0)

given-Declarator : (x : Declarator-T) →
    head (roll-Declarator x) ≡ head_rule
    (map-Declarator Core Expr Initializer OptionalExpr Stmt Suffix Declaration Declarator Init Parameter Typename Inner
    (Unit {0}) (Unit {0}) (Unit {0}) (Unit {0}) (List Given) (Unit {0}) Head (Unit {0}) Given (Unit {0}) inner nothing
    nothing nothing nothing list nothing head nothing written nothing x)
unfolding inner head list written
given-Declarator x = fold-roll-Declarator Inner (Unit {0}) (Unit {0}) (Unit {0}) (Unit {0}) (List Given) (Unit {0}) Head
    (Unit {0}) Given (Unit {0}) inner_rule nothing nothing nothing nothing list_rule nothing head_rule nothing given_rule
    nothing x

-- ---- the layers

layer-Core : (y : Core-G) (gs : List Given) (n : ℕ) → length gs ≤ n →
    length ((inner_rule (map-Core Core Expr Initializer OptionalExpr Stmt Suffix Declaration Declarator Init Parameter
    Typename Inner (Unit {0}) (Unit {0}) (Unit {0}) (Unit {0}) (List Given) (Unit {0}) Head (Unit {0}) Given (Unit {0})
    inner nothing nothing nothing nothing list nothing head nothing written nothing (front-Core y))).list gs) ≤ core_nodes
    (weighed-Core (front-Core y)) + n
layer-Core Core-F.Core::Absent gs n h = omega arith
layer-Core (Core-F.Core::Name line x) gs n h = omega arith
layer-Core (Core-F.Core::Paren d) gs n h = omega (arith, d.1)

written_few : (ps : List ((p : Parameter) × OneNode p)) →
    length (map written (map (λ k. k.0) ps)) ≤ total (map parameter_weight (map (λ k. k.0) ps))
written_few [] = omega arith
written_few (p ∷ ps) = omega (arith, p.1, written_few ps)

layer-Suffix : (y : Suffix-G) →
    length (list_rule (map-Suffix Core Expr Initializer OptionalExpr Stmt Suffix Declaration Declarator Init Parameter
    Typename Inner (Unit {0}) (Unit {0}) (Unit {0}) (Unit {0}) (List Given) (Unit {0}) Head (Unit {0}) Given (Unit {0})
    inner nothing nothing nothing nothing list nothing head nothing written nothing (front-Suffix y))) ≤ suffix_nodes
    (weighed-Suffix (front-Suffix y))
layer-Suffix (Suffix-F.Array e) = omega arith
layer-Suffix Suffix-F.Unlisted = omega arith
layer-Suffix Suffix-F.Nothing = omega arith
layer-Suffix (Suffix-F.Listed ps) = omega (arith, written_few ps)

first_few : (ss : List ((s : Suffix) × FewListed s)) →
    length (first_of (map list (map (λ k. k.0) ss))) ≤ total (map suffix_weight (map (λ k. k.0) ss))
first_few [] = omega arith
first_few (s ∷ ss) = omega (arith, s.1)

layer-Declarator : (y : Declarator-G) →
    length (head_rule (map-Declarator Core Expr Initializer OptionalExpr Stmt Suffix Declaration Declarator Init Parameter
    Typename Inner (Unit {0}) (Unit {0}) (Unit {0}) (Unit {0}) (List Given) (Unit {0}) Head (Unit {0}) Given (Unit {0})
    inner nothing nothing nothing nothing list nothing head nothing written nothing (front-Declarator y))).list ≤
    declarator_nodes (weighed-Declarator (front-Declarator y))
layer-Declarator y = omega (
  arith,
  y.core.1 (first_of (map list (map (λ k. k.0) y.suffixes)))
      (total (map suffix_weight (map (λ k. k.0) y.suffixes))) (first_few y.suffixes),
)

-- ---- the induction

step-Core : (x : Core-T) (y : Core-G) → front-Core y ≡ x → FewInner (roll-Core x)
step-Core x y is =
    subst (λ z. FewInner (roll-Core z)) is
    (λ gs n h. subst (λ w. length ((inner (roll-Core (front-Core y))).list gs) ≤ w + n)
    (sym (weigh-Core (front-Core y)))
    (subst (λ (v : Inner). length (v.list gs) ≤ core_nodes (weighed-Core (front-Core y)) + n)
    (sym (given-Core (front-Core y))) (layer-Core y gs n h)))

step-Suffix : (x : Suffix-T) (y : Suffix-G) → front-Suffix y ≡ x → FewListed (roll-Suffix x)
step-Suffix x y is =
    subst (λ z. FewListed (roll-Suffix z)) is
    (subst (λ w. length (list (roll-Suffix (front-Suffix y))) ≤ w) (sym (weigh-Suffix (front-Suffix y)))
    (subst (λ (v : List Given). length v ≤ suffix_nodes (weighed-Suffix (front-Suffix y)))
    (sym (given-Suffix (front-Suffix y))) (layer-Suffix y)))

step-Declarator : (x : Declarator-T) (y : Declarator-G) → front-Declarator y ≡ x → FewHead (roll-Declarator x)
step-Declarator x y is =
    subst (λ z. FewHead (roll-Declarator z)) is
    (subst (λ w. length (head (roll-Declarator (front-Declarator y))).list ≤ w)
    (sym (weigh-Declarator (front-Declarator y)))
    (subst (λ (v : Head). length v.list ≤ declarator_nodes (weighed-Declarator (front-Declarator y)))
    (sym (given-Declarator (front-Declarator y))) (layer-Declarator y)))

-- each parameter is a node
step-Parameter : (x : Parameter-T) → OneNode (roll-Parameter x)
step-Parameter x = rw (weigh-Parameter x) (omega arith)

pub parameters_few : (d : Declarator) → length (parameters_of d) ≤ declarator_weight d
parameters_few = ind-Declarator FewInner Any Any Any Any FewListed Any FewHead Any OneNode Any step-Core (λ x y is. tt)
    (λ x y is. tt) (λ x y is. tt) (λ x y is. tt) step-Suffix (λ x y is. tt) step-Declarator (λ x y is. tt)
    (λ x y is. step-Parameter x) (λ x y is. tt)
