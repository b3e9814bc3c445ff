-- A layer of each type of the tree, and the weights of its parts in their places. Written by tools/checker/weights.py.
use Rattle.std.specs.Prelude.{◌≡◌, ℕ}
use Rattle.tick_tree.specs.declared.syntax.Core.{Core, roll-Core}
use Rattle.tick_tree.specs.declared.syntax.Expr.{Expr, roll-Expr}
use Rattle.tick_tree.specs.declared.syntax.Initializer.{Initializer, roll-Initializer}
use Rattle.tick_tree.specs.declared.syntax.OptionalExpr.{OptionalExpr, roll-OptionalExpr}
use Rattle.tick_tree.specs.declared.syntax.Stmt.{Stmt, roll-Stmt}
use Rattle.tick_tree.specs.declared.syntax.Suffix.{Suffix, roll-Suffix}
use Rattle.tick_tree.specs.declared.syntax.Declaration.{Declaration, roll-Declaration}
use Rattle.tick_tree.specs.declared.syntax.Declarator.{Declarator, roll-Declarator}
use Rattle.tick_tree.specs.declared.syntax.Init.{Init, roll-Init}
use Rattle.tick_tree.specs.declared.syntax.Parameter.{Parameter, roll-Parameter}
use Rattle.tick_tree.specs.declared.syntax.Typename.{Typename, roll-Typename}
use Rattle.tick_tree.specs.declared.syntax.Core.TheOpen.{Core-F, Expr-F, Initializer-F, OptionalExpr-F, Stmt-F}
use Rattle.tick_tree.specs.declared.syntax.Core.TheOpen.{Suffix-F, Declaration-F, Declarator-F, Init-F, Parameter-F}
use Rattle.tick_tree.specs.declared.syntax.Core.TheOpen.{Typename-F}
use Rattle.tick_tree.specs.declared.syntax.Core.TheFolds.{map-Core, map-Expr, map-Initializer, map-OptionalExpr}
use Rattle.tick_tree.specs.declared.syntax.Core.TheFolds.{map-Stmt, map-Suffix, map-Declaration, map-Declarator}
use Rattle.tick_tree.specs.declared.syntax.Core.TheFolds.{map-Init, map-Parameter, map-Typename}
use Rattle.tick_tree.specs.Weights.{Core-N, Expr-N, Initializer-N, OptionalExpr-N, Stmt-N, Suffix-N, Declaration-N}
use Rattle.tick_tree.specs.Weights.{Declarator-N, Init-N, Parameter-N, Typename-N, core_nodes, expr_nodes}
use Rattle.tick_tree.specs.Weights.{initializer_nodes, optional_nodes, statement_nodes, suffix_nodes, declaration_nodes}
use Rattle.tick_tree.specs.Weights.{declarator_nodes, init_nodes, parameter_nodes, typename_nodes, core_weight, weight}
use Rattle.tick_tree.specs.Weights.{initializer_weight, optional_weight, statement_weight, suffix_weight}
use Rattle.tick_tree.specs.Weights.{declaration_weight, declarator_weight, init_weight, parameter_weight}
use Rattle.tick_tree.specs.Weights.{typename_weight}

abbrev pub Core-T : Type 0
Core-T = Core-F Core Expr Initializer OptionalExpr Stmt Suffix Declaration Declarator Init Parameter Typename

abbrev pub weighed-Core : Core-T → Core-N
weighed-Core = map-Core Core Expr Initializer OptionalExpr Stmt Suffix Declaration Declarator Init Parameter Typename ℕ
    ℕ ℕ ℕ ℕ ℕ ℕ ℕ ℕ ℕ ℕ core_weight weight initializer_weight optional_weight statement_weight suffix_weight
    declaration_weight declarator_weight init_weight parameter_weight typename_weight

abbrev pub Expr-T : Type 0
Expr-T = Expr-F Core Expr Initializer OptionalExpr Stmt Suffix Declaration Declarator Init Parameter Typename

abbrev pub weighed-Expr : Expr-T → Expr-N
weighed-Expr = map-Expr Core Expr Initializer OptionalExpr Stmt Suffix Declaration Declarator Init Parameter Typename ℕ
    ℕ ℕ ℕ ℕ ℕ ℕ ℕ ℕ ℕ ℕ core_weight weight initializer_weight optional_weight statement_weight suffix_weight
    declaration_weight declarator_weight init_weight parameter_weight typename_weight

abbrev pub Initializer-T : Type 0
Initializer-T = Initializer-F Core Expr Initializer OptionalExpr Stmt Suffix Declaration Declarator Init Parameter
    Typename

abbrev pub weighed-Initializer : Initializer-T → Initializer-N
weighed-Initializer = map-Initializer Core Expr Initializer OptionalExpr Stmt Suffix Declaration Declarator Init
    Parameter Typename ℕ ℕ ℕ ℕ ℕ ℕ ℕ ℕ ℕ ℕ ℕ core_weight weight initializer_weight optional_weight statement_weight
    suffix_weight declaration_weight declarator_weight init_weight parameter_weight typename_weight

abbrev pub OptionalExpr-T : Type 0
OptionalExpr-T = OptionalExpr-F Core Expr Initializer OptionalExpr Stmt Suffix Declaration Declarator Init Parameter
    Typename

abbrev pub weighed-OptionalExpr : OptionalExpr-T → OptionalExpr-N
weighed-OptionalExpr = map-OptionalExpr Core Expr Initializer OptionalExpr Stmt Suffix Declaration Declarator Init
    Parameter Typename ℕ ℕ ℕ ℕ ℕ ℕ ℕ ℕ ℕ ℕ ℕ core_weight weight initializer_weight optional_weight statement_weight
    suffix_weight declaration_weight declarator_weight init_weight parameter_weight typename_weight

abbrev pub Stmt-T : Type 0
Stmt-T = Stmt-F Core Expr Initializer OptionalExpr Stmt Suffix Declaration Declarator Init Parameter Typename

abbrev pub weighed-Stmt : Stmt-T → Stmt-N
weighed-Stmt = map-Stmt Core Expr Initializer OptionalExpr Stmt Suffix Declaration Declarator Init Parameter Typename ℕ
    ℕ ℕ ℕ ℕ ℕ ℕ ℕ ℕ ℕ ℕ core_weight weight initializer_weight optional_weight statement_weight suffix_weight
    declaration_weight declarator_weight init_weight parameter_weight typename_weight

abbrev pub Suffix-T : Type 0
Suffix-T = Suffix-F Core Expr Initializer OptionalExpr Stmt Suffix Declaration Declarator Init Parameter Typename

abbrev pub weighed-Suffix : Suffix-T → Suffix-N
weighed-Suffix = map-Suffix Core Expr Initializer OptionalExpr Stmt Suffix Declaration Declarator Init Parameter
    Typename ℕ ℕ ℕ ℕ ℕ ℕ ℕ ℕ ℕ ℕ ℕ core_weight weight initializer_weight optional_weight statement_weight suffix_weight
    declaration_weight declarator_weight init_weight parameter_weight typename_weight

abbrev pub Declaration-T : Type 0
Declaration-T = Declaration-F Core Expr Initializer OptionalExpr Stmt Suffix Declaration Declarator Init Parameter
    Typename

abbrev pub weighed-Declaration : Declaration-T → Declaration-N
weighed-Declaration = map-Declaration Core Expr Initializer OptionalExpr Stmt Suffix Declaration Declarator Init
    Parameter Typename ℕ ℕ ℕ ℕ ℕ ℕ ℕ ℕ ℕ ℕ ℕ core_weight weight initializer_weight optional_weight statement_weight
    suffix_weight declaration_weight declarator_weight init_weight parameter_weight typename_weight

abbrev pub Declarator-T : Type 0
Declarator-T = Declarator-F Core Expr Initializer OptionalExpr Stmt Suffix Declaration Declarator Init Parameter
    Typename

abbrev pub weighed-Declarator : Declarator-T → Declarator-N
weighed-Declarator = map-Declarator Core Expr Initializer OptionalExpr Stmt Suffix Declaration Declarator Init Parameter
    Typename ℕ ℕ ℕ ℕ ℕ ℕ ℕ ℕ ℕ ℕ ℕ core_weight weight initializer_weight optional_weight statement_weight suffix_weight
    declaration_weight declarator_weight init_weight parameter_weight typename_weight

abbrev pub Init-T : Type 0
Init-T = Init-F Core Expr Initializer OptionalExpr Stmt Suffix Declaration Declarator Init Parameter Typename

abbrev pub weighed-Init : Init-T → Init-N
weighed-Init = map-Init Core Expr Initializer OptionalExpr Stmt Suffix Declaration Declarator Init Parameter Typename ℕ
    ℕ ℕ ℕ ℕ ℕ ℕ ℕ ℕ ℕ ℕ core_weight weight initializer_weight optional_weight statement_weight suffix_weight
    declaration_weight declarator_weight init_weight parameter_weight typename_weight

abbrev pub Parameter-T : Type 0
Parameter-T = Parameter-F Core Expr Initializer OptionalExpr Stmt Suffix Declaration Declarator Init Parameter Typename

abbrev pub weighed-Parameter : Parameter-T → Parameter-N
weighed-Parameter = map-Parameter Core Expr Initializer OptionalExpr Stmt Suffix Declaration Declarator Init Parameter
    Typename ℕ ℕ ℕ ℕ ℕ ℕ ℕ ℕ ℕ ℕ ℕ core_weight weight initializer_weight optional_weight statement_weight suffix_weight
    declaration_weight declarator_weight init_weight parameter_weight typename_weight

abbrev pub Typename-T : Type 0
Typename-T = Typename-F Core Expr Initializer OptionalExpr Stmt Suffix Declaration Declarator Init Parameter Typename

abbrev pub weighed-Typename : Typename-T → Typename-N
weighed-Typename = map-Typename Core Expr Initializer OptionalExpr Stmt Suffix Declaration Declarator Init Parameter
    Typename ℕ ℕ ℕ ℕ ℕ ℕ ℕ ℕ ℕ ℕ ℕ core_weight weight initializer_weight optional_weight statement_weight suffix_weight
    declaration_weight declarator_weight init_weight parameter_weight typename_weight

-- a node weighs one more than its parts together, and so more than each
pub record NodesWeighMore : Type 0 where
  pub core : (x : Core-T) → core_weight (roll-Core x) ≡ core_nodes (weighed-Core x)
  pub expression : (x : Expr-T) → weight (roll-Expr x) ≡ expr_nodes (weighed-Expr x)
  pub initializer : (x : Initializer-T) →
      initializer_weight (roll-Initializer x) ≡ initializer_nodes (weighed-Initializer x)
  pub optional : (x : OptionalExpr-T) → optional_weight (roll-OptionalExpr x) ≡ optional_nodes (weighed-OptionalExpr x)
  pub statement : (x : Stmt-T) → statement_weight (roll-Stmt x) ≡ statement_nodes (weighed-Stmt x)
  pub suffix : (x : Suffix-T) → suffix_weight (roll-Suffix x) ≡ suffix_nodes (weighed-Suffix x)
  pub declaration : (x : Declaration-T) →
      declaration_weight (roll-Declaration x) ≡ declaration_nodes (weighed-Declaration x)
  pub declarator : (x : Declarator-T) → declarator_weight (roll-Declarator x) ≡ declarator_nodes (weighed-Declarator x)
  pub init : (x : Init-T) → init_weight (roll-Init x) ≡ init_nodes (weighed-Init x)
  pub parameter : (x : Parameter-T) → parameter_weight (roll-Parameter x) ≡ parameter_nodes (weighed-Parameter x)
  pub typename : (x : Typename-T) → typename_weight (roll-Typename x) ≡ typename_nodes (weighed-Typename x)
