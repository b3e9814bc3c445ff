-- The weight of a node by those of its parts. Written by tools/checker/weights.py.
use Rattle.std.proofs.Common.{◌≡◌, ℕ}
use Rattle.tick_tree.specs.declared.syntax.Core.{roll-Core}
use Rattle.tick_tree.specs.declared.syntax.Expr.{roll-Expr}
use Rattle.tick_tree.specs.declared.syntax.Initializer.{roll-Initializer}
use Rattle.tick_tree.specs.declared.syntax.OptionalExpr.{roll-OptionalExpr}
use Rattle.tick_tree.specs.declared.syntax.Stmt.{roll-Stmt}
use Rattle.tick_tree.specs.declared.syntax.Suffix.{roll-Suffix}
use Rattle.tick_tree.specs.declared.syntax.Declaration.{roll-Declaration}
use Rattle.tick_tree.specs.declared.syntax.Declarator.{roll-Declarator}
use Rattle.tick_tree.specs.declared.syntax.Init.{roll-Init}
use Rattle.tick_tree.specs.declared.syntax.Parameter.{roll-Parameter}
use Rattle.tick_tree.specs.declared.syntax.Typename.{roll-Typename}
use Rattle.tick_tree.specs.declared.syntax.Core.TheFolds.{fold-roll-Core, fold-roll-Expr, fold-roll-Initializer}
use Rattle.tick_tree.specs.declared.syntax.Core.TheFolds.{fold-roll-OptionalExpr, fold-roll-Stmt, fold-roll-Suffix}
use Rattle.tick_tree.specs.declared.syntax.Core.TheFolds.{fold-roll-Declaration, fold-roll-Declarator, fold-roll-Init}
use Rattle.tick_tree.specs.declared.syntax.Core.TheFolds.{fold-roll-Parameter, fold-roll-Typename}
use Rattle.tick_tree.specs.Weights.{core_nodes, expr_nodes, initializer_nodes, optional_nodes, statement_nodes}
use Rattle.tick_tree.specs.Weights.{suffix_nodes, declaration_nodes, declarator_nodes, init_nodes, parameter_nodes}
use Rattle.tick_tree.specs.Weights.{typename_nodes, core_weight, weight, initializer_weight, optional_weight}
use Rattle.tick_tree.specs.Weights.{statement_weight, suffix_weight, declaration_weight, declarator_weight, init_weight}
use Rattle.tick_tree.specs.Weights.{parameter_weight, typename_weight}
use Rattle.syntax_size.specs.Layers.{Core-T, Expr-T, Initializer-T, OptionalExpr-T, Stmt-T, Suffix-T, Declaration-T}
use Rattle.syntax_size.specs.Layers.{Declarator-T, Init-T, Parameter-T, Typename-T, weighed-Core, weighed-Expr}
use Rattle.syntax_size.specs.Layers.{weighed-Initializer, weighed-OptionalExpr, weighed-Stmt, weighed-Suffix}
use Rattle.syntax_size.specs.Layers.{weighed-Declaration, weighed-Declarator, weighed-Init, weighed-Parameter}
use Rattle.syntax_size.specs.Layers.{weighed-Typename}

pub weigh-Core : (x : Core-T) → core_weight (roll-Core x) ≡ core_nodes (weighed-Core x)
unfolding core_weight weight initializer_weight optional_weight statement_weight suffix_weight declaration_weight
    declarator_weight init_weight parameter_weight typename_weight
weigh-Core x = fold-roll-Core ℕ ℕ ℕ ℕ ℕ ℕ ℕ ℕ ℕ ℕ ℕ core_nodes expr_nodes initializer_nodes optional_nodes
    statement_nodes suffix_nodes declaration_nodes declarator_nodes init_nodes parameter_nodes typename_nodes x

pub weigh-Expr : (x : Expr-T) → weight (roll-Expr x) ≡ expr_nodes (weighed-Expr x)
unfolding core_weight weight initializer_weight optional_weight statement_weight suffix_weight declaration_weight
    declarator_weight init_weight parameter_weight typename_weight
weigh-Expr x = fold-roll-Expr ℕ ℕ ℕ ℕ ℕ ℕ ℕ ℕ ℕ ℕ ℕ core_nodes expr_nodes initializer_nodes optional_nodes
    statement_nodes suffix_nodes declaration_nodes declarator_nodes init_nodes parameter_nodes typename_nodes x

pub weigh-Initializer : (x : Initializer-T) →
    initializer_weight (roll-Initializer x) ≡ initializer_nodes (weighed-Initializer x)
unfolding core_weight weight initializer_weight optional_weight statement_weight suffix_weight declaration_weight
    declarator_weight init_weight parameter_weight typename_weight
weigh-Initializer x = fold-roll-Initializer ℕ ℕ ℕ ℕ ℕ ℕ ℕ ℕ ℕ ℕ ℕ core_nodes expr_nodes initializer_nodes optional_nodes
    statement_nodes suffix_nodes declaration_nodes declarator_nodes init_nodes parameter_nodes typename_nodes x

pub weigh-OptionalExpr : (x : OptionalExpr-T) →
    optional_weight (roll-OptionalExpr x) ≡ optional_nodes (weighed-OptionalExpr x)
unfolding core_weight weight initializer_weight optional_weight statement_weight suffix_weight declaration_weight
    declarator_weight init_weight parameter_weight typename_weight
weigh-OptionalExpr x = fold-roll-OptionalExpr ℕ ℕ ℕ ℕ ℕ ℕ ℕ ℕ ℕ ℕ ℕ core_nodes expr_nodes initializer_nodes
    optional_nodes statement_nodes suffix_nodes declaration_nodes declarator_nodes init_nodes parameter_nodes
    typename_nodes x

pub weigh-Stmt : (x : Stmt-T) → statement_weight (roll-Stmt x) ≡ statement_nodes (weighed-Stmt x)
unfolding core_weight weight initializer_weight optional_weight statement_weight suffix_weight declaration_weight
    declarator_weight init_weight parameter_weight typename_weight
weigh-Stmt x = fold-roll-Stmt ℕ ℕ ℕ ℕ ℕ ℕ ℕ ℕ ℕ ℕ ℕ core_nodes expr_nodes initializer_nodes optional_nodes
    statement_nodes suffix_nodes declaration_nodes declarator_nodes init_nodes parameter_nodes typename_nodes x

pub weigh-Suffix : (x : Suffix-T) → suffix_weight (roll-Suffix x) ≡ suffix_nodes (weighed-Suffix x)
unfolding core_weight weight initializer_weight optional_weight statement_weight suffix_weight declaration_weight
    declarator_weight init_weight parameter_weight typename_weight
weigh-Suffix x = fold-roll-Suffix ℕ ℕ ℕ ℕ ℕ ℕ ℕ ℕ ℕ ℕ ℕ core_nodes expr_nodes initializer_nodes optional_nodes
    statement_nodes suffix_nodes declaration_nodes declarator_nodes init_nodes parameter_nodes typename_nodes x

pub weigh-Declaration : (x : Declaration-T) →
    declaration_weight (roll-Declaration x) ≡ declaration_nodes (weighed-Declaration x)
unfolding core_weight weight initializer_weight optional_weight statement_weight suffix_weight declaration_weight
    declarator_weight init_weight parameter_weight typename_weight
weigh-Declaration x = fold-roll-Declaration ℕ ℕ ℕ ℕ ℕ ℕ ℕ ℕ ℕ ℕ ℕ core_nodes expr_nodes initializer_nodes optional_nodes
    statement_nodes suffix_nodes declaration_nodes declarator_nodes init_nodes parameter_nodes typename_nodes x

pub weigh-Declarator : (x : Declarator-T) →
    declarator_weight (roll-Declarator x) ≡ declarator_nodes (weighed-Declarator x)
unfolding core_weight weight initializer_weight optional_weight statement_weight suffix_weight declaration_weight
    declarator_weight init_weight parameter_weight typename_weight
weigh-Declarator x = fold-roll-Declarator ℕ ℕ ℕ ℕ ℕ ℕ ℕ ℕ ℕ ℕ ℕ core_nodes expr_nodes initializer_nodes optional_nodes
    statement_nodes suffix_nodes declaration_nodes declarator_nodes init_nodes parameter_nodes typename_nodes x

pub weigh-Init : (x : Init-T) → init_weight (roll-Init x) ≡ init_nodes (weighed-Init x)
unfolding core_weight weight initializer_weight optional_weight statement_weight suffix_weight declaration_weight
    declarator_weight init_weight parameter_weight typename_weight
weigh-Init x = fold-roll-Init ℕ ℕ ℕ ℕ ℕ ℕ ℕ ℕ ℕ ℕ ℕ core_nodes expr_nodes initializer_nodes optional_nodes
    statement_nodes suffix_nodes declaration_nodes declarator_nodes init_nodes parameter_nodes typename_nodes x

pub weigh-Parameter : (x : Parameter-T) → parameter_weight (roll-Parameter x) ≡ parameter_nodes (weighed-Parameter x)
unfolding core_weight weight initializer_weight optional_weight statement_weight suffix_weight declaration_weight
    declarator_weight init_weight parameter_weight typename_weight
weigh-Parameter x = fold-roll-Parameter ℕ ℕ ℕ ℕ ℕ ℕ ℕ ℕ ℕ ℕ ℕ core_nodes expr_nodes initializer_nodes optional_nodes
    statement_nodes suffix_nodes declaration_nodes declarator_nodes init_nodes parameter_nodes typename_nodes x

pub weigh-Typename : (x : Typename-T) → typename_weight (roll-Typename x) ≡ typename_nodes (weighed-Typename x)
unfolding core_weight weight initializer_weight optional_weight statement_weight suffix_weight declaration_weight
    declarator_weight init_weight parameter_weight typename_weight
weigh-Typename x = fold-roll-Typename ℕ ℕ ℕ ℕ ℕ ℕ ℕ ℕ ℕ ℕ ℕ core_nodes expr_nodes initializer_nodes optional_nodes
    statement_nodes suffix_nodes declaration_nodes declarator_nodes init_nodes parameter_nodes typename_nodes x
