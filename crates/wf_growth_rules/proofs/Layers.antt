-- The walk over a node by those over its parts. Written by tools/checker/weights.py.
use Rattle.std.proofs.Common.{◌≡◌}
use Rattle.std.specs.Prelude.{Option}
use Rattle.tick_tree.specs.declared.syntax.Core.{Core, roll-Core}
use Rattle.tick_tree.specs.declared.syntax.Expr.{Expr, roll-Expr}
use Rattle.tick_tree.specs.declared.syntax.Initializer.{Initializer, roll-Initializer}
use Rattle.tick_tree.specs.declared.syntax.OptionalExpr.{OptionalExpr, roll-OptionalExpr}
use Rattle.tick_tree.specs.declared.syntax.Stmt.{Stmt, roll-Stmt}
use Rattle.tick_tree.specs.declared.syntax.Suffix.{Suffix, roll-Suffix}
use Rattle.tick_tree.specs.declared.syntax.Declaration.{Declaration, roll-Declaration}
use Rattle.tick_tree.specs.declared.syntax.Declarator.{Declarator, roll-Declarator}
use Rattle.tick_tree.specs.declared.syntax.Init.{Init, roll-Init}
use Rattle.tick_tree.specs.declared.syntax.Parameter.{Parameter, roll-Parameter}
use Rattle.tick_tree.specs.declared.syntax.Typename.{Typename, roll-Typename}
use Rattle.tick_tree.specs.declared.syntax.Core.TheFolds.{map-Core, map-Expr, map-Initializer, map-OptionalExpr}
use Rattle.tick_tree.specs.declared.syntax.Core.TheFolds.{map-Stmt, map-Suffix, map-Declaration, map-Declarator}
use Rattle.tick_tree.specs.declared.syntax.Core.TheFolds.{map-Init, map-Parameter, map-Typename, fold-roll-Core}
use Rattle.tick_tree.specs.declared.syntax.Core.TheFolds.{fold-roll-Expr, fold-roll-Initializer, fold-roll-OptionalExpr}
use Rattle.tick_tree.specs.declared.syntax.Core.TheFolds.{fold-roll-Stmt, fold-roll-Suffix, fold-roll-Declaration}
use Rattle.tick_tree.specs.declared.syntax.Core.TheFolds.{fold-roll-Declarator, fold-roll-Init, fold-roll-Parameter}
use Rattle.tick_tree.specs.declared.syntax.Core.TheFolds.{fold-roll-Typename}
use Rattle.check_rules.specs.ExpressionRules.{Node, Named, Shape, Item}
use Rattle.check_rules.specs.Walk.{Start, InitParts, Declarations, SuffixWalk, TypeWalk, Core-W, Expr-W, Initializer-W}
use Rattle.check_rules.specs.Walk.{OptionalExpr-W, Stmt-W, Suffix-W, Declaration-W, Declarator-W, Init-W, Parameter-W}
use Rattle.check_rules.specs.Walk.{Typename-W, core_rule, expr_rule, start_rule, optional_rule, stmt_rule, suffix_walk}
use Rattle.check_rules.specs.Walk.{declaration_rule, declarator_rule, init_rule, parameter_rule, typename_rule, core}
use Rattle.check_rules.specs.Walk.{node, initializer, optional, item, suffix, declaration, shape, init, parameter}
use Rattle.check_rules.specs.Walk.{named}
use Rattle.syntax_size.specs.Layers.{Core-T, Expr-T, Initializer-T, OptionalExpr-T, Stmt-T, Suffix-T, Declaration-T}
use Rattle.syntax_size.specs.Layers.{Declarator-T, Init-T, Parameter-T, Typename-T}

abbrev pub walked-Core : Core-T → Core-W
walked-Core = map-Core Core Expr Initializer OptionalExpr Stmt Suffix Declaration Declarator Init Parameter Typename
    Shape Node Start (Option Node) Item SuffixWalk Declarations Shape InitParts TypeWalk Named core node initializer
    optional item suffix declaration shape init parameter named

pub walk-Core : (x : Core-T) → core (roll-Core x) ≡ core_rule (walked-Core x)
unfolding core node initializer optional item suffix declaration shape init parameter named
walk-Core x = fold-roll-Core Shape Node Start (Option Node) Item SuffixWalk Declarations Shape InitParts TypeWalk Named
    core_rule expr_rule start_rule optional_rule stmt_rule suffix_walk declaration_rule declarator_rule init_rule
    parameter_rule typename_rule x

abbrev pub walked-Expr : Expr-T → Expr-W
walked-Expr = map-Expr Core Expr Initializer OptionalExpr Stmt Suffix Declaration Declarator Init Parameter Typename
    Shape Node Start (Option Node) Item SuffixWalk Declarations Shape InitParts TypeWalk Named core node initializer
    optional item suffix declaration shape init parameter named

pub walk-Expr : (x : Expr-T) → node (roll-Expr x) ≡ expr_rule (walked-Expr x)
unfolding core node initializer optional item suffix declaration shape init parameter named
walk-Expr x = fold-roll-Expr Shape Node Start (Option Node) Item SuffixWalk Declarations Shape InitParts TypeWalk Named
    core_rule expr_rule start_rule optional_rule stmt_rule suffix_walk declaration_rule declarator_rule init_rule
    parameter_rule typename_rule x

abbrev pub walked-Initializer : Initializer-T → Initializer-W
walked-Initializer = map-Initializer Core Expr Initializer OptionalExpr Stmt Suffix Declaration Declarator Init
    Parameter Typename Shape Node Start (Option Node) Item SuffixWalk Declarations Shape InitParts TypeWalk Named core
    node initializer optional item suffix declaration shape init parameter named

pub walk-Initializer : (x : Initializer-T) → initializer (roll-Initializer x) ≡ start_rule (walked-Initializer x)
unfolding core node initializer optional item suffix declaration shape init parameter named
walk-Initializer x = fold-roll-Initializer Shape Node Start (Option Node) Item SuffixWalk Declarations Shape InitParts
    TypeWalk Named core_rule expr_rule start_rule optional_rule stmt_rule suffix_walk declaration_rule declarator_rule
    init_rule parameter_rule typename_rule x

abbrev pub walked-OptionalExpr : OptionalExpr-T → OptionalExpr-W
walked-OptionalExpr = map-OptionalExpr Core Expr Initializer OptionalExpr Stmt Suffix Declaration Declarator Init
    Parameter Typename Shape Node Start (Option Node) Item SuffixWalk Declarations Shape InitParts TypeWalk Named core
    node initializer optional item suffix declaration shape init parameter named

pub walk-OptionalExpr : (x : OptionalExpr-T) → optional (roll-OptionalExpr x) ≡ optional_rule (walked-OptionalExpr x)
unfolding core node initializer optional item suffix declaration shape init parameter named
walk-OptionalExpr x = fold-roll-OptionalExpr Shape Node Start (Option Node) Item SuffixWalk Declarations Shape InitParts
    TypeWalk Named core_rule expr_rule start_rule optional_rule stmt_rule suffix_walk declaration_rule declarator_rule
    init_rule parameter_rule typename_rule x

abbrev pub walked-Stmt : Stmt-T → Stmt-W
walked-Stmt = map-Stmt Core Expr Initializer OptionalExpr Stmt Suffix Declaration Declarator Init Parameter Typename
    Shape Node Start (Option Node) Item SuffixWalk Declarations Shape InitParts TypeWalk Named core node initializer
    optional item suffix declaration shape init parameter named

pub walk-Stmt : (x : Stmt-T) → item (roll-Stmt x) ≡ stmt_rule (walked-Stmt x)
unfolding core node initializer optional item suffix declaration shape init parameter named
walk-Stmt x = fold-roll-Stmt Shape Node Start (Option Node) Item SuffixWalk Declarations Shape InitParts TypeWalk Named
    core_rule expr_rule start_rule optional_rule stmt_rule suffix_walk declaration_rule declarator_rule init_rule
    parameter_rule typename_rule x

abbrev pub walked-Suffix : Suffix-T → Suffix-W
walked-Suffix = map-Suffix Core Expr Initializer OptionalExpr Stmt Suffix Declaration Declarator Init Parameter Typename
    Shape Node Start (Option Node) Item SuffixWalk Declarations Shape InitParts TypeWalk Named core node initializer
    optional item suffix declaration shape init parameter named

pub walk-Suffix : (x : Suffix-T) → suffix (roll-Suffix x) ≡ suffix_walk (walked-Suffix x)
unfolding core node initializer optional item suffix declaration shape init parameter named
walk-Suffix x = fold-roll-Suffix Shape Node Start (Option Node) Item SuffixWalk Declarations Shape InitParts TypeWalk
    Named core_rule expr_rule start_rule optional_rule stmt_rule suffix_walk declaration_rule declarator_rule init_rule
    parameter_rule typename_rule x

abbrev pub walked-Declaration : Declaration-T → Declaration-W
walked-Declaration = map-Declaration Core Expr Initializer OptionalExpr Stmt Suffix Declaration Declarator Init
    Parameter Typename Shape Node Start (Option Node) Item SuffixWalk Declarations Shape InitParts TypeWalk Named core
    node initializer optional item suffix declaration shape init parameter named

pub walk-Declaration : (x : Declaration-T) → declaration (roll-Declaration x) ≡ declaration_rule (walked-Declaration x)
unfolding core node initializer optional item suffix declaration shape init parameter named
walk-Declaration x = fold-roll-Declaration Shape Node Start (Option Node) Item SuffixWalk Declarations Shape InitParts
    TypeWalk Named core_rule expr_rule start_rule optional_rule stmt_rule suffix_walk declaration_rule declarator_rule
    init_rule parameter_rule typename_rule x

abbrev pub walked-Declarator : Declarator-T → Declarator-W
walked-Declarator = map-Declarator Core Expr Initializer OptionalExpr Stmt Suffix Declaration Declarator Init Parameter
    Typename Shape Node Start (Option Node) Item SuffixWalk Declarations Shape InitParts TypeWalk Named core node
    initializer optional item suffix declaration shape init parameter named

pub walk-Declarator : (x : Declarator-T) → shape (roll-Declarator x) ≡ declarator_rule (walked-Declarator x)
unfolding core node initializer optional item suffix declaration shape init parameter named
walk-Declarator x = fold-roll-Declarator Shape Node Start (Option Node) Item SuffixWalk Declarations Shape InitParts
    TypeWalk Named core_rule expr_rule start_rule optional_rule stmt_rule suffix_walk declaration_rule declarator_rule
    init_rule parameter_rule typename_rule x

abbrev pub walked-Init : Init-T → Init-W
walked-Init = map-Init Core Expr Initializer OptionalExpr Stmt Suffix Declaration Declarator Init Parameter Typename
    Shape Node Start (Option Node) Item SuffixWalk Declarations Shape InitParts TypeWalk Named core node initializer
    optional item suffix declaration shape init parameter named

pub walk-Init : (x : Init-T) → init (roll-Init x) ≡ init_rule (walked-Init x)
unfolding core node initializer optional item suffix declaration shape init parameter named
walk-Init x = fold-roll-Init Shape Node Start (Option Node) Item SuffixWalk Declarations Shape InitParts TypeWalk Named
    core_rule expr_rule start_rule optional_rule stmt_rule suffix_walk declaration_rule declarator_rule init_rule
    parameter_rule typename_rule x

abbrev pub walked-Parameter : Parameter-T → Parameter-W
walked-Parameter = map-Parameter Core Expr Initializer OptionalExpr Stmt Suffix Declaration Declarator Init Parameter
    Typename Shape Node Start (Option Node) Item SuffixWalk Declarations Shape InitParts TypeWalk Named core node
    initializer optional item suffix declaration shape init parameter named

pub walk-Parameter : (x : Parameter-T) → parameter (roll-Parameter x) ≡ parameter_rule (walked-Parameter x)
unfolding core node initializer optional item suffix declaration shape init parameter named
walk-Parameter x = fold-roll-Parameter Shape Node Start (Option Node) Item SuffixWalk Declarations Shape InitParts
    TypeWalk Named core_rule expr_rule start_rule optional_rule stmt_rule suffix_walk declaration_rule declarator_rule
    init_rule parameter_rule typename_rule x

abbrev pub walked-Typename : Typename-T → Typename-W
walked-Typename = map-Typename Core Expr Initializer OptionalExpr Stmt Suffix Declaration Declarator Init Parameter
    Typename Shape Node Start (Option Node) Item SuffixWalk Declarations Shape InitParts TypeWalk Named core node
    initializer optional item suffix declaration shape init parameter named

pub walk-Typename : (x : Typename-T) → named (roll-Typename x) ≡ typename_rule (walked-Typename x)
unfolding core node initializer optional item suffix declaration shape init parameter named
walk-Typename x = fold-roll-Typename Shape Node Start (Option Node) Item SuffixWalk Declarations Shape InitParts
    TypeWalk Named core_rule expr_rule start_rule optional_rule stmt_rule suffix_walk declaration_rule declarator_rule
    init_rule parameter_rule typename_rule x
