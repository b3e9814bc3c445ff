-- What each rule of the walk keeps holds of the walk over each tree: an induction over the syntax tree, once for all
-- that is asked. Written by tools/checker/walks.py.
use Rattle.std.proofs.Common.{◌≡◌, List, [], ◌∷◌, map, sym, subst, Option}
use Rattle.tick_tree.specs.declared.syntax.Core.{Core, roll-Core}
use Rattle.tick_tree.specs.declared.syntax.Expr.{Expr, roll-Expr}
use Rattle.tick_tree.specs.declared.syntax.Initializer.{Initializer, roll-Initializer}
use Rattle.tick_tree.specs.declared.syntax.OptionalExpr.{OptionalExpr, roll-OptionalExpr}
use Rattle.tick_tree.specs.declared.syntax.Stmt.{Stmt, roll-Stmt}
use Rattle.tick_tree.specs.declared.syntax.Suffix.{Suffix, roll-Suffix}
use Rattle.tick_tree.specs.declared.syntax.Declaration.{Declaration, roll-Declaration}
use Rattle.tick_tree.specs.declared.syntax.Declarator.{Declarator, roll-Declarator}
use Rattle.tick_tree.specs.declared.syntax.Init.{Init, roll-Init}
use Rattle.tick_tree.specs.declared.syntax.Parameter.{Parameter, roll-Parameter}
use Rattle.tick_tree.specs.declared.syntax.Typename.{Typename, roll-Typename}
use Rattle.tick_tree.specs.declared.syntax.Core.TheOpen.{Core-F, Expr-F, Initializer-F, OptionalExpr-F, Stmt-F}
use Rattle.tick_tree.specs.declared.syntax.Core.TheOpen.{Suffix-F, Declaration-F, Declarator-F, Init-F, Parameter-F}
use Rattle.tick_tree.specs.declared.syntax.Core.TheOpen.{Typename-F}
use Rattle.tick_tree.specs.declared.syntax.Core.TheFolds.{ind-Core, ind-Expr, ind-Initializer, ind-OptionalExpr}
use Rattle.tick_tree.specs.declared.syntax.Core.TheFolds.{ind-Stmt, ind-Suffix, ind-Declaration, ind-Declarator}
use Rattle.tick_tree.specs.declared.syntax.Core.TheFolds.{ind-Init, ind-Parameter, ind-Typename, map-Core, map-Expr}
use Rattle.tick_tree.specs.declared.syntax.Core.TheFolds.{map-Initializer, map-OptionalExpr, map-Stmt, map-Suffix}
use Rattle.tick_tree.specs.declared.syntax.Core.TheFolds.{map-Declaration, map-Declarator, map-Init, map-Parameter}
use Rattle.tick_tree.specs.declared.syntax.Core.TheFolds.{map-Typename, fold-roll-Core, fold-roll-Expr}
use Rattle.tick_tree.specs.declared.syntax.Core.TheFolds.{fold-roll-Initializer, fold-roll-OptionalExpr, fold-roll-Stmt}
use Rattle.tick_tree.specs.declared.syntax.Core.TheFolds.{fold-roll-Suffix, fold-roll-Declaration, fold-roll-Declarator}
use Rattle.tick_tree.specs.declared.syntax.Core.TheFolds.{fold-roll-Init, fold-roll-Parameter, fold-roll-Typename}
use Rattle.check_rules.specs.ExpressionRules.{Node, Named, Shape, Item}
use Rattle.check_rules.specs.Walk.{Start, InitParts, Declarations, SuffixWalk, TypeWalk, Core-W, Expr-W, Initializer-W}
use Rattle.check_rules.specs.Walk.{OptionalExpr-W, Stmt-W, Suffix-W, Declaration-W, Declarator-W, Init-W, Parameter-W}
use Rattle.check_rules.specs.Walk.{Typename-W, core_rule, expr_rule, start_rule, optional_rule, stmt_rule, suffix_walk}
use Rattle.check_rules.specs.Walk.{declaration_rule, declarator_rule, init_rule, parameter_rule, typename_rule, core}
use Rattle.check_rules.specs.Walk.{node, initializer, optional, item, suffix, declaration, shape, init, parameter}
use Rattle.check_rules.specs.Walk.{named}
use Rattle.wf_walk.specs.Parts.{EachPart}
use Rattle.wf_walk.specs.Asked.{Asked, EveryCore, EveryExpr, EveryInitializer, EveryOptionalExpr, EveryStmt}
use Rattle.wf_walk.specs.Asked.{EverySuffix, EveryDeclaration, EveryDeclarator, EveryInit, EveryParameter}
use Rattle.wf_walk.specs.Asked.{EveryTypename, RulesKeep}

-- ---- a tree of which what is asked holds

abbrev pub KnownCore : Asked → Type 0
KnownCore q = (x : Core) × q.shape (core x)

abbrev pub KnownExpr : Asked → Type 0
KnownExpr q = (x : Expr) × q.node (node x)

abbrev pub KnownInitializer : Asked → Type 0
KnownInitializer q = (x : Initializer) × q.start (initializer x)

abbrev pub KnownOptionalExpr : Asked → Type 0
KnownOptionalExpr q = (x : OptionalExpr) × q.optional (optional x)

abbrev pub KnownStmt : Asked → Type 0
KnownStmt q = (x : Stmt) × q.item (item x)

abbrev pub KnownSuffix : Asked → Type 0
KnownSuffix q = (x : Suffix) × q.suffix (suffix x)

abbrev pub KnownDeclaration : Asked → Type 0
KnownDeclaration q = (x : Declaration) × q.declarations (declaration x)

abbrev pub KnownDeclarator : Asked → Type 0
KnownDeclarator q = (x : Declarator) × q.shape (shape x)

abbrev pub KnownInit : Asked → Type 0
KnownInit q = (x : Init) × q.init (init x)

abbrev pub KnownParameter : Asked → Type 0
KnownParameter q = (x : Parameter) × q.parameter (parameter x)

abbrev pub KnownTypename : Asked → Type 0
KnownTypename q = (x : Typename) × q.named (named x)

-- ---- a layer of trees, of such trees, and of what the walks over them are

abbrev pub Core-T : Type 0
Core-T = Core-F Core Expr Initializer OptionalExpr Stmt Suffix Declaration Declarator Init Parameter Typename

abbrev pub Core-K : Asked → Type 0
Core-K q = Core-F (KnownCore q) (KnownExpr q) (KnownInitializer q) (KnownOptionalExpr q) (KnownStmt q) (KnownSuffix q)
    (KnownDeclaration q) (KnownDeclarator q) (KnownInit q) (KnownParameter q) (KnownTypename q)

abbrev pub firstCore : (q : Asked) → Core-K q → Core-T
firstCore q y = map-Core (KnownCore q) (KnownExpr q) (KnownInitializer q) (KnownOptionalExpr q) (KnownStmt q)
    (KnownSuffix q) (KnownDeclaration q) (KnownDeclarator q) (KnownInit q) (KnownParameter q) (KnownTypename q) Core Expr
    Initializer OptionalExpr Stmt Suffix Declaration Declarator Init Parameter Typename (λ k. k.0) (λ k. k.0) (λ k. k.0)
    (λ k. k.0) (λ k. k.0) (λ k. k.0) (λ k. k.0) (λ k. k.0) (λ k. k.0) (λ k. k.0) (λ k. k.0) y

abbrev pub walkedCore : Core-T → Core-W
walkedCore x = map-Core Core Expr Initializer OptionalExpr Stmt Suffix Declaration Declarator Init Parameter Typename
    Shape Node Start (Option Node) Item SuffixWalk Declarations Shape InitParts TypeWalk Named core node initializer
    optional item suffix declaration shape init parameter named x

abbrev pub Expr-T : Type 0
Expr-T = Expr-F Core Expr Initializer OptionalExpr Stmt Suffix Declaration Declarator Init Parameter Typename

abbrev pub Expr-K : Asked → Type 0
Expr-K q = Expr-F (KnownCore q) (KnownExpr q) (KnownInitializer q) (KnownOptionalExpr q) (KnownStmt q) (KnownSuffix q)
    (KnownDeclaration q) (KnownDeclarator q) (KnownInit q) (KnownParameter q) (KnownTypename q)

abbrev pub firstExpr : (q : Asked) → Expr-K q → Expr-T
firstExpr q y = map-Expr (KnownCore q) (KnownExpr q) (KnownInitializer q) (KnownOptionalExpr q) (KnownStmt q)
    (KnownSuffix q) (KnownDeclaration q) (KnownDeclarator q) (KnownInit q) (KnownParameter q) (KnownTypename q) Core Expr
    Initializer OptionalExpr Stmt Suffix Declaration Declarator Init Parameter Typename (λ k. k.0) (λ k. k.0) (λ k. k.0)
    (λ k. k.0) (λ k. k.0) (λ k. k.0) (λ k. k.0) (λ k. k.0) (λ k. k.0) (λ k. k.0) (λ k. k.0) y

abbrev pub walkedExpr : Expr-T → Expr-W
walkedExpr x = map-Expr Core Expr Initializer OptionalExpr Stmt Suffix Declaration Declarator Init Parameter Typename
    Shape Node Start (Option Node) Item SuffixWalk Declarations Shape InitParts TypeWalk Named core node initializer
    optional item suffix declaration shape init parameter named x

abbrev pub Initializer-T : Type 0
Initializer-T = Initializer-F Core Expr Initializer OptionalExpr Stmt Suffix Declaration Declarator Init Parameter
    Typename

abbrev pub Initializer-K : Asked → Type 0
Initializer-K q = Initializer-F (KnownCore q) (KnownExpr q) (KnownInitializer q) (KnownOptionalExpr q) (KnownStmt q)
    (KnownSuffix q) (KnownDeclaration q) (KnownDeclarator q) (KnownInit q) (KnownParameter q) (KnownTypename q)

abbrev pub firstInitializer : (q : Asked) → Initializer-K q → Initializer-T
firstInitializer q y = map-Initializer (KnownCore q) (KnownExpr q) (KnownInitializer q) (KnownOptionalExpr q)
    (KnownStmt q) (KnownSuffix q) (KnownDeclaration q) (KnownDeclarator q) (KnownInit q) (KnownParameter q)
    (KnownTypename q) Core Expr Initializer OptionalExpr Stmt Suffix Declaration Declarator Init Parameter Typename
    (λ k. k.0) (λ k. k.0) (λ k. k.0) (λ k. k.0) (λ k. k.0) (λ k. k.0) (λ k. k.0) (λ k. k.0) (λ k. k.0) (λ k. k.0)
    (λ k. k.0) y

abbrev pub walkedInitializer : Initializer-T → Initializer-W
walkedInitializer x = map-Initializer Core Expr Initializer OptionalExpr Stmt Suffix Declaration Declarator Init
    Parameter Typename Shape Node Start (Option Node) Item SuffixWalk Declarations Shape InitParts TypeWalk Named core
    node initializer optional item suffix declaration shape init parameter named x

abbrev pub OptionalExpr-T : Type 0
OptionalExpr-T = OptionalExpr-F Core Expr Initializer OptionalExpr Stmt Suffix Declaration Declarator Init Parameter
    Typename

abbrev pub OptionalExpr-K : Asked → Type 0
OptionalExpr-K q = OptionalExpr-F (KnownCore q) (KnownExpr q) (KnownInitializer q) (KnownOptionalExpr q) (KnownStmt q)
    (KnownSuffix q) (KnownDeclaration q) (KnownDeclarator q) (KnownInit q) (KnownParameter q) (KnownTypename q)

abbrev pub firstOptionalExpr : (q : Asked) → OptionalExpr-K q → OptionalExpr-T
firstOptionalExpr q y = map-OptionalExpr (KnownCore q) (KnownExpr q) (KnownInitializer q) (KnownOptionalExpr q)
    (KnownStmt q) (KnownSuffix q) (KnownDeclaration q) (KnownDeclarator q) (KnownInit q) (KnownParameter q)
    (KnownTypename q) Core Expr Initializer OptionalExpr Stmt Suffix Declaration Declarator Init Parameter Typename
    (λ k. k.0) (λ k. k.0) (λ k. k.0) (λ k. k.0) (λ k. k.0) (λ k. k.0) (λ k. k.0) (λ k. k.0) (λ k. k.0) (λ k. k.0)
    (λ k. k.0) y

abbrev pub walkedOptionalExpr : OptionalExpr-T → OptionalExpr-W
walkedOptionalExpr x = map-OptionalExpr Core Expr Initializer OptionalExpr Stmt Suffix Declaration Declarator Init
    Parameter Typename Shape Node Start (Option Node) Item SuffixWalk Declarations Shape InitParts TypeWalk Named core
    node initializer optional item suffix declaration shape init parameter named x

abbrev pub Stmt-T : Type 0
Stmt-T = Stmt-F Core Expr Initializer OptionalExpr Stmt Suffix Declaration Declarator Init Parameter Typename

abbrev pub Stmt-K : Asked → Type 0
Stmt-K q = Stmt-F (KnownCore q) (KnownExpr q) (KnownInitializer q) (KnownOptionalExpr q) (KnownStmt q) (KnownSuffix q)
    (KnownDeclaration q) (KnownDeclarator q) (KnownInit q) (KnownParameter q) (KnownTypename q)

abbrev pub firstStmt : (q : Asked) → Stmt-K q → Stmt-T
firstStmt q y = map-Stmt (KnownCore q) (KnownExpr q) (KnownInitializer q) (KnownOptionalExpr q) (KnownStmt q)
    (KnownSuffix q) (KnownDeclaration q) (KnownDeclarator q) (KnownInit q) (KnownParameter q) (KnownTypename q) Core Expr
    Initializer OptionalExpr Stmt Suffix Declaration Declarator Init Parameter Typename (λ k. k.0) (λ k. k.0) (λ k. k.0)
    (λ k. k.0) (λ k. k.0) (λ k. k.0) (λ k. k.0) (λ k. k.0) (λ k. k.0) (λ k. k.0) (λ k. k.0) y

abbrev pub walkedStmt : Stmt-T → Stmt-W
walkedStmt x = map-Stmt Core Expr Initializer OptionalExpr Stmt Suffix Declaration Declarator Init Parameter Typename
    Shape Node Start (Option Node) Item SuffixWalk Declarations Shape InitParts TypeWalk Named core node initializer
    optional item suffix declaration shape init parameter named x

abbrev pub Suffix-T : Type 0
Suffix-T = Suffix-F Core Expr Initializer OptionalExpr Stmt Suffix Declaration Declarator Init Parameter Typename

abbrev pub Suffix-K : Asked → Type 0
Suffix-K q = Suffix-F (KnownCore q) (KnownExpr q) (KnownInitializer q) (KnownOptionalExpr q) (KnownStmt q)
    (KnownSuffix q) (KnownDeclaration q) (KnownDeclarator q) (KnownInit q) (KnownParameter q) (KnownTypename q)

abbrev pub firstSuffix : (q : Asked) → Suffix-K q → Suffix-T
firstSuffix q y = map-Suffix (KnownCore q) (KnownExpr q) (KnownInitializer q) (KnownOptionalExpr q) (KnownStmt q)
    (KnownSuffix q) (KnownDeclaration q) (KnownDeclarator q) (KnownInit q) (KnownParameter q) (KnownTypename q) Core Expr
    Initializer OptionalExpr Stmt Suffix Declaration Declarator Init Parameter Typename (λ k. k.0) (λ k. k.0) (λ k. k.0)
    (λ k. k.0) (λ k. k.0) (λ k. k.0) (λ k. k.0) (λ k. k.0) (λ k. k.0) (λ k. k.0) (λ k. k.0) y

abbrev pub walkedSuffix : Suffix-T → Suffix-W
walkedSuffix x = map-Suffix Core Expr Initializer OptionalExpr Stmt Suffix Declaration Declarator Init Parameter
    Typename Shape Node Start (Option Node) Item SuffixWalk Declarations Shape InitParts TypeWalk Named core node
    initializer optional item suffix declaration shape init parameter named x

abbrev pub Declaration-T : Type 0
Declaration-T = Declaration-F Core Expr Initializer OptionalExpr Stmt Suffix Declaration Declarator Init Parameter
    Typename

abbrev pub Declaration-K : Asked → Type 0
Declaration-K q = Declaration-F (KnownCore q) (KnownExpr q) (KnownInitializer q) (KnownOptionalExpr q) (KnownStmt q)
    (KnownSuffix q) (KnownDeclaration q) (KnownDeclarator q) (KnownInit q) (KnownParameter q) (KnownTypename q)

abbrev pub firstDeclaration : (q : Asked) → Declaration-K q → Declaration-T
firstDeclaration q y = map-Declaration (KnownCore q) (KnownExpr q) (KnownInitializer q) (KnownOptionalExpr q)
    (KnownStmt q) (KnownSuffix q) (KnownDeclaration q) (KnownDeclarator q) (KnownInit q) (KnownParameter q)
    (KnownTypename q) Core Expr Initializer OptionalExpr Stmt Suffix Declaration Declarator Init Parameter Typename
    (λ k. k.0) (λ k. k.0) (λ k. k.0) (λ k. k.0) (λ k. k.0) (λ k. k.0) (λ k. k.0) (λ k. k.0) (λ k. k.0) (λ k. k.0)
    (λ k. k.0) y

abbrev pub walkedDeclaration : Declaration-T → Declaration-W
walkedDeclaration x = map-Declaration Core Expr Initializer OptionalExpr Stmt Suffix Declaration Declarator Init
    Parameter Typename Shape Node Start (Option Node) Item SuffixWalk Declarations Shape InitParts TypeWalk Named core
    node initializer optional item suffix declaration shape init parameter named x

abbrev pub Declarator-T : Type 0
Declarator-T = Declarator-F Core Expr Initializer OptionalExpr Stmt Suffix Declaration Declarator Init Parameter
    Typename

abbrev pub Declarator-K : Asked → Type 0
Declarator-K q = Declarator-F (KnownCore q) (KnownExpr q) (KnownInitializer q) (KnownOptionalExpr q) (KnownStmt q)
    (KnownSuffix q) (KnownDeclaration q) (KnownDeclarator q) (KnownInit q) (KnownParameter q) (KnownTypename q)

abbrev pub firstDeclarator : (q : Asked) → Declarator-K q → Declarator-T
firstDeclarator q y = map-Declarator (KnownCore q) (KnownExpr q) (KnownInitializer q) (KnownOptionalExpr q)
    (KnownStmt q) (KnownSuffix q) (KnownDeclaration q) (KnownDeclarator q) (KnownInit q) (KnownParameter q)
    (KnownTypename q) Core Expr Initializer OptionalExpr Stmt Suffix Declaration Declarator Init Parameter Typename
    (λ k. k.0) (λ k. k.0) (λ k. k.0) (λ k. k.0) (λ k. k.0) (λ k. k.0) (λ k. k.0) (λ k. k.0) (λ k. k.0) (λ k. k.0)
    (λ k. k.0) y

abbrev pub walkedDeclarator : Declarator-T → Declarator-W
walkedDeclarator x = map-Declarator Core Expr Initializer OptionalExpr Stmt Suffix Declaration Declarator Init Parameter
    Typename Shape Node Start (Option Node) Item SuffixWalk Declarations Shape InitParts TypeWalk Named core node
    initializer optional item suffix declaration shape init parameter named x

abbrev pub Init-T : Type 0
Init-T = Init-F Core Expr Initializer OptionalExpr Stmt Suffix Declaration Declarator Init Parameter Typename

abbrev pub Init-K : Asked → Type 0
Init-K q = Init-F (KnownCore q) (KnownExpr q) (KnownInitializer q) (KnownOptionalExpr q) (KnownStmt q) (KnownSuffix q)
    (KnownDeclaration q) (KnownDeclarator q) (KnownInit q) (KnownParameter q) (KnownTypename q)

abbrev pub firstInit : (q : Asked) → Init-K q → Init-T
firstInit q y = map-Init (KnownCore q) (KnownExpr q) (KnownInitializer q) (KnownOptionalExpr q) (KnownStmt q)
    (KnownSuffix q) (KnownDeclaration q) (KnownDeclarator q) (KnownInit q) (KnownParameter q) (KnownTypename q) Core Expr
    Initializer OptionalExpr Stmt Suffix Declaration Declarator Init Parameter Typename (λ k. k.0) (λ k. k.0) (λ k. k.0)
    (λ k. k.0) (λ k. k.0) (λ k. k.0) (λ k. k.0) (λ k. k.0) (λ k. k.0) (λ k. k.0) (λ k. k.0) y

abbrev pub walkedInit : Init-T → Init-W
walkedInit x = map-Init Core Expr Initializer OptionalExpr Stmt Suffix Declaration Declarator Init Parameter Typename
    Shape Node Start (Option Node) Item SuffixWalk Declarations Shape InitParts TypeWalk Named core node initializer
    optional item suffix declaration shape init parameter named x

abbrev pub Parameter-T : Type 0
Parameter-T = Parameter-F Core Expr Initializer OptionalExpr Stmt Suffix Declaration Declarator Init Parameter Typename

abbrev pub Parameter-K : Asked → Type 0
Parameter-K q = Parameter-F (KnownCore q) (KnownExpr q) (KnownInitializer q) (KnownOptionalExpr q) (KnownStmt q)
    (KnownSuffix q) (KnownDeclaration q) (KnownDeclarator q) (KnownInit q) (KnownParameter q) (KnownTypename q)

abbrev pub firstParameter : (q : Asked) → Parameter-K q → Parameter-T
firstParameter q y = map-Parameter (KnownCore q) (KnownExpr q) (KnownInitializer q) (KnownOptionalExpr q) (KnownStmt q)
    (KnownSuffix q) (KnownDeclaration q) (KnownDeclarator q) (KnownInit q) (KnownParameter q) (KnownTypename q) Core Expr
    Initializer OptionalExpr Stmt Suffix Declaration Declarator Init Parameter Typename (λ k. k.0) (λ k. k.0) (λ k. k.0)
    (λ k. k.0) (λ k. k.0) (λ k. k.0) (λ k. k.0) (λ k. k.0) (λ k. k.0) (λ k. k.0) (λ k. k.0) y

abbrev pub walkedParameter : Parameter-T → Parameter-W
walkedParameter x = map-Parameter Core Expr Initializer OptionalExpr Stmt Suffix Declaration Declarator Init Parameter
    Typename Shape Node Start (Option Node) Item SuffixWalk Declarations Shape InitParts TypeWalk Named core node
    initializer optional item suffix declaration shape init parameter named x

abbrev pub Typename-T : Type 0
Typename-T = Typename-F Core Expr Initializer OptionalExpr Stmt Suffix Declaration Declarator Init Parameter Typename

abbrev pub Typename-K : Asked → Type 0
Typename-K q = Typename-F (KnownCore q) (KnownExpr q) (KnownInitializer q) (KnownOptionalExpr q) (KnownStmt q)
    (KnownSuffix q) (KnownDeclaration q) (KnownDeclarator q) (KnownInit q) (KnownParameter q) (KnownTypename q)

abbrev pub firstTypename : (q : Asked) → Typename-K q → Typename-T
firstTypename q y = map-Typename (KnownCore q) (KnownExpr q) (KnownInitializer q) (KnownOptionalExpr q) (KnownStmt q)
    (KnownSuffix q) (KnownDeclaration q) (KnownDeclarator q) (KnownInit q) (KnownParameter q) (KnownTypename q) Core Expr
    Initializer OptionalExpr Stmt Suffix Declaration Declarator Init Parameter Typename (λ k. k.0) (λ k. k.0) (λ k. k.0)
    (λ k. k.0) (λ k. k.0) (λ k. k.0) (λ k. k.0) (λ k. k.0) (λ k. k.0) (λ k. k.0) (λ k. k.0) y

abbrev pub walkedTypename : Typename-T → Typename-W
walkedTypename x = map-Typename Core Expr Initializer OptionalExpr Stmt Suffix Declaration Declarator Init Parameter
    Typename Shape Node Start (Option Node) Item SuffixWalk Declarations Shape InitParts TypeWalk Named core node
    initializer optional item suffix declaration shape init parameter named x

-- ---- the walk over a layer

pub walk_core : (x : Core-T) → core (roll-Core x) ≡ core_rule (walkedCore x)
unfolding core node initializer optional item suffix declaration shape init parameter named
walk_core x = fold-roll-Core Shape Node Start (Option Node) Item SuffixWalk Declarations Shape InitParts TypeWalk Named
    core_rule expr_rule start_rule optional_rule stmt_rule suffix_walk declaration_rule declarator_rule init_rule
    parameter_rule typename_rule x

pub walk_expr : (x : Expr-T) → node (roll-Expr x) ≡ expr_rule (walkedExpr x)
unfolding core node initializer optional item suffix declaration shape init parameter named
walk_expr x = fold-roll-Expr Shape Node Start (Option Node) Item SuffixWalk Declarations Shape InitParts TypeWalk Named
    core_rule expr_rule start_rule optional_rule stmt_rule suffix_walk declaration_rule declarator_rule init_rule
    parameter_rule typename_rule x

pub walk_initializer : (x : Initializer-T) → initializer (roll-Initializer x) ≡ start_rule (walkedInitializer x)
unfolding core node initializer optional item suffix declaration shape init parameter named
walk_initializer x = fold-roll-Initializer Shape Node Start (Option Node) Item SuffixWalk Declarations Shape InitParts
    TypeWalk Named core_rule expr_rule start_rule optional_rule stmt_rule suffix_walk declaration_rule declarator_rule
    init_rule parameter_rule typename_rule x

pub walk_optional : (x : OptionalExpr-T) → optional (roll-OptionalExpr x) ≡ optional_rule (walkedOptionalExpr x)
unfolding core node initializer optional item suffix declaration shape init parameter named
walk_optional x = fold-roll-OptionalExpr Shape Node Start (Option Node) Item SuffixWalk Declarations Shape InitParts
    TypeWalk Named core_rule expr_rule start_rule optional_rule stmt_rule suffix_walk declaration_rule declarator_rule
    init_rule parameter_rule typename_rule x

pub walk_stmt : (x : Stmt-T) → item (roll-Stmt x) ≡ stmt_rule (walkedStmt x)
unfolding core node initializer optional item suffix declaration shape init parameter named
walk_stmt x = fold-roll-Stmt Shape Node Start (Option Node) Item SuffixWalk Declarations Shape InitParts TypeWalk Named
    core_rule expr_rule start_rule optional_rule stmt_rule suffix_walk declaration_rule declarator_rule init_rule
    parameter_rule typename_rule x

pub walk_suffix : (x : Suffix-T) → suffix (roll-Suffix x) ≡ suffix_walk (walkedSuffix x)
unfolding core node initializer optional item suffix declaration shape init parameter named
walk_suffix x = fold-roll-Suffix Shape Node Start (Option Node) Item SuffixWalk Declarations Shape InitParts TypeWalk
    Named core_rule expr_rule start_rule optional_rule stmt_rule suffix_walk declaration_rule declarator_rule init_rule
    parameter_rule typename_rule x

pub walk_declaration : (x : Declaration-T) → declaration (roll-Declaration x) ≡ declaration_rule (walkedDeclaration x)
unfolding core node initializer optional item suffix declaration shape init parameter named
walk_declaration x = fold-roll-Declaration Shape Node Start (Option Node) Item SuffixWalk Declarations Shape InitParts
    TypeWalk Named core_rule expr_rule start_rule optional_rule stmt_rule suffix_walk declaration_rule declarator_rule
    init_rule parameter_rule typename_rule x

pub walk_declarator : (x : Declarator-T) → shape (roll-Declarator x) ≡ declarator_rule (walkedDeclarator x)
unfolding core node initializer optional item suffix declaration shape init parameter named
walk_declarator x = fold-roll-Declarator Shape Node Start (Option Node) Item SuffixWalk Declarations Shape InitParts
    TypeWalk Named core_rule expr_rule start_rule optional_rule stmt_rule suffix_walk declaration_rule declarator_rule
    init_rule parameter_rule typename_rule x

pub walk_init : (x : Init-T) → init (roll-Init x) ≡ init_rule (walkedInit x)
unfolding core node initializer optional item suffix declaration shape init parameter named
walk_init x = fold-roll-Init Shape Node Start (Option Node) Item SuffixWalk Declarations Shape InitParts TypeWalk Named
    core_rule expr_rule start_rule optional_rule stmt_rule suffix_walk declaration_rule declarator_rule init_rule
    parameter_rule typename_rule x

pub walk_parameter : (x : Parameter-T) → parameter (roll-Parameter x) ≡ parameter_rule (walkedParameter x)
unfolding core node initializer optional item suffix declaration shape init parameter named
walk_parameter x = fold-roll-Parameter Shape Node Start (Option Node) Item SuffixWalk Declarations Shape InitParts
    TypeWalk Named core_rule expr_rule start_rule optional_rule stmt_rule suffix_walk declaration_rule declarator_rule
    init_rule parameter_rule typename_rule x

pub walk_typename : (x : Typename-T) → named (roll-Typename x) ≡ typename_rule (walkedTypename x)
unfolding core node initializer optional item suffix declaration shape init parameter named
walk_typename x = fold-roll-Typename Shape Node Start (Option Node) Item SuffixWalk Declarations Shape InitParts
    TypeWalk Named core_rule expr_rule start_rule optional_rule stmt_rule suffix_walk declaration_rule declarator_rule
    init_rule parameter_rule typename_rule x

-- ---- its parts

each : {A B : Type 0} (f : A → B) (P : B → Type 0) (ys : List ((x : A) × P (f x))) →
    EachPart P (map f (map (λ k. k.0) ys))
each f P [] = tt
each f P (y ∷ ys) = (y.1, each f P ys)

parts_core : (q : Asked) (y : Core-K q) → EveryCore q (walkedCore (firstCore q y))
parts_core q Core-F.Core::Absent = tt
parts_core q (Core-F.Core::Name n text) = tt
parts_core q (Core-F.Core::Paren d) = d.1

parts_expr : (q : Asked) (y : Expr-K q) → EveryExpr q (walkedExpr (firstExpr q y))
parts_expr q (Expr-F.Expr::Name n text) = tt
parts_expr q (Expr-F.Number n u) = tt
parts_expr q (Expr-F.Character n) = tt
parts_expr q (Expr-F.String bytes) = tt
parts_expr q (Expr-F.Expr::Paren a) = a.1
parts_expr q (Expr-F.Compile n a t) = (a.1, t.1)
parts_expr q (Expr-F.Expr::Local n t) = t.1
parts_expr q (Expr-F.Param n t a) = (t.1, a.1)
parts_expr q (Expr-F.Index n ab) = (ab.0.1, ab.1.1)
parts_expr q (Expr-F.Call n a list) = (a.1, each node q.node list)
parts_expr q (Expr-F.Step n o a) = a.1
parts_expr q (Expr-F.Unary n o a) = a.1
parts_expr q (Expr-F.Tick n a) = a.1
parts_expr q (Expr-F.TickBlock n items) = each item q.item items
parts_expr q (Expr-F.Cast n t a) = (t.1, a.1)
parts_expr q (Expr-F.Sizeof n t) = t.1
parts_expr q (Expr-F.Binary n o ab) = (ab.0.1, ab.1.1)
parts_expr q (Expr-F.Choice n c a b) = (c.1, a.1, b.1)
parts_expr q (Expr-F.Assign n ab) = (ab.0.1, ab.1.1)
parts_expr q (Expr-F.Modify n o ab) = (ab.0.1, ab.1.1)
parts_expr q (Expr-F.Comma n ab) = (ab.0.1, ab.1.1)

parts_initializer : (q : Asked) (y : Initializer-K q) → EveryInitializer q (walkedInitializer (firstInitializer q y))
parts_initializer q Initializer-F.Initializer::Absent = tt
parts_initializer q (Initializer-F.Value e) = e.1
parts_initializer q (Initializer-F.List es comma) = each node q.node es

parts_optional : (q : Asked) (y : OptionalExpr-K q) → EveryOptionalExpr q (walkedOptionalExpr (firstOptionalExpr q y))
parts_optional q OptionalExpr-F.OptionalExpr::Absent = tt
parts_optional q (OptionalExpr-F.Present e) = e.1

parts_stmt : (q : Asked) (y : Stmt-K q) → EveryStmt q (walkedStmt (firstStmt q y))
parts_stmt q Stmt-F.Empty = tt
parts_stmt q (Stmt-F.Expr e) = e.1
parts_stmt q (Stmt-F.Block items) = each item q.item items
parts_stmt q (Stmt-F.Stmt::Local d) = d.1
parts_stmt q (Stmt-F.If n c i) = (c.1, i.1)
parts_stmt q (Stmt-F.IfElse n c i j) = (c.1, i.1, j.1)
parts_stmt q (Stmt-F.While n c i) = (c.1, i.1)
parts_stmt q (Stmt-F.Do n i c) = (i.1, c.1)
parts_stmt q (Stmt-F.For n first c s i) = (first.1, c.1, s.1, i.1)
parts_stmt q (Stmt-F.Switch n e items) = (e.1, each item q.item items)
parts_stmt q (Stmt-F.Case n e) = e.1
parts_stmt q (Stmt-F.Default n) = tt
parts_stmt q (Stmt-F.Break n) = tt
parts_stmt q (Stmt-F.Continue n) = tt
parts_stmt q (Stmt-F.Return n e) = e.1

parts_suffix : (q : Asked) (y : Suffix-K q) → EverySuffix q (walkedSuffix (firstSuffix q y))
parts_suffix q (Suffix-F.Array e) = e.1
parts_suffix q Suffix-F.Unlisted = tt
parts_suffix q Suffix-F.Nothing = tt
parts_suffix q (Suffix-F.Listed ps) = each parameter q.parameter ps

parts_declaration : (q : Asked) (y : Declaration-K q) → EveryDeclaration q (walkedDeclaration (firstDeclaration q y))
parts_declaration q y = each init q.init y.inits

parts_declarator : (q : Asked) (y : Declarator-K q) → EveryDeclarator q (walkedDeclarator (firstDeclarator q y))
parts_declarator q y = (y.core.1, each suffix q.suffix y.suffixes)

parts_init : (q : Asked) (y : Init-K q) → EveryInit q (walkedInit (firstInit q y))
parts_init q y = (y.declarator.1, y.value.1)

parts_parameter : (q : Asked) (y : Parameter-K q) → EveryParameter q (walkedParameter (firstParameter q y))
parts_parameter q y = y.declarator.1

parts_typename : (q : Asked) (y : Typename-K q) → EveryTypename q (walkedTypename (firstTypename q y))
parts_typename q y = y.declarator.1

-- ---- a layer, of which this is given

pub step_core : (q : Asked) (G : Core-W → Type 0) → ((x : Core-W) → EveryCore q x → G x → q.shape (core_rule x)) →
    (x : Core-T) (y : Core-K q) → firstCore q y ≡ x → G (walkedCore x) → q.shape (core (roll-Core x))
step_core q G rule x y is given =
    subst (λ w. q.shape w) (sym (walk_core x))
    (rule (walkedCore x) (subst (λ z. EveryCore q (walkedCore z)) is (parts_core q y)) given)

pub step_expr : (q : Asked) (G : Expr-W → Type 0) → ((x : Expr-W) → EveryExpr q x → G x → q.node (expr_rule x)) →
    (x : Expr-T) (y : Expr-K q) → firstExpr q y ≡ x → G (walkedExpr x) → q.node (node (roll-Expr x))
step_expr q G rule x y is given =
    subst (λ w. q.node w) (sym (walk_expr x))
    (rule (walkedExpr x) (subst (λ z. EveryExpr q (walkedExpr z)) is (parts_expr q y)) given)

pub step_initializer : (q : Asked) (G : Initializer-W → Type 0) →
    ((x : Initializer-W) → EveryInitializer q x → G x → q.start (start_rule x)) →
    (x : Initializer-T) (y : Initializer-K q) → firstInitializer q y ≡ x → G (walkedInitializer x) →
    q.start (initializer (roll-Initializer x))
step_initializer q G rule x y is given =
    subst (λ w. q.start w) (sym (walk_initializer x))
    (rule (walkedInitializer x) (subst (λ z. EveryInitializer q (walkedInitializer z)) is (parts_initializer q y)) given)

pub step_optional : (q : Asked) (G : OptionalExpr-W → Type 0) →
    ((x : OptionalExpr-W) → EveryOptionalExpr q x → G x → q.optional (optional_rule x)) →
    (x : OptionalExpr-T) (y : OptionalExpr-K q) → firstOptionalExpr q y ≡ x → G (walkedOptionalExpr x) →
    q.optional (optional (roll-OptionalExpr x))
step_optional q G rule x y is given =
    subst (λ w. q.optional w) (sym (walk_optional x))
    (rule (walkedOptionalExpr x) (subst (λ z. EveryOptionalExpr q (walkedOptionalExpr z)) is (parts_optional q y)) given)

pub step_stmt : (q : Asked) (G : Stmt-W → Type 0) → ((x : Stmt-W) → EveryStmt q x → G x → q.item (stmt_rule x)) →
    (x : Stmt-T) (y : Stmt-K q) → firstStmt q y ≡ x → G (walkedStmt x) → q.item (item (roll-Stmt x))
step_stmt q G rule x y is given =
    subst (λ w. q.item w) (sym (walk_stmt x))
    (rule (walkedStmt x) (subst (λ z. EveryStmt q (walkedStmt z)) is (parts_stmt q y)) given)

pub step_suffix : (q : Asked) (G : Suffix-W → Type 0) →
    ((x : Suffix-W) → EverySuffix q x → G x → q.suffix (suffix_walk x)) → (x : Suffix-T) (y : Suffix-K q) →
    firstSuffix q y ≡ x → G (walkedSuffix x) → q.suffix (suffix (roll-Suffix x))
step_suffix q G rule x y is given =
    subst (λ w. q.suffix w) (sym (walk_suffix x))
    (rule (walkedSuffix x) (subst (λ z. EverySuffix q (walkedSuffix z)) is (parts_suffix q y)) given)

pub step_declaration : (q : Asked) (G : Declaration-W → Type 0) →
    ((x : Declaration-W) → EveryDeclaration q x → G x → q.declarations (declaration_rule x)) →
    (x : Declaration-T) (y : Declaration-K q) → firstDeclaration q y ≡ x → G (walkedDeclaration x) →
    q.declarations (declaration (roll-Declaration x))
step_declaration q G rule x y is given =
    subst (λ w. q.declarations w) (sym (walk_declaration x))
    (rule (walkedDeclaration x) (subst (λ z. EveryDeclaration q (walkedDeclaration z)) is (parts_declaration q y)) given)

pub step_declarator : (q : Asked) (G : Declarator-W → Type 0) →
    ((x : Declarator-W) → EveryDeclarator q x → G x → q.shape (declarator_rule x)) →
    (x : Declarator-T) (y : Declarator-K q) → firstDeclarator q y ≡ x → G (walkedDeclarator x) →
    q.shape (shape (roll-Declarator x))
step_declarator q G rule x y is given =
    subst (λ w. q.shape w) (sym (walk_declarator x))
    (rule (walkedDeclarator x) (subst (λ z. EveryDeclarator q (walkedDeclarator z)) is (parts_declarator q y)) given)

pub step_init : (q : Asked) (G : Init-W → Type 0) → ((x : Init-W) → EveryInit q x → G x → q.init (init_rule x)) →
    (x : Init-T) (y : Init-K q) → firstInit q y ≡ x → G (walkedInit x) → q.init (init (roll-Init x))
step_init q G rule x y is given =
    subst (λ w. q.init w) (sym (walk_init x))
    (rule (walkedInit x) (subst (λ z. EveryInit q (walkedInit z)) is (parts_init q y)) given)

pub step_parameter : (q : Asked) (G : Parameter-W → Type 0) →
    ((x : Parameter-W) → EveryParameter q x → G x → q.parameter (parameter_rule x)) →
    (x : Parameter-T) (y : Parameter-K q) → firstParameter q y ≡ x → G (walkedParameter x) →
    q.parameter (parameter (roll-Parameter x))
step_parameter q G rule x y is given =
    subst (λ w. q.parameter w) (sym (walk_parameter x))
    (rule (walkedParameter x) (subst (λ z. EveryParameter q (walkedParameter z)) is (parts_parameter q y)) given)

pub step_typename : (q : Asked) (G : Typename-W → Type 0) →
    ((x : Typename-W) → EveryTypename q x → G x → q.named (typename_rule x)) → (x : Typename-T) (y : Typename-K q) →
    firstTypename q y ≡ x → G (walkedTypename x) → q.named (named (roll-Typename x))
step_typename q G rule x y is given =
    subst (λ w. q.named w) (sym (walk_typename x))
    (rule (walkedTypename x) (subst (λ z. EveryTypename q (walkedTypename z)) is (parts_typename q y)) given)

-- ---- trees

pub holds_core : (q : Asked) → RulesKeep q → (x : Core) → q.shape (core x)
holds_core q k = ind-Core (λ x. q.shape (core x)) (λ x. q.node (node x)) (λ x. q.start (initializer x))
    (λ x. q.optional (optional x)) (λ x. q.item (item x)) (λ x. q.suffix (suffix x)) (λ x. q.declarations (declaration x))
    (λ x. q.shape (shape x)) (λ x. q.init (init x)) (λ x. q.parameter (parameter x)) (λ x. q.named (named x))
    (λ x y is. step_core q (λ w. Unit {0}) (λ w h u. k.core w h) x y is tt)
    (λ x y is. step_expr q (λ w. Unit {0}) (λ w h u. k.expr w h) x y is tt)
    (λ x y is. step_initializer q (λ w. Unit {0}) (λ w h u. k.initializer w h) x y is tt)
    (λ x y is. step_optional q (λ w. Unit {0}) (λ w h u. k.optional w h) x y is tt)
    (λ x y is. step_stmt q (λ w. Unit {0}) (λ w h u. k.stmt w h) x y is tt)
    (λ x y is. step_suffix q (λ w. Unit {0}) (λ w h u. k.suffix w h) x y is tt)
    (λ x y is. step_declaration q (λ w. Unit {0}) (λ w h u. k.declaration w h) x y is tt)
    (λ x y is. step_declarator q (λ w. Unit {0}) (λ w h u. k.declarator w h) x y is tt)
    (λ x y is. step_init q (λ w. Unit {0}) (λ w h u. k.init w h) x y is tt)
    (λ x y is. step_parameter q (λ w. Unit {0}) (λ w h u. k.parameter w h) x y is tt)
    (λ x y is. step_typename q (λ w. Unit {0}) (λ w h u. k.typename w h) x y is tt)

pub holds_expr : (q : Asked) → RulesKeep q → (x : Expr) → q.node (node x)
holds_expr q k = ind-Expr (λ x. q.shape (core x)) (λ x. q.node (node x)) (λ x. q.start (initializer x))
    (λ x. q.optional (optional x)) (λ x. q.item (item x)) (λ x. q.suffix (suffix x)) (λ x. q.declarations (declaration x))
    (λ x. q.shape (shape x)) (λ x. q.init (init x)) (λ x. q.parameter (parameter x)) (λ x. q.named (named x))
    (λ x y is. step_core q (λ w. Unit {0}) (λ w h u. k.core w h) x y is tt)
    (λ x y is. step_expr q (λ w. Unit {0}) (λ w h u. k.expr w h) x y is tt)
    (λ x y is. step_initializer q (λ w. Unit {0}) (λ w h u. k.initializer w h) x y is tt)
    (λ x y is. step_optional q (λ w. Unit {0}) (λ w h u. k.optional w h) x y is tt)
    (λ x y is. step_stmt q (λ w. Unit {0}) (λ w h u. k.stmt w h) x y is tt)
    (λ x y is. step_suffix q (λ w. Unit {0}) (λ w h u. k.suffix w h) x y is tt)
    (λ x y is. step_declaration q (λ w. Unit {0}) (λ w h u. k.declaration w h) x y is tt)
    (λ x y is. step_declarator q (λ w. Unit {0}) (λ w h u. k.declarator w h) x y is tt)
    (λ x y is. step_init q (λ w. Unit {0}) (λ w h u. k.init w h) x y is tt)
    (λ x y is. step_parameter q (λ w. Unit {0}) (λ w h u. k.parameter w h) x y is tt)
    (λ x y is. step_typename q (λ w. Unit {0}) (λ w h u. k.typename w h) x y is tt)

pub holds_initializer : (q : Asked) → RulesKeep q → (x : Initializer) → q.start (initializer x)
holds_initializer q k = ind-Initializer (λ x. q.shape (core x)) (λ x. q.node (node x)) (λ x. q.start (initializer x))
    (λ x. q.optional (optional x)) (λ x. q.item (item x)) (λ x. q.suffix (suffix x)) (λ x. q.declarations (declaration x))
    (λ x. q.shape (shape x)) (λ x. q.init (init x)) (λ x. q.parameter (parameter x)) (λ x. q.named (named x))
    (λ x y is. step_core q (λ w. Unit {0}) (λ w h u. k.core w h) x y is tt)
    (λ x y is. step_expr q (λ w. Unit {0}) (λ w h u. k.expr w h) x y is tt)
    (λ x y is. step_initializer q (λ w. Unit {0}) (λ w h u. k.initializer w h) x y is tt)
    (λ x y is. step_optional q (λ w. Unit {0}) (λ w h u. k.optional w h) x y is tt)
    (λ x y is. step_stmt q (λ w. Unit {0}) (λ w h u. k.stmt w h) x y is tt)
    (λ x y is. step_suffix q (λ w. Unit {0}) (λ w h u. k.suffix w h) x y is tt)
    (λ x y is. step_declaration q (λ w. Unit {0}) (λ w h u. k.declaration w h) x y is tt)
    (λ x y is. step_declarator q (λ w. Unit {0}) (λ w h u. k.declarator w h) x y is tt)
    (λ x y is. step_init q (λ w. Unit {0}) (λ w h u. k.init w h) x y is tt)
    (λ x y is. step_parameter q (λ w. Unit {0}) (λ w h u. k.parameter w h) x y is tt)
    (λ x y is. step_typename q (λ w. Unit {0}) (λ w h u. k.typename w h) x y is tt)

pub holds_optional : (q : Asked) → RulesKeep q → (x : OptionalExpr) → q.optional (optional x)
holds_optional q k = ind-OptionalExpr (λ x. q.shape (core x)) (λ x. q.node (node x)) (λ x. q.start (initializer x))
    (λ x. q.optional (optional x)) (λ x. q.item (item x)) (λ x. q.suffix (suffix x)) (λ x. q.declarations (declaration x))
    (λ x. q.shape (shape x)) (λ x. q.init (init x)) (λ x. q.parameter (parameter x)) (λ x. q.named (named x))
    (λ x y is. step_core q (λ w. Unit {0}) (λ w h u. k.core w h) x y is tt)
    (λ x y is. step_expr q (λ w. Unit {0}) (λ w h u. k.expr w h) x y is tt)
    (λ x y is. step_initializer q (λ w. Unit {0}) (λ w h u. k.initializer w h) x y is tt)
    (λ x y is. step_optional q (λ w. Unit {0}) (λ w h u. k.optional w h) x y is tt)
    (λ x y is. step_stmt q (λ w. Unit {0}) (λ w h u. k.stmt w h) x y is tt)
    (λ x y is. step_suffix q (λ w. Unit {0}) (λ w h u. k.suffix w h) x y is tt)
    (λ x y is. step_declaration q (λ w. Unit {0}) (λ w h u. k.declaration w h) x y is tt)
    (λ x y is. step_declarator q (λ w. Unit {0}) (λ w h u. k.declarator w h) x y is tt)
    (λ x y is. step_init q (λ w. Unit {0}) (λ w h u. k.init w h) x y is tt)
    (λ x y is. step_parameter q (λ w. Unit {0}) (λ w h u. k.parameter w h) x y is tt)
    (λ x y is. step_typename q (λ w. Unit {0}) (λ w h u. k.typename w h) x y is tt)

pub holds_stmt : (q : Asked) → RulesKeep q → (x : Stmt) → q.item (item x)
holds_stmt q k = ind-Stmt (λ x. q.shape (core x)) (λ x. q.node (node x)) (λ x. q.start (initializer x))
    (λ x. q.optional (optional x)) (λ x. q.item (item x)) (λ x. q.suffix (suffix x)) (λ x. q.declarations (declaration x))
    (λ x. q.shape (shape x)) (λ x. q.init (init x)) (λ x. q.parameter (parameter x)) (λ x. q.named (named x))
    (λ x y is. step_core q (λ w. Unit {0}) (λ w h u. k.core w h) x y is tt)
    (λ x y is. step_expr q (λ w. Unit {0}) (λ w h u. k.expr w h) x y is tt)
    (λ x y is. step_initializer q (λ w. Unit {0}) (λ w h u. k.initializer w h) x y is tt)
    (λ x y is. step_optional q (λ w. Unit {0}) (λ w h u. k.optional w h) x y is tt)
    (λ x y is. step_stmt q (λ w. Unit {0}) (λ w h u. k.stmt w h) x y is tt)
    (λ x y is. step_suffix q (λ w. Unit {0}) (λ w h u. k.suffix w h) x y is tt)
    (λ x y is. step_declaration q (λ w. Unit {0}) (λ w h u. k.declaration w h) x y is tt)
    (λ x y is. step_declarator q (λ w. Unit {0}) (λ w h u. k.declarator w h) x y is tt)
    (λ x y is. step_init q (λ w. Unit {0}) (λ w h u. k.init w h) x y is tt)
    (λ x y is. step_parameter q (λ w. Unit {0}) (λ w h u. k.parameter w h) x y is tt)
    (λ x y is. step_typename q (λ w. Unit {0}) (λ w h u. k.typename w h) x y is tt)

pub holds_suffix : (q : Asked) → RulesKeep q → (x : Suffix) → q.suffix (suffix x)
holds_suffix q k = ind-Suffix (λ x. q.shape (core x)) (λ x. q.node (node x)) (λ x. q.start (initializer x))
    (λ x. q.optional (optional x)) (λ x. q.item (item x)) (λ x. q.suffix (suffix x)) (λ x. q.declarations (declaration x))
    (λ x. q.shape (shape x)) (λ x. q.init (init x)) (λ x. q.parameter (parameter x)) (λ x. q.named (named x))
    (λ x y is. step_core q (λ w. Unit {0}) (λ w h u. k.core w h) x y is tt)
    (λ x y is. step_expr q (λ w. Unit {0}) (λ w h u. k.expr w h) x y is tt)
    (λ x y is. step_initializer q (λ w. Unit {0}) (λ w h u. k.initializer w h) x y is tt)
    (λ x y is. step_optional q (λ w. Unit {0}) (λ w h u. k.optional w h) x y is tt)
    (λ x y is. step_stmt q (λ w. Unit {0}) (λ w h u. k.stmt w h) x y is tt)
    (λ x y is. step_suffix q (λ w. Unit {0}) (λ w h u. k.suffix w h) x y is tt)
    (λ x y is. step_declaration q (λ w. Unit {0}) (λ w h u. k.declaration w h) x y is tt)
    (λ x y is. step_declarator q (λ w. Unit {0}) (λ w h u. k.declarator w h) x y is tt)
    (λ x y is. step_init q (λ w. Unit {0}) (λ w h u. k.init w h) x y is tt)
    (λ x y is. step_parameter q (λ w. Unit {0}) (λ w h u. k.parameter w h) x y is tt)
    (λ x y is. step_typename q (λ w. Unit {0}) (λ w h u. k.typename w h) x y is tt)

pub holds_declaration : (q : Asked) → RulesKeep q → (x : Declaration) → q.declarations (declaration x)
holds_declaration q k = ind-Declaration (λ x. q.shape (core x)) (λ x. q.node (node x)) (λ x. q.start (initializer x))
    (λ x. q.optional (optional x)) (λ x. q.item (item x)) (λ x. q.suffix (suffix x)) (λ x. q.declarations (declaration x))
    (λ x. q.shape (shape x)) (λ x. q.init (init x)) (λ x. q.parameter (parameter x)) (λ x. q.named (named x))
    (λ x y is. step_core q (λ w. Unit {0}) (λ w h u. k.core w h) x y is tt)
    (λ x y is. step_expr q (λ w. Unit {0}) (λ w h u. k.expr w h) x y is tt)
    (λ x y is. step_initializer q (λ w. Unit {0}) (λ w h u. k.initializer w h) x y is tt)
    (λ x y is. step_optional q (λ w. Unit {0}) (λ w h u. k.optional w h) x y is tt)
    (λ x y is. step_stmt q (λ w. Unit {0}) (λ w h u. k.stmt w h) x y is tt)
    (λ x y is. step_suffix q (λ w. Unit {0}) (λ w h u. k.suffix w h) x y is tt)
    (λ x y is. step_declaration q (λ w. Unit {0}) (λ w h u. k.declaration w h) x y is tt)
    (λ x y is. step_declarator q (λ w. Unit {0}) (λ w h u. k.declarator w h) x y is tt)
    (λ x y is. step_init q (λ w. Unit {0}) (λ w h u. k.init w h) x y is tt)
    (λ x y is. step_parameter q (λ w. Unit {0}) (λ w h u. k.parameter w h) x y is tt)
    (λ x y is. step_typename q (λ w. Unit {0}) (λ w h u. k.typename w h) x y is tt)

pub holds_declarator : (q : Asked) → RulesKeep q → (x : Declarator) → q.shape (shape x)
holds_declarator q k = ind-Declarator (λ x. q.shape (core x)) (λ x. q.node (node x)) (λ x. q.start (initializer x))
    (λ x. q.optional (optional x)) (λ x. q.item (item x)) (λ x. q.suffix (suffix x)) (λ x. q.declarations (declaration x))
    (λ x. q.shape (shape x)) (λ x. q.init (init x)) (λ x. q.parameter (parameter x)) (λ x. q.named (named x))
    (λ x y is. step_core q (λ w. Unit {0}) (λ w h u. k.core w h) x y is tt)
    (λ x y is. step_expr q (λ w. Unit {0}) (λ w h u. k.expr w h) x y is tt)
    (λ x y is. step_initializer q (λ w. Unit {0}) (λ w h u. k.initializer w h) x y is tt)
    (λ x y is. step_optional q (λ w. Unit {0}) (λ w h u. k.optional w h) x y is tt)
    (λ x y is. step_stmt q (λ w. Unit {0}) (λ w h u. k.stmt w h) x y is tt)
    (λ x y is. step_suffix q (λ w. Unit {0}) (λ w h u. k.suffix w h) x y is tt)
    (λ x y is. step_declaration q (λ w. Unit {0}) (λ w h u. k.declaration w h) x y is tt)
    (λ x y is. step_declarator q (λ w. Unit {0}) (λ w h u. k.declarator w h) x y is tt)
    (λ x y is. step_init q (λ w. Unit {0}) (λ w h u. k.init w h) x y is tt)
    (λ x y is. step_parameter q (λ w. Unit {0}) (λ w h u. k.parameter w h) x y is tt)
    (λ x y is. step_typename q (λ w. Unit {0}) (λ w h u. k.typename w h) x y is tt)

pub holds_init : (q : Asked) → RulesKeep q → (x : Init) → q.init (init x)
holds_init q k = ind-Init (λ x. q.shape (core x)) (λ x. q.node (node x)) (λ x. q.start (initializer x))
    (λ x. q.optional (optional x)) (λ x. q.item (item x)) (λ x. q.suffix (suffix x)) (λ x. q.declarations (declaration x))
    (λ x. q.shape (shape x)) (λ x. q.init (init x)) (λ x. q.parameter (parameter x)) (λ x. q.named (named x))
    (λ x y is. step_core q (λ w. Unit {0}) (λ w h u. k.core w h) x y is tt)
    (λ x y is. step_expr q (λ w. Unit {0}) (λ w h u. k.expr w h) x y is tt)
    (λ x y is. step_initializer q (λ w. Unit {0}) (λ w h u. k.initializer w h) x y is tt)
    (λ x y is. step_optional q (λ w. Unit {0}) (λ w h u. k.optional w h) x y is tt)
    (λ x y is. step_stmt q (λ w. Unit {0}) (λ w h u. k.stmt w h) x y is tt)
    (λ x y is. step_suffix q (λ w. Unit {0}) (λ w h u. k.suffix w h) x y is tt)
    (λ x y is. step_declaration q (λ w. Unit {0}) (λ w h u. k.declaration w h) x y is tt)
    (λ x y is. step_declarator q (λ w. Unit {0}) (λ w h u. k.declarator w h) x y is tt)
    (λ x y is. step_init q (λ w. Unit {0}) (λ w h u. k.init w h) x y is tt)
    (λ x y is. step_parameter q (λ w. Unit {0}) (λ w h u. k.parameter w h) x y is tt)
    (λ x y is. step_typename q (λ w. Unit {0}) (λ w h u. k.typename w h) x y is tt)

pub holds_parameter : (q : Asked) → RulesKeep q → (x : Parameter) → q.parameter (parameter x)
holds_parameter q k = ind-Parameter (λ x. q.shape (core x)) (λ x. q.node (node x)) (λ x. q.start (initializer x))
    (λ x. q.optional (optional x)) (λ x. q.item (item x)) (λ x. q.suffix (suffix x)) (λ x. q.declarations (declaration x))
    (λ x. q.shape (shape x)) (λ x. q.init (init x)) (λ x. q.parameter (parameter x)) (λ x. q.named (named x))
    (λ x y is. step_core q (λ w. Unit {0}) (λ w h u. k.core w h) x y is tt)
    (λ x y is. step_expr q (λ w. Unit {0}) (λ w h u. k.expr w h) x y is tt)
    (λ x y is. step_initializer q (λ w. Unit {0}) (λ w h u. k.initializer w h) x y is tt)
    (λ x y is. step_optional q (λ w. Unit {0}) (λ w h u. k.optional w h) x y is tt)
    (λ x y is. step_stmt q (λ w. Unit {0}) (λ w h u. k.stmt w h) x y is tt)
    (λ x y is. step_suffix q (λ w. Unit {0}) (λ w h u. k.suffix w h) x y is tt)
    (λ x y is. step_declaration q (λ w. Unit {0}) (λ w h u. k.declaration w h) x y is tt)
    (λ x y is. step_declarator q (λ w. Unit {0}) (λ w h u. k.declarator w h) x y is tt)
    (λ x y is. step_init q (λ w. Unit {0}) (λ w h u. k.init w h) x y is tt)
    (λ x y is. step_parameter q (λ w. Unit {0}) (λ w h u. k.parameter w h) x y is tt)
    (λ x y is. step_typename q (λ w. Unit {0}) (λ w h u. k.typename w h) x y is tt)

pub holds_typename : (q : Asked) → RulesKeep q → (x : Typename) → q.named (named x)
holds_typename q k = ind-Typename (λ x. q.shape (core x)) (λ x. q.node (node x)) (λ x. q.start (initializer x))
    (λ x. q.optional (optional x)) (λ x. q.item (item x)) (λ x. q.suffix (suffix x)) (λ x. q.declarations (declaration x))
    (λ x. q.shape (shape x)) (λ x. q.init (init x)) (λ x. q.parameter (parameter x)) (λ x. q.named (named x))
    (λ x y is. step_core q (λ w. Unit {0}) (λ w h u. k.core w h) x y is tt)
    (λ x y is. step_expr q (λ w. Unit {0}) (λ w h u. k.expr w h) x y is tt)
    (λ x y is. step_initializer q (λ w. Unit {0}) (λ w h u. k.initializer w h) x y is tt)
    (λ x y is. step_optional q (λ w. Unit {0}) (λ w h u. k.optional w h) x y is tt)
    (λ x y is. step_stmt q (λ w. Unit {0}) (λ w h u. k.stmt w h) x y is tt)
    (λ x y is. step_suffix q (λ w. Unit {0}) (λ w h u. k.suffix w h) x y is tt)
    (λ x y is. step_declaration q (λ w. Unit {0}) (λ w h u. k.declaration w h) x y is tt)
    (λ x y is. step_declarator q (λ w. Unit {0}) (λ w h u. k.declarator w h) x y is tt)
    (λ x y is. step_init q (λ w. Unit {0}) (λ w h u. k.init w h) x y is tt)
    (λ x y is. step_parameter q (λ w. Unit {0}) (λ w h u. k.parameter w h) x y is tt)
    (λ x y is. step_typename q (λ w. Unit {0}) (λ w h u. k.typename w h) x y is tt)
