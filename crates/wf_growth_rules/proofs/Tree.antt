-- The walk over each part of a tree makes nothing grow by more than the weight of the part: an induction over the types
-- of the tree. Written by tools/checker/weights.py.
use Rattle.std.proofs.Common.{◌≡◌, ℕ, List, [], ◌∷◌, map, sym, subst, arith}
use Rattle.tick_tree.specs.declared.syntax.Core.{Core, roll-Core}
use Rattle.tick_tree.specs.declared.syntax.Expr.{Expr, roll-Expr}
use Rattle.tick_tree.specs.declared.syntax.Initializer.{Initializer, roll-Initializer}
use Rattle.tick_tree.specs.declared.syntax.OptionalExpr.{OptionalExpr, roll-OptionalExpr}
use Rattle.tick_tree.specs.declared.syntax.Stmt.{Stmt, roll-Stmt}
use Rattle.tick_tree.specs.declared.syntax.Suffix.{Suffix, roll-Suffix}
use Rattle.tick_tree.specs.declared.syntax.Declaration.{Declaration, roll-Declaration}
use Rattle.tick_tree.specs.declared.syntax.Declarator.{Declarator, roll-Declarator}
use Rattle.tick_tree.specs.declared.syntax.Init.{Init, roll-Init}
use Rattle.tick_tree.specs.declared.syntax.Parameter.{Parameter, roll-Parameter}
use Rattle.tick_tree.specs.declared.syntax.Typename.{Typename, roll-Typename}
use Rattle.tick_tree.specs.declared.syntax.Core.TheOpen.{Core-F, Expr-F, Initializer-F, OptionalExpr-F, Stmt-F}
use Rattle.tick_tree.specs.declared.syntax.Core.TheOpen.{Suffix-F, Declaration-F, Declarator-F, Init-F, Parameter-F}
use Rattle.tick_tree.specs.declared.syntax.Core.TheOpen.{Typename-F}
use Rattle.tick_tree.specs.declared.syntax.Core.TheFolds.{map-Core, map-Expr, map-Initializer, map-OptionalExpr}
use Rattle.tick_tree.specs.declared.syntax.Core.TheFolds.{map-Stmt, map-Suffix, map-Declaration, map-Declarator}
use Rattle.tick_tree.specs.declared.syntax.Core.TheFolds.{map-Init, map-Parameter, map-Typename, ind-Core, ind-Expr}
use Rattle.tick_tree.specs.declared.syntax.Core.TheFolds.{ind-Initializer, ind-OptionalExpr, ind-Stmt, ind-Suffix}
use Rattle.tick_tree.specs.declared.syntax.Core.TheFolds.{ind-Declaration, ind-Declarator, ind-Init, ind-Parameter}
use Rattle.tick_tree.specs.declared.syntax.Core.TheFolds.{ind-Typename}
use Rattle.check_operands.specs.Operands as nodes
use Rattle.check_rules.specs.StatementRules as statement_rules
use Rattle.check_rules.specs.Walk.{type_walks, core_rule, expr_rule, start_rule, optional_rule, stmt_rule, suffix_walk}
use Rattle.check_rules.specs.Walk.{declaration_rule, declarator_rule, init_rule, parameter_rule, typename_rule, core}
use Rattle.check_rules.specs.Walk.{node, initializer, optional, item, suffix, declaration, shape, init, parameter}
use Rattle.check_rules.specs.Walk.{named}
use Rattle.wf_growth_rules.specs.Light.{LightNode, LightShape, LightItem, LightNamed, LightOptional, absent, present}
use Rattle.wf_growth_rules.specs.Light.{Each, none, more}
use Rattle.wf_growth_rules.proofs.Walks.{weak, pure_light, lift_light}
use Rattle.wf_growth_rules.proofs.States.{named_light}
use Rattle.wf_growth_rules.proofs.Expressions as e
use Rattle.wf_growth_rules.proofs.Statements as s
use Rattle.wf_growth_rules.specs.Parts.{LightSuffixWalk, LightTypeWalk, LightStart, nothing, value, values, LightInit}
use Rattle.wf_growth_rules.specs.Parts.{LightDeclarations}
use Rattle.tick_tree.specs.Weights.{total, core_nodes, expr_nodes, initializer_nodes, optional_nodes, statement_nodes}
use Rattle.tick_tree.specs.Weights.{suffix_nodes, declaration_nodes, declarator_nodes, init_nodes, parameter_nodes}
use Rattle.tick_tree.specs.Weights.{typename_nodes, core_weight, weight, initializer_weight, optional_weight}
use Rattle.tick_tree.specs.Weights.{statement_weight, suffix_weight, declaration_weight, declarator_weight, init_weight}
use Rattle.tick_tree.specs.Weights.{parameter_weight, typename_weight}
use Rattle.wf_growth_rules.proofs.Declarations as d
use Rattle.wf_growth_rules.proofs.Layers.{walked-Core, walked-Expr, walked-Initializer, walked-OptionalExpr}
use Rattle.wf_growth_rules.proofs.Layers.{walked-Stmt, walked-Suffix, walked-Declaration, walked-Declarator}
use Rattle.wf_growth_rules.proofs.Layers.{walked-Init, walked-Parameter, walked-Typename, walk-Core, walk-Expr}
use Rattle.wf_growth_rules.proofs.Layers.{walk-Initializer, walk-OptionalExpr, walk-Stmt, walk-Suffix, walk-Declaration}
use Rattle.wf_growth_rules.proofs.Layers.{walk-Declarator, walk-Init, walk-Parameter, walk-Typename}
use Rattle.syntax_size.proofs.Folds.{weigh-Core, weigh-Expr, weigh-Initializer, weigh-OptionalExpr, weigh-Stmt}
use Rattle.syntax_size.proofs.Folds.{weigh-Suffix, weigh-Declaration, weigh-Declarator, weigh-Init, weigh-Parameter}
use Rattle.syntax_size.proofs.Folds.{weigh-Typename}
use Rattle.syntax_size.specs.Layers.{Core-T, Expr-T, Initializer-T, OptionalExpr-T, Stmt-T, Suffix-T, Declaration-T}
use Rattle.syntax_size.specs.Layers.{Declarator-T, Init-T, Parameter-T, Typename-T, weighed-Core, weighed-Expr}
use Rattle.syntax_size.specs.Layers.{weighed-Initializer, weighed-OptionalExpr, weighed-Stmt, weighed-Suffix}
use Rattle.syntax_size.specs.Layers.{weighed-Declaration, weighed-Declarator, weighed-Init, weighed-Parameter}
use Rattle.syntax_size.specs.Layers.{weighed-Typename}

-- ---- what is shown of each part

abbrev pub CoreLight : Core → Type 0
CoreLight x = LightShape (core_weight x) (core x)

abbrev KnownCore : Type 0
KnownCore = (x : Core) × CoreLight x

abbrev pub ExprLight : Expr → Type 0
ExprLight x = LightNode (weight x) (node x)

abbrev KnownExpr : Type 0
KnownExpr = (x : Expr) × ExprLight x

abbrev pub InitializerLight : Initializer → Type 0
InitializerLight x = LightStart (initializer_weight x) (initializer x)

abbrev KnownInitializer : Type 0
KnownInitializer = (x : Initializer) × InitializerLight x

abbrev pub OptionalExprLight : OptionalExpr → Type 0
OptionalExprLight x = LightOptional (optional_weight x) (optional x)

abbrev KnownOptionalExpr : Type 0
KnownOptionalExpr = (x : OptionalExpr) × OptionalExprLight x

abbrev pub StmtLight : Stmt → Type 0
StmtLight x = LightItem (statement_weight x) (item x)

abbrev KnownStmt : Type 0
KnownStmt = (x : Stmt) × StmtLight x

abbrev pub SuffixLight : Suffix → Type 0
SuffixLight x = LightSuffixWalk (suffix_weight x) (suffix x)

abbrev KnownSuffix : Type 0
KnownSuffix = (x : Suffix) × SuffixLight x

abbrev pub DeclarationLight : Declaration → Type 0
DeclarationLight x = LightDeclarations (declaration_weight x) (declaration x)

abbrev KnownDeclaration : Type 0
KnownDeclaration = (x : Declaration) × DeclarationLight x

abbrev pub DeclaratorLight : Declarator → Type 0
DeclaratorLight x = LightShape (declarator_weight x) (shape x)

abbrev KnownDeclarator : Type 0
KnownDeclarator = (x : Declarator) × DeclaratorLight x

abbrev pub InitLight : Init → Type 0
InitLight x = LightInit (init_weight x) (init x)

abbrev KnownInit : Type 0
KnownInit = (x : Init) × InitLight x

abbrev pub ParameterLight : Parameter → Type 0
ParameterLight x = LightTypeWalk (parameter_weight x) (parameter x)

abbrev KnownParameter : Type 0
KnownParameter = (x : Parameter) × ParameterLight x

abbrev pub TypenameLight : Typename → Type 0
TypenameLight x = LightNamed (typename_weight x) (named x)

abbrev KnownTypename : Type 0
KnownTypename = (x : Typename) × TypenameLight x

abbrev Core-K : Type 0
Core-K = Core-F KnownCore KnownExpr KnownInitializer KnownOptionalExpr KnownStmt KnownSuffix KnownDeclaration
    KnownDeclarator KnownInit KnownParameter KnownTypename

abbrev front-Core : Core-K → Core-T
front-Core = map-Core KnownCore KnownExpr KnownInitializer KnownOptionalExpr KnownStmt KnownSuffix KnownDeclaration
    KnownDeclarator KnownInit KnownParameter KnownTypename Core Expr Initializer OptionalExpr Stmt Suffix Declaration
    Declarator Init Parameter Typename (λ k. k.0) (λ k. k.0) (λ k. k.0) (λ k. k.0) (λ k. k.0) (λ k. k.0) (λ k. k.0)
    (λ k. k.0) (λ k. k.0) (λ k. k.0) (λ k. k.0)

abbrev Expr-K : Type 0
Expr-K = Expr-F KnownCore KnownExpr KnownInitializer KnownOptionalExpr KnownStmt KnownSuffix KnownDeclaration
    KnownDeclarator KnownInit KnownParameter KnownTypename

abbrev front-Expr : Expr-K → Expr-T
front-Expr = map-Expr KnownCore KnownExpr KnownInitializer KnownOptionalExpr KnownStmt KnownSuffix KnownDeclaration
    KnownDeclarator KnownInit KnownParameter KnownTypename Core Expr Initializer OptionalExpr Stmt Suffix Declaration
    Declarator Init Parameter Typename (λ k. k.0) (λ k. k.0) (λ k. k.0) (λ k. k.0) (λ k. k.0) (λ k. k.0) (λ k. k.0)
    (λ k. k.0) (λ k. k.0) (λ k. k.0) (λ k. k.0)

abbrev Initializer-K : Type 0
Initializer-K = Initializer-F KnownCore KnownExpr KnownInitializer KnownOptionalExpr KnownStmt KnownSuffix
    KnownDeclaration KnownDeclarator KnownInit KnownParameter KnownTypename

abbrev front-Initializer : Initializer-K → Initializer-T
front-Initializer = map-Initializer KnownCore KnownExpr KnownInitializer KnownOptionalExpr KnownStmt KnownSuffix
    KnownDeclaration KnownDeclarator KnownInit KnownParameter KnownTypename Core Expr Initializer OptionalExpr Stmt Suffix
    Declaration Declarator Init Parameter Typename (λ k. k.0) (λ k. k.0) (λ k. k.0) (λ k. k.0) (λ k. k.0) (λ k. k.0)
    (λ k. k.0) (λ k. k.0) (λ k. k.0) (λ k. k.0) (λ k. k.0)

abbrev OptionalExpr-K : Type 0
OptionalExpr-K = OptionalExpr-F KnownCore KnownExpr KnownInitializer KnownOptionalExpr KnownStmt KnownSuffix
    KnownDeclaration KnownDeclarator KnownInit KnownParameter KnownTypename

abbrev front-OptionalExpr : OptionalExpr-K → OptionalExpr-T
front-OptionalExpr = map-OptionalExpr KnownCore KnownExpr KnownInitializer KnownOptionalExpr KnownStmt KnownSuffix
    KnownDeclaration KnownDeclarator KnownInit KnownParameter KnownTypename Core Expr Initializer OptionalExpr Stmt Suffix
    Declaration Declarator Init Parameter Typename (λ k. k.0) (λ k. k.0) (λ k. k.0) (λ k. k.0) (λ k. k.0) (λ k. k.0)
    (λ k. k.0) (λ k. k.0) (λ k. k.0) (λ k. k.0) (λ k. k.0)

abbrev Stmt-K : Type 0
Stmt-K = Stmt-F KnownCore KnownExpr KnownInitializer KnownOptionalExpr KnownStmt KnownSuffix KnownDeclaration
    KnownDeclarator KnownInit KnownParameter KnownTypename

abbrev front-Stmt : Stmt-K → Stmt-T
front-Stmt = map-Stmt KnownCore KnownExpr KnownInitializer KnownOptionalExpr KnownStmt KnownSuffix KnownDeclaration
    KnownDeclarator KnownInit KnownParameter KnownTypename Core Expr Initializer OptionalExpr Stmt Suffix Declaration
    Declarator Init Parameter Typename (λ k. k.0) (λ k. k.0) (λ k. k.0) (λ k. k.0) (λ k. k.0) (λ k. k.0) (λ k. k.0)
    (λ k. k.0) (λ k. k.0) (λ k. k.0) (λ k. k.0)

abbrev Suffix-K : Type 0
Suffix-K = Suffix-F KnownCore KnownExpr KnownInitializer KnownOptionalExpr KnownStmt KnownSuffix KnownDeclaration
    KnownDeclarator KnownInit KnownParameter KnownTypename

abbrev front-Suffix : Suffix-K → Suffix-T
front-Suffix = map-Suffix KnownCore KnownExpr KnownInitializer KnownOptionalExpr KnownStmt KnownSuffix KnownDeclaration
    KnownDeclarator KnownInit KnownParameter KnownTypename Core Expr Initializer OptionalExpr Stmt Suffix Declaration
    Declarator Init Parameter Typename (λ k. k.0) (λ k. k.0) (λ k. k.0) (λ k. k.0) (λ k. k.0) (λ k. k.0) (λ k. k.0)
    (λ k. k.0) (λ k. k.0) (λ k. k.0) (λ k. k.0)

abbrev Declaration-K : Type 0
Declaration-K = Declaration-F KnownCore KnownExpr KnownInitializer KnownOptionalExpr KnownStmt KnownSuffix
    KnownDeclaration KnownDeclarator KnownInit KnownParameter KnownTypename

abbrev front-Declaration : Declaration-K → Declaration-T
front-Declaration = map-Declaration KnownCore KnownExpr KnownInitializer KnownOptionalExpr KnownStmt KnownSuffix
    KnownDeclaration KnownDeclarator KnownInit KnownParameter KnownTypename Core Expr Initializer OptionalExpr Stmt Suffix
    Declaration Declarator Init Parameter Typename (λ k. k.0) (λ k. k.0) (λ k. k.0) (λ k. k.0) (λ k. k.0) (λ k. k.0)
    (λ k. k.0) (λ k. k.0) (λ k. k.0) (λ k. k.0) (λ k. k.0)

abbrev Declarator-K : Type 0
Declarator-K = Declarator-F KnownCore KnownExpr KnownInitializer KnownOptionalExpr KnownStmt KnownSuffix
    KnownDeclaration KnownDeclarator KnownInit KnownParameter KnownTypename

abbrev front-Declarator : Declarator-K → Declarator-T
front-Declarator = map-Declarator KnownCore KnownExpr KnownInitializer KnownOptionalExpr KnownStmt KnownSuffix
    KnownDeclaration KnownDeclarator KnownInit KnownParameter KnownTypename Core Expr Initializer OptionalExpr Stmt Suffix
    Declaration Declarator Init Parameter Typename (λ k. k.0) (λ k. k.0) (λ k. k.0) (λ k. k.0) (λ k. k.0) (λ k. k.0)
    (λ k. k.0) (λ k. k.0) (λ k. k.0) (λ k. k.0) (λ k. k.0)

abbrev Init-K : Type 0
Init-K = Init-F KnownCore KnownExpr KnownInitializer KnownOptionalExpr KnownStmt KnownSuffix KnownDeclaration
    KnownDeclarator KnownInit KnownParameter KnownTypename

abbrev front-Init : Init-K → Init-T
front-Init = map-Init KnownCore KnownExpr KnownInitializer KnownOptionalExpr KnownStmt KnownSuffix KnownDeclaration
    KnownDeclarator KnownInit KnownParameter KnownTypename Core Expr Initializer OptionalExpr Stmt Suffix Declaration
    Declarator Init Parameter Typename (λ k. k.0) (λ k. k.0) (λ k. k.0) (λ k. k.0) (λ k. k.0) (λ k. k.0) (λ k. k.0)
    (λ k. k.0) (λ k. k.0) (λ k. k.0) (λ k. k.0)

abbrev Parameter-K : Type 0
Parameter-K = Parameter-F KnownCore KnownExpr KnownInitializer KnownOptionalExpr KnownStmt KnownSuffix KnownDeclaration
    KnownDeclarator KnownInit KnownParameter KnownTypename

abbrev front-Parameter : Parameter-K → Parameter-T
front-Parameter = map-Parameter KnownCore KnownExpr KnownInitializer KnownOptionalExpr KnownStmt KnownSuffix
    KnownDeclaration KnownDeclarator KnownInit KnownParameter KnownTypename Core Expr Initializer OptionalExpr Stmt Suffix
    Declaration Declarator Init Parameter Typename (λ k. k.0) (λ k. k.0) (λ k. k.0) (λ k. k.0) (λ k. k.0) (λ k. k.0)
    (λ k. k.0) (λ k. k.0) (λ k. k.0) (λ k. k.0) (λ k. k.0)

abbrev Typename-K : Type 0
Typename-K = Typename-F KnownCore KnownExpr KnownInitializer KnownOptionalExpr KnownStmt KnownSuffix KnownDeclaration
    KnownDeclarator KnownInit KnownParameter KnownTypename

abbrev front-Typename : Typename-K → Typename-T
front-Typename = map-Typename KnownCore KnownExpr KnownInitializer KnownOptionalExpr KnownStmt KnownSuffix
    KnownDeclaration KnownDeclarator KnownInit KnownParameter KnownTypename Core Expr Initializer OptionalExpr Stmt Suffix
    Declaration Declarator Init Parameter Typename (λ k. k.0) (λ k. k.0) (λ k. k.0) (λ k. k.0) (λ k. k.0) (λ k. k.0)
    (λ k. k.0) (λ k. k.0) (λ k. k.0) (λ k. k.0) (λ k. k.0)

each_known : {A B : Type 0} (P : ℕ → B → Type 0) (weigh : A → ℕ) (walk : A → B)
    (ks : List ((x : A) × P (weigh x) (walk x))) →
    Each P (total (map weigh (map (λ k. k.0) ks))) (map walk (map (λ k. k.0) ks))
each_known P weigh walk [] = none
each_known P weigh walk (k ∷ ks) = more k.1 (each_known P weigh walk ks)

nodes_known : (ks : List KnownExpr) →
    Each LightNode (total (map weight (map (λ k. k.0) ks))) (map node (map (λ k. k.0) ks))
nodes_known ks = each_known LightNode weight node ks

items_known : (ks : List KnownStmt) →
    Each LightItem (total (map statement_weight (map (λ k. k.0) ks))) (map item (map (λ k. k.0) ks))
items_known ks = each_known LightItem statement_weight item ks

-- ---- the layers

layer-Core : (y : Core-K) →
    LightShape (core_nodes (weighed-Core (front-Core y))) (core_rule (walked-Core (front-Core y)))
layer-Core Core-F.Core::Absent = record { at = λ g. weak 1 (pure_light []) (omega arith) }
layer-Core (Core-F.Core::Name n x) = record { at = λ g. weak 1 (pure_light []) (omega arith) }
layer-Core (Core-F.Core::Paren d) = record { at = λ g. weak _ (d.1.at g) (omega arith) }

layer-Expr : (y : Expr-K) →
    LightNode (expr_nodes (weighed-Expr (front-Expr y))) (expr_rule (walked-Expr (front-Expr y)))
layer-Expr (Expr-F.Expr::Name n x) = record { at = λ g. named_light n g x }
layer-Expr (Expr-F.Number n u) = record { at = λ g. weak 1 (pure_light (nodes.number n u)) (omega arith) }
layer-Expr (Expr-F.Character n) = record { at = λ g. weak 1 (pure_light (nodes.character n)) (omega arith) }
layer-Expr (Expr-F.String x) = record { at = λ g. e.string_light x }
layer-Expr (Expr-F.Expr::Paren a) = record { at = λ g. e.paren_light (node a.0) g a.1 }
layer-Expr (Expr-F.Compile n a t) = record { at = λ g. e.compile_light n (node a.0) (named t.0) g a.1 t.1 }
layer-Expr (Expr-F.Expr::Local n t) = record { at = λ g. e.local_light n (named t.0) g t.1 }
layer-Expr (Expr-F.Param n t a) = record { at = λ g. e.parameter_light n (named t.0) (node a.0) g t.1 a.1 }
layer-Expr (Expr-F.Index n ab) = record { at = λ g. e.index_light n (node ab.0.0) (node ab.1.0) g ab.0.1 ab.1.1 }
layer-Expr (Expr-F.Call n a xs) = record { at = λ g. e.call_light n (node a.0) _ g a.1 (nodes_known xs) }
layer-Expr (Expr-F.Step n o a) = record { at = λ g. e.post_light n o (node a.0) g a.1 }
layer-Expr (Expr-F.Unary n o a) = record { at = λ g. e.unary_light n o (node a.0) g a.1 }
layer-Expr (Expr-F.Tick n a) = record { at = λ g. e.tick_light n (node a.0) g a.1 }
layer-Expr (Expr-F.TickBlock n ss) = record { at = λ g. e.tick_block_light n _ g (items_known ss) }
layer-Expr (Expr-F.Cast n t a) = record { at = λ g. e.cast_light n (named t.0) (node a.0) g t.1 a.1 }
layer-Expr (Expr-F.Sizeof n t) = record { at = λ g. e.size_light n (named t.0) g t.1 }
layer-Expr (Expr-F.Binary n o ab) = record { at = λ g. e.binary_light n o (node ab.0.0) (node ab.1.0) g ab.0.1 ab.1.1 }
layer-Expr (Expr-F.Choice n a c d) =
    record { at = λ g. e.choice_light n (node a.0) (node c.0) (node d.0) g a.1 c.1 d.1 }
layer-Expr (Expr-F.Assign n ab) = record { at = λ g. e.assign_light n (node ab.0.0) (node ab.1.0) g ab.0.1 ab.1.1 }
layer-Expr (Expr-F.Modify n o ab) = record { at = λ g. e.modify_light n o (node ab.0.0) (node ab.1.0) g ab.0.1 ab.1.1 }
layer-Expr (Expr-F.Comma n ab) = record { at = λ g. e.comma_light (node ab.0.0) (node ab.1.0) g ab.0.1 ab.1.1 }

layer-Initializer : (y : Initializer-K) →
    LightStart (initializer_nodes (weighed-Initializer (front-Initializer y)))
    (start_rule (walked-Initializer (front-Initializer y)))
layer-Initializer Initializer-F.Initializer::Absent = nothing
layer-Initializer (Initializer-F.Value a) = value (record { at = λ g. weak _ (a.1.at g) (omega arith) })
layer-Initializer (Initializer-F.List xs comma) = values (omega arith) (nodes_known xs)

layer-OptionalExpr : (y : OptionalExpr-K) →
    LightOptional (optional_nodes (weighed-OptionalExpr (front-OptionalExpr y)))
    (optional_rule (walked-OptionalExpr (front-OptionalExpr y)))
layer-OptionalExpr OptionalExpr-F.OptionalExpr::Absent = absent
layer-OptionalExpr (OptionalExpr-F.Present a) = present (record { at = λ g. weak _ (a.1.at g) (omega arith) })

layer-Stmt : (y : Stmt-K) →
    LightItem (statement_nodes (weighed-Stmt (front-Stmt y))) (stmt_rule (walked-Stmt (front-Stmt y)))
layer-Stmt Stmt-F.Empty = record { at = λ a. weak 1 (pure_light statement_rules.empty) (omega arith) }
layer-Stmt (Stmt-F.Expr x) = record { at = λ a. s.alone_light (node x.0) a x.1 }
layer-Stmt (Stmt-F.Block ss) = record { at = λ a. s.block_alone_light _ a (items_known ss) }
layer-Stmt (Stmt-F.Stmt::Local x) =
    record { at = λ a. weak _ (d.declaration_light (declaration x.0) a.stage x.1) (omega arith) }
layer-Stmt (Stmt-F.If n x i) = record { at = λ a. s.if_then_light n (node x.0) (item i.0) a x.1 i.1 }
layer-Stmt (Stmt-F.IfElse n x i j) =
    record { at = λ a. s.if_else_light n (node x.0) (item i.0) (item j.0) a x.1 i.1 j.1 }
layer-Stmt (Stmt-F.While n x i) = record { at = λ a. s.while_light n (node x.0) (item i.0) a x.1 i.1 }
layer-Stmt (Stmt-F.Do n i x) = record { at = λ a. s.do_light n (item i.0) (node x.0) a i.1 x.1 }
layer-Stmt (Stmt-F.For n i x y j) =
    record { at = λ a. s.for_light n (item i.0) (optional x.0) (optional y.0) (item j.0) a i.1 x.1 y.1 j.1 }
layer-Stmt (Stmt-F.Switch n x ss) = record { at = λ a. s.switch_light n (node x.0) _ a x.1 (items_known ss) }
layer-Stmt (Stmt-F.Case n x) = record { at = λ a. s.case_light n (node x.0) a x.1 }
layer-Stmt (Stmt-F.Default n) = record { at = λ a. weak 1 (s.default_light n a) (omega arith) }
layer-Stmt (Stmt-F.Break n) = record { at = λ a. weak 1 (lift_light _) (omega arith) }
layer-Stmt (Stmt-F.Continue n) = record { at = λ a. weak 1 (lift_light _) (omega arith) }
layer-Stmt (Stmt-F.Return n x) = record { at = λ a. s.returning_light n (optional x.0) a x.1 }

layer-Suffix : (y : Suffix-K) →
    LightSuffixWalk (suffix_nodes (weighed-Suffix (front-Suffix y))) (suffix_walk (walked-Suffix (front-Suffix y)))
layer-Suffix (Suffix-F.Array x) = record { at = λ g. s.length_light (optional x.0) g x.1 }
layer-Suffix Suffix-F.Unlisted = record { at = λ g. weak 1 (pure_light _) (omega arith) }
layer-Suffix Suffix-F.Nothing = record { at = λ g. weak 1 (pure_light _) (omega arith) }
layer-Suffix (Suffix-F.Listed ps) =
    record {
      at = λ g. s.list_light (type_walks (map parameter (map (λ k. k.0) ps))) g
          (d.each_parameter (map parameter (map (λ k. k.0) ps)) (each_known LightTypeWalk parameter_weight parameter ps));
    }

layer-Declaration : (y : Declaration-K) →
    LightDeclarations (declaration_nodes (weighed-Declaration (front-Declaration y)))
    (declaration_rule (walked-Declaration (front-Declaration y)))
layer-Declaration y = record { sum = _; inits = each_known LightInit init_weight init y.inits; is = omega arith }

layer-Declarator : (y : Declarator-K) →
    LightShape (declarator_nodes (weighed-Declarator (front-Declarator y)))
    (declarator_rule (walked-Declarator (front-Declarator y)))
layer-Declarator y = d.declarator_light (core y.core.0) _ y.prefixes y.core.1
    (each_known LightSuffixWalk suffix_weight suffix y.suffixes)

layer-Init : (y : Init-K) →
    LightInit (init_nodes (weighed-Init (front-Init y))) (init_rule (walked-Init (front-Init y)))
layer-Init y = record {
  shape_weight = _;
  start_weight = _;
  shape = y.declarator.1;
  start = y.value.1;
  is =
      omega arith;
}

layer-Parameter : (y : Parameter-K) →
    LightTypeWalk (parameter_nodes (weighed-Parameter (front-Parameter y)))
    (parameter_rule (walked-Parameter (front-Parameter y)))
layer-Parameter y = d.parameter_light y.line y.base (shape y.declarator.0) y.declarator.1

layer-Typename : (y : Typename-K) →
    LightNamed (typename_nodes (weighed-Typename (front-Typename y))) (typename_rule (walked-Typename (front-Typename y)))
layer-Typename y = d.typename_light y.base (shape y.declarator.0) y.declarator.1

-- ---- the induction

step-Core : (x : Core-T) (y : Core-K) → front-Core y ≡ x → CoreLight (roll-Core x)
step-Core x y is =
    subst (λ z. CoreLight (roll-Core z)) is
    (subst (λ w. LightShape w (core (roll-Core (front-Core y)))) (sym (weigh-Core (front-Core y)))
    (subst (λ v. LightShape (core_nodes (weighed-Core (front-Core y))) v) (sym (walk-Core (front-Core y)))
    (layer-Core y)))

step-Expr : (x : Expr-T) (y : Expr-K) → front-Expr y ≡ x → ExprLight (roll-Expr x)
step-Expr x y is =
    subst (λ z. ExprLight (roll-Expr z)) is
    (subst (λ w. LightNode w (node (roll-Expr (front-Expr y)))) (sym (weigh-Expr (front-Expr y)))
    (subst (λ v. LightNode (expr_nodes (weighed-Expr (front-Expr y))) v) (sym (walk-Expr (front-Expr y)))
    (layer-Expr y)))

step-Initializer : (x : Initializer-T) (y : Initializer-K) → front-Initializer y ≡ x →
    InitializerLight (roll-Initializer x)
step-Initializer x y is =
    subst (λ z. InitializerLight (roll-Initializer z)) is
    (subst (λ w. LightStart w (initializer (roll-Initializer (front-Initializer y))))
    (sym (weigh-Initializer (front-Initializer y)))
    (subst (λ v. LightStart (initializer_nodes (weighed-Initializer (front-Initializer y))) v)
    (sym (walk-Initializer (front-Initializer y))) (layer-Initializer y)))

step-OptionalExpr : (x : OptionalExpr-T) (y : OptionalExpr-K) → front-OptionalExpr y ≡ x →
    OptionalExprLight (roll-OptionalExpr x)
step-OptionalExpr x y is =
    subst (λ z. OptionalExprLight (roll-OptionalExpr z)) is
    (subst (λ w. LightOptional w (optional (roll-OptionalExpr (front-OptionalExpr y))))
    (sym (weigh-OptionalExpr (front-OptionalExpr y)))
    (subst (λ v. LightOptional (optional_nodes (weighed-OptionalExpr (front-OptionalExpr y))) v)
    (sym (walk-OptionalExpr (front-OptionalExpr y))) (layer-OptionalExpr y)))

step-Stmt : (x : Stmt-T) (y : Stmt-K) → front-Stmt y ≡ x → StmtLight (roll-Stmt x)
step-Stmt x y is =
    subst (λ z. StmtLight (roll-Stmt z)) is
    (subst (λ w. LightItem w (item (roll-Stmt (front-Stmt y)))) (sym (weigh-Stmt (front-Stmt y)))
    (subst (λ v. LightItem (statement_nodes (weighed-Stmt (front-Stmt y))) v) (sym (walk-Stmt (front-Stmt y)))
    (layer-Stmt y)))

step-Suffix : (x : Suffix-T) (y : Suffix-K) → front-Suffix y ≡ x → SuffixLight (roll-Suffix x)
step-Suffix x y is =
    subst (λ z. SuffixLight (roll-Suffix z)) is
    (subst (λ w. LightSuffixWalk w (suffix (roll-Suffix (front-Suffix y)))) (sym (weigh-Suffix (front-Suffix y)))
    (subst (λ v. LightSuffixWalk (suffix_nodes (weighed-Suffix (front-Suffix y))) v)
    (sym (walk-Suffix (front-Suffix y))) (layer-Suffix y)))

step-Declaration : (x : Declaration-T) (y : Declaration-K) → front-Declaration y ≡ x →
    DeclarationLight (roll-Declaration x)
step-Declaration x y is =
    subst (λ z. DeclarationLight (roll-Declaration z)) is
    (subst (λ w. LightDeclarations w (declaration (roll-Declaration (front-Declaration y))))
    (sym (weigh-Declaration (front-Declaration y)))
    (subst (λ v. LightDeclarations (declaration_nodes (weighed-Declaration (front-Declaration y))) v)
    (sym (walk-Declaration (front-Declaration y))) (layer-Declaration y)))

step-Declarator : (x : Declarator-T) (y : Declarator-K) → front-Declarator y ≡ x → DeclaratorLight (roll-Declarator x)
step-Declarator x y is =
    subst (λ z. DeclaratorLight (roll-Declarator z)) is
    (subst (λ w. LightShape w (shape (roll-Declarator (front-Declarator y))))
    (sym (weigh-Declarator (front-Declarator y)))
    (subst (λ v. LightShape (declarator_nodes (weighed-Declarator (front-Declarator y))) v)
    (sym (walk-Declarator (front-Declarator y))) (layer-Declarator y)))

step-Init : (x : Init-T) (y : Init-K) → front-Init y ≡ x → InitLight (roll-Init x)
step-Init x y is =
    subst (λ z. InitLight (roll-Init z)) is
    (subst (λ w. LightInit w (init (roll-Init (front-Init y)))) (sym (weigh-Init (front-Init y)))
    (subst (λ v. LightInit (init_nodes (weighed-Init (front-Init y))) v) (sym (walk-Init (front-Init y)))
    (layer-Init y)))

step-Parameter : (x : Parameter-T) (y : Parameter-K) → front-Parameter y ≡ x → ParameterLight (roll-Parameter x)
step-Parameter x y is =
    subst (λ z. ParameterLight (roll-Parameter z)) is
    (subst (λ w. LightTypeWalk w (parameter (roll-Parameter (front-Parameter y))))
    (sym (weigh-Parameter (front-Parameter y)))
    (subst (λ v. LightTypeWalk (parameter_nodes (weighed-Parameter (front-Parameter y))) v)
    (sym (walk-Parameter (front-Parameter y))) (layer-Parameter y)))

step-Typename : (x : Typename-T) (y : Typename-K) → front-Typename y ≡ x → TypenameLight (roll-Typename x)
step-Typename x y is =
    subst (λ z. TypenameLight (roll-Typename z)) is
    (subst (λ w. LightNamed w (named (roll-Typename (front-Typename y)))) (sym (weigh-Typename (front-Typename y)))
    (subst (λ v. LightNamed (typename_nodes (weighed-Typename (front-Typename y))) v)
    (sym (walk-Typename (front-Typename y))) (layer-Typename y)))

pub core_light : (x : Core) → CoreLight x
core_light = ind-Core CoreLight ExprLight InitializerLight OptionalExprLight StmtLight SuffixLight DeclarationLight
    DeclaratorLight InitLight ParameterLight TypenameLight step-Core step-Expr step-Initializer step-OptionalExpr
    step-Stmt step-Suffix step-Declaration step-Declarator step-Init step-Parameter step-Typename

pub expr_light : (x : Expr) → ExprLight x
expr_light = ind-Expr CoreLight ExprLight InitializerLight OptionalExprLight StmtLight SuffixLight DeclarationLight
    DeclaratorLight InitLight ParameterLight TypenameLight step-Core step-Expr step-Initializer step-OptionalExpr
    step-Stmt step-Suffix step-Declaration step-Declarator step-Init step-Parameter step-Typename

pub initializer_light : (x : Initializer) → InitializerLight x
initializer_light = ind-Initializer CoreLight ExprLight InitializerLight OptionalExprLight StmtLight SuffixLight
    DeclarationLight DeclaratorLight InitLight ParameterLight TypenameLight step-Core step-Expr step-Initializer
    step-OptionalExpr step-Stmt step-Suffix step-Declaration step-Declarator step-Init step-Parameter step-Typename

pub optionalexpr_light : (x : OptionalExpr) → OptionalExprLight x
optionalexpr_light = ind-OptionalExpr CoreLight ExprLight InitializerLight OptionalExprLight StmtLight SuffixLight
    DeclarationLight DeclaratorLight InitLight ParameterLight TypenameLight step-Core step-Expr step-Initializer
    step-OptionalExpr step-Stmt step-Suffix step-Declaration step-Declarator step-Init step-Parameter step-Typename

pub stmt_light : (x : Stmt) → StmtLight x
stmt_light = ind-Stmt CoreLight ExprLight InitializerLight OptionalExprLight StmtLight SuffixLight DeclarationLight
    DeclaratorLight InitLight ParameterLight TypenameLight step-Core step-Expr step-Initializer step-OptionalExpr
    step-Stmt step-Suffix step-Declaration step-Declarator step-Init step-Parameter step-Typename

pub suffix_light : (x : Suffix) → SuffixLight x
suffix_light = ind-Suffix CoreLight ExprLight InitializerLight OptionalExprLight StmtLight SuffixLight DeclarationLight
    DeclaratorLight InitLight ParameterLight TypenameLight step-Core step-Expr step-Initializer step-OptionalExpr
    step-Stmt step-Suffix step-Declaration step-Declarator step-Init step-Parameter step-Typename

pub declaration_light : (x : Declaration) → DeclarationLight x
declaration_light = ind-Declaration CoreLight ExprLight InitializerLight OptionalExprLight StmtLight SuffixLight
    DeclarationLight DeclaratorLight InitLight ParameterLight TypenameLight step-Core step-Expr step-Initializer
    step-OptionalExpr step-Stmt step-Suffix step-Declaration step-Declarator step-Init step-Parameter step-Typename

pub declarator_light : (x : Declarator) → DeclaratorLight x
declarator_light = ind-Declarator CoreLight ExprLight InitializerLight OptionalExprLight StmtLight SuffixLight
    DeclarationLight DeclaratorLight InitLight ParameterLight TypenameLight step-Core step-Expr step-Initializer
    step-OptionalExpr step-Stmt step-Suffix step-Declaration step-Declarator step-Init step-Parameter step-Typename

pub init_light : (x : Init) → InitLight x
init_light = ind-Init CoreLight ExprLight InitializerLight OptionalExprLight StmtLight SuffixLight DeclarationLight
    DeclaratorLight InitLight ParameterLight TypenameLight step-Core step-Expr step-Initializer step-OptionalExpr
    step-Stmt step-Suffix step-Declaration step-Declarator step-Init step-Parameter step-Typename

pub parameter_light : (x : Parameter) → ParameterLight x
parameter_light = ind-Parameter CoreLight ExprLight InitializerLight OptionalExprLight StmtLight SuffixLight
    DeclarationLight DeclaratorLight InitLight ParameterLight TypenameLight step-Core step-Expr step-Initializer
    step-OptionalExpr step-Stmt step-Suffix step-Declaration step-Declarator step-Init step-Parameter step-Typename

pub typename_light : (x : Typename) → TypenameLight x
typename_light = ind-Typename CoreLight ExprLight InitializerLight OptionalExprLight StmtLight SuffixLight
    DeclarationLight DeclaratorLight InitLight ParameterLight TypenameLight step-Core step-Expr step-Initializer
    step-OptionalExpr step-Stmt step-Suffix step-Declaration step-Declarator step-Init step-Parameter step-Typename
