-- The weight of a part of a tree: the number of its nodes, where a prefix of a declarator is none. The counts that the
-- checker's walk keeps grow by at most the weight of what is walked. Written by tools/checker/weights.py.
use Rattle.std.specs.Prelude.{ℕ, ◌+◌, List, [], ◌∷◌, map}
use Rattle.tick_tree.specs.declared.syntax.Core.{Core}
use Rattle.tick_tree.specs.declared.syntax.Expr.{Expr}
use Rattle.tick_tree.specs.declared.syntax.Initializer.{Initializer}
use Rattle.tick_tree.specs.declared.syntax.OptionalExpr.{OptionalExpr}
use Rattle.tick_tree.specs.declared.syntax.Stmt.{Stmt}
use Rattle.tick_tree.specs.declared.syntax.Suffix.{Suffix}
use Rattle.tick_tree.specs.declared.syntax.Declaration.{Declaration}
use Rattle.tick_tree.specs.declared.syntax.Declarator.{Declarator}
use Rattle.tick_tree.specs.declared.syntax.Init.{Init}
use Rattle.tick_tree.specs.declared.syntax.Parameter.{Parameter}
use Rattle.tick_tree.specs.declared.syntax.Typename.{Typename}
use Rattle.tick_tree.specs.declared.syntax.External.{External}
use Rattle.tick_tree.specs.declared.syntax.External.TheVariants as ext
use Rattle.tick_tree.specs.Items.{TreeItems}
use Rattle.tick_tree.specs.declared.syntax.Core.TheOpen.{Core-F, Expr-F, Initializer-F, OptionalExpr-F, Stmt-F}
use Rattle.tick_tree.specs.declared.syntax.Core.TheOpen.{Suffix-F, Declaration-F, Declarator-F, Init-F, Parameter-F}
use Rattle.tick_tree.specs.declared.syntax.Core.TheOpen.{Typename-F}
use Rattle.tick_tree.specs.declared.syntax.Core.TheFolds.{fold-Core, fold-Expr, fold-Initializer, fold-OptionalExpr}
use Rattle.tick_tree.specs.declared.syntax.Core.TheFolds.{fold-Stmt, fold-Suffix, fold-Declaration, fold-Declarator}
use Rattle.tick_tree.specs.declared.syntax.Core.TheFolds.{fold-Init, fold-Parameter, fold-Typename}

abbrev pub total : List ℕ → ℕ
total [] = 0
total (n ∷ ns) = n + total ns

-- ---- a layer of the tree, with the weights of its parts in their places

abbrev pub Core-N : Type 0
Core-N = Core-F ℕ ℕ ℕ ℕ ℕ ℕ ℕ ℕ ℕ ℕ ℕ

abbrev pub Expr-N : Type 0
Expr-N = Expr-F ℕ ℕ ℕ ℕ ℕ ℕ ℕ ℕ ℕ ℕ ℕ

abbrev pub Initializer-N : Type 0
Initializer-N = Initializer-F ℕ ℕ ℕ ℕ ℕ ℕ ℕ ℕ ℕ ℕ ℕ

abbrev pub OptionalExpr-N : Type 0
OptionalExpr-N = OptionalExpr-F ℕ ℕ ℕ ℕ ℕ ℕ ℕ ℕ ℕ ℕ ℕ

abbrev pub Stmt-N : Type 0
Stmt-N = Stmt-F ℕ ℕ ℕ ℕ ℕ ℕ ℕ ℕ ℕ ℕ ℕ

abbrev pub Suffix-N : Type 0
Suffix-N = Suffix-F ℕ ℕ ℕ ℕ ℕ ℕ ℕ ℕ ℕ ℕ ℕ

abbrev pub Declaration-N : Type 0
Declaration-N = Declaration-F ℕ ℕ ℕ ℕ ℕ ℕ ℕ ℕ ℕ ℕ ℕ

abbrev pub Declarator-N : Type 0
Declarator-N = Declarator-F ℕ ℕ ℕ ℕ ℕ ℕ ℕ ℕ ℕ ℕ ℕ

abbrev pub Init-N : Type 0
Init-N = Init-F ℕ ℕ ℕ ℕ ℕ ℕ ℕ ℕ ℕ ℕ ℕ

abbrev pub Parameter-N : Type 0
Parameter-N = Parameter-F ℕ ℕ ℕ ℕ ℕ ℕ ℕ ℕ ℕ ℕ ℕ

abbrev pub Typename-N : Type 0
Typename-N = Typename-F ℕ ℕ ℕ ℕ ℕ ℕ ℕ ℕ ℕ ℕ ℕ

abbrev pub core_nodes : Core-N → ℕ
core_nodes Core-F.Core::Absent = 1
core_nodes (Core-F.Core::Name n text) = 1
core_nodes (Core-F.Core::Paren d) = 1 + d

abbrev pub expr_nodes : Expr-N → ℕ
expr_nodes (Expr-F.Expr::Name n text) = 1
expr_nodes (Expr-F.Number n u) = 1
expr_nodes (Expr-F.Character n) = 1
expr_nodes (Expr-F.String text) = 1
expr_nodes (Expr-F.Expr::Paren a) = 1 + a
expr_nodes (Expr-F.Compile n a t) = 1 + (a + t)
expr_nodes (Expr-F.Expr::Local n t) = 1 + t
expr_nodes (Expr-F.Param n t a) = 1 + (t + a)
expr_nodes (Expr-F.Index n ab) = 1 + (ab.0 + ab.1)
expr_nodes (Expr-F.Call n a list) = 1 + (a + total list)
expr_nodes (Expr-F.Step n op a) = 1 + a
expr_nodes (Expr-F.Unary n op a) = 1 + a
expr_nodes (Expr-F.Tick n a) = 1 + a
expr_nodes (Expr-F.TickBlock n items) = 1 + total items
expr_nodes (Expr-F.Cast n t a) = 1 + (t + a)
expr_nodes (Expr-F.Sizeof n t) = 1 + t
expr_nodes (Expr-F.Binary n op ab) = 1 + (ab.0 + ab.1)
expr_nodes (Expr-F.Choice n c a b) = 1 + (c + (a + b))
expr_nodes (Expr-F.Assign n ab) = 1 + (ab.0 + ab.1)
expr_nodes (Expr-F.Modify n op ab) = 1 + (ab.0 + ab.1)
expr_nodes (Expr-F.Comma n ab) = 1 + (ab.0 + ab.1)

abbrev pub initializer_nodes : Initializer-N → ℕ
initializer_nodes Initializer-F.Initializer::Absent = 1
initializer_nodes (Initializer-F.Value e) = 1 + e
initializer_nodes (Initializer-F.List es comma) = 1 + total es

abbrev pub optional_nodes : OptionalExpr-N → ℕ
optional_nodes OptionalExpr-F.OptionalExpr::Absent = 1
optional_nodes (OptionalExpr-F.Present e) = 1 + e

abbrev pub statement_nodes : Stmt-N → ℕ
statement_nodes Stmt-F.Empty = 1
statement_nodes (Stmt-F.Expr e) = 1 + e
statement_nodes (Stmt-F.Block items) = 1 + total items
statement_nodes (Stmt-F.Stmt::Local d) = 1 + d
statement_nodes (Stmt-F.If n c i) = 1 + (c + i)
statement_nodes (Stmt-F.IfElse n c i j) = 1 + (c + (i + j))
statement_nodes (Stmt-F.While n c i) = 1 + (c + i)
statement_nodes (Stmt-F.Do n i c) = 1 + (i + c)
statement_nodes (Stmt-F.For n first c s i) = 1 + (first + (c + (s + i)))
statement_nodes (Stmt-F.Switch n e items) = 1 + (e + total items)
statement_nodes (Stmt-F.Case n e) = 1 + e
statement_nodes (Stmt-F.Default n) = 1
statement_nodes (Stmt-F.Break n) = 1
statement_nodes (Stmt-F.Continue n) = 1
statement_nodes (Stmt-F.Return n e) = 1 + e

abbrev pub suffix_nodes : Suffix-N → ℕ
suffix_nodes (Suffix-F.Array e) = 1 + e
suffix_nodes Suffix-F.Unlisted = 1
suffix_nodes Suffix-F.Nothing = 1
suffix_nodes (Suffix-F.Listed ps) = 1 + total ps

abbrev pub declaration_nodes : Declaration-N → ℕ
declaration_nodes d = 1 + total d.inits

abbrev pub declarator_nodes : Declarator-N → ℕ
declarator_nodes d = 1 + (d.core + total d.suffixes)

abbrev pub init_nodes : Init-N → ℕ
init_nodes i = 1 + (i.declarator + i.value)

abbrev pub parameter_nodes : Parameter-N → ℕ
parameter_nodes p = 1 + p.declarator

abbrev pub typename_nodes : Typename-N → ℕ
typename_nodes t = 1 + t.declarator

-- ---- the weight of each type of the tree

unfoldable pub core_weight : Core → ℕ
core_weight = fold-Core ℕ ℕ ℕ ℕ ℕ ℕ ℕ ℕ ℕ ℕ ℕ core_nodes expr_nodes initializer_nodes optional_nodes statement_nodes
    suffix_nodes declaration_nodes declarator_nodes init_nodes parameter_nodes typename_nodes

unfoldable pub weight : Expr → ℕ
weight = fold-Expr ℕ ℕ ℕ ℕ ℕ ℕ ℕ ℕ ℕ ℕ ℕ core_nodes expr_nodes initializer_nodes optional_nodes statement_nodes
    suffix_nodes declaration_nodes declarator_nodes init_nodes parameter_nodes typename_nodes

unfoldable pub initializer_weight : Initializer → ℕ
initializer_weight = fold-Initializer ℕ ℕ ℕ ℕ ℕ ℕ ℕ ℕ ℕ ℕ ℕ core_nodes expr_nodes initializer_nodes optional_nodes
    statement_nodes suffix_nodes declaration_nodes declarator_nodes init_nodes parameter_nodes typename_nodes

unfoldable pub optional_weight : OptionalExpr → ℕ
optional_weight = fold-OptionalExpr ℕ ℕ ℕ ℕ ℕ ℕ ℕ ℕ ℕ ℕ ℕ core_nodes expr_nodes initializer_nodes optional_nodes
    statement_nodes suffix_nodes declaration_nodes declarator_nodes init_nodes parameter_nodes typename_nodes

unfoldable pub statement_weight : Stmt → ℕ
statement_weight = fold-Stmt ℕ ℕ ℕ ℕ ℕ ℕ ℕ ℕ ℕ ℕ ℕ core_nodes expr_nodes initializer_nodes optional_nodes
    statement_nodes suffix_nodes declaration_nodes declarator_nodes init_nodes parameter_nodes typename_nodes

unfoldable pub suffix_weight : Suffix → ℕ
suffix_weight = fold-Suffix ℕ ℕ ℕ ℕ ℕ ℕ ℕ ℕ ℕ ℕ ℕ core_nodes expr_nodes initializer_nodes optional_nodes statement_nodes
    suffix_nodes declaration_nodes declarator_nodes init_nodes parameter_nodes typename_nodes

unfoldable pub declaration_weight : Declaration → ℕ
declaration_weight = fold-Declaration ℕ ℕ ℕ ℕ ℕ ℕ ℕ ℕ ℕ ℕ ℕ core_nodes expr_nodes initializer_nodes optional_nodes
    statement_nodes suffix_nodes declaration_nodes declarator_nodes init_nodes parameter_nodes typename_nodes

unfoldable pub declarator_weight : Declarator → ℕ
declarator_weight = fold-Declarator ℕ ℕ ℕ ℕ ℕ ℕ ℕ ℕ ℕ ℕ ℕ core_nodes expr_nodes initializer_nodes optional_nodes
    statement_nodes suffix_nodes declaration_nodes declarator_nodes init_nodes parameter_nodes typename_nodes

unfoldable pub init_weight : Init → ℕ
init_weight = fold-Init ℕ ℕ ℕ ℕ ℕ ℕ ℕ ℕ ℕ ℕ ℕ core_nodes expr_nodes initializer_nodes optional_nodes statement_nodes
    suffix_nodes declaration_nodes declarator_nodes init_nodes parameter_nodes typename_nodes

unfoldable pub parameter_weight : Parameter → ℕ
parameter_weight = fold-Parameter ℕ ℕ ℕ ℕ ℕ ℕ ℕ ℕ ℕ ℕ ℕ core_nodes expr_nodes initializer_nodes optional_nodes
    statement_nodes suffix_nodes declaration_nodes declarator_nodes init_nodes parameter_nodes typename_nodes

unfoldable pub typename_weight : Typename → ℕ
typename_weight = fold-Typename ℕ ℕ ℕ ℕ ℕ ℕ ℕ ℕ ℕ ℕ ℕ core_nodes expr_nodes initializer_nodes optional_nodes
    statement_nodes suffix_nodes declaration_nodes declarator_nodes init_nodes parameter_nodes typename_nodes

-- ---- programs

abbrev pub item_weight : External → ℕ
item_weight (ext.Function n b d items) = 1 + (declarator_weight d + total (map statement_weight items))
item_weight (ext.Declaration d) = 1 + declaration_weight d

abbrev pub tree_weight : TreeItems → ℕ
tree_weight t = 1 + total (map item_weight t.items)
