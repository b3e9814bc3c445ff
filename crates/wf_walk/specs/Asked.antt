-- What is asked of each value that the walk makes of a part of a tree, and of the parts of a layer.
use Rattle.std.specs.Prelude.{List, Option}
use Rattle.tick_tree.specs.declared.syntax.Core.TheOpen.{Core-F, Expr-F, Initializer-F, OptionalExpr-F, Stmt-F}
use Rattle.tick_tree.specs.declared.syntax.Core.TheOpen.{Suffix-F}
use Rattle.check_rules.specs.ExpressionRules.{Node, Named, Shape, Item}
use Rattle.check_rules.specs.Walk.{Start, InitParts, Declarations, SuffixWalk, TypeWalk, Core-W, Expr-W, Initializer-W}
use Rattle.check_rules.specs.Walk.{OptionalExpr-W, Stmt-W, Suffix-W, Declaration-W, Declarator-W, Init-W, Parameter-W}
use Rattle.check_rules.specs.Walk.{Typename-W, core_rule, expr_rule, start_rule, optional_rule, stmt_rule, suffix_walk}
use Rattle.check_rules.specs.Walk.{declaration_rule, declarator_rule, init_rule, parameter_rule, typename_rule}
use Rattle.wf_walk.specs.Parts.{EachPart}

pub record Asked : Type 1 where
  pub shape : Shape → Type 0
  pub node : Node → Type 0
  pub start : Start → Type 0
  pub optional : Option Node → Type 0
  pub item : Item → Type 0
  pub suffix : SuffixWalk → Type 0
  pub declarations : Declarations → Type 0
  pub init : InitParts → Type 0
  pub parameter : TypeWalk → Type 0
  pub named : Named → Type 0

-- ---- the parts of a layer

abbrev pub EveryCore : Asked → Core-W → Type 0
EveryCore q Core-F.Core::Absent = Unit {0}
EveryCore q (Core-F.Core::Name n text) = Unit {0}
EveryCore q (Core-F.Core::Paren d) = q.shape d

abbrev pub EveryExpr : Asked → Expr-W → Type 0
EveryExpr q (Expr-F.Expr::Name line name) = Unit {0}
EveryExpr q (Expr-F.Number n unsigned) = Unit {0}
EveryExpr q (Expr-F.Character n) = Unit {0}
EveryExpr q (Expr-F.String bytes) = Unit {0}
EveryExpr q (Expr-F.Expr::Paren a) = q.node a
EveryExpr q (Expr-F.Compile line a t) = q.node a × q.named t
EveryExpr q (Expr-F.Expr::Local line t) = q.named t
EveryExpr q (Expr-F.Param line t a) = q.named t × q.node a
EveryExpr q (Expr-F.Index line ab) = q.node ab.0 × q.node ab.1
EveryExpr q (Expr-F.Call line a list) = q.node a × EachPart q.node list
EveryExpr q (Expr-F.Step line op a) = q.node a
EveryExpr q (Expr-F.Unary line op a) = q.node a
EveryExpr q (Expr-F.Tick line a) = q.node a
EveryExpr q (Expr-F.TickBlock line items) = EachPart q.item items
EveryExpr q (Expr-F.Cast line t a) = q.named t × q.node a
EveryExpr q (Expr-F.Sizeof line t) = q.named t
EveryExpr q (Expr-F.Binary line op ab) = q.node ab.0 × q.node ab.1
EveryExpr q (Expr-F.Choice line c a b) = q.node c × q.node a × q.node b
EveryExpr q (Expr-F.Assign line ab) = q.node ab.0 × q.node ab.1
EveryExpr q (Expr-F.Modify line op ab) = q.node ab.0 × q.node ab.1
EveryExpr q (Expr-F.Comma line ab) = q.node ab.0 × q.node ab.1

abbrev pub EveryInitializer : Asked → Initializer-W → Type 0
EveryInitializer q Initializer-F.Initializer::Absent = Unit {0}
EveryInitializer q (Initializer-F.Value e) = q.node e
EveryInitializer q (Initializer-F.List es comma) = EachPart q.node es

abbrev pub EveryOptionalExpr : Asked → OptionalExpr-W → Type 0
EveryOptionalExpr q OptionalExpr-F.OptionalExpr::Absent = Unit {0}
EveryOptionalExpr q (OptionalExpr-F.Present e) = q.node e

abbrev pub EveryStmt : Asked → Stmt-W → Type 0
EveryStmt q Stmt-F.Empty = Unit {0}
EveryStmt q (Stmt-F.Expr e) = q.node e
EveryStmt q (Stmt-F.Block items) = EachPart q.item items
EveryStmt q (Stmt-F.Stmt::Local d) = q.declarations d
EveryStmt q (Stmt-F.If line c i) = q.node c × q.item i
EveryStmt q (Stmt-F.IfElse line c i j) = q.node c × q.item i × q.item j
EveryStmt q (Stmt-F.While line c i) = q.node c × q.item i
EveryStmt q (Stmt-F.Do line i c) = q.item i × q.node c
EveryStmt q (Stmt-F.For line first c s i) = q.item first × q.optional c × q.optional s × q.item i
EveryStmt q (Stmt-F.Switch line e items) = q.node e × EachPart q.item items
EveryStmt q (Stmt-F.Case line e) = q.node e
EveryStmt q (Stmt-F.Default line) = Unit {0}
EveryStmt q (Stmt-F.Break line) = Unit {0}
EveryStmt q (Stmt-F.Continue line) = Unit {0}
EveryStmt q (Stmt-F.Return line e) = q.optional e

abbrev pub EverySuffix : Asked → Suffix-W → Type 0
EverySuffix q (Suffix-F.Array e) = q.optional e
EverySuffix q Suffix-F.Unlisted = Unit {0}
EverySuffix q Suffix-F.Nothing = Unit {0}
EverySuffix q (Suffix-F.Listed ps) = EachPart q.parameter ps

abbrev pub EveryDeclaration : Asked → Declaration-W → Type 0
EveryDeclaration q d = EachPart q.init d.inits

abbrev pub EveryDeclarator : Asked → Declarator-W → Type 0
EveryDeclarator q d = q.shape d.core × EachPart q.suffix d.suffixes

abbrev pub EveryInit : Asked → Init-W → Type 0
EveryInit q i = q.shape i.declarator × q.start i.value

abbrev pub EveryParameter : Asked → Parameter-W → Type 0
EveryParameter q p = q.shape p.declarator

abbrev pub EveryTypename : Asked → Typename-W → Type 0
EveryTypename q t = q.shape t.declarator

-- each rule of the walk keeps what is asked
pub record RulesKeep (q : Asked) : Type 0 where
  pub core : (x : Core-W) → EveryCore q x → q.shape (core_rule x)
  pub expr : (x : Expr-W) → EveryExpr q x → q.node (expr_rule x)
  pub initializer : (x : Initializer-W) → EveryInitializer q x → q.start (start_rule x)
  pub optional : (x : OptionalExpr-W) → EveryOptionalExpr q x → q.optional (optional_rule x)
  pub stmt : (x : Stmt-W) → EveryStmt q x → q.item (stmt_rule x)
  pub suffix : (x : Suffix-W) → EverySuffix q x → q.suffix (suffix_walk x)
  pub declaration : (x : Declaration-W) → EveryDeclaration q x → q.declarations (declaration_rule x)
  pub declarator : (x : Declarator-W) → EveryDeclarator q x → q.shape (declarator_rule x)
  pub init : (x : Init-W) → EveryInit q x → q.init (init_rule x)
  pub parameter : (x : Parameter-W) → EveryParameter q x → q.parameter (parameter_rule x)
  pub typename : (x : Typename-W) → EveryTypename q x → q.named (typename_rule x)
