-- The walk over each part of a tree, once more.
use Rattle.tick_tree.specs.declared.syntax.Expr.{Expr}
use Rattle.tick_tree.specs.declared.syntax.Stmt.{Stmt}
use Rattle.tick_tree.specs.declared.syntax.Core.TheOpen.{Core-F, Expr-F, Initializer-F, OptionalExpr-F, Stmt-F}
use Rattle.tick_tree.specs.declared.syntax.Core.TheOpen.{Suffix-F}
use Rattle.check_rules.specs.Walk.{Core-W, Expr-W, Initializer-W, OptionalExpr-W, Stmt-W, Suffix-W}
use Rattle.check_rules.specs.Walk.{core_rule, expr_rule}
use Rattle.check_rules.specs.Walk.{start_rule}
use Rattle.check_rules.specs.Walk.{optional_rule, stmt_rule, suffix_walk}
use Rattle.check_rules.specs.Walk.{node, item}
use Rattle.walk_again.specs.Again.{Found, AgainNode, AgainNamed, AgainShape, AgainItem, AgainOptional}
use Rattle.walk_again.specs.Again.{AgainStart, AgainInit}
use Rattle.walk_again.specs.Again.{AgainDeclarations, AgainSuffixWalk, AgainTypeWalk}
use Rattle.wf_walk.specs.Asked.{Asked, EveryCore, EveryExpr, EveryInitializer, EveryOptionalExpr, EveryStmt}
use Rattle.wf_walk.specs.Asked.{EverySuffix}
use Rattle.wf_walk.specs.Asked.{RulesKeep}
use Rattle.walk_again.proofs.Steps.{pure_again, lift_again}
use Rattle.walk_again.proofs.States.{named_again, string_node_again}
use Rattle.walk_again.proofs.Expressions as e
use Rattle.walk_again.proofs.Statements as s
use Rattle.walk_again.proofs.Declarations as d
use Rattle.wf_walk.proofs.Induction.{holds_expr, holds_stmt}

abbrev pub asked : Found → Asked
asked k = record {
  shape = AgainShape k;
  node = AgainNode k;
  start = AgainStart k;
  optional = AgainOptional k;
  item = AgainItem k;
  suffix = AgainSuffixWalk k;
  declarations = AgainDeclarations k;
  init = AgainInit k;
  parameter = AgainTypeWalk k;
  named = AgainNamed k;
}

core_again : (k : Found) (x : Core-W) → EveryCore (asked k) x → AgainShape k (core_rule x)
core_again k Core-F.Core::Absent h = record { at = λ g. pure_again _ }
core_again k (Core-F.Core::Name n text) h = record { at = λ g. pure_again _ }
core_again k (Core-F.Core::Paren d) h = h

expr_again : (k : Found) (x : Expr-W) → EveryExpr (asked k) x → AgainNode k (expr_rule x)
expr_again k (Expr-F.Expr::Name line name) h = record { at = λ g. named_again line g name }
expr_again k (Expr-F.Number n unsigned) h = record { at = λ g. pure_again _ }
expr_again k (Expr-F.Character n) h = record { at = λ g. pure_again _ }
expr_again k (Expr-F.String bytes) h = record { at = λ g. string_node_again bytes }
expr_again k (Expr-F.Expr::Paren a) h = record { at = λ g. h.at g }
expr_again k (Expr-F.Compile line a t) h = record { at = λ g. e.compile_again line a t g h.0 h.1 }
expr_again k (Expr-F.Expr::Local line t) h = record { at = λ g. e.local_again line t g h }
expr_again k (Expr-F.Param line t a) h = record { at = λ g. e.parameter_again line t a g h.0 h.1 }
expr_again k (Expr-F.Index line p) h = record { at = λ g. e.index_again line p.0 p.1 g h.0 h.1 }
expr_again k (Expr-F.Call line f list) h = record { at = λ g. e.call_again line f list g h.0 h.1 }
expr_again k (Expr-F.Step line op a) h = record { at = λ g. e.post_again line op a g h }
expr_again k (Expr-F.Unary line op a) h = record { at = λ g. e.unary_again line op a g h }
expr_again k (Expr-F.Tick line a) h = record { at = λ g. e.tick_again line a g h }
expr_again k (Expr-F.TickBlock line items) h = record { at = λ g. e.tick_block_again line items g h }
expr_again k (Expr-F.Cast line t a) h = record { at = λ g. e.cast_again line t a g h.0 h.1 }
expr_again k (Expr-F.Sizeof line t) h = record { at = λ g. e.size_again line t g h }
expr_again k (Expr-F.Binary line op p) h = record { at = λ g. e.binary_again line op p.0 p.1 g h.0 h.1 }
expr_again k (Expr-F.Choice line c a b) h = record { at = λ g. e.choice_again line c a b g h.0 h.1 h.2 }
expr_again k (Expr-F.Assign line p) h = record { at = λ g. e.assign_again line p.0 p.1 g h.0 h.1 }
expr_again k (Expr-F.Modify line op p) h = record { at = λ g. e.modify_again line op p.0 p.1 g h.0 h.1 }
expr_again k (Expr-F.Comma line p) h = record { at = λ g. e.comma_again p.0 p.1 g h.0 h.1 }

start_again : (k : Found) (x : Initializer-W) → EveryInitializer (asked k) x → AgainStart k (start_rule x)
start_again k Initializer-F.Initializer::Absent h = tt
start_again k (Initializer-F.Value e) h = h
start_again k (Initializer-F.List es comma) h = h

optional_again : (k : Found) (x : OptionalExpr-W) → EveryOptionalExpr (asked k) x → AgainOptional k (optional_rule x)
optional_again k OptionalExpr-F.OptionalExpr::Absent h = tt
optional_again k (OptionalExpr-F.Present e) h = h

stmt_again : (k : Found) (x : Stmt-W) → EveryStmt (asked k) x → AgainItem k (stmt_rule x)
stmt_again k Stmt-F.Empty h = record { at = λ a. pure_again _ }
stmt_again k (Stmt-F.Expr e) h = record { at = λ a. s.alone_again e a h }
stmt_again k (Stmt-F.Block items) h = record { at = λ a. s.block_alone_again items a h }
stmt_again k (Stmt-F.Stmt::Local x) h = record { at = λ a. d.declaration_again x a.stage h }
stmt_again k (Stmt-F.If line c i) h = record { at = λ a. s.if_then_again line c i a h.0 h.1 }
stmt_again k (Stmt-F.IfElse line c i j) h = record { at = λ a. s.if_else_again line c i j a h.0 h.1 h.2 }
stmt_again k (Stmt-F.While line c i) h = record { at = λ a. s.while_again line c i a h.0 h.1 }
stmt_again k (Stmt-F.Do line i c) h = record { at = λ a. s.do_again line i c a h.0 h.1 }
stmt_again k (Stmt-F.For line first c t i) h =
    record { at = λ a. s.for_again line first c t i a h.0 h.1 h.2 h.3 }
stmt_again k (Stmt-F.Switch line e items) h = record { at = λ a. s.switch_again line e items a h.0 h.1 }
stmt_again k (Stmt-F.Case line e) h = record { at = λ a. s.case_again line e a h }
stmt_again k (Stmt-F.Default line) h = record { at = λ a. s.default_again line a }
stmt_again k (Stmt-F.Break line) h = record { at = λ a. lift_again _ }
stmt_again k (Stmt-F.Continue line) h = record { at = λ a. lift_again _ }
stmt_again k (Stmt-F.Return line e) h = record { at = λ a. s.returning_again line e a h }

suffix_again : (k : Found) (x : Suffix-W) → EverySuffix (asked k) x → AgainSuffixWalk k (suffix_walk x)
suffix_again k (Suffix-F.Array e) h = record { at = λ g. s.length_again e g h }
suffix_again k Suffix-F.Unlisted h = record { at = λ g. pure_again _ }
suffix_again k Suffix-F.Nothing h = record { at = λ g. pure_again _ }
suffix_again k (Suffix-F.Listed ps) h = record { at = λ g. s.list_again _ g (d.each_parameter k ps h) }

pub rules_again : (k : Found) → RulesKeep (asked k)
rules_again k = record {
  core = core_again k;
  expr = expr_again k;
  initializer = start_again k;
  optional = optional_again k;
  stmt = stmt_again k;
  suffix = suffix_again k;
  declaration = λ x h. h;
  declarator = λ x h. d.declarator_again x.core x.suffixes x.prefixes h.0 h.1;
  init = λ x h. record { shape = h.0; start = h.1 };
  parameter = λ x h. d.parameter_again x.line x.base x.declarator h;
  typename = λ x h. d.typename_again x.base x.declarator h;
}

pub expressions_again : (k : Found) (x : Expr) → AgainNode k (node x)
expressions_again k x = holds_expr (asked k) (rules_again k) x

pub statements_again : (k : Found) (x : Stmt) → AgainItem k (item x)
statements_again k x = holds_stmt (asked k) (rules_again k) x
