-- Each part of a node whose value is used leaves one. These are `C's rules on void, as far as they concern nodes.
use Rattle.std.specs.Prelude.{Bool, true, false, not, ◌&&◌, List}
use Rattle.std.specs.List.{list_all}
use Rattle.typed_tree.specs.declared.expression.Expr.{Expr}
use Rattle.typed_tree.specs.declared.expression.Expr.TheOpen.{Expr-F}
use Rattle.typed_tree.specs.declared.expression.Expr.TheFolds.{fold-Expr}
use Rattle.typed_tree.specs.declared.expression.Stmt.{Stmt}
use Rattle.typed_tree.specs.declared.program.TickBody.{TickBody}
use Rattle.typed_tree.specs.declared.program.TickBody.TheVariants as body
use Rattle.typed_tree.specs.Folds.{Parts, Rules, fold_statement}
use Rattle.typed_tree.specs.Folds as parts
use Rattle.typed_tree.specs.Sizes.{is_value, answers}

-- whether an expression leaves a value, and whether each value that is used in it is left
pub record Use : Type 0 where
  pub value : Bool
  pub right : Bool

abbrev pub use_of : Bool → Bool → Use
use_of value right = record { value = value; right = right }

-- its value is used
abbrev pub used : Use → Bool
used u = u.value && u.right

abbrev pub both_used : Use → Use → Bool
both_used u w = used u && used w

abbrev pub all_used : List Use → Bool
all_used us = list_all used us

abbrev pub same : Bool → Bool → Bool
same true b = b
same false b = not b

abbrev pub expr_rule : Expr-F Use → Use
expr_rule (Expr-F.SetVar i u) = use_of true (used u)
expr_rule (Expr-F.VSet i u) = use_of true (used u)
expr_rule (Expr-F.Load w u) = use_of true (used u)
expr_rule (Expr-F.Store w u x) = use_of true (both_used u x)
expr_rule (Expr-F.Modify w k u x) = use_of true (both_used u x)
expr_rule (Expr-F.Post w step u) = use_of true (used u)
expr_rule (Expr-F.Bin k u x) = use_of true (both_used u x)
expr_rule (Expr-F.Un k u) = use_of true (used u)
expr_rule (Expr-F.And u x) = use_of true (both_used u x)
expr_rule (Expr-F.Or u x) = use_of true (both_used u x)
expr_rule (Expr-F.Cond c u x) = use_of u.value (used c && u.right && x.right && same u.value x.value)
expr_rule (Expr-F.Comma u x) = use_of x.value (u.right && x.right)
expr_rule (Expr-F.Void u) = use_of false u.right
expr_rule (Expr-F.Call r f us) = use_of (is_value r) (all_used us)
expr_rule (Expr-F.CallNumber r u us) = use_of (is_value r) (used u && all_used us)
expr_rule (Expr-F.Lib f u) = use_of (answers f) (used u)
expr_rule (Expr-F.Tick t us) = use_of true (all_used us)
expr_rule (Expr-F.Capture k u) = use_of true (used u)
expr_rule (Expr-F.Splice r i) = use_of (is_value r) true
expr_rule (Expr-F.Compile u) = use_of true (used u)
expr_rule (Expr-F.ParamOf u) = use_of true (used u)
expr_rule _ = use_of true true

unfoldable pub value_use : Expr → Use
value_use = fold-Expr Use expr_rule

abbrev pub is_used : Expr → Bool
is_used e = used (value_use e)

abbrev pub is_right : Expr → Bool
is_right e = (value_use e).right

abbrev pub all_true : List Bool → Bool
all_true bs = list_all (λ b. b) bs

abbrev pub stmt_rule : Parts Use Bool → Bool
stmt_rule (parts.Eval e) = e.right
stmt_rule (parts.Block vs ss) = all_true vs && all_true ss
stmt_rule (parts.If c s) = used c && s
stmt_rule (parts.IfElse c s t) = used c && s && t
stmt_rule (parts.While c s) = used c && s
stmt_rule (parts.Do s c) = s && used c
stmt_rule (parts.For c s) = used c && s
stmt_rule (parts.ForStep c step s) = used c && step.right && s
stmt_rule (parts.Switch e vs ss) = used e && all_true vs && all_true ss
stmt_rule (parts.ReturnValue e) = used e
stmt_rule _ = true

abbrev pub rules : Rules Use Bool
rules = record { expr = expr_rule; stmt = stmt_rule }

-- each value that is used in a statement is left
unfoldable pub uses_values : Stmt → Bool
uses_values = fold_statement rules

abbrev pub body_uses_values : TickBody → Bool
body_uses_values (body.Expression e) = is_right e
body_uses_values (body.Statement s) = uses_values s
