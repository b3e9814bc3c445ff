-- The size of a function, a tick or a specification is its number of typed nodes; what leaves a value; and which
-- address a program's numbers may have. The size is this project's own rule: charges and limits are stated in it.
use Rattle.std.specs.Prelude.{ℕ, ◌+◌, Bool, true, false, List, sum, map}
use Rattle.typed_tree.specs.declared.expression.Answer.{Answer}
use Rattle.typed_tree.specs.declared.expression.Answer.TheVariants as answer
use Rattle.typed_tree.specs.declared.expression.Library.{Library}
use Rattle.typed_tree.specs.declared.expression.Library.TheVariants as library
use Rattle.typed_tree.specs.declared.expression.Expr.{Expr}
use Rattle.typed_tree.specs.declared.expression.Expr.TheOpen.{Expr-F}
use Rattle.typed_tree.specs.declared.expression.Expr.TheFolds.{fold-Expr}
use Rattle.typed_tree.specs.declared.expression.Stmt.{Stmt}
use Rattle.typed_tree.specs.declared.program.TickBody.{TickBody}
use Rattle.typed_tree.specs.declared.program.TickBody.TheVariants as body
use Rattle.typed_tree.specs.Folds.{Parts, Rules, fold_statement, total}
use Rattle.typed_tree.specs.Folds as parts

-- ---- sizes

-- the nodes of an expression, by those of its parts
abbrev pub size_rule : Expr-F ℕ → ℕ
size_rule (Expr-F.Const w) = 1
size_rule (Expr-F.Captured kind i) = 1
size_rule (Expr-F.Var i) = 1
size_rule (Expr-F.SetVar i a) = 1 + a
size_rule (Expr-F.PostVar i w step) = 1
size_rule (Expr-F.VGet i) = 1
size_rule (Expr-F.VSet i a) = 1 + a
size_rule (Expr-F.VPost i step) = 1
size_rule (Expr-F.Frame off) = 1
size_rule (Expr-F.Load w a) = 1 + a
size_rule (Expr-F.Store w a b) = 1 + a + b
size_rule (Expr-F.Modify w k a b) = 1 + a + b
size_rule (Expr-F.Post w step a) = 1 + a
size_rule (Expr-F.Bin k a b) = 1 + a + b
size_rule (Expr-F.Un k a) = 1 + a
size_rule (Expr-F.And a b) = 1 + a + b
size_rule (Expr-F.Or a b) = 1 + a + b
size_rule (Expr-F.Cond c a b) = 1 + c + a + b
size_rule (Expr-F.Comma a b) = 1 + a + b
size_rule (Expr-F.Void a) = 1 + a
size_rule (Expr-F.Call r f list) = 1 + total list
size_rule (Expr-F.CallNumber r a list) = 1 + a + total list
size_rule Expr-F.Getchar = 1
size_rule (Expr-F.Lib f a) = 1 + a
size_rule (Expr-F.Tick t list) = 1 + total list
size_rule (Expr-F.Capture k a) = 1 + a
size_rule (Expr-F.Splice r i) = 1
size_rule (Expr-F.Compile a) = 1 + a
size_rule Expr-F.Local = 1
size_rule (Expr-F.ParamOf a) = 1 + a

-- how many nodes an expression has
unfoldable pub size : Expr → ℕ
size = fold-Expr ℕ size_rule

abbrev pub size_list : List Expr → ℕ
size_list es = sum (map size es)

-- the nodes of a statement, by those of its parts
abbrev pub statement_rule : Parts ℕ ℕ → ℕ
statement_rule (parts.Eval e) = 1 + e
statement_rule (parts.Block variables items) = 1 + total variables + total items
statement_rule (parts.Variable i) = 1
statement_rule (parts.Object off words) = 1
statement_rule (parts.Parameter k w) = 1
statement_rule (parts.ParameterObject k w off) = 1
statement_rule (parts.If c a) = 1 + c + a
statement_rule (parts.IfElse c a b) = 1 + c + a + b
statement_rule (parts.While c a) = 1 + c + a
statement_rule (parts.Do a c) = 1 + a + c
statement_rule (parts.For c a) = 1 + c + a
statement_rule (parts.ForStep c step a) = 1 + c + step + a
statement_rule (parts.Switch e variables items) = 2 + e + total variables + total items
statement_rule (parts.Case c) = 1
statement_rule parts.Default = 1
statement_rule parts.Break = 1
statement_rule parts.Continue = 1
statement_rule parts.Return = 1
statement_rule (parts.ReturnValue e) = 1 + e

abbrev pub size_rules : Rules ℕ ℕ
size_rules = record { expr = size_rule; stmt = statement_rule }

-- how many nodes a statement has; the block of a switch is one of them
unfoldable pub statement_size : Stmt → ℕ
statement_size = fold_statement size_rules

abbrev pub statements_size : List Stmt → ℕ
statements_size ss = sum (map statement_size ss)

-- how many nodes the body of a tick has
abbrev pub body_size : TickBody → ℕ
body_size (body.Expression e) = size e
body_size (body.Statement s) = statement_size s

-- ---- values

abbrev pub is_value : Answer → Bool
is_value answer.Value = true
is_value answer.Void = false

abbrev pub answers : Library → Bool
answers library.Putchar = true
answers library.Putint = false
answers library.Exit = false
answers library.Malloc = true

-- whether an expression leaves a value, by whether its parts do
abbrev pub value_rule : Expr-F Bool → Bool
value_rule (Expr-F.Cond c a b) = a
value_rule (Expr-F.Comma a b) = b
value_rule (Expr-F.Void a) = false
value_rule (Expr-F.Call r f list) = is_value r
value_rule (Expr-F.CallNumber r a list) = is_value r
value_rule (Expr-F.Lib f a) = answers f
value_rule (Expr-F.Splice r i) = is_value r
value_rule _ = true

-- whether an expression leaves a value
unfoldable pub has_value : Expr → Bool
has_value = fold-Expr Bool value_rule
