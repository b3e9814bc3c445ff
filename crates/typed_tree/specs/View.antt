-- The code's typed tree as the tree that has a meaning: node by node, in the same order.
use Rattle.std.specs.Prelude.{List, [], ◌∷◌, map}
use Rattle.typed_tree.specs.declared.expression.Expr.{Expr}
use Rattle.typed_tree.specs.declared.expression.Expr.TheOpen.{Expr-F}
use Rattle.typed_tree.specs.declared.expression.Expr.TheFolds.{fold-Expr}
use Rattle.typed_tree.specs.declared.expression.Stmt.{Stmt}
use Rattle.typed_tree.specs.declared.program.Function.{Function}
use Rattle.typed_tree.specs.declared.program.Tick.{Tick}
use Rattle.typed_tree.specs.declared.program.TickBody.{TickBody}
use Rattle.typed_tree.specs.declared.program.TickBody.TheVariants as body
use Rattle.typed_tree.specs.declared.program.TypedParts.{TypedParts}
use Rattle.typed_tree.specs.Folds.{Parts, Rules, fold_statement}
use Rattle.typed_tree.specs.Folds as parts
use Rattle.typed_tree.specs.Nodes as node

abbrev pub args_of : List node.Expr → node.Args
args_of [] = node.NoArg
args_of (e ∷ es) = node.Arg e (args_of es)

abbrev pub items_of : List node.Stmt → node.Items
items_of [] = node.NoItem
items_of (s ∷ ss) = node.Item s (items_of ss)

abbrev pub expr_rule : Expr-F node.Expr → node.Expr
expr_rule (Expr-F.Const w) = node.Const w
expr_rule (Expr-F.Captured k i) = node.Captured k i
expr_rule (Expr-F.Var i) = node.Var i
expr_rule (Expr-F.SetVar i a) = node.SetVar i a
expr_rule (Expr-F.PostVar i w step) = node.PostVar i w step
expr_rule (Expr-F.VGet i) = node.VGet i
expr_rule (Expr-F.VSet i a) = node.VSet i a
expr_rule (Expr-F.VPost i step) = node.VPost i step
expr_rule (Expr-F.Frame off) = node.Frame off
expr_rule (Expr-F.Load w a) = node.Load w a
expr_rule (Expr-F.Store w a b) = node.Store w a b
expr_rule (Expr-F.Modify w k a b) = node.Modify w k a b
expr_rule (Expr-F.Post w step a) = node.Post w step a
expr_rule (Expr-F.Bin k a b) = node.Bin k a b
expr_rule (Expr-F.Un k a) = node.Un k a
expr_rule (Expr-F.And a b) = node.And a b
expr_rule (Expr-F.Or a b) = node.Or a b
expr_rule (Expr-F.Cond c a b) = node.Cond c a b
expr_rule (Expr-F.Comma a b) = node.Comma a b
expr_rule (Expr-F.Void a) = node.Void a
expr_rule (Expr-F.Call r f list) = node.Call r f (args_of list)
expr_rule (Expr-F.CallNumber r a list) = node.CallNumber r a (args_of list)
expr_rule Expr-F.Getchar = node.Getchar
expr_rule (Expr-F.Lib f a) = node.Lib f a
expr_rule (Expr-F.Tick t list) = node.Tick t (args_of list)
expr_rule (Expr-F.Capture k a) = node.Capture k a
expr_rule (Expr-F.Splice r i) = node.Splice r i
expr_rule (Expr-F.Compile a) = node.Compile a
expr_rule Expr-F.Local = node.Local
expr_rule (Expr-F.ParamOf a) = node.ParamOf a

-- the view of an expression
unfoldable pub expr_view : Expr → node.Expr
expr_view = fold-Expr node.Expr expr_rule

abbrev pub stmt_rule : Parts node.Expr node.Stmt → node.Stmt
stmt_rule (parts.Eval e) = node.Eval e
stmt_rule (parts.Block variables items) = node.Block (items_of variables) (items_of items)
stmt_rule (parts.Variable i) = node.Variable i
stmt_rule (parts.Object off words) = node.Object off words
stmt_rule (parts.Parameter k w) = node.Parameter k w
stmt_rule (parts.ParameterObject k w off) = node.ParameterObject k w off
stmt_rule (parts.If c a) = node.If c a
stmt_rule (parts.IfElse c a b) = node.IfElse c a b
stmt_rule (parts.While c a) = node.While c a
stmt_rule (parts.Do a c) = node.Do a c
stmt_rule (parts.For c a) = node.For c a
stmt_rule (parts.ForStep c step a) = node.ForStep c step a
stmt_rule (parts.Switch e variables items) = node.Switch e (items_of variables) (items_of items)
stmt_rule (parts.Case c) = node.Case c
stmt_rule parts.Default = node.Default
stmt_rule parts.Break = node.Break
stmt_rule parts.Continue = node.Continue
stmt_rule parts.Return = node.Return
stmt_rule (parts.ReturnValue e) = node.ReturnValue e

abbrev pub view_rules : Rules node.Expr node.Stmt
view_rules = record { expr = expr_rule; stmt = stmt_rule }

-- the view of a statement
unfoldable pub stmt_view : Stmt → node.Stmt
stmt_view = fold_statement view_rules

-- the view of a function
abbrev pub function_view : Function → node.Function
function_view f = record { parameters = f.params; object = f.object; body = stmt_view f.body }

-- the view of what stands behind a backquote, and of a whole program
abbrev pub body_view : TickBody → node.TickBody
body_view (body.Expression e) = node.Expression (expr_view e)
body_view (body.Statement s) = node.Statement (stmt_view s)

abbrev pub tick_view : Tick → node.TickBody
tick_view t = body_view t.body

abbrev pub program_view : TypedParts → node.Program
program_view p = record { functions = map function_view p.functions; ticks = map tick_view p.ticks; image = p.image }
