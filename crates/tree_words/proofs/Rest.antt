-- What a walk over statements, or over arguments, has still before it.
use Rattle.std.proofs.Common.{ℕ, List, map, drop}
use Rattle.typed_tree.specs.declared.expression.Expr.{Expr}
use Rattle.typed_tree.specs.declared.expression.Stmt.{Stmt}
use Rattle.typed_tree.specs.Nodes as node
use Rattle.typed_tree.specs.View.{expr_view, args_of, stmt_view, items_of}

-- the view of the statements from this one on
abbrev pub rest : ℕ → List Stmt → node.Items
rest i ss = items_of (map stmt_view (drop i ss))

-- the view of the arguments from this one on
abbrev pub arguments : ℕ → List Expr → node.Args
arguments i es = args_of (map expr_view (drop i es))
