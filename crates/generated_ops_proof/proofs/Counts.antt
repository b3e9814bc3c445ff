-- A tree of n nodes takes at most n variables of its own and three labels a node.
use Rattle.std.proofs.Common.{◌*◌, ◌≤◌, arith}
use Rattle.typed_tree.specs.Nodes as node
use Rattle.typed_tree.specs.Nodes.{Expr, Args, Stmt, Items}
use Rattle.staged_meaning.specs.Size.{size_of_expr, size_of_args, size_of_stmt, size_of_items, labels_in}
use Rattle.staged_meaning.specs.Size.{labels_in_args}
use Rattle.staged_meaning.specs.Size.{labels, labels_of, temps_in, temps_in_args, temps, temps_of}

mutual
  pub expr_takes : (e : Expr) → (labels_in e ≤ 3 * size_of_expr e) × (temps_in e ≤ size_of_expr e)
  expr_takes (node.Const w) = (omega (arith), omega (arith))
  expr_takes (node.Captured w j) = (omega (arith), omega (arith))
  expr_takes (node.Var j) = (omega (arith), omega (arith))
  expr_takes (node.SetVar j e) = (omega (arith, (expr_takes e).0), omega (arith, (expr_takes e).1))
  expr_takes (node.PostVar j w step) = (omega (arith), omega (arith))
  expr_takes (node.VGet j) = (omega (arith), omega (arith))
  expr_takes (node.VSet j e) = (omega (arith, (expr_takes e).0), omega (arith, (expr_takes e).1))
  expr_takes (node.VPost j step) = (omega (arith), omega (arith))
  expr_takes (node.Frame offset) = (omega (arith), omega (arith))
  expr_takes (node.Load w e) = (omega (arith, (expr_takes e).0), omega (arith, (expr_takes e).1))
  expr_takes (node.Store w e f) = (
    omega (arith, (expr_takes e).0, (expr_takes f).0),
    omega (
      arith,
      (expr_takes e).1,
      (expr_takes f).1,
    ),
  )
  expr_takes (node.Modify w op e f) = (
    omega (arith, (expr_takes e).0, (expr_takes f).0),
    omega (
      arith,
      (expr_takes e).1,
      (expr_takes f).1,
    ),
  )
  expr_takes (node.Post w step e) = (omega (arith, (expr_takes e).0), omega (arith, (expr_takes e).1))
  expr_takes (node.Bin op e f) = (
    omega (arith, (expr_takes e).0, (expr_takes f).0),
    omega (
      arith,
      (expr_takes e).1,
      (expr_takes f).1,
    ),
  )
  expr_takes (node.Un op e) = (omega (arith, (expr_takes e).0), omega (arith, (expr_takes e).1))
  expr_takes (node.And e f) = (
    omega (arith, (expr_takes e).0, (expr_takes f).0),
    omega (
      arith,
      (expr_takes e).1,
      (expr_takes f).1,
    ),
  )
  expr_takes (node.Or e f) = (
    omega (arith, (expr_takes e).0, (expr_takes f).0),
    omega (
      arith,
      (expr_takes e).1,
      (expr_takes f).1,
    ),
  )
  expr_takes (node.Cond c e f) = (
    omega (arith, (expr_takes c).0, (expr_takes e).0, (expr_takes f).0),
    omega
        (arith, (expr_takes c).1, (expr_takes e).1, (expr_takes f).1),
  )
  expr_takes (node.Comma e f) = (
    omega (arith, (expr_takes e).0, (expr_takes f).0),
    omega (
      arith,
      (expr_takes e).1,
      (expr_takes f).1,
    ),
  )
  expr_takes (node.Void e) = (omega (arith, (expr_takes e).0), omega (arith, (expr_takes e).1))
  expr_takes (node.Call r f args) = (omega (arith, (args_take args).0), omega (arith, (args_take args).1))
  expr_takes (node.CallNumber r e args) = (
    omega (arith, (expr_takes e).0, (args_take args).0),
    omega (
      arith,
      (expr_takes e).1,
      (args_take args).1,
    ),
  )
  expr_takes node.Getchar = (omega (arith), omega (arith))
  expr_takes (node.Lib f e) = (omega (arith, (expr_takes e).0), omega (arith, (expr_takes e).1))
  expr_takes (node.Tick j args) = (omega (arith, (args_take args).0), omega (arith, (args_take args).1))
  expr_takes (node.Capture kind e) = (omega (arith, (expr_takes e).0), omega (arith, (expr_takes e).1))
  expr_takes (node.Splice r j) = (omega (arith), omega (arith))
  expr_takes (node.Compile e) = (omega (arith, (expr_takes e).0), omega (arith, (expr_takes e).1))
  expr_takes node.Local = (omega (arith), omega (arith))
  expr_takes (node.ParamOf e) = (omega (arith, (expr_takes e).0), omega (arith, (expr_takes e).1))

  args_take : (args : Args) → (labels_in_args args ≤ 3 * size_of_args args) × (temps_in_args args ≤ size_of_args args)
  args_take node.NoArg = (omega (arith), omega (arith))
  args_take (node.Arg e args) = (
    omega (arith, (expr_takes e).0, (args_take args).0),
    omega (
      arith,
      (expr_takes e).1,
      (args_take args).1,
    ),
  )

mutual
  pub stmt_takes : (s : Stmt) → (labels s ≤ 3 * size_of_stmt s) × (temps s ≤ size_of_stmt s)
  stmt_takes (node.Eval e) = (omega (arith, (expr_takes e).0), omega (arith, (expr_takes e).1))
  stmt_takes (node.Block vs xs) = (
    omega (arith, (items_take vs).0, (items_take xs).0),
    omega (
      arith,
      (items_take vs).1,
      (items_take xs).1,
    ),
  )
  stmt_takes (node.Variable j) = (omega (arith), omega (arith))
  stmt_takes (node.Object offset words) = (omega (arith), omega (arith))
  stmt_takes (node.Parameter k w) = (omega (arith), omega (arith))
  stmt_takes (node.ParameterObject k w offset) = (omega (arith), omega (arith))
  stmt_takes (node.If e s) = (
    omega (arith, (expr_takes e).0, (stmt_takes s).0),
    omega (
      arith,
      (expr_takes e).1,
      (stmt_takes s).1,
    ),
  )
  stmt_takes (node.IfElse e s r) = (
    omega (arith, (expr_takes e).0, (stmt_takes s).0, (stmt_takes r).0),
    omega
        (arith, (expr_takes e).1, (stmt_takes s).1, (stmt_takes r).1),
  )
  stmt_takes (node.While e s) = (
    omega (arith, (expr_takes e).0, (stmt_takes s).0),
    omega (
      arith,
      (expr_takes e).1,
      (stmt_takes s).1,
    ),
  )
  stmt_takes (node.Do s e) = (
    omega (arith, (expr_takes e).0, (stmt_takes s).0),
    omega (
      arith,
      (expr_takes e).1,
      (stmt_takes s).1,
    ),
  )
  stmt_takes (node.For e s) = (
    omega (arith, (expr_takes e).0, (stmt_takes s).0),
    omega (
      arith,
      (expr_takes e).1,
      (stmt_takes s).1,
    ),
  )
  stmt_takes (node.ForStep e step s) = (
    omega (
      arith,
      (expr_takes e).0,
      (expr_takes step).0,
      (stmt_takes s).0,
    ),
    omega (arith, (expr_takes e).1, (expr_takes step).1, (stmt_takes s).1),
  )
  stmt_takes (node.Switch e vs xs) = (
    omega (arith, (expr_takes e).0, (items_take vs).0, (items_take xs).0),
    omega
        (arith, (expr_takes e).1, (items_take vs).1, (items_take xs).1),
  )
  stmt_takes (node.Case v) = (omega (arith), omega (arith))
  stmt_takes node.Default = (omega (arith), omega (arith))
  stmt_takes node.Break = (omega (arith), omega (arith))
  stmt_takes node.Continue = (omega (arith), omega (arith))
  stmt_takes node.Return = (omega (arith), omega (arith))
  stmt_takes (node.ReturnValue e) = (omega (arith, (expr_takes e).0), omega (arith, (expr_takes e).1))

  items_take : (xs : Items) → (labels_of xs ≤ 3 * size_of_items xs) × (temps_of xs ≤ size_of_items xs)
  items_take node.NoItem = (omega (arith), omega (arith))
  items_take (node.Item s xs) = (
    omega (arith, (stmt_takes s).0, (items_take xs).0),
    omega (
      arith,
      (stmt_takes s).1,
      (items_take xs).1,
    ),
  )
