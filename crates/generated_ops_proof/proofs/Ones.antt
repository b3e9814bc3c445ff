-- A tick of one node takes five registers at most.
use Rattle.std.proofs.Common.{◌≡◌, ℕ, ◌+◌, ◌≤◌, [], ◌∷◌, arith}
use Rattle.typed_tree.specs.declared.expression.Answer.TheVariants as answer
use Rattle.typed_tree.specs.Nodes as node
use Rattle.typed_tree.specs.Nodes.{Expr, Args, Stmt, Items}
use Rattle.staged_meaning.specs.Size.{size_of_expr, size_of_stmt, temps_in}
use Rattle.tick_lower_spec.specs.Lower.{Addresses, Targets, narrowing, nowhere}
use Rattle.icode_ir.specs.declared.build_op.BuildOp.TheVariants.{SetVariable, Drop, Store}
use Rattle.tick_lower_spec.specs.declared.piece.Piece.TheVariants.{Plain}
use Rattle.tick_lower_spec.specs.TickPieces.{plain, expr_pieces, stmt_pieces}
use Rattle.generated_ops_proof.specs.Room.{more_registers}
use Rattle.generated_ops_proof.proofs.Costs.{adds, adds_both}
use Rattle.generated_ops_proof.proofs.Registers.{narrow}
use Rattle.generated_ops_proof.proofs.Trees.{expr_small}
use Rattle.generated_ops_proof.proofs.StmtTrees.{stmt_small}

module _ (addresses : Addresses) where
  some : (e : Expr) → 1 ≤ size_of_expr e
  some e = let few = (expr_small addresses e 0 0).ops in omega (arith, few)

  some_stmt : (s : Stmt) → 1 ≤ size_of_stmt s
  some_stmt s = let few = (stmt_small addresses s nowhere 0 0).ops in omega (arith, few)

  pub one_expr : (e : Expr) (l t : ℕ) → size_of_expr e ≡ 1
      → adds more_registers (expr_pieces addresses e l t) + temps_in e ≤ 5
  one_expr (node.Const w) l t h = omega arith
  one_expr (node.Captured w j) l t h = omega arith
  one_expr (node.Var j) l t h = omega arith
  one_expr (node.SetVar j e) l t h = absurd (omega (arith, h, some e))
  one_expr (node.PostVar j w step) l t h =
      let n = narrow w in
      let both = adds_both more_registers (plain (narrowing w)) (Plain (SetVariable j) ∷ (Plain Drop ∷ [])) in
      omega (arith, n.few, both)
  one_expr (node.VGet j) l t h = omega arith
  one_expr (node.VSet j e) l t h = absurd (omega (arith, h, some e))
  one_expr (node.VPost j step) l t h = omega arith
  one_expr (node.Frame offset) l t h = omega arith
  one_expr (node.Load w e) l t h = absurd (omega (arith, h, some e))
  one_expr (node.Store w e f) l t h = absurd (omega (arith, h, some e))
  one_expr (node.Modify w op e f) l t h = absurd (omega (arith, h, some e))
  one_expr (node.Post w step e) l t h = absurd (omega (arith, h, some e))
  one_expr (node.Bin op e f) l t h = absurd (omega (arith, h, some e))
  one_expr (node.Un op e) l t h = absurd (omega (arith, h, some e))
  one_expr (node.And e f) l t h = absurd (omega (arith, h, some e))
  one_expr (node.Or e f) l t h = absurd (omega (arith, h, some e))
  one_expr (node.Cond c e f) l t h = absurd (omega (arith, h, some e))
  one_expr (node.Comma e f) l t h = absurd (omega (arith, h, some e))
  one_expr (node.Void e) l t h = absurd (omega (arith, h, some e))
  one_expr (node.Call answer.Value f node.NoArg) l t h = omega arith
  one_expr (node.Call answer.Void f node.NoArg) l t h = omega arith
  one_expr (node.Call r f (node.Arg e args)) l t h = absurd (omega (arith, h, some e))
  one_expr (node.CallNumber r e args) l t h = absurd (omega (arith, h, some e))
  one_expr node.Getchar l t h = omega arith
  one_expr (node.Lib f e) l t h = absurd (omega (arith, h, some e))
  one_expr (node.Tick j node.NoArg) l t h = omega arith
  one_expr (node.Tick j (node.Arg e args)) l t h = absurd (omega (arith, h, some e))
  one_expr (node.Capture kind e) l t h = absurd (omega (arith, h, some e))
  one_expr (node.Splice r j) l t h = omega arith
  one_expr (node.Compile e) l t h = absurd (omega (arith, h, some e))
  one_expr node.Local l t h = omega arith
  one_expr (node.ParamOf e) l t h = absurd (omega (arith, h, some e))

  pub one_stmt : (s : Stmt) (to : Targets) (l t : ℕ) → size_of_stmt s ≡ 1
      → adds more_registers (stmt_pieces addresses s to l t) ≤ 3
  one_stmt (node.Eval e) to l t h = absurd (omega (arith, h, some e))
  one_stmt (node.Block node.NoItem node.NoItem) to l t h = omega arith
  one_stmt (node.Block (node.Item s vs) xs) to l t h = absurd (omega (arith, h, some_stmt s))
  one_stmt (node.Block node.NoItem (node.Item s xs)) to l t h = absurd (omega (arith, h, some_stmt s))
  one_stmt (node.Variable i) to l t h = omega arith
  one_stmt (node.Object offset words) to l t h = omega arith
  one_stmt (node.Parameter k w) to l t h =
      let n = narrow w in
      let both = adds_both more_registers (plain (narrowing w)) (Plain (SetVariable k) ∷ (Plain Drop ∷ [])) in
      omega (arith, n.few, both)
  one_stmt (node.ParameterObject k w offset) to l t h =
      let n = narrow w in
      let both = adds_both more_registers (plain (narrowing w)) (Plain (Store w) ∷ (Plain Drop ∷ [])) in
      omega (arith, n.few, both)
  one_stmt (node.If e s) to l t h = absurd (omega (arith, h, some e))
  one_stmt (node.IfElse e s r) to l t h = absurd (omega (arith, h, some e))
  one_stmt (node.While e s) to l t h = absurd (omega (arith, h, some e))
  one_stmt (node.Do s e) to l t h = absurd (omega (arith, h, some e))
  one_stmt (node.For e s) to l t h = absurd (omega (arith, h, some e))
  one_stmt (node.ForStep e step s) to l t h = absurd (omega (arith, h, some e))
  one_stmt (node.Switch e vs xs) to l t h = absurd (omega (arith, h, some e))
  one_stmt (node.Case v) to l t h = omega arith
  one_stmt node.Default to l t h = omega arith
  one_stmt node.Break to l t h = omega arith
  one_stmt node.Continue to l t h = omega arith
  one_stmt node.Return to l t h = omega arith
  one_stmt (node.ReturnValue e) to l t h = absurd (omega (arith, h, some e))
