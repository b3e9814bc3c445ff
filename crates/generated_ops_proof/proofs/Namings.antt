-- The pieces of a tree name a variable as often as its nodes do, at least.
use Rattle.std.proofs.Common.{◌≡◌, ℕ, ◌+◌, ◌≤◌, ◌==◌, Bool, List, [], ◌∷◌, ◌++◌, arith}
use Rattle.word32.specs.declared.width.Width.{Width}
use Rattle.typed_tree.specs.declared.expression.Answer.{Answer}
use Rattle.typed_tree.specs.declared.expression.Library.TheVariants as library
use Rattle.typed_tree.specs.Nodes as node
use Rattle.typed_tree.specs.Nodes.{Expr, Args, Stmt, Items, has_value}
use Rattle.staged_meaning.specs.Size.{labels_in, labels, labels_of, temps_in, temps, temps_of}
use Rattle.tick_lower_spec.specs.Lower.{Addresses, Targets, narrowing, dropping, dropping_call, keeping, kept, joins}
use Rattle.tick_lower_spec.specs.Lower.{test_ops}
use Rattle.tick_captures_proof.specs.Splices.{mentions_in, mentions_in_args, mentions_of, mentions_of_items}
use Rattle.tick_lower_spec.specs.declared.piece.Piece.{Piece}
use Rattle.tick_lower_spec.specs.declared.piece.Piece.TheVariants.{Plain, Captured, GetKey, SetKey, Splice, Nothing}
use Rattle.tick_lower_spec.specs.TickPieces.{plain, own, expr_pieces, args_pieces, stmt_pieces, items_pieces}
use Rattle.generated_ops_proof.proofs.Goes.{one_if}

abbrev pub piece_names : ℕ → Piece → ℕ
piece_names i (GetKey j) = one_if (i == j)
piece_names i (SetKey j) = one_if (i == j)
piece_names i _ = 0

abbrev pub all_names : ℕ → List Piece → ℕ
all_names i [] = 0
all_names i (p ∷ ps) = piece_names i p + all_names i ps

pub names_both : (i : ℕ) (ps qs : List Piece) → all_names i (ps ++ qs) ≡ all_names i ps + all_names i qs
names_both i [] qs = omega arith
names_both i (p ∷ ps) qs = omega (arith, names_both i ps qs)

module _ (i : ℕ) where
  -- at least so often
  pub record Has (n : ℕ) (ps : List Piece) : Type 0 where
    pub some : n ≤ all_names i ps

  any : (ps : List Piece) → Has 0 ps
  any ps = record { some = omega arith }

  none : Has 0 []
  none = record { some = omega arith }

  put : {n : ℕ} {ps : List Piece} (p : Piece) → Has n ps → Has (piece_names i p + n) (p ∷ ps)
  put {n} {ps} p f = record { some = omega (arith, f.some) }

  pair : {n m : ℕ} {ps qs : List Piece} → Has n ps → Has m qs → Has (n + m) (ps ++ qs)
  pair {n} {m} {ps} {qs} f g = record { some = omega (arith, f.some, g.some, names_both i ps qs) }

  has : {n : ℕ} {ps : List Piece} (m : ℕ) → Has n ps → m ≤ n → Has m ps
  has {n} {ps} m f le = record { some = omega (arith, f.some, le) }

  narrow : (w : Width) → Has 0 (plain (narrowing w))
  narrow w = any _

  own_drops : (b : Bool) → Has 0 (own (dropping b))
  own_drops b = any _

  drops : (b : Bool) → Has 0 (plain (dropping b))
  drops b = any _

  call_drops : (r : Answer) → Has 0 (plain (dropping_call r))
  call_drops r = any _

  keeps : (b : Bool) (t : ℕ) → Has 0 (plain (keeping b t))
  keeps b t = any _

  back : (b : Bool) (t : ℕ) → Has 0 (plain (kept b t))
  back b t = any _

  meets : (x y l j t : ℕ) → Has 0 (plain (joins x y l j t))
  meets x y l j t = any _

  module _ (addresses : Addresses) where
    mutual
      pub expr_names : (e : Expr) (l t : ℕ) → Has (mentions_in i e) (expr_pieces addresses e l t)
      expr_names (node.Const w) l t =
          has _
          (put (Plain _) none)
          (omega arith)
      expr_names (node.Captured w j) l t =
          has _
          (put (Captured j) none)
          (omega arith)
      expr_names (node.Var j) l t =
          has _
          (put (Plain _) none)
          (omega arith)
      expr_names (node.SetVar j e) l t =
          has _
          (pair (expr_names e l t) (put (Plain _) none))
          (omega arith)
      expr_names (node.PostVar j w step) l t =
          has _
          (put (Plain _) (put (Plain _) (put (Plain _) (put (Plain _) (pair (narrow w) (put (Plain _) (put
          (Plain _) none)))))))
          (omega arith)
      expr_names (node.VGet j) l t =
          has _
          (put (GetKey j) none)
          (omega arith)
      expr_names (node.VSet j e) l t =
          has _
          (pair (expr_names e l t) (put (SetKey j) none))
          (omega arith)
      expr_names (node.VPost j step) l t =
          has _
          (put (GetKey j) (put (Plain _) (put (Plain _) (put (Plain _) (put (SetKey j) (put (Plain _) none))))))
          (omega arith)
      expr_names (node.Frame offset) l t =
          has _
          (put (Plain _) none)
          (omega arith)
      expr_names (node.Load w e) l t =
          has _
          (pair (expr_names e l t) (put (Plain _) none))
          (omega arith)
      expr_names (node.Store w e f) l t =
          has _
          (pair (expr_names e l t) (pair (expr_names f (l + labels_in e) (t + temps_in e)) (put
          (Plain _) none)))
          (omega arith)
      expr_names (node.Modify w op e f) l t =
          has _
          (pair (expr_names e l t) (put (Plain _) (put (Plain _) (pair (expr_names f (l + labels_in e)
          (t + temps_in e))
          (put (Plain _) (pair (narrow w) (put (Plain _) none)))))))
          (omega arith)
      expr_names (node.Post w step e) l t =
          has _
          (pair (expr_names e l t) (put (Plain _) (put (Plain _) (put (Plain _) (put (Plain _) (put (Plain _)
          (put (Plain _)
          (pair (narrow w) (put (Plain _) (put (Plain _) (put (Plain _) none)))))))))))
          (omega arith)
      expr_names (node.Bin op e f) l t =
          has _
          (pair (expr_names e l t) (pair (expr_names f (l + labels_in e) (t + temps_in e)) (put
          (Plain _) none)))
          (omega arith)
      expr_names (node.Un op e) l t =
          has _
          (pair (expr_names e l t) (put (Plain _) none))
          (omega arith)
      expr_names (node.And e f) l t =
          has _
          (pair (expr_names e (l + 2) (t + 1)) (put (Plain _)
          (pair (expr_names f (l + 2 + labels_in e) (t + 1 + temps_in e)) (put (Plain _) (meets 1 0 l (l + 1) t)))))
          (omega arith)
      expr_names (node.Or e f) l t =
          has _
          (pair (expr_names e (l + 2) (t + 1)) (put (Plain _)
          (pair (expr_names f (l + 2 + labels_in e) (t + 1 + temps_in e)) (put (Plain _) (meets 0 1 l (l + 1) t)))))
          (omega arith)
      expr_names (node.Cond c e f) l t =
          has _
          (pair (expr_names c (l + 2) (t + 1)) (put (Plain _)
          (pair (expr_names e (l + 2 + labels_in c) (t + 1 + temps_in c)) (pair (keeps (has_value e) t) (put
          (Plain _) (put (Plain _)
          (pair (expr_names f (l + 2 + labels_in c + labels_in e) (t + 1 + temps_in c + temps_in e))
          (pair (keeps (has_value e) t) (put (Plain _) (back (has_value e) t))))))))))
          (omega arith)
      expr_names (node.Comma e f) l t =
          has _
          (pair (expr_names e l t) (pair (own_drops (has_value e)) (expr_names f (l + labels_in e)
          (t + temps_in e))))
          (omega arith)
      expr_names (node.Void e) l t =
          has _
          (pair (expr_names e l t) (own_drops (has_value e)))
          (omega arith)
      expr_names (node.Call r f args) l t =
          let a = args_names args l t in
          has _ (pair a (put (Plain _) (call_drops r))) (omega arith)
      expr_names (node.CallNumber r e args) l t =
          let a = args_names args (l + labels_in e) (t + temps_in e) in
          has _ (pair (expr_names e l t) (pair a (put (Plain _) (call_drops r))))
          (omega arith)
      expr_names node.Getchar l t =
          has _
          (put (Plain _) (put (Plain _) none))
          (omega arith)
      expr_names (node.Lib library.Putchar e) l t =
          has _
          (pair (expr_names e l t) (put (Plain _) none))
          (omega arith)
      expr_names (node.Lib library.Putint e) l t =
          has _
          (pair (expr_names e l t) (put (Plain _) (put (Plain _) none)))
          (omega arith)
      expr_names (node.Lib library.Exit e) l t =
          has _
          (pair (expr_names e l t) (put (Plain _) (put (Plain _) none)))
          (omega arith)
      expr_names (node.Lib library.Malloc e) l t =
          has _
          (pair (expr_names e l t) (put (Plain _) none))
          (omega arith)
      expr_names (node.Tick j args) l t =
          let a = args_names args l t in
          has _ (pair a (any _)) (omega arith)
      expr_names (node.Capture kind e) l t =
          has _
          (put Nothing (expr_names e l t))
          (omega arith)
      expr_names (node.Splice r j) l t =
          has _
          (put (Splice j) none)
          (omega arith)
      expr_names (node.Compile e) l t =
          has _
          (pair (expr_names e l t) (put (Plain _) none))
          (omega arith)
      expr_names node.Local l t =
          has _
          (put (Plain _) (put (Plain _) none))
          (omega arith)
      expr_names (node.ParamOf e) l t =
          has _
          (pair (expr_names e l t) (put (Plain _) none))
          (omega arith)

      args_names : (args : Args) (l t : ℕ) → Has (mentions_in_args i args) (args_pieces addresses args l t)
      args_names node.NoArg l t = has _ none (omega arith)
      args_names (node.Arg e args) l t =
          has _
          (pair (expr_names e l t) (args_names args (l + labels_in e) (t + temps_in e)))
          (omega arith)

    mutual
      pub stmt_names : (s : Stmt) (to : Targets) (l t : ℕ)
          → Has (mentions_of i s) (stmt_pieces addresses s to l t)
      stmt_names (node.Eval e) to l t =
          has _
          (pair (expr_names e l t) (own_drops (has_value e)))
          (omega arith)
      stmt_names (node.Block vs xs) to l t =
          has _
          (put Nothing (pair (items_names vs to l t) (items_names xs to (l + labels_of vs) (t + temps_of vs))))
          (omega arith)
      stmt_names (node.Variable i) to l t =
          has _
          (put (Plain _) (put (Plain _) (put (Plain _) none)))
          (omega arith)
      stmt_names (node.Object offset words) to l t =
          has _
          (put (Plain _) none)
          (omega arith)
      stmt_names (node.Parameter k w) to l t =
          has _
          (put (Plain _) (pair (narrow w) (put (Plain _) (put (Plain _) none))))
          (omega arith)
      stmt_names (node.ParameterObject k w offset) to l t =
          has _
          (put (Plain _) (put (Plain _) (pair (narrow w) (put (Plain _) (put (Plain _) none)))))
          (omega arith)
      stmt_names (node.If e s) to l t =
          has _
          (pair (expr_names e (l + 1) t) (put (Plain _)
          (pair (stmt_names s to (l + 1 + labels_in e) (t + temps_in e)) (put (Plain _) none))))
          (omega arith)
      stmt_names (node.IfElse e s r) to l t =
          has _
          (pair (expr_names e (l + 2) t) (put (Plain _)
          (pair (stmt_names s to (l + 2 + labels_in e) (t + temps_in e)) (put (Plain _) (put (Plain _)
          (pair (stmt_names r to (l + 2 + labels_in e + labels s) (t + temps_in e + temps s)) (put
          (Plain _) none)))))))
          (omega arith)
      stmt_names (node.While e s) to l t =
          has _
          (put (Plain _) (pair (expr_names e (l + 2) t) (put (Plain _)
          (pair (stmt_names s (record { on_break = l; on_continue = l + 1 }) (l + 2 + labels_in e) (t + temps_in e))
          (put (Plain _) (put (Plain _) none))))))
          (omega arith)
      stmt_names (node.Do s e) to l t =
          has _
          (put (Plain _) (pair (stmt_names s (record { on_break = l; on_continue = l + 2 }) (l + 3) t) (put (Plain _)
          (pair (expr_names e (l + 3 + labels s) (t + temps s)) (put (Plain _) (put (Plain _) none))))))
          (omega arith)
      stmt_names (node.For e s) to l t =
          has _
          (put (Plain _) (pair (expr_names e (l + 3) t) (put (Plain _)
          (pair (stmt_names s (record { on_break = l; on_continue = l + 2 }) (l + 3 + labels_in e) (t + temps_in e))
          (put (Plain _) (put (Plain _) (put (Plain _) none)))))))
          (omega arith)
      stmt_names (node.ForStep e step s) to l t =
          has _
          (put (Plain _) (pair (expr_names e (l + 3) t) (put (Plain _)
          (pair (stmt_names s (record { on_break = l; on_continue = l + 2 }) (l + 3 + labels_in e)
          (t + temps_in e)) (put (Plain _)
          (pair (expr_names step (l + 3 + labels_in e + labels s) (t + temps_in e + temps s)) (pair
          (drops (has_value step))
          (put (Plain _) (put (Plain _) none)))))))))
          (omega arith)
      stmt_names (node.Switch e vs xs) to l t =
          let x : ℕ = l + 1 + labels_in e in
          let y : ℕ = t + 1 + temps_in e in
          let in_it : Targets = record { on_break = l; on_continue = to.on_continue } in
          has _
          (pair (expr_names e (l + 1) (t + 1)) (put (Plain _) (put (Plain _)
          (pair (put Nothing (items_names vs to x y)) (pair (any (plain (test_ops xs (x + labels_of vs) t)))
          (put (Plain _) (pair (items_names xs in_it (x + labels_of vs) (y + temps_of vs)) (put (Plain _) none))))))))
          (omega arith)
      stmt_names (node.Case v) to l t =
          has _
          (put (Plain _) none)
          (omega arith)
      stmt_names node.Default to l t =
          has _
          (put (Plain _) none)
          (omega arith)
      stmt_names node.Break to l t =
          has _
          (put (Plain _) none)
          (omega arith)
      stmt_names node.Continue to l t =
          has _
          (put (Plain _) none)
          (omega arith)
      stmt_names node.Return to l t =
          has _
          (put (Plain _) none)
          (omega arith)
      stmt_names (node.ReturnValue e) to l t =
          has _
          (pair (expr_names e l t) (put (Plain _) none))
          (omega arith)

      items_names : (xs : Items) (to : Targets) (l t : ℕ)
          → Has (mentions_of_items i xs)
          (items_pieces addresses xs to l t)
      items_names node.NoItem to l t = has _ none (omega arith)
      items_names (node.Item s xs) to l t =
          has _
          (pair (stmt_names s to l t) (items_names xs to (l + labels s) (t + temps s)))
          (omega arith)
