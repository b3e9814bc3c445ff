-- No plain piece of a tree names a variable: those that do are pieces of their own.
use Rattle.std.proofs.Common.{◌≡◌, ℕ, ◌+◌, ◌≤◌, Bool, true, false, List, [], ◌∷◌, ◌++◌, sym, subst, arith}
use Rattle.std.proofs.Common.{suc, length, Option, Some, None}
use Rattle.word32.specs.declared.width.Width.{Width}
use Rattle.word32.specs.declared.width.Width.TheVariants as width
use Rattle.typed_tree.specs.declared.expression.Answer.{Answer}
use Rattle.typed_tree.specs.declared.expression.Answer.TheVariants as answer
use Rattle.icode_ops.specs.declared.kind.RunKind.{RunKind}
use Rattle.typed_tree.specs.declared.expression.CaptureKind.{CaptureKind}
use Rattle.typed_tree.specs.declared.expression.Library.TheVariants as library
use Rattle.typed_tree.specs.Nodes as node
use Rattle.typed_tree.specs.Nodes.{Expr, Args, Stmt, Items, has_value}
use Rattle.staged_meaning.specs.Size.{labels_in, labels, labels_of, temps_in, temps, temps_of}
use Rattle.tick_lower_spec.specs.Lower.{Addresses, Targets, narrowing, dropping, dropping_call, keeping, kept, joins}
use Rattle.staged_meaning.specs.Specifications.{kinds_of}
use Rattle.tick_lower_spec.specs.Lower.{case_ops, test_ops, check_run, checking, checking_all, putting, nipping}
use Rattle.tick_lower_spec.specs.Lower.{making_ops}
use Rattle.icode_ir.specs.declared.build_op.BuildOp.{BuildOp}
use Rattle.icode_ir.specs.declared.build_op.BuildOp.TheVariants.{GetSpec, SetSpec}
use Rattle.tick_lower_spec.specs.declared.piece.Piece.{Piece}
use Rattle.tick_lower_spec.specs.declared.piece.Piece.TheVariants.{Plain, Captured, GetKey, SetKey, Splice, Nothing}
use Rattle.tick_lower_spec.specs.TickPieces.{plain, own, expr_pieces, args_pieces, stmt_pieces, items_pieces}
use Rattle.routine_spec.proofs.Captured.{new_and_words}
use Rattle.generated_ops_proof.proofs.Costs.{plain_both}

abbrev pub keyed : BuildOp → ℕ
keyed (GetSpec key) = 1
keyed (SetSpec key) = 1
keyed _ = 0

abbrev pub piece_keyed : Piece → ℕ
piece_keyed (Plain op) = keyed op
piece_keyed _ = 0

abbrev pub all_keyed : List Piece → ℕ
all_keyed [] = 0
all_keyed (p ∷ ps) = piece_keyed p + all_keyed ps

pub keyed_both : (ps qs : List Piece) → all_keyed (ps ++ qs) ≡ all_keyed ps + all_keyed qs
keyed_both [] qs = omega arith
keyed_both (p ∷ ps) qs = omega (arith, keyed_both ps qs)

-- at most so many
pub record Has (n : ℕ) (ps : List Piece) : Type 0 where
  pub few : all_keyed ps ≤ n

none : Has 0 []
none = record { few = omega arith }

put : {n : ℕ} {ps : List Piece} (p : Piece) → Has n ps → Has (piece_keyed p + n) (p ∷ ps)
put {n} {ps} p f = record { few = omega (arith, f.few) }

pair : {n m : ℕ} {ps qs : List Piece} → Has n ps → Has m qs → Has (n + m) (ps ++ qs)
pair {n} {m} {ps} {qs} f g = record { few = omega (arith, f.few, g.few, keyed_both ps qs) }

has : {n : ℕ} {ps : List Piece} (m : ℕ) → Has n ps → n ≤ m → Has m ps
has {n} {ps} m f le = record { few = omega (arith, f.few, le) }

narrow : (w : Width) → Has 0 (plain (narrowing w))
narrow width.SignedByte = record { few = omega arith }
narrow width.Byte = record { few = omega arith }
narrow width.SignedHalf = record { few = omega arith }
narrow width.Half = record { few = omega arith }
narrow width.Word = record { few = omega arith }

drops : (b : Bool) → Has 0 (plain (dropping b))
drops true = record { few = omega arith }
drops false = record { few = omega arith }

own_drops : (b : Bool) → Has 0 (own (dropping b))
own_drops true = record { few = omega arith }
own_drops false = record { few = omega arith }

call_drops : (r : Answer) → Has 0 (plain (dropping_call r))
call_drops answer.Value = record { few = omega arith }
call_drops answer.Void = record { few = omega arith }

keeps : (b : Bool) (t : ℕ) → Has 0 (plain (keeping b t))
keeps true t = record { few = omega arith }
keeps false t = record { few = omega arith }

back : (b : Bool) (t : ℕ) → Has 0 (plain (kept b t))
back true t = record { few = omega arith }
back false t = record { few = omega arith }

meets : (x y l j t : ℕ) → Has 0 (plain (joins x y l j t))
meets x y l j t = record { few = omega arith }

plain_pair : (xs ys : List BuildOp) → Has 0 (plain xs) → Has 0 (plain ys) → Has 0 (plain (xs ++ ys))
plain_pair xs ys f g = subst (λ z. Has 0 z) (sym (plain_both xs ys)) (has 0 (pair f g) (omega arith))

case_plain : (s : Stmt) (l t : ℕ) → Has 0 (plain (case_ops s l t))
case_plain (node.Case v) l t = record { few = omega arith }
case_plain _ l t = record { few = omega arith }

tests_plain : (xs : Items) (l t : ℕ) → Has 0 (plain (test_ops xs l t))
tests_plain node.NoItem l t = record { few = omega arith }
tests_plain (node.Item s xs) l t =
    plain_pair (case_ops s l t) (test_ops xs (l + labels s) t) (case_plain s l t) (tests_plain xs (l + labels s) t)

check_plain : (r : Option RunKind) (depth : ℕ) → Has 0 (plain (checking r depth))
check_plain None depth = none
check_plain (Some r) depth = record { few = omega arith }

checks_plain : (kinds : List CaptureKind) → Has 0 (plain (checking_all kinds))
checks_plain [] = none
checks_plain (k ∷ kinds) =
    plain_pair (checking (check_run k) (length kinds)) (checking_all kinds) (check_plain (check_run k) (length kinds))
    (checks_plain kinds)

puts_plain : (i : ℕ) (kinds : List CaptureKind) → Has 0 (plain (putting i kinds))
puts_plain i [] = none
puts_plain i (k ∷ kinds) = has 0 (put (Plain _) (put (Plain _) (puts_plain (suc i) kinds))) (omega arith)

nips_plain : (kinds : List CaptureKind) → Has 0 (plain (nipping kinds))
nips_plain [] = none
nips_plain (k ∷ kinds) = has 0 (put (Plain _) (nips_plain kinds)) (omega arith)

making_plain : (addresses : Addresses) (tick : ℕ) (kinds : List CaptureKind)
    → Has 0 (plain (making_ops addresses tick kinds))
making_plain addresses tick kinds =
    has 0
    (put (Plain _) (put (Plain _) (put (Plain _) (plain_pair (checking_all kinds) (new_and_words addresses tick kinds)
    (checks_plain kinds)
    (has 0 (put (Plain _) (plain_pair (putting 0 kinds) (nipping kinds) (puts_plain 0 kinds) (nips_plain kinds)))
    (omega arith))))))
    (omega arith)

module _ (addresses : Addresses) where
  mutual
    pub expr_plain : (e : Expr) (l t : ℕ) → Has 0 (expr_pieces addresses e l t)
    expr_plain (node.Const w) l t =
        has 0
        (put (Plain _) none)
        (omega arith)
    expr_plain (node.Captured w j) l t =
        has 0
        (put (Captured j) none)
        (omega arith)
    expr_plain (node.Var j) l t =
        has 0
        (put (Plain _) none)
        (omega arith)
    expr_plain (node.SetVar j e) l t =
        has 0
        (pair (expr_plain e l t) (put (Plain _) none))
        (omega arith)
    expr_plain (node.PostVar j w step) l t =
        has 0
        (put (Plain _) (put (Plain _) (put (Plain _) (put (Plain _) (pair (narrow w) (put (Plain _) (put
        (Plain _) none)))))))
        (omega arith)
    expr_plain (node.VGet j) l t =
        has 0
        (put (GetKey j) none)
        (omega arith)
    expr_plain (node.VSet j e) l t =
        has 0
        (pair (expr_plain e l t) (put (SetKey j) none))
        (omega arith)
    expr_plain (node.VPost j step) l t =
        has 0
        (put (GetKey j) (put (Plain _) (put (Plain _) (put (Plain _) (put (SetKey j) (put (Plain _) none))))))
        (omega arith)
    expr_plain (node.Frame offset) l t =
        has 0
        (put (Plain _) none)
        (omega arith)
    expr_plain (node.Load w e) l t =
        has 0
        (pair (expr_plain e l t) (put (Plain _) none))
        (omega arith)
    expr_plain (node.Store w e f) l t =
        has 0
        (pair (expr_plain e l t) (pair (expr_plain f (l + labels_in e) (t + temps_in e)) (put
        (Plain _) none)))
        (omega arith)
    expr_plain (node.Modify w op e f) l t =
        has 0
        (pair (expr_plain e l t) (put (Plain _) (put (Plain _) (pair (expr_plain f (l + labels_in e)
        (t + temps_in e))
        (put (Plain _) (pair (narrow w) (put (Plain _) none)))))))
        (omega arith)
    expr_plain (node.Post w step e) l t =
        has 0
        (pair (expr_plain e l t) (put (Plain _) (put (Plain _) (put (Plain _) (put (Plain _) (put (Plain _)
        (put (Plain _)
        (pair (narrow w) (put (Plain _) (put (Plain _) (put (Plain _) none)))))))))))
        (omega arith)
    expr_plain (node.Bin op e f) l t =
        has 0
        (pair (expr_plain e l t) (pair (expr_plain f (l + labels_in e) (t + temps_in e)) (put
        (Plain _) none)))
        (omega arith)
    expr_plain (node.Un op e) l t =
        has 0
        (pair (expr_plain e l t) (put (Plain _) none))
        (omega arith)
    expr_plain (node.And e f) l t =
        has 0
        (pair (expr_plain e (l + 2) (t + 1)) (put (Plain _)
        (pair (expr_plain f (l + 2 + labels_in e) (t + 1 + temps_in e)) (put (Plain _) (meets 1 0 l (l + 1) t)))))
        (omega arith)
    expr_plain (node.Or e f) l t =
        has 0
        (pair (expr_plain e (l + 2) (t + 1)) (put (Plain _)
        (pair (expr_plain f (l + 2 + labels_in e) (t + 1 + temps_in e)) (put (Plain _) (meets 0 1 l (l + 1) t)))))
        (omega arith)
    expr_plain (node.Cond c e f) l t =
        has 0
        (pair (expr_plain c (l + 2) (t + 1)) (put (Plain _)
        (pair (expr_plain e (l + 2 + labels_in c) (t + 1 + temps_in c)) (pair (keeps (has_value e) t) (put
        (Plain _) (put (Plain _)
        (pair (expr_plain f (l + 2 + labels_in c + labels_in e) (t + 1 + temps_in c + temps_in e))
        (pair (keeps (has_value e) t) (put (Plain _) (back (has_value e) t))))))))))
        (omega arith)
    expr_plain (node.Comma e f) l t =
        has 0
        (pair (expr_plain e l t) (pair (own_drops (has_value e)) (expr_plain f (l + labels_in e)
        (t + temps_in e))))
        (omega arith)
    expr_plain (node.Void e) l t =
        has 0
        (pair (expr_plain e l t) (own_drops (has_value e)))
        (omega arith)
    expr_plain (node.Call r f args) l t =
        let a = args_plain args l t in
        has 0 (pair a (put (Plain _) (call_drops r))) (omega arith)
    expr_plain (node.CallNumber r e args) l t =
        let a = args_plain args (l + labels_in e) (t + temps_in e) in
        has 0 (pair (expr_plain e l t) (pair a (put (Plain _) (call_drops r))))
        (omega arith)
    expr_plain node.Getchar l t =
        has 0
        (put (Plain _) (put (Plain _) none))
        (omega arith)
    expr_plain (node.Lib library.Putchar e) l t =
        has 0
        (pair (expr_plain e l t) (put (Plain _) none))
        (omega arith)
    expr_plain (node.Lib library.Putint e) l t =
        has 0
        (pair (expr_plain e l t) (put (Plain _) (put (Plain _) none)))
        (omega arith)
    expr_plain (node.Lib library.Exit e) l t =
        has 0
        (pair (expr_plain e l t) (put (Plain _) (put (Plain _) none)))
        (omega arith)
    expr_plain (node.Lib library.Malloc e) l t =
        has 0
        (pair (expr_plain e l t) (put (Plain _) none))
        (omega arith)
    expr_plain (node.Tick j args) l t =
        let a = args_plain args l t in
        has 0 (pair a (making_plain addresses j (kinds_of args))) (omega arith)
    expr_plain (node.Capture kind e) l t =
        has 0
        (put Nothing (expr_plain e l t))
        (omega arith)
    expr_plain (node.Splice r j) l t =
        has 0
        (put (Splice j) none)
        (omega arith)
    expr_plain (node.Compile e) l t =
        has 0
        (pair (expr_plain e l t) (put (Plain _) none))
        (omega arith)
    expr_plain node.Local l t =
        has 0
        (put (Plain _) (put (Plain _) none))
        (omega arith)
    expr_plain (node.ParamOf e) l t =
        has 0
        (pair (expr_plain e l t) (put (Plain _) none))
        (omega arith)

    args_plain : (args : Args) (l t : ℕ) → Has 0 (args_pieces addresses args l t)
    args_plain node.NoArg l t = has 0 none (omega arith)
    args_plain (node.Arg e args) l t =
        has 0
        (pair (expr_plain e l t) (args_plain args (l + labels_in e) (t + temps_in e)))
        (omega arith)

  mutual
    pub stmt_plain : (s : Stmt) (to : Targets) (l t : ℕ)
        → Has 0 (stmt_pieces addresses s to l t)
    stmt_plain (node.Eval e) to l t =
        has 0
        (pair (expr_plain e l t) (own_drops (has_value e)))
        (omega arith)
    stmt_plain (node.Block vs xs) to l t =
        has 0
        (put Nothing (pair (items_plain vs to l t) (items_plain xs to (l + labels_of vs) (t + temps_of vs))))
        (omega arith)
    stmt_plain (node.Variable i) to l t =
        has 0
        (put (Plain _) (put (Plain _) (put (Plain _) none)))
        (omega arith)
    stmt_plain (node.Object offset words) to l t =
        has 0
        (put (Plain _) none)
        (omega arith)
    stmt_plain (node.Parameter k w) to l t =
        has 0
        (put (Plain _) (pair (narrow w) (put (Plain _) (put (Plain _) none))))
        (omega arith)
    stmt_plain (node.ParameterObject k w offset) to l t =
        has 0
        (put (Plain _) (put (Plain _) (pair (narrow w) (put (Plain _) (put (Plain _) none)))))
        (omega arith)
    stmt_plain (node.If e s) to l t =
        has 0
        (pair (expr_plain e (l + 1) t) (put (Plain _)
        (pair (stmt_plain s to (l + 1 + labels_in e) (t + temps_in e)) (put (Plain _) none))))
        (omega arith)
    stmt_plain (node.IfElse e s r) to l t =
        has 0
        (pair (expr_plain e (l + 2) t) (put (Plain _)
        (pair (stmt_plain s to (l + 2 + labels_in e) (t + temps_in e)) (put (Plain _) (put (Plain _)
        (pair (stmt_plain r to (l + 2 + labels_in e + labels s) (t + temps_in e + temps s)) (put
        (Plain _) none)))))))
        (omega arith)
    stmt_plain (node.While e s) to l t =
        has 0
        (put (Plain _) (pair (expr_plain e (l + 2) t) (put (Plain _)
        (pair (stmt_plain s (record { on_break = l; on_continue = l + 1 }) (l + 2 + labels_in e) (t + temps_in e))
        (put (Plain _) (put (Plain _) none))))))
        (omega arith)
    stmt_plain (node.Do s e) to l t =
        has 0
        (put (Plain _) (pair (stmt_plain s (record { on_break = l; on_continue = l + 2 }) (l + 3) t) (put (Plain _)
        (pair (expr_plain e (l + 3 + labels s) (t + temps s)) (put (Plain _) (put (Plain _) none))))))
        (omega arith)
    stmt_plain (node.For e s) to l t =
        has 0
        (put (Plain _) (pair (expr_plain e (l + 3) t) (put (Plain _)
        (pair (stmt_plain s (record { on_break = l; on_continue = l + 2 }) (l + 3 + labels_in e) (t + temps_in e))
        (put (Plain _) (put (Plain _) (put (Plain _) none)))))))
        (omega arith)
    stmt_plain (node.ForStep e step s) to l t =
        has 0
        (put (Plain _) (pair (expr_plain e (l + 3) t) (put (Plain _)
        (pair (stmt_plain s (record { on_break = l; on_continue = l + 2 }) (l + 3 + labels_in e)
        (t + temps_in e)) (put (Plain _)
        (pair (expr_plain step (l + 3 + labels_in e + labels s) (t + temps_in e + temps s)) (pair
        (drops (has_value step))
        (put (Plain _) (put (Plain _) none)))))))))
        (omega arith)
    stmt_plain (node.Switch e vs xs) to l t =
        let x : ℕ = l + 1 + labels_in e in
        let y : ℕ = t + 1 + temps_in e in
        let in_it : Targets = record { on_break = l; on_continue = to.on_continue } in
        has 0
        (pair (expr_plain e (l + 1) (t + 1)) (put (Plain _) (put (Plain _)
        (pair (put Nothing (items_plain vs to x y)) (pair (tests_plain xs (x + labels_of vs) t) (put (Plain _)
        (pair (items_plain xs in_it (x + labels_of vs) (y + temps_of vs)) (put (Plain _) none))))))))
        (omega arith)
    stmt_plain (node.Case v) to l t =
        has 0
        (put (Plain _) none)
        (omega arith)
    stmt_plain node.Default to l t =
        has 0
        (put (Plain _) none)
        (omega arith)
    stmt_plain node.Break to l t =
        has 0
        (put (Plain _) none)
        (omega arith)
    stmt_plain node.Continue to l t =
        has 0
        (put (Plain _) none)
        (omega arith)
    stmt_plain node.Return to l t =
        has 0
        (put (Plain _) none)
        (omega arith)
    stmt_plain (node.ReturnValue e) to l t =
        has 0
        (pair (expr_plain e l t) (put (Plain _) none))
        (omega arith)

    items_plain : (xs : Items) (to : Targets) (l t : ℕ)
        → Has 0
        (items_pieces addresses xs to l t)
    items_plain node.NoItem to l t = has 0 none (omega arith)
    items_plain (node.Item s xs) to l t =
        has 0
        (pair (stmt_plain s to l t) (items_plain xs to (l + labels s) (t + temps s)))
        (omega arith)
