-- The registers that ops take: a tree of n nodes has pieces that take at most six a node, besides its variables.
use Rattle.std.proofs.Common.{◌≡◌, ℕ, ◌+◌, ◌*◌, ◌≤◌, Bool, true, false, List, [], ◌∷◌, ◌++◌, Option, Some, None, refl}
use Rattle.std.proofs.Common.{suc, length, sym, subst, arith}
use Rattle.word32.specs.declared.width.Width.{Width}
use Rattle.word32.specs.declared.width.Width.TheVariants as width
use Rattle.icode_ops.specs.declared.kind.BinKind.{BinKind}
use Rattle.icode_ops.specs.declared.kind.BinKind.TheVariants as bin
use Rattle.icode_ir.specs.declared.build_op.BuildOp.{BuildOp}
use Rattle.icode_ir.specs.declared.build_op.BuildOp.TheVariants.{Const, Bin, Un, Enter, Leave, GetVariable, SetVariable}
use Rattle.icode_ir.specs.declared.build_op.BuildOp.TheVariants.{Drop, Pick, Nip, Load, Store, Label, Jump, BranchZero}
use Rattle.icode_ir.specs.declared.build_op.BuildOp.TheVariants.{BranchNonzero, Call, CallNumber, Return, ReturnZero}
use Rattle.icode_ir.specs.declared.build_op.BuildOp.TheVariants.{GetSpec, SetSpec, Sys, Run, FrameAddress, Clear, New}
use Rattle.icode_ir.specs.declared.build_op.BuildOp.TheVariants.{Put, Parameter}
use Rattle.icode_ir.specs.Build.{Build, find, mention, operand}
use Rattle.icode_ir.specs.Rules.{checked, effect}
use Rattle.typed_tree.specs.declared.expression.Answer.{Answer}
use Rattle.typed_tree.specs.declared.expression.Answer.TheVariants as answer
use Rattle.icode_ops.specs.declared.kind.RunKind.{RunKind}
use Rattle.typed_tree.specs.declared.expression.CaptureKind.{CaptureKind}
use Rattle.typed_tree.specs.declared.expression.Library.TheVariants as library
use Rattle.typed_tree.specs.Nodes as node
use Rattle.typed_tree.specs.Nodes.{Expr, Args, Stmt, Items, has_value, count}
use Rattle.staged_meaning.specs.Size.{size_of_expr, size_of_args, size_of_stmt, size_of_items, labels_in, labels}
use Rattle.staged_meaning.specs.Size.{labels_of}
use Rattle.staged_meaning.specs.Size.{temps_in, temps, temps_of}
use Rattle.staged_meaning.specs.Specifications.{kinds_of}
use Rattle.tick_lower_spec.specs.Lower.{Addresses, Targets, narrowing, dropping, dropping_call, keeping, kept, joins}
use Rattle.tick_lower_spec.specs.Lower.{case_ops, test_ops, check_run, checking, checking_all, putting, nipping}
use Rattle.tick_lower_spec.specs.Lower.{making_ops}
use Rattle.tick_lower_spec.specs.declared.piece.Piece.{Piece}
use Rattle.tick_lower_spec.specs.declared.piece.Piece.TheVariants.{Plain, Captured, GetKey, SetKey, Splice, Nothing}
use Rattle.generator_laws.specs.Laws.{built_of}
use Rattle.tick_lower_spec.specs.TickPieces.{plain, own, expr_pieces, args_pieces, stmt_pieces, items_pieces}
use Rattle.generated_ops_proof.specs.Room.{more_registers, in_all}
use Rattle.routine_spec.proofs.Captured.{new_and_words, kinds_count}
use Rattle.generated_ops_proof.proofs.Costs.{piece_adds, adds, adds_both, plain_both}

-- ---- an op takes no more registers than are counted

mention_grows : (o : Option ℕ) (key : ℕ) (b : Build) → (mention o key b).registers ≤ b.registers + 1
mention_grows (Some r) key b = omega arith
mention_grows None key b = omega arith

checks_keep : (kind : BinKind) (x y : ℕ) (b : Build) → (checked kind x y b).registers ≡ b.registers
checks_keep bin.DivideSigned x y b = refl
checks_keep bin.DivideUnsigned x y b = refl
checks_keep bin.RemainderSigned x y b = refl
checks_keep bin.RemainderUnsigned x y b = refl
checks_keep _ x y b = refl

op_grows : (o : BuildOp) (b : Build) → (effect o b).registers ≤ b.registers + more_registers o
op_grows (Const word) b = omega arith
op_grows (Bin kind) b = omega (arith, checks_keep kind (operand 1 b) (operand 0 b) b)
op_grows (Un kind) b = omega arith
op_grows (Enter n m) b = omega arith
op_grows Leave b = omega arith
op_grows (GetVariable i) b = omega arith
op_grows (SetVariable i) b = omega arith
op_grows Drop b = omega arith
op_grows (Pick i) b = omega arith
op_grows Nip b = omega arith
op_grows (Load width) b = omega arith
op_grows (Store width) b = omega arith
op_grows (Label i) b = omega arith
op_grows (Jump i) b = omega arith
op_grows (BranchZero i) b = omega arith
op_grows (BranchNonzero i) b = omega arith
op_grows (Call address n) b = omega arith
op_grows (CallNumber n) b = omega arith
op_grows Return b = omega arith
op_grows ReturnZero b = omega arith
op_grows (GetSpec key) b = omega (arith, mention_grows (find key b.keys) key b)
op_grows (SetSpec key) b = omega (arith, mention_grows (find key b.keys) key b)
op_grows (Sys kind) b = omega arith
op_grows (Run routine) b = omega arith
op_grows (FrameAddress offset) b = omega arith
op_grows (Clear offset words) b = omega arith
op_grows (New address kind captures) b = omega arith
op_grows (Put i) b = omega arith
op_grows (Parameter k) b = omega arith

pub registers_grow : (os : List BuildOp) (b : Build) → (built_of os b).registers ≤ b.registers + in_all
    more_registers os
registers_grow [] b = omega arith
registers_grow (o ∷ os) b = omega (arith, op_grows o b, registers_grow os (effect o b))

-- ---- pieces

pub record Takes (c : ℕ) (ps : List Piece) : Type 0 where
  pub few : adds more_registers ps ≤ c

none : Takes 0 []
none = record { few = omega arith }

put : {c : ℕ} {ps : List Piece} (p : Piece) → Takes c ps → Takes (piece_adds more_registers p + c) (p ∷ ps)
put {c} {ps} p f = record { few = omega (arith, f.few) }

pair : {c d : ℕ} {ps qs : List Piece} → Takes c ps → Takes d qs → Takes (c + d) (ps ++ qs)
pair {c} {d} {ps} {qs} f g = record { few = omega (arith, f.few, g.few, adds_both more_registers ps qs) }

at_most : {c : ℕ} {ps : List Piece} (d : ℕ) → Takes c ps → c ≤ d → Takes d ps
at_most {c} {ps} d f le = record { few = omega (arith, f.few, le) }

exactly : (ps : List Piece) → Takes (adds more_registers ps) ps
exactly ps = record { few = omega arith }

pub narrow : (w : Width) → Takes 1 (plain (narrowing w))
narrow width.SignedByte = record { few = omega arith }
narrow width.Byte = record { few = omega arith }
narrow width.SignedHalf = record { few = omega arith }
narrow width.Half = record { few = omega arith }
narrow width.Word = record { few = omega arith }

drops : (b : Bool) → Takes 0 (plain (dropping b))
drops true = record { few = omega arith }
drops false = record { few = omega arith }

own_drops : (b : Bool) → Takes 0 (own (dropping b))
own_drops true = record { few = omega arith }
own_drops false = record { few = omega arith }

call_drops : (r : Answer) → Takes 0 (plain (dropping_call r))
call_drops answer.Value = record { few = omega arith }
call_drops answer.Void = record { few = omega arith }

keeps : (b : Bool) (t : ℕ) → Takes 0 (plain (keeping b t))
keeps true t = record { few = omega arith }
keeps false t = record { few = omega arith }

back : (b : Bool) (t : ℕ) → Takes 1 (plain (kept b t))
back true t = record { few = omega arith }
back false t = record { few = omega arith }

meets : (x y l j t : ℕ) → Takes 3 (plain (joins x y l j t))
meets x y l j t = record { few = omega arith }

plain_pair : {c d : ℕ} (xs ys : List BuildOp) → Takes c (plain xs) → Takes d (plain ys)
    → Takes (c + d) (plain (xs ++ ys))
plain_pair {c} {d} xs ys f g = subst (λ z. Takes (c + d) z) (sym (plain_both xs ys)) (pair f g)

-- an expression takes one less: a tick has an op for each of its captures that takes one
record Spare (n : ℕ) (ps : List Piece) : Type 0 where
  few : adds more_registers ps + 1 ≤ 6 * n

spare : {c : ℕ} {ps : List Piece} (n : ℕ) → Takes c ps → c + 1 ≤ 6 * n → Spare n ps
spare {c} {ps} n f le = record { few = omega (arith, f.few, le) }

of : {n : ℕ} {ps : List Piece} → Spare n ps → Takes (6 * n) ps
of {n} {ps} f = record { few = omega (arith, f.few) }

record ArgsSpare (args : Args) (ps : List Piece) : Type 0 where
  few : adds more_registers ps + count args ≤ 6 * size_of_args args

of_args : {args : Args} {ps : List Piece} → ArgsSpare args ps → Takes (6 * size_of_args args) ps
of_args {args} {ps} f = record { few = omega (arith, f.few) }

check_takes : (r : Option RunKind) (depth : ℕ) → Takes 1 (plain (checking r depth))
check_takes None depth = record { few = omega arith }
check_takes (Some r) depth = record { few = omega arith }

checks_take : (kinds : List CaptureKind) → Takes (length kinds) (plain (checking_all kinds))
checks_take [] = none
checks_take (k ∷ kinds) =
    at_most _
    (plain_pair (checking (check_run k) (length kinds)) (checking_all kinds) (check_takes (check_run k) (length kinds))
    (checks_take kinds))
    (omega arith)

puts_take : (i : ℕ) (kinds : List CaptureKind) → Takes 0 (plain (putting i kinds))
puts_take i [] = none
puts_take i (k ∷ kinds) = at_most 0 (put (Plain _) (put (Plain _) (puts_take (suc i) kinds))) (omega arith)

nips_take : (kinds : List CaptureKind) → Takes 0 (plain (nipping kinds))
nips_take [] = none
nips_take (k ∷ kinds) = at_most 0 (put (Plain _) (nips_take kinds)) (omega arith)

making_takes : (addresses : Addresses) (tick : ℕ) (kinds : List CaptureKind)
    → Takes (3 + length kinds) (plain (making_ops addresses tick kinds))
making_takes addresses tick kinds =
    at_most _
    (put (Plain _) (put (Plain _) (put (Plain _) (plain_pair (checking_all kinds) (new_and_words addresses tick kinds)
    (checks_take kinds)
    (put (Plain _) (plain_pair (putting 0 kinds) (nipping kinds) (puts_take 0 kinds) (nips_take kinds)))))))
    (omega arith)

-- ---- trees

module _ (addresses : Addresses) where
  mutual
    expr_spare : (e : Expr) (l t : ℕ) → Spare (size_of_expr e) (expr_pieces addresses e l t)
    expr_spare (node.Const w) l t = spare _ (put (Plain _) none) (omega arith)
    expr_spare (node.Captured w j) l t = spare _ (put (Captured j) none) (omega arith)
    expr_spare (node.Var j) l t = spare _ (put (Plain _) none) (omega arith)
    expr_spare (node.SetVar j e) l t = spare _ (pair (of (expr_spare e l t)) (put (Plain _) none)) (omega arith)
    expr_spare (node.PostVar j w step) l t = spare _ (put (Plain _) (put (Plain _) (put (Plain _) (put
        (Plain _) (pair (narrow w) (put (Plain _) (put (Plain _) none))))))) (omega arith)
    expr_spare (node.VGet j) l t = spare _ (put (GetKey j) none) (omega arith)
    expr_spare (node.VSet j e) l t = spare _ (pair (of (expr_spare e l t)) (put (SetKey j) none)) (omega arith)
    expr_spare (node.VPost j step) l t = spare _ (put (GetKey j) (put (Plain _) (put (Plain _) (put (Plain _)
        (put (SetKey j) (put (Plain _) none)))))) (omega arith)
    expr_spare (node.Frame offset) l t = spare _ (put (Plain _) none) (omega arith)
    expr_spare (node.Load w e) l t = spare _ (pair (of (expr_spare e l t)) (put (Plain _) none)) (omega arith)
    expr_spare (node.Store w e f) l t = spare _ (pair (of (expr_spare e l t)) (pair (of (expr_spare f _ _))
        (put (Plain _) none))) (omega arith)
    expr_spare (node.Modify w op e f) l t = spare _ (pair (of (expr_spare e l t)) (put (Plain _) (put
        (Plain _) (pair (of (expr_spare f _ _))
        (put (Plain _) (pair (narrow w) (put (Plain _) none))))))) (omega arith)
    expr_spare (node.Post w step e) l t = spare _ (pair (of (expr_spare e l t)) (put (Plain _) (put (Plain _)
        (put (Plain _) (put (Plain _) (put (Plain _) (put (Plain _)
        (pair (narrow w) (put (Plain _) (put (Plain _) (put (Plain _) none))))))))))) (omega arith)
    expr_spare (node.Bin op e f) l t = spare _ (pair (of (expr_spare e l t)) (pair (of (expr_spare f _ _)) (put
        (Plain _) none))) (omega arith)
    expr_spare (node.Un op e) l t = spare _ (pair (of (expr_spare e l t)) (put (Plain _) none)) (omega arith)
    expr_spare (node.And e f) l t = spare _ (pair (of (expr_spare e _ _)) (put (Plain _) (pair
        (of (expr_spare f _ _))
        (put (Plain _) (meets 1 0 l (l + 1) t))))) (omega arith)
    expr_spare (node.Or e f) l t = spare _ (pair (of (expr_spare e _ _)) (put (Plain _) (pair
        (of (expr_spare f _ _))
        (put (Plain _) (meets 0 1 l (l + 1) t))))) (omega arith)
    expr_spare (node.Cond c e f) l t = spare _ (pair (of (expr_spare c _ _)) (put (Plain _) (pair
        (of (expr_spare e _ _))
        (pair (keeps (has_value e) t) (put (Plain _) (put (Plain _) (pair (of (expr_spare f _ _))
        (pair (keeps (has_value e) t) (put (Plain _) (back (has_value e) t)))))))))) (omega arith)
    expr_spare (node.Comma e f) l t = spare _ (pair (of (expr_spare e l t)) (pair (own_drops (has_value e))
        (of (expr_spare f _ _)))) (omega arith)
    expr_spare (node.Void e) l t = spare _ (pair (of (expr_spare e l t)) (own_drops (has_value e))) (omega arith)
    expr_spare (node.Call r f args) l t = spare _ (pair (of_args (args_spare args l t)) (put (Plain _)
        (call_drops r))) (omega arith)
    expr_spare (node.CallNumber r e args) l t = spare _ (pair (of (expr_spare e l t)) (pair
        (of_args (args_spare args _ _)) (put (Plain _) (call_drops r)))) (omega arith)
    expr_spare node.Getchar l t = spare _ (put (Plain _) (put (Plain _) none)) (omega arith)
    expr_spare (node.Lib library.Putchar e) l t = spare _ (pair (of (expr_spare e l t)) (put (Plain _) none))
        (omega arith)
    expr_spare (node.Lib library.Putint e) l t = spare _ (pair (of (expr_spare e l t)) (put (Plain _) (put
        (Plain _) none))) (omega arith)
    expr_spare (node.Lib library.Exit e) l t = spare _ (pair (of (expr_spare e l t)) (put (Plain _) (put
        (Plain _) none))) (omega arith)
    expr_spare (node.Lib library.Malloc e) l t = spare _ (pair (of (expr_spare e l t)) (put (Plain _) none))
        (omega arith)
    expr_spare (node.Tick j args) l t = let a = args_spare args l t in
        spare _ (pair (exactly (args_pieces addresses args l t)) (making_takes addresses j (kinds_of args)))
        (omega (arith, a.few, kinds_count args))
    expr_spare (node.Capture kind e) l t = spare _ (put Nothing (of (expr_spare e l t))) (omega arith)
    expr_spare (node.Splice r j) l t = spare _ (put (Splice j) none) (omega arith)
    expr_spare (node.Compile e) l t = spare _ (pair (of (expr_spare e l t)) (put (Plain _) none)) (omega arith)
    expr_spare node.Local l t = spare _ (put (Plain _) (put (Plain _) none)) (omega arith)
    expr_spare (node.ParamOf e) l t = spare _ (pair (of (expr_spare e l t)) (put (Plain _) none)) (omega arith)

    args_spare : (args : Args) (l t : ℕ) → ArgsSpare args (args_pieces addresses args l t)
    args_spare node.NoArg l t = record { few = omega arith }
    args_spare (node.Arg e args) l t =
        let f = expr_spare e l t in
        let a = args_spare args (l + labels_in e) (t + temps_in e) in
        record {
          few = omega (
            arith,
            f.few,
            a.few,
            adds_both more_registers (expr_pieces addresses e l t)
                (args_pieces addresses args (l + labels_in e) (t + temps_in e)),
          );
        }

  pub expr_registers : (e : Expr) (l t : ℕ) → Takes (6 * size_of_expr e) (expr_pieces addresses e l t)
  expr_registers e l t = of (expr_spare e l t)

  tested : (s : Stmt) (l t x : ℕ) (to : Targets) → Takes (6 * size_of_stmt s) (stmt_pieces addresses s to l x)
      → adds more_registers (plain (case_ops s l t)) + adds more_registers (stmt_pieces addresses s to l x)
      ≤ 6 * size_of_stmt s
  tested (node.Case v) l t x to f = omega arith
  tested _ l t x to f = omega (arith, f.few)

  mutual
    pub stmt_registers : (s : Stmt) (to : Targets) (l t : ℕ) → Takes (6 * size_of_stmt s)
        (stmt_pieces addresses s to l t)
    stmt_registers (node.Eval e) to l t = at_most _ (pair (expr_registers e l t) (own_drops (has_value e)))
        (omega arith)
    stmt_registers (node.Block vs xs) to l t = at_most _ (put Nothing (pair (items_registers vs to l t)
        (items_registers xs _ _ _))) (omega arith)
    stmt_registers (node.Variable i) to l t = at_most _ (put (Plain _) (put (Plain _) (put (Plain _) none)))
        (omega arith)
    stmt_registers (node.Object offset words) to l t = at_most _ (put (Plain _) none) (omega arith)
    stmt_registers (node.Parameter k w) to l t = at_most _ (put (Plain _) (pair (narrow w) (put (Plain _) (put
        (Plain _) none)))) (omega arith)
    stmt_registers (node.ParameterObject k w offset) to l t = at_most _ (put (Plain _) (put (Plain _) (pair
        (narrow w) (put (Plain _) (put (Plain _) none))))) (omega arith)
    stmt_registers (node.If e s) to l t = at_most _ (pair (expr_registers e _ _) (put (Plain _) (pair
        (stmt_registers s _ _ _) (put (Plain _) none)))) (omega arith)
    stmt_registers (node.IfElse e s r) to l t = at_most _ (pair (expr_registers e _ _) (put (Plain _) (pair
        (stmt_registers s _ _ _)
        (put (Plain _) (put (Plain _) (pair (stmt_registers r _ _ _) (put (Plain _) none))))))) (omega arith)
    stmt_registers (node.While e s) to l t = at_most _ (put (Plain _) (pair (expr_registers e _ _) (put (Plain _)
        (pair (stmt_registers s _ _ _)
        (put (Plain _) (put (Plain _) none)))))) (omega arith)
    stmt_registers (node.Do s e) to l t = at_most _ (put (Plain _) (pair (stmt_registers s _ _ _) (put (Plain _)
        (pair (expr_registers e _ _)
        (put (Plain _) (put (Plain _) none)))))) (omega arith)
    stmt_registers (node.For e s) to l t = at_most _ (put (Plain _) (pair (expr_registers e _ _) (put (Plain _)
        (pair (stmt_registers s _ _ _)
        (put (Plain _) (put (Plain _) (put (Plain _) none))))))) (omega arith)
    stmt_registers (node.ForStep e step s) to l t = at_most _ (put (Plain _) (pair (expr_registers e _ _) (put
        (Plain _) (pair (stmt_registers s _ _ _) (put (Plain _)
        (pair (expr_registers step _ _) (pair (drops (has_value step)) (put (Plain _) (put (Plain _) none)))))))))
        (omega arith)
    stmt_registers (node.Switch e vs xs) to l t =
        let x : ℕ = l + 1 + labels_in e in
        let y : ℕ = t + 1 + temps_in e in
        let in_it : Targets = record { on_break = l; on_continue = to.on_continue } in
        let tests : List Piece = plain (test_ops xs (x + labels_of vs) t) in
        let items : List Piece = items_pieces addresses xs in_it (x + labels_of vs) (y + temps_of vs) in
        at_most _
        (pair (expr_registers e (l + 1) (t + 1)) (put (Plain _) (put (Plain _)
        (pair (put Nothing (items_registers vs to x y)) (pair (exactly tests) (put (Plain _)
        (pair (exactly items) (put (Plain _) none))))))))
        (omega (arith, labelled_registers xs in_it (x + labels_of vs) t (y + temps_of vs)))
    stmt_registers (node.Case v) to l t = at_most _ (put (Plain _) none) (omega arith)
    stmt_registers node.Default to l t = at_most _ (put (Plain _) none) (omega arith)
    stmt_registers node.Break to l t = at_most _ (put (Plain _) none) (omega arith)
    stmt_registers node.Continue to l t = at_most _ (put (Plain _) none) (omega arith)
    stmt_registers node.Return to l t = at_most _ (put (Plain _) none) (omega arith)
    stmt_registers (node.ReturnValue e) to l t = at_most _ (pair (expr_registers e l t) (put (Plain _) none))
        (omega arith)

    items_registers : (xs : Items) (to : Targets) (l t : ℕ) → Takes (6 * size_of_items xs)
        (items_pieces addresses xs to l t)
    items_registers node.NoItem to l t = record { few = omega arith }
    items_registers (node.Item s xs) to l t =
        at_most _ (pair (stmt_registers s to l t) (items_registers xs to (l + labels s) (t + temps s))) (omega arith)

    labelled_registers : (xs : Items) (to : Targets) (l t x : ℕ)
        → adds more_registers (plain (test_ops xs l t)) + adds more_registers (items_pieces addresses xs to l x)
        ≤ 6 * size_of_items xs
    labelled_registers node.NoItem to l t x = omega arith
    labelled_registers (node.Item s xs) to l t x =
        omega (
          arith,
          tested s l t x to (stmt_registers s to l x),
          labelled_registers xs to (l + labels s) t (x + temps s),
          (plain_pair (case_ops s l t) (test_ops xs (l + labels s) t) (exactly (plain (case_ops s l t)))
              (exactly (plain (test_ops xs (l + labels s) t)))).few,
          adds_both more_registers (stmt_pieces addresses s to l x)
              (items_pieces addresses xs to (l + labels s) (x + temps s)),
        )
