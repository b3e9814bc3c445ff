-- The same of statements; the tests of a switch are counted with its items.
use Rattle.std.proofs.Common.{ℕ, ◌+◌, ◌*◌, ◌≤◌, List, arith}
use Rattle.typed_tree.specs.Nodes as node
use Rattle.typed_tree.specs.Nodes.{Stmt, Items, has_value}
use Rattle.staged_meaning.specs.Size.{size_of_stmt, size_of_items, labels_in, labels, labels_of, temps_in, temps}
use Rattle.staged_meaning.specs.Size.{temps_of}
use Rattle.tick_lower_spec.specs.Lower.{Addresses, Targets, case_ops, test_ops}
use Rattle.tick_lower_spec.specs.declared.piece.Piece.{Piece}
use Rattle.tick_lower_spec.specs.declared.piece.Piece.TheVariants.{Plain, Nothing}
use Rattle.tick_lower_spec.specs.TickPieces.{plain, stmt_pieces, items_pieces}
use Rattle.routine_spec.proofs.Dear.{own_cost, Few, none, put, pair, at_most, exactly, Small, small, of, narrow}
use Rattle.routine_spec.proofs.Dear.{drops, own_drops, plain_pair}
use Rattle.routine_spec.proofs.DearTrees.{expr_small}

-- a statement's own test and its ops
record Tested (s : Stmt) (ps qs : List Piece) : Type 0 where
  cost : own_cost ps + own_cost qs ≤ 98 * size_of_stmt s

-- those of items
record AllTested (n : ℕ) (ps qs : List Piece) : Type 0 where
  cost : own_cost ps + own_cost qs ≤ 98 * n

module _ (addresses : Addresses) where
  tested : (s : Stmt) (l t x : ℕ) (to : Targets)
      → Small (size_of_stmt s) (stmt_pieces addresses s to l x)
      → Tested s (plain (case_ops s l t)) (stmt_pieces addresses s to l x)
  tested (node.Case v) l t x to f =
      record { cost = omega arith }
  tested _ l t x to f =
      record { cost = omega (arith, f.cost) }

  mutual
    pub stmt_small : (s : Stmt) (to : Targets) (l t : ℕ)
        → Small (size_of_stmt s) (stmt_pieces addresses s to l t)
    stmt_small (node.Eval e) to l t =
        small _
        (pair (of (expr_small addresses e l t)) (own_drops (has_value e)))
        (omega arith)
    stmt_small (node.Block vs xs) to l t =
        small _
        (put Nothing (pair (items_few vs to l t) (items_few xs to (l + labels_of vs) (t + temps_of vs))))
        (omega arith)
    stmt_small (node.Variable i) to l t =
        small _
        (put (Plain _) (put (Plain _) (put (Plain _) none)))
        (omega arith)
    stmt_small (node.Object offset words) to l t =
        small _
        (put (Plain _) none)
        (omega arith)
    stmt_small (node.Parameter k w) to l t =
        small _
        (put (Plain _) (pair (narrow w) (put (Plain _) (put (Plain _) none))))
        (omega arith)
    stmt_small (node.ParameterObject k w offset) to l t =
        small _
        (put (Plain _) (put (Plain _) (pair (narrow w) (put (Plain _) (put (Plain _) none)))))
        (omega arith)
    stmt_small (node.If e s) to l t =
        small _
        (pair (of (expr_small addresses e (l + 1) t)) (put (Plain _)
        (pair (of (stmt_small s to (l + 1 + labels_in e) (t + temps_in e))) (put (Plain _) none))))
        (omega arith)
    stmt_small (node.IfElse e s r) to l t =
        small _
        (pair (of (expr_small addresses e (l + 2) t)) (put (Plain _)
        (pair (of (stmt_small s to (l + 2 + labels_in e) (t + temps_in e))) (put (Plain _) (put (Plain _)
        (pair (of (stmt_small r to (l + 2 + labels_in e + labels s) (t + temps_in e + temps s))) (put
        (Plain _) none)))))))
        (omega arith)
    stmt_small (node.While e s) to l t =
        small _
        (put (Plain _) (pair (of (expr_small addresses e (l + 2) t)) (put (Plain _)
        (pair (of (stmt_small s (record { on_break = l; on_continue = l + 1 }) (l + 2 + labels_in e) (t + temps_in e)))
        (put (Plain _) (put (Plain _) none))))))
        (omega arith)
    stmt_small (node.Do s e) to l t =
        small _
        (put (Plain _) (pair (of (stmt_small s (record { on_break = l; on_continue = l + 2 }) (l + 3) t)) (put (Plain _)
        (pair (of (expr_small addresses e (l + 3 + labels s) (t + temps s))) (put (Plain _) (put (Plain _) none))))))
        (omega arith)
    stmt_small (node.For e s) to l t =
        small _
        (put (Plain _) (pair (of (expr_small addresses e (l + 3) t)) (put (Plain _)
        (pair (of (stmt_small s (record { on_break = l; on_continue = l + 2 }) (l + 3 + labels_in e) (t + temps_in e)))
        (put (Plain _) (put (Plain _) (put (Plain _) none)))))))
        (omega arith)
    stmt_small (node.ForStep e step s) to l t =
        small _
        (put (Plain _) (pair (of (expr_small addresses e (l + 3) t)) (put (Plain _)
        (pair (of (stmt_small s (record { on_break = l; on_continue = l + 2 }) (l + 3 + labels_in e)
        (t + temps_in e))) (put (Plain _)
        (pair (of (expr_small addresses step (l + 3 + labels_in e + labels s) (t + temps_in e + temps s))) (pair
        (drops (has_value step))
        (put (Plain _) (put (Plain _) none)))))))))
        (omega arith)
    stmt_small (node.Switch e vs xs) to l t =
        let x : ℕ = l + 1 + labels_in e in
        let y : ℕ = t + 1 + temps_in e in
        let in_it : Targets = record { on_break = l; on_continue = to.on_continue } in
        let tests : List Piece = plain (test_ops xs (x + labels_of vs) t) in
        let items : List Piece = items_pieces addresses xs in_it (x + labels_of vs) (y + temps_of vs) in
        let all = labelled_few xs in_it (x + labels_of vs) t (y + temps_of vs) in
        small _
        (pair (of (expr_small addresses e (l + 1) (t + 1))) (put (Plain _) (put (Plain _)
        (pair (put Nothing (items_few vs to x y)) (pair (exactly tests) (put (Plain _)
        (pair (exactly items) (put (Plain _) none))))))))
        (omega (arith, all.cost))
    stmt_small (node.Case v) to l t =
        small _
        (put (Plain _) none)
        (omega arith)
    stmt_small node.Default to l t =
        small _
        (put (Plain _) none)
        (omega arith)
    stmt_small node.Break to l t =
        small _
        (put (Plain _) none)
        (omega arith)
    stmt_small node.Continue to l t =
        small _
        (put (Plain _) none)
        (omega arith)
    stmt_small node.Return to l t =
        small _
        (put (Plain _) none)
        (omega arith)
    stmt_small (node.ReturnValue e) to l t =
        small _
        (pair (of (expr_small addresses e l t)) (put (Plain _) none))
        (omega arith)

    items_few : (xs : Items) (to : Targets) (l t : ℕ)
        → Few (98 * size_of_items xs)
        (items_pieces addresses xs to l t)
    items_few node.NoItem to l t = at_most _ (omega arith) none
    items_few (node.Item s xs) to l t =
        at_most _ (omega arith)
        (pair (of (stmt_small s to l t)) (items_few xs to (l + labels s) (t + temps s)))

    -- the items of a switch, labels among them, with its tests
    labelled_few : (xs : Items) (to : Targets) (l t x : ℕ)
        → AllTested (size_of_items xs) (plain (test_ops xs l t))
        (items_pieces addresses xs to l x)
    labelled_few node.NoItem to l t x =
        record { cost = omega arith }
    labelled_few (node.Item s xs) to l t x =
        let one = tested s l t x to (stmt_small s to l x) in
        let rest = labelled_few xs to (l + labels s) t (x + temps s) in
        let tests = plain_pair (case_ops s l t) (test_ops xs (l + labels s) t) (exactly (plain (case_ops s l t)))
        (exactly (plain (test_ops xs (l + labels s) t))) in
        let items = pair (exactly (stmt_pieces addresses s to l x))
        (exactly (items_pieces addresses xs to (l + labels s) (x + temps s))) in
        record { cost = omega (arith, one.cost, rest.cost, tests.cost, items.cost) }
