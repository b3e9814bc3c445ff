-- The variables of a function are numbered below its count of nodes.
use Rattle.std.proofs.Common.{◌≡◌, ℕ, ◌+◌, ◌≤◌, ◌<◌, ◌==◌, sum, sym, subst, arith}
use Rattle.std.proofs.lemmas.List.Sums.{sum_by-cons}
use Rattle.typed_tree.specs.Nodes as node
use Rattle.typed_tree.specs.Nodes.{Stmt, Items, fold_items}
use Rattle.typed_tree.specs.Measures.{size_of_stmt, variables_in, variables_of}
use Rattle.wellformed.specs.Counts.{one_if, declaration_rules}
use Rattle.wellformed.specs.Program.{AreNumbered, declarations_of}
use Rattle.wellformed.proofs.Bools.{same_number}

abbrev declared_in : ℕ → Items → ℕ
declared_in i items = sum (fold_items (declaration_rules i) items)

declared_cons : (i : ℕ) (s : Stmt) (is : Items) →
    declared_in i (node.Item s is) ≡ declarations_of i s + declared_in i is
declared_cons i s is = sum_by-cons (λ n. n) (declarations_of i s) (fold_items (declaration_rules i) is)

itself : (k : ℕ) → 0 < one_if (k == k)
itself k = subst (λ b. 0 < one_if b) (sym (same_number k)) (omega arith)

mutual
  bounded : (m : ℕ) (s : Stmt) → ((i : ℕ) → 0 < declarations_of i s → i < m) → variables_in s ≤ m
  bounded m (node.Variable k) h = omega (arith, h k (itself k))
  bounded m (node.Parameter k w) h = omega (arith, h k (itself k))
  bounded m (node.Block vs is) h =
      omega (arith, all_bounded m vs (λ i k. h i (omega (arith, k))), all_bounded m is (λ i k. h i (omega (arith, k))))
  bounded m (node.If e s) h = bounded m s h
  bounded m (node.IfElse e s t) h =
      omega (arith, bounded m s (λ i k. h i (omega (arith, k))), bounded m t (λ i k. h i (omega (arith, k))))
  bounded m (node.While e s) h = bounded m s h
  bounded m (node.Do s e) h = bounded m s h
  bounded m (node.For e s) h = bounded m s h
  bounded m (node.ForStep e step s) h = bounded m s h
  bounded m (node.Switch e vs is) h =
      omega (arith, all_bounded m vs (λ i k. h i (omega (arith, k))), all_bounded m is (λ i k. h i (omega (arith, k))))
  bounded m _ h = omega arith

  all_bounded : (m : ℕ) (is : Items) → ((i : ℕ) → 0 < declared_in i is → i < m) → variables_of is ≤ m
  all_bounded m node.NoItem h = omega arith
  all_bounded m (node.Item s is) h =
      omega (
        arith,
        bounded m s (λ i k. h i (omega (arith, k, declared_cons i s is))),
        all_bounded m is (λ i k. h i (omega (arith, k, declared_cons i s is))),
      )

pub variables_few : (s : Stmt) → AreNumbered s → variables_in s ≤ size_of_stmt s
variables_few s h = bounded (size_of_stmt s) s h.dense
