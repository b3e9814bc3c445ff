-- The pieces of a statement that stands right in a tick: they leave the operands as they were, name their body's
-- variables and labels, and each of its labels stands once.
use Rattle.std.proofs.Common.{◌≡◌, ℕ, suc, ◌+◌, ◌<◌, ◌≤◌, ◌==◌, Bool, true, false, ◌&&◌, ◌||◌, nat_le, List, []}
use Rattle.std.proofs.Common.{◌∷◌, ◌++◌, Some, refl, sym, ap, ◌∙◌, arith}
use Rattle.std.specs.List.{list_any}
use Rattle.std.proofs.lemmas.Bool.Decides.{nat_tests}
use Rattle.std.proofs.lemmas.List.Folds.{list_any-append}
use Rattle.icode_ops.specs.declared.kind.BinKind.TheVariants.{NotEqual}
use Rattle.icode_ir.specs.declared.build_op.BuildOp.TheVariants as build
use Rattle.typed_tree.specs.declared.expression.CaptureKind.{CaptureKind}
use Rattle.typed_tree.specs.Nodes as node
use Rattle.typed_tree.specs.Nodes.{Expr, Stmt, Items, fold_items, has_value}
use Rattle.wellformed.specs.Places.{Around, in_function, is_function, in_scope, rules, numbers_of, values_of}
use Rattle.wellformed.specs.Places.{all_different, all_declare, all_stand, is_label, all_items, within, looped}
use Rattle.wellformed.specs.Places.{switched}
use Rattle.wellformed.proofs.Bools.{first_true, second_true}
use Rattle.wf_ready.proofs.Scoped.{part, act, two}
use Rattle.staged_meaning.specs.Size.{labels_in, labels, labels_of, temps_in, temps, temps_of, variables_in}
use Rattle.staged_meaning.specs.Size.{variables_of}
use Rattle.staged_meaning.specs.Values.{Leaves, UsesValues, UsesValuesStmt, UseValuesItems}
use Rattle.tick_lower_spec.specs.Lower.{Addresses, Targets, case_ops, test_ops, default_or, default_label}
use Rattle.tick_lower_spec.specs.declared.piece.Piece.{Piece}
use Rattle.tick_lower_spec.specs.declared.piece.Piece.TheVariants.{Plain, Nothing}
use Rattle.tick_lower_spec.specs.TickPieces.{plain, expr_pieces, stmt_pieces, items_pieces}
use Rattle.generated_ops_proof.proofs.Goes.{rise, one_if, piece_mark, Allows, piece_height}
use Rattle.generated_ops_proof.proofs.Good.{Good, span, span_none, span_first, span_both, ends, next, beside, counts}
use Rattle.generated_ops_proof.proofs.Good.{valued, drops, own_drops, plain_beside}
use Rattle.generated_ops_proof.proofs.Expressions.{expr_good, two_own}

-- one or three labels of a node's own, and those of its parts
one_own : (l x y i : ℕ) → one_if (i == l) + span (l + 1) x i + span (l + 1 + x) y i ≡ span l (1 + x + y) i
one_own l x y i = omega (arith, span_first l (l + 1) x i refl, span_both l (l + 1 + x) (1 + x) y i (omega arith))

three_own : (l x y i : ℕ) → one_if (i == l) + one_if (i == l + 1) + one_if (i == l + 2) + span (l + 3) x i
    + span (l + 3 + x) y i ≡ span l (3 + x + y) i
three_own l x y i =
    omega (
      arith,
      span_first (l + 2) (l + 3) x i (omega arith),
      span_first (l + 1) (l + 2) (1 + x) i (omega arith),
      span_first l (l + 1) (1 + (1 + x)) i refl,
      span_both l (l + 3 + x) (1 + (1 + (1 + x))) y i (omega arith),
      ap (λ z. span l z i) (let same : 1 + (1 + (1 + x)) + y ≡ 3 + x + y = omega arith in same),
    )

-- what a break and a continue go to, where they may stand
pub record Aims (m : ℕ) (a : Around) (to : Targets) : Type 0 where
  pub breaks : (a.in_loop || a.in_switch) ≡ true → to.on_break < m
  pub continues : a.in_loop ≡ true → to.on_continue < m

-- the variables that a block declares are below those that it counts
declared_low : (a : Around) (s : Stmt) (i : ℕ) → (act s).declares a ≡ true
    → list_any (λ n. i == n) (act s).number ≡ true → i < variables_in s
declared_low a (node.Variable j) i d h = let same : i ≡ j = grind (arith, nat_tests) in omega (arith, same)
declared_low a (node.Object offset words) i d h = absurd cc
declared_low a _ i d h = absurd cc

either : {P : Type 0} (b c : Bool) → (b || c) ≡ true → (b ≡ true → P) → (c ≡ true → P) → P
either true c h f g = f refl
either false c h f g = g h

all_low : (a : Around) (vs : Items) (i : ℕ) → all_declare (fold_items rules vs) a ≡ true
    → list_any (λ n. i == n) (numbers_of (fold_items rules vs)) ≡ true → i < variables_of vs
all_low a node.NoItem i d h = absurd cc
all_low a (node.Item s vs) i d h =
    let q = two ((act s).declares a) (all_declare (fold_items rules vs) a) d in
    either (list_any (λ n. i == n) (act s).number) (list_any (λ n. i == n) (numbers_of (fold_items rules vs)))
    (sym (list_any-append (λ n. i == n) (act s).number (numbers_of (fold_items rules vs))) ∙ h)
    (λ e. omega (arith, declared_low a s i q.0 e)) (λ e. omega (arith, all_low a vs i q.1 e))

-- where a switch goes without a case
or_low : (s : Stmt) (l x m : ℕ) → x < m → l + labels s ≤ m → default_or s l x < m
or_low node.Default l x m low room = omega (arith, room)
or_low _ l x m low room = low

default_low : (items : Items) (l x m : ℕ) → x < m → l + labels_of items ≤ m → default_label items l x < m
default_low node.NoItem l x m low room = low
default_low (node.Item s items) l x m low room =
    or_low s l (default_label items (l + labels s) x) m
    (default_low items (l + labels s) x m low (omega (arith, room))) (omega (arith, room))

module _ (k n m v : ℕ) (kinds : List CaptureKind) (addresses : Addresses) (few : v ≤ n) where
  no_function : (a : Around) → a.captures ≡ Some kinds → in_function a ≡ true → ⊥
  no_function a is h = let none : in_function a ≡ false = ap is_function is in cc

  -- pieces before others, and the end of them
  put : {c : ℕ → ℕ} {h h' : ℕ} {ps : List Piece} (p : Piece) → Allows k n m kinds p h
      → Good k n m kinds c (piece_height k n m kinds p h) h' ps
      → Good k n m kinds (λ i. piece_mark i p + c i) h h' (p ∷ ps)
  put {c} {h} {h'} {ps} p may rest = next k n m kinds p may rest

  pair : {c d : ℕ → ℕ} {h h1 h' : ℕ} {ps qs : List Piece} → Good k n m kinds c h h1 ps → Good k n m kinds d h1 h' qs
      → Good k n m kinds (λ i. c i + d i) h h' (ps ++ qs)
  pair {c} {d} {h} {h1} {h'} {ps} {qs} f g = beside k n m kinds f g

  end : (h : ℕ) → Good k n m kinds (λ i. 0) h h []
  end h = ends k n m kinds h

  spanning : {c : ℕ → ℕ} {h h' : ℕ} {ps : List Piece} (l j : ℕ) → Good k n m kinds c h h' ps
      → ((i : ℕ) → c i ≡ span l j i) → Good k n m kinds (span l j) h h' ps
  spanning {c} {h} {h'} {ps} l j f e = counts k n m kinds (span l j) f e

  leaf : {c : ℕ → ℕ} {h h' : ℕ} {ps : List Piece} (l : ℕ) → Good k n m kinds c h h' ps → ((i : ℕ) → c i ≡ 0)
      → Good k n m kinds (span l 0) h h' ps
  leaf {c} {h} {h'} {ps} l f none = spanning l 0 f (λ i. none i ∙ sym (span_none l i))

  -- the labels of a case
  label_good : (l h : ℕ) → l < m → Good k n m kinds (span l 1) h h (Plain (build.Label l) ∷ [])
  label_good l h low =
      spanning l 1 (put (Plain (build.Label l)) low (end h)) (λ i. omega (
        arith,
        span_first l
            (l + 1) 0 i refl,
        span_none (l + 1) i,
        ap (λ z. span l z i) (let same : 1 + 0 ≡ 1 = omega arith in same),
      ))

  case_good : (s : Stmt) (l t h : ℕ) → l + labels s ≤ m → t < n
      → Good k n m kinds (λ i. 0) h h (plain (case_ops s l t))
  case_good (node.Case x) l t h low mine =
      counts k n m kinds (λ i. 0)
      (put (Plain (build.GetVariable t)) mine
      (put (Plain (build.Const x)) tt
      (put (Plain (build.Bin NotEqual)) tt
      (put (Plain (build.BranchZero l)) (tt, (let here : l < m = omega (arith, low) in here)) (end h)))))
      (λ i. omega arith)
  case_good _ l t h low mine = end h

  tests_good : (items : Items) (l t h : ℕ) → l + labels_of items ≤ m → t < n
      → Good k n m kinds (λ i. 0) h h (plain (test_ops items l t))
  tests_good node.NoItem l t h low mine = end h
  tests_good (node.Item s items) l t h low mine =
      counts k n m kinds (λ i. 0)
      (plain_beside k n m kinds (case_ops s l t) (test_ops items (l + labels s) t)
      (case_good s l t h (omega (arith, low)) mine) (tests_good items (l + labels s) t h (omega (arith, low)) mine))
      (λ i. omega arith)

  -- ---- what a block declares

  declares : (a : Around) → a.captures ≡ Some kinds → (s : Stmt) (to : Targets) (l t h : ℕ)
      → (act s).declares a ≡ true → variables_in s ≤ v
      → Good k n m kinds (span l (labels s)) h h (stmt_pieces addresses s to l t)
  declares a is (node.Variable i) to l t h d small =
      let mine : i < n = omega (arith, small, few) in
      leaf l
      (put (Plain (build.Const 0)) tt
      (put (Plain (build.SetVariable i)) (tt, mine) (put (Plain build.Drop) tt (end h))))
      (λ j. omega arith)
  declares a is (node.Object offset words) to l t h d small =
      absurd (no_function a is (second_true (nat_le 1 words) (in_function a)
      (first_true (nat_le 1 words && in_function a) _ (first_true _ _ d))))
  declares a is _ to l t h d small = absurd cc

  all_declared : (a : Around) → a.captures ≡ Some kinds → (vs : Items) (to : Targets) (l t h : ℕ)
      → all_declare (fold_items rules vs) a ≡ true → variables_of vs ≤ v
      → Good k n m kinds (span l (labels_of vs)) h h (items_pieces addresses vs to l t)
  all_declared a is node.NoItem to l t h d small = leaf l (end h) (λ i. refl)
  all_declared a is (node.Item s vs) to l t h d small =
      let q = two ((act s).declares a) (all_declare (fold_items rules vs) a) d in
      spanning l (labels s + labels_of vs)
      (pair (declares a is s to l t h q.0 (omega (arith, small)))
      (all_declared a is vs to (l + labels s) (t + temps s) h q.1 (omega (arith, small))))
      (λ i. omega (arith, span_both l (l + labels s) (labels s) (labels_of vs) i refl))

  -- the variables round a node are the body's
  abbrev Seen : Around → Type 0
  Seen a = (i : ℕ) → in_scope i a ≡ true → i < v

  seen_within : (a : Around) (vs : Items) → Seen a → all_declare (fold_items rules vs) a ≡ true → variables_of vs ≤ v
      → Seen (within (fold_items rules vs) a)
  seen_within a vs seen d small i h =
      either (in_scope i a) (list_any (λ n. i == n) (numbers_of (fold_items rules vs)))
      (sym (list_any-append (λ n. i == n) a.variables (numbers_of (fold_items rules vs))) ∙ h) (λ e. seen i e)
      (λ e. omega (arith, all_low a vs i d e, small))

  -- an expression
  value : (a : Around) → a.captures ≡ Some kinds → Seen a → (e : Expr) (l t h : ℕ) → (part e).stands a ≡ true
      → UsesValues e → l + labels_in e ≤ m → t + temps_in e ≤ n
      → Good k n m kinds (span l (labels_in e)) h (rise (has_value e) h) (expr_pieces addresses e l t)
  value a is seen e l t h s u low room =
      expr_good k n m kinds addresses a is (λ i there. let at : i < v = seen i there in
      omega (arith, at, few)) e l t h s u
      low room

  -- one whose value is used
  test : (a : Around) → a.captures ≡ Some kinds → Seen a → (e : Expr) (l t h : ℕ) → (part e).stands a ≡ true → Leaves e
      → UsesValues e → l + labels_in e ≤ m → t + temps_in e ≤ n
      → Good k n m kinds (span l (labels_in e)) h (suc h) (expr_pieces addresses e l t)
  test a is seen e l t h s leaves u low room =
      valued k n m kinds (has_value e) leaves (value a is seen e l t h s u low room)

  in_loop : (a : Around) (to : Targets) → to.on_break < m → to.on_continue < m → Aims m (looped a) to
  in_loop a to b c = record { breaks = λ h. b; continues = λ h. c }

  label_or : (a : Around) (s : Stmt) (to : Targets) (l t h : ℕ) → (is_label (act s) || (act s).stands a) ≡ true
      → l + labels s ≤ m
      → ((act s).stands a ≡ true → Good k n m kinds (span l (labels s)) h h (stmt_pieces addresses s to l t))
      → Good k n m kinds (span l (labels s)) h h (stmt_pieces addresses s to l t)
  label_or a (node.Case x) to l t h s low f = label_good l h (let here : l < m = omega (arith, low) in here)
  label_or a node.Default to l t h s low f = label_good l h (let here : l < m = omega (arith, low) in here)
  label_or a _ to l t h s low f = f s

  mutual
    pub stmt_good : (a : Around) → a.captures ≡ Some kinds → Seen a → (s : Stmt) (to : Targets) → Aims m a to
        → (l t h : ℕ) → (act s).stands a ≡ true → UsesValuesStmt s → variables_in s ≤ v → l + labels s ≤ m
        → t + temps s ≤ n → Good k n m kinds (span l (labels s)) h h (stmt_pieces addresses s to l t)
    stmt_good a is seen (node.Eval e) to aims l t h s u small low room =
        spanning l (labels_in e) (pair (value a is seen e l t h s u low room) (own_drops k n m kinds (has_value e) h))
        (λ i. omega arith)
    stmt_good a is seen (node.Block vs xs) to aims l t h s u small low room =
        let q = two (all_declare (fold_items rules vs) a)
        (all_stand (fold_items rules xs) (within (fold_items rules vs) a)) s in
        let fits : variables_of vs ≤ v = omega (arith, small) in
        spanning l (labels_of vs + labels_of xs)
        (put Nothing tt
        (pair (all_declared a is vs to l t h q.0 fits)
        (items_good (within (fold_items rules vs) a) is (seen_within a vs seen q.0 fits) xs to
        (record { breaks = aims.breaks; continues = aims.continues }) (l + labels_of vs) (t + temps_of vs) h q.1 u.1
        (omega (arith, small)) (omega (arith, low)) (omega (arith, room)))))
        (λ i. omega (arith, span_both l (l + labels_of vs) (labels_of vs) (labels_of xs) i refl))
    stmt_good a is seen (node.If e s) to aims l t h st u small low room =
        let q = two ((part e).stands a) ((act s).stands a) st in
        let here : l < m = omega (arith, low) in
        spanning l (1 + labels_in e + labels s)
        (pair (test a is seen e (l + 1) t h q.0 u.0 u.1 (omega (arith, low)) (omega (arith, room)))
        (put (Plain (build.BranchZero l)) (tt, here)
        (pair
        (stmt_good a is seen s to aims (l + 1 + labels_in e) (t + temps_in e) h q.1 u.2 small (omega (arith, low))
        (omega (arith, room)))
        (put (Plain (build.Label l)) here (end h)))))
        (λ i. omega (arith, one_own l (labels_in e) (labels s) i))
    stmt_good a is seen (node.IfElse e s r) to aims l t h st u small low room =
        let q = two ((part e).stands a && (act s).stands a) ((act r).stands a) st in
        let p = two ((part e).stands a) ((act s).stands a) q.0 in
        let here : l < m = omega (arith, low) in
        let there : l + 1 < m = omega (arith, low) in
        spanning l (2 + labels_in e + labels s + labels r)
        (pair (test a is seen e (l + 2) t h p.0 u.0 u.1 (omega (arith, low)) (omega (arith, room)))
        (put (Plain (build.BranchZero l)) (tt, here)
        (pair
        (stmt_good a is seen s to aims (l + 2 + labels_in e) (t + temps_in e) h p.1 u.2 (omega (arith, small))
        (omega (arith, low)) (omega (arith, room)))
        (put (Plain (build.Jump (l + 1))) there
        (put (Plain (build.Label l)) here
        (pair
        (stmt_good a is seen r to aims (l + 2 + labels_in e + labels s) (t + temps_in e + temps s) h q.1 u.3
        (omega (arith, small)) (omega (arith, low)) (omega (arith, room)))
        (put (Plain (build.Label (l + 1))) there (end h))))))))
        (λ i. omega (
          arith,
          two_own l (labels_in e) (labels s) i,
          span_both l (l + 2 + labels_in e + labels s) (2 + labels_in e + labels s) (labels r) i (omega arith),
        ))
    stmt_good a is seen (node.While e s) to aims l t h st u small low room =
        let q = two ((part e).stands a) ((act s).stands (looped a)) st in
        let here : l < m = omega (arith, low) in
        let there : l + 1 < m = omega (arith, low) in
        let inner : Targets = record { on_break = l; on_continue = l + 1 } in
        spanning l (2 + labels_in e + labels s)
        (put (Plain (build.Label (l + 1))) there
        (pair (test a is seen e (l + 2) t h q.0 u.0 u.1 (omega (arith, low)) (omega (arith, room)))
        (put (Plain (build.BranchZero l)) (tt, here)
        (pair
        (stmt_good (looped a) is seen s inner (in_loop a inner here there) (l + 2 + labels_in e)
        (t + temps_in e) h q.1 u.2
        small (omega (arith, low)) (omega (arith, room)))
        (put (Plain (build.Jump (l + 1))) there (put (Plain (build.Label l)) here (end h)))))))
        (λ i. omega (arith, two_own l (labels_in e) (labels s) i))
    stmt_good a is seen (node.Do s e) to aims l t h st u small low room =
        let q = two ((act s).stands (looped a)) ((part e).stands a) st in
        let here : l < m = omega (arith, low) in
        let there : l + 1 < m = omega (arith, low) in
        let third : l + 2 < m = omega (arith, low) in
        let inner : Targets = record { on_break = l; on_continue = l + 2 } in
        spanning l (3 + labels s + labels_in e)
        (put (Plain (build.Label (l + 1))) there
        (pair
        (stmt_good (looped a) is seen s inner (in_loop a inner here third) (l + 3) t h q.0 u.0 small (omega
        (arith, low))
        (omega (arith, room)))
        (put (Plain (build.Label (l + 2))) third
        (pair (test a is seen e (l + 3 + labels s) (t + temps s) h q.1 u.1 u.2 (omega (arith, low)) (omega
        (arith, room)))
        (put (Plain (build.BranchNonzero (l + 1))) (tt, there) (put (Plain (build.Label l)) here (end h)))))))
        (λ i. omega (arith, three_own l (labels s) (labels_in e) i))
    stmt_good a is seen (node.For e s) to aims l t h st u small low room =
        let q = two ((part e).stands a) ((act s).stands (looped a)) st in
        let here : l < m = omega (arith, low) in
        let there : l + 1 < m = omega (arith, low) in
        let third : l + 2 < m = omega (arith, low) in
        let inner : Targets = record { on_break = l; on_continue = l + 2 } in
        spanning l (3 + labels_in e + labels s)
        (put (Plain (build.Label (l + 1))) there
        (pair (test a is seen e (l + 3) t h q.0 u.0 u.1 (omega (arith, low)) (omega (arith, room)))
        (put (Plain (build.BranchZero l)) (tt, here)
        (pair
        (stmt_good (looped a) is seen s inner (in_loop a inner here third) (l + 3 + labels_in e)
        (t + temps_in e) h q.1 u.2
        small (omega (arith, low)) (omega (arith, room)))
        (put (Plain (build.Label (l + 2))) third
        (put (Plain (build.Jump (l + 1))) there (put (Plain (build.Label l)) here (end h))))))))
        (λ i. omega (arith, three_own l (labels_in e) (labels s) i))
    stmt_good a is seen (node.ForStep e step s) to aims l t h st u small low room =
        let q = two ((part e).stands a && (part step).stands a) ((act s).stands (looped a)) st in
        let p = two ((part e).stands a) ((part step).stands a) q.0 in
        let here : l < m = omega (arith, low) in
        let there : l + 1 < m = omega (arith, low) in
        let third : l + 2 < m = omega (arith, low) in
        let inner : Targets = record { on_break = l; on_continue = l + 2 } in
        spanning l (3 + labels_in e + labels s + labels_in step)
        (put (Plain (build.Label (l + 1))) there
        (pair (test a is seen e (l + 3) t h p.0 u.0 u.1 (omega (arith, low)) (omega (arith, room)))
        (put (Plain (build.BranchZero l)) (tt, here)
        (pair
        (stmt_good (looped a) is seen s inner (in_loop a inner here third) (l + 3 + labels_in e)
        (t + temps_in e) h q.1 u.3
        small (omega (arith, low)) (omega (arith, room)))
        (put (Plain (build.Label (l + 2))) third
        (pair
        (value a is seen step (l + 3 + labels_in e + labels s) (t + temps_in e + temps s) h p.1 u.2 (omega (arith, low))
        (omega (arith, room)))
        (pair (drops k n m kinds (has_value step) h)
        (put (Plain (build.Jump (l + 1))) there (put (Plain (build.Label l)) here (end h))))))))))
        (λ i. omega (
          arith,
          three_own l (labels_in e) (labels s) i,
          span_both l (l + 3 + labels_in e + labels s) (3 + labels_in e + labels s) (labels_in step) i (omega arith),
        ))
    stmt_good a is seen (node.Switch e vs xs) to aims l t h st u small low room =
        let inner : Around = switched (within (fold_items rules vs) a) in
        let front : Bool = (part e).stands a && all_declare (fold_items rules vs) a in
        let whole : Bool = front && all_items (fold_items rules xs) inner in
        let apart : Bool = whole && all_different (values_of (fold_items rules xs)) in
        let q = two front (all_items (fold_items rules xs) inner) (first_true whole _ (first_true apart _ st)) in
        let p = two ((part e).stands a) (all_declare (fold_items rules vs) a) q.0 in
        let here : l < m = omega (arith, low) in
        let mine : t < n = omega (arith, room) in
        let fits : variables_of vs ≤ v = omega (arith, small) in
        let x : ℕ = l + 1 + labels_in e in
        let y : ℕ = t + 1 + temps_in e in
        let in_it : Targets = record { on_break = l; on_continue = to.on_continue } in
        spanning l (1 + labels_in e + labels_of vs + labels_of xs)
        (pair (test a is seen e (l + 1) (t + 1) h p.0 u.0 u.1 (omega (arith, low)) (omega (arith, room)))
        (put (Plain (build.SetVariable t)) (tt, mine)
        (put (Plain build.Drop) tt
        (pair (put Nothing tt (all_declared a is vs to x y h p.1 fits))
        (pair (tests_good xs (x + labels_of vs) t h (omega (arith, low)) mine)
        (put (Plain (build.Jump (default_label xs (x + labels_of vs) l)))
        (default_low xs (x + labels_of vs) l m here (omega (arith, low)))
        (pair
        (labelled_good inner is (seen_within a vs seen p.1 fits) xs in_it
        (record { breaks = λ z. here; continues = aims.continues }) (x + labels_of vs) (y + temps_of vs) h q.1 u.3
        (omega (arith, small)) (omega (arith, low)) (omega (arith, room)))
        (put (Plain (build.Label l)) here (end h)))))))))
        (λ i. omega (
          arith,
          one_own l (labels_in e) (labels_of vs) i,
          span_both l (x + labels_of vs) (1 + labels_in e + labels_of vs) (labels_of xs) i (omega arith),
        ))
    stmt_good a is seen node.Break to aims l t h st u small low room =
        leaf l (put (Plain (build.Jump to.on_break)) (aims.breaks st) (end h)) (λ i. omega arith)
    stmt_good a is seen node.Continue to aims l t h st u small low room =
        leaf l (put (Plain (build.Jump to.on_continue)) (aims.continues st) (end h)) (λ i. omega arith)
    stmt_good a is seen node.Return to aims l t h st u small low room =
        leaf l (put (Plain build.ReturnZero) tt (end h)) (λ i. omega arith)
    stmt_good a is seen (node.ReturnValue e) to aims l t h st u small low room =
        spanning l (labels_in e)
        (pair (test a is seen e l t h st u.0 u.1 low room) (put (Plain build.Return) tt (end h)))
        (λ i. omega arith)
    stmt_good a is seen _ to aims l t h st u small low room = absurd cc

    items_good : (a : Around) → a.captures ≡ Some kinds → Seen a → (xs : Items) (to : Targets) → Aims m a to
        → (l t h : ℕ) → all_stand (fold_items rules xs) a ≡ true → UseValuesItems xs → variables_of xs ≤ v
        → l + labels_of xs ≤ m → t + temps_of xs ≤ n
        → Good k n m kinds (span l (labels_of xs)) h h (items_pieces addresses xs to l t)
    items_good a is seen node.NoItem to aims l t h st u small low room = leaf l (end h) (λ i. refl)
    items_good a is seen (node.Item s xs) to aims l t h st u small low room =
        let q = two ((act s).stands a) (all_stand (fold_items rules xs) a) st in
        spanning l (labels s + labels_of xs)
        (pair
        (stmt_good a is seen s to aims l t h q.0 u.0 (omega (arith, small)) (omega (arith, low)) (omega (arith, room)))
        (items_good a is seen xs to aims (l + labels s) (t + temps s) h q.1 u.1 (omega (arith, small)) (omega
        (arith, low))
        (omega (arith, room))))
        (λ i. omega (arith, span_both l (l + labels s) (labels s) (labels_of xs) i refl))

    labelled_good : (a : Around) → a.captures ≡ Some kinds → Seen a → (xs : Items) (to : Targets) → Aims m a to
        → (l t h : ℕ) → all_items (fold_items rules xs) a ≡ true → UseValuesItems xs → variables_of xs ≤ v
        → l + labels_of xs ≤ m → t + temps_of xs ≤ n
        → Good k n m kinds (span l (labels_of xs)) h h (items_pieces addresses xs to l t)
    labelled_good a is seen node.NoItem to aims l t h st u small low room = leaf l (end h) (λ i. refl)
    labelled_good a is seen (node.Item s xs) to aims l t h st u small low room =
        let q = two (is_label (act s) || (act s).stands a) (all_items (fold_items rules xs) a) st in
        spanning l (labels s + labels_of xs)
        (pair
        (label_or a s to l t h q.0 (omega (arith, low)) (λ z.
        stmt_good a is seen s to aims l t h z u.0 (omega (arith, small)) (omega (arith, low)) (omega (arith, room))))
        (labelled_good a is seen xs to aims (l + labels s) (t + temps s) h q.1 u.1 (omega (arith, small))
        (omega (arith, low)) (omega (arith, room))))
        (λ i. omega (arith, span_both l (l + labels s) (labels s) (labels_of xs) i refl))
