-- Statements that leave others stand, in an accepted text's functions, where the meaning has them.
use Rattle.std.proofs.Common.{◌≡◌, ℕ, zero, suc, ◌+◌, Bool, true, false, ◌&&◌, ◌||◌, List, refl}
use Rattle.std.proofs.Common.{nat_le, length, take, drop}
use Rattle.typed_tree.specs.declared.expression.CaptureKind.{CaptureKind}
use Rattle.typed_tree.specs.Nodes as node
use Rattle.typed_tree.specs.Nodes.{Stmt, Items, fold_items}
use Rattle.staged_meaning.specs.Placed.{Allowed, IsDeclaration, AreDeclarations, IsPlaced, ArePlaced, nested, outside}
use Rattle.staged_meaning.specs.Placed as may
use Rattle.wellformed.specs.Places.{Around, rules, values_of, all_different, all_declare, all_stand, is_label}
use Rattle.wellformed.specs.Places.{all_items, are_parameters, within, looped, switched}
use Rattle.wellformed.specs.Program.{IsFunction, round_function}
use Rattle.wellformed.proofs.Bools.{first_true, second_true}
use Rattle.wf_ready.proofs.Scoped.{part, act, two}

-- what may stand there, by what is round it
pub record Agrees (a : Around) (m : Allowed) : Type 0 where
  pub breaks : (a.in_loop || a.in_switch) ≡ true → m.breaks ≡ true
  pub continues : a.in_loop ≡ true → m.continues ≡ true

-- the node of a variable or of an object may stand where no label may
one_declares : (m : Allowed) → m.labels ≡ false → (a : Around) (s : Stmt) → (act s).declares a ≡ true → IsPlaced m s
one_declares m e a (node.Variable i) h = e
one_declares m e a (node.Object off words) h = tt
one_declares m e a _ h = absurd cc

pub declared_placed : (m : Allowed) → m.labels ≡ false → (a : Around) (vs : Items) →
    all_declare (fold_items rules vs) a ≡ true → ArePlaced m vs
declared_placed m e a node.NoItem h = tt
declared_placed m e a (node.Item s vs) h =
    let q = two ((act s).declares a) (all_declare (fold_items rules vs) a) h in
    (one_declares m e a s q.0, declared_placed m e a vs q.1)

-- and declares it
one_declaration : (a : Around) (s : Stmt) → (act s).declares a ≡ true → IsDeclaration s
one_declaration a (node.Variable i) h = tt
one_declaration a (node.Object off words) h = tt
one_declaration a _ h = absurd cc

declared_declare : (a : Around) (vs : Items) → all_declare (fold_items rules vs) a ≡ true → AreDeclarations vs
declared_declare a node.NoItem h = tt
declared_declare a (node.Item s vs) h =
    let q = two ((act s).declares a) (all_declare (fold_items rules vs) a) h in
    (one_declaration a s q.0, declared_declare a vs q.1)

-- the node of a parameter may stand where parameters may
one_parameter : (m : Allowed) → m.labels ≡ false → m.parameters ≡ true → (a : Around) (k : ℕ) (s : Stmt) →
    (act s).is_parameter k a ≡ true → IsPlaced m s
one_parameter m e p a k (node.Parameter i w) h = (e, p)
one_parameter m e p a k (node.ParameterObject i w off) h = p
one_parameter m e p a k _ h = absurd cc

-- n parameters stand first
heads_placed : (m : Allowed) → m.labels ≡ false → m.parameters ≡ true → (a : Around) (vs : Items) (n k : ℕ) →
    are_parameters k (take n (fold_items rules vs)) a ≡ true →
    all_declare (drop n (fold_items rules vs)) a ≡ true → ArePlaced m vs
heads_placed m e p a vs zero k h d = declared_placed m e a vs d
heads_placed m e p a node.NoItem (suc n) k h d = tt
heads_placed m e p a (node.Item s vs) (suc n) k h d =
    let q = two ((act s).is_parameter k a) (are_parameters (k + 1) (take n (fold_items rules vs)) a) h in
    (one_parameter m e p a k s q.0, heads_placed m e p a vs n (k + 1) q.1 d)

-- a label may stand where labels may
label_or : (a : Around) (m : Allowed) (s : Stmt) → m.labels ≡ true → (is_label (act s) || (act s).stands a) ≡ true →
    ((act s).stands a ≡ true → IsPlaced m s) → IsPlaced m s
label_or a m (node.Case v) l h f = l
label_or a m node.Default l h f = l
label_or a m _ l h f = f h

in_loop : (a : Around) → Agrees (looped a) may.looped
in_loop a = record { breaks = λ h. refl; continues = λ h. refl }

inside : (a : Around) (m : Allowed) → Agrees a m → Agrees a (nested m)
inside a m h = record { breaks = h.breaks; continues = h.continues }

in_block : (a : Around) (m : Allowed) (vs : Items) → Agrees a m → Agrees (within (fold_items rules vs) a) (nested m)
in_block a m vs h = record { breaks = h.breaks; continues = h.continues }

in_switch : (a : Around) (m : Allowed) (vs : Items) → Agrees a m →
    Agrees (switched (within (fold_items rules vs) a)) (may.switched m)
in_switch a m vs h = record { breaks = λ k. refl; continues = h.continues }

mutual
  pub stmt_placed : (a : Around) (m : Allowed) → Agrees a m → (s : Stmt) → (act s).stands a ≡ true → IsPlaced m s
  stmt_placed a m g (node.Block vs is) h =
      let q = two (all_declare (fold_items rules vs) a)
      (all_stand (fold_items rules is) (within (fold_items rules vs) a)) h in (
        declared_placed (nested m) refl a vs q.0,
        items_placed (within (fold_items rules vs) a) (nested m) (in_block a m vs g) is q.1,
      )
  stmt_placed a m g (node.If e s) h =
      stmt_placed a (nested m) (inside a m g) s (second_true ((part e).stands a) ((act s).stands a) h)
  stmt_placed a m g (node.IfElse e s t) h =
      let q = two ((part e).stands a && (act s).stands a) ((act t).stands a) h in (
        stmt_placed a (nested m) (inside a m g) s (second_true ((part e).stands a) ((act s).stands a) q.0),
        stmt_placed a (nested m) (inside a m g) t q.1,
      )
  stmt_placed a m g (node.While e s) h =
      stmt_placed (looped a) may.looped (in_loop a) s (second_true ((part e).stands a) ((act s).stands (looped a)) h)
  stmt_placed a m g (node.Do s e) h =
      stmt_placed (looped a) may.looped (in_loop a) s (first_true ((act s).stands (looped a)) ((part e).stands a) h)
  stmt_placed a m g (node.For e s) h =
      stmt_placed (looped a) may.looped (in_loop a) s (second_true ((part e).stands a) ((act s).stands (looped a)) h)
  stmt_placed a m g (node.ForStep e step s) h =
      stmt_placed (looped a) may.looped (in_loop a) s
      (second_true ((part e).stands a && (part step).stands a) ((act s).stands (looped a)) h)
  stmt_placed a m g (node.Switch e vs is) h =
      let inner : Around = switched (within (fold_items rules vs) a) in
      let front : Bool = (part e).stands a && all_declare (fold_items rules vs) a in
      let whole : Bool = front && all_items (fold_items rules is) inner in
      let apart : Bool = whole && all_different (values_of (fold_items rules is)) in
      let q = two front (all_items (fold_items rules is) inner) (first_true whole _ (first_true apart _ h)) in
      let t = second_true ((part e).stands a) (all_declare (fold_items rules vs) a) q.0 in (
        declared_declare a vs t,
        labelled_placed inner (may.switched m) (in_switch a m vs g) refl is q.1,
      )
  stmt_placed a m g (node.Variable i) h = absurd cc
  stmt_placed a m g (node.Parameter k w) h = absurd cc
  stmt_placed a m g (node.ParameterObject k w off) h = absurd cc
  stmt_placed a m g (node.Case v) h = absurd cc
  stmt_placed a m g node.Default h = absurd cc
  stmt_placed a m g node.Break h = g.breaks h
  stmt_placed a m g node.Continue h = g.continues h
  stmt_placed a m g _ h = tt

  pub items_placed : (a : Around) (m : Allowed) → Agrees a m → (is : Items) → all_stand (fold_items rules is) a ≡ true →
      ArePlaced m is
  items_placed a m g node.NoItem h = tt
  items_placed a m g (node.Item s is) h =
      let q = two ((act s).stands a) (all_stand (fold_items rules is) a) h in
      (stmt_placed a m g s q.0, items_placed a m g is q.1)

  -- the items of a switch
  labelled_placed : (a : Around) (m : Allowed) → Agrees a m → m.labels ≡ true → (is : Items) →
      all_items (fold_items rules is) a ≡ true → ArePlaced m is
  labelled_placed a m g l node.NoItem h = tt
  labelled_placed a m g l (node.Item s is) h =
      let q = two (is_label (act s) || (act s).stands a) (all_items (fold_items rules is) a) h in
      (label_or a m s l q.0 (λ k. stmt_placed a m g s k), labelled_placed a m g l is q.1)

-- ---- functions

by_body : (a : Around) (m : Allowed) → Agrees a m → m.parameters ≡ true → (s : Stmt) (n : ℕ) →
    (act s).is_body n a ≡ true → IsPlaced m s
by_body a m g p (node.Block vs is) n h =
    let heads : Bool = all_declare (drop n (fold_items rules vs)) a in
    let rest : Bool = all_stand (fold_items rules is) (within (fold_items rules vs) a) in
    let first : Bool = are_parameters 0 (take n (fold_items rules vs)) a in
    let many : Bool = nat_le n (length (fold_items rules vs)) in
    let q = two (many && first && heads) rest h in
    let r = two (many && first) heads q.0 in (
      heads_placed (nested m) refl p a vs n 0 (second_true many first r.0) r.1,
      items_placed (within (fold_items rules vs) a) (nested m) (in_block a m vs g) is q.1,
    )
by_body a m g p _ n h = absurd cc

pub body_placed : (p : node.Program) (ticks : List (List CaptureKind)) (f : node.Function) → IsFunction p ticks f →
    IsPlaced outside f.body
body_placed p ticks f h =
    by_body (round_function p ticks f) outside (record { breaks = λ e. absurd cc; continues = λ e. absurd cc }) refl
    f.body
    f.parameters h.stands
