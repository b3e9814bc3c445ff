-- The parameters of an accepted text's function stand first in its body, in their order, and nowhere else.
use Rattle.std.proofs.Common.{◌≡◌, ℕ, zero, suc, ◌+◌, ◌==◌, ◌≤◌, Bool, true, ◌&&◌, nat_le, List}
use Rattle.std.proofs.Common.{length, take, drop}
use Rattle.std.proofs.Common.{refl, subst, arith}
use Rattle.std.proofs.lemmas.Bool.Decides.{nat_tests}
use Rattle.typed_tree.specs.declared.expression.CaptureKind.{CaptureKind}
use Rattle.typed_tree.specs.Nodes as node
use Rattle.typed_tree.specs.Nodes.{Stmt, Items, fold_items}
use Rattle.staged_meaning.specs.Placed.{below, outside, IsParameter, AreHeaded, IsHeaded}
use Rattle.wellformed.specs.Places.{Around, in_function, is_object, rules, all_declare, all_stand, are_parameters}
use Rattle.wellformed.specs.Places.{within}
use Rattle.wellformed.specs.Program.{IsFunction, round_function}
use Rattle.wellformed.proofs.Bools.{first_true, second_true}
use Rattle.wf_ready.proofs.Scoped.{act, two}
use Rattle.wf_ready.proofs.Placed.{Agrees, declared_placed, items_placed}

-- the node of a parameter has its number
is_numbered : (a : Around) (k : ℕ) (s : Stmt) → (act s).is_parameter k a ≡ true → IsParameter k s
is_numbered a k (node.Parameter i w) h =
    let q = first_true (k == i) (in_function a) h in let e : i ≡ k = grind (arith, nat_tests, q) in e
is_numbered a k (node.ParameterObject i w off) h =
    let q = first_true (k == i) (is_object off 1 a) h in let e : i ≡ k = grind (arith, nat_tests, q) in e
is_numbered a k _ h = absurd cc

none_less : (n : ℕ) → nat_le (suc n) 0 ≡ true → ⊥
none_less n h = let e : suc n ≤ 0 = grind (arith, nat_tests, h) in omega (arith, e)

one_less : (n m : ℕ) → nat_le (suc n) (suc m) ≡ true → nat_le n m ≡ true
one_less n m h = grind (arith, nat_tests, h)

heads_stand : (a : Around) (vs : Items) (n k : ℕ) → nat_le n (length (fold_items rules vs)) ≡ true →
    are_parameters k (take n (fold_items rules vs)) a ≡ true →
    all_declare (drop n (fold_items rules vs)) a ≡ true → AreHeaded n k vs
heads_stand a vs zero k many h d = declared_placed (below outside) refl a vs d
heads_stand a node.NoItem (suc n) k many h d = absurd (none_less n many)
heads_stand a (node.Item s vs) (suc n) k many h d =
    let q = two ((act s).is_parameter k a) (are_parameters (k + 1) (take n (fold_items rules vs)) a) h in
    let next : k + 1 ≡ suc k = omega arith in (
      is_numbered a k s q.0,
      subst (λ j. AreHeaded n j vs) next
          (heads_stand a vs n (k + 1) (one_less n (length (fold_items rules vs)) many) q.1 d),
    )

by_body : (a : Around) → Agrees a (below outside) → (s : Stmt) (n : ℕ) → (act s).is_body n a ≡ true → IsHeaded n s
by_body a g (node.Block vs is) n h =
    let heads : Bool = all_declare (drop n (fold_items rules vs)) a in
    let rest : Bool = all_stand (fold_items rules is) (within (fold_items rules vs) a) in
    let first : Bool = are_parameters 0 (take n (fold_items rules vs)) a in
    let many : Bool = nat_le n (length (fold_items rules vs)) in
    let q = two (many && first && heads) rest h in
    let r = two (many && first) heads q.0 in (
      heads_stand a vs n 0 (first_true many first r.0) (second_true many first r.0) r.1,
      items_placed (within (fold_items rules vs) a) (below outside)
          (record { breaks = g.breaks; continues = g.continues }) is q.1,
    )
by_body a g _ n h = absurd cc

pub body_headed : (p : node.Program) (ticks : List (List CaptureKind)) (f : node.Function) → IsFunction p ticks f →
    IsHeaded f.parameters f.body
body_headed p ticks f h =
    by_body (round_function p ticks f) (record { breaks = λ e. absurd cc; continues = λ e. absurd cc }) f.body
    f.parameters h.stands
