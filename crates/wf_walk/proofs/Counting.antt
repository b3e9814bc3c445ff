-- The counts of nodes come together over lists, and over statements.
use Rattle.std.proofs.Common.{◌≡◌, ℕ, ◌+◌, ◌≤◌, List, [], ◌∷◌, ◌++◌, map, ap, ◌∙◌, arith}
use Rattle.std.specs.List.{sum}
use Rattle.std.proofs.lemmas.Bool.Decides.{nat_tests}
use Rattle.std.proofs.lemmas.List.{map-append}
use Rattle.std.proofs.lemmas.List.Sums.{sum_by-append, sum_by-cons}
use Rattle.typed_tree.specs.declared.expression.Stmt.{Stmt}
use Rattle.typed_tree.specs.Sizes.{statement_size, statements_size}
use Rattle.check_rules.specs.declared.state.Stage.{Stage}
use Rattle.check_rules.specs.declared.state.State.{State}
use Rattle.wellformed.specs.Counts.{objects_at, declarations_of}
use Rattle.wf_walk.specs.Kept.{Grows}
use Rattle.wf_walk.specs.Known.{Small}
use Rattle.wf_walk.specs.Counts.{objects_in, declarations_in, between, variables, Counts}
use Rattle.wf_walk.proofs.Growing.{small_before, object_grows, variables_grow}

-- ---- lists

sum_append : (f : Stmt → ℕ) (xs ys : List Stmt) → sum (map f (xs ++ ys)) ≡ sum (map f xs) + sum (map f ys)
sum_append f xs ys = ap sum (map-append f xs ys) ∙ sum_by-append (λ n. n) (map f xs) (map f ys)

pub sum_cons : (f : Stmt → ℕ) (x : Stmt) (xs : List Stmt) → sum (map f (x ∷ xs)) ≡ f x + sum (map f xs)
sum_cons f x xs = sum_by-cons (λ n. n) (f x) (map f xs)

pub sum_one : (f : Stmt → ℕ) (x : Stmt) → sum (map f (x ∷ [])) ≡ f x
sum_one f x = omega arith

pub objects_append : (byte : ℕ) (xs ys : List Stmt) →
    objects_in byte (xs ++ ys) ≡ objects_in byte xs + objects_in byte ys
objects_append byte xs ys = sum_append (objects_at byte) xs ys

pub declarations_append : (i : ℕ) (xs ys : List Stmt) →
    declarations_in i (xs ++ ys) ≡ declarations_in i xs + declarations_in i ys
declarations_append i xs ys = sum_append (declarations_of i) xs ys

pub sizes_append : (xs ys : List Stmt) → statements_size (xs ++ ys) ≡ statements_size xs + statements_size ys
sizes_append xs ys = sum_append statement_size xs ys

-- ---- numbers between two others

pub between_none : (m n k : ℕ) → n ≡ m → between m n k ≡ 0
between_none m n k e = grind (arith, nat_tests)

pub between_more : (l m n k : ℕ) → l ≤ m → m ≤ n → between l m k + between m n k ≡ between l n k
between_more l m n k p q = grind (arith, nat_tests)

pub between_one : (m n k : ℕ) → between m n k ≤ 1
between_one m n k = grind (arith, nat_tests)

-- ---- statements

-- where nothing was declared, and these nodes count nothing
pub record Nothing (xs : List Stmt) : Type 0 where
  pub objects : (byte : ℕ) → objects_in byte xs ≡ 0
  pub declarations : (i : ℕ) → declarations_in i xs ≡ 0

pub counts_none : {g : Stage} {s new : State} {xs : List Stmt} → new.frame.nodes ≡ s.frame.nodes →
    new.frame.object ≡ s.frame.object → variables g new ≡ variables g s → Nothing xs → Counts g s new xs
counts_none {g} {s} {new} {xs} n o v k = record {
  objects = λ byte. omega (
    arith,
    ap (objects_in byte) n,
    k.objects byte,
    between_none s.frame.object new.frame.object byte o,
  );
  declarations = λ i. omega (arith, ap (declarations_in i) n, k.declarations i);
  sizes = omega (arith, ap statements_size n, v);
}

pub counts_more : {g : Stage} {s t new : State} {xs ys : List Stmt} → Grows g s t → Grows g t new → Small g new →
    Counts g s t xs → Counts g t new ys → Counts g s new (xs ++ ys)
counts_more {g} {s} {t} {new} {xs} {ys} p q small c d =
    let was = small_before q small in
    let a = object_grows g s t p.at was.object in
    let b = object_grows g t new q.at small.object in
    let m = variables_grow g s t p.at was.tick in
    let n = variables_grow g t new q.at small.tick in
    record {
      objects = λ byte. omega (
        arith,
        objects_append byte xs ys,
        c.objects byte,
        d.objects byte,
        between_more s.frame.object t.frame.object new.frame.object byte a b,
      );
      declarations = λ i. omega (
        arith,
        declarations_append i xs ys,
        c.declarations i,
        d.declarations i,
        between_more (variables g s) (variables g t) (variables g new) i m n,
      );
      sizes = omega (arith, sizes_append xs ys, c.sizes, d.sizes);
    }

-- a node that counts as much as these
pub record CountsAs (x : Stmt) (xs : List Stmt) : Type 0 where
  pub objects : (byte : ℕ) → objects_at byte x ≡ objects_in byte xs
  pub declarations : (i : ℕ) → declarations_of i x ≡ declarations_in i xs
  pub size : statements_size xs ≤ statement_size x

pub counts_as : {g : Stage} {s new : State} {xs : List Stmt} (x : Stmt) → CountsAs x xs → Counts g s new xs →
    Counts g s new (x ∷ [])
counts_as {g} {s} {new} {xs} x k c = record {
  objects = λ byte. omega (arith, sum_one (objects_at byte) x, k.objects byte, c.objects byte);
  declarations = λ i. omega (arith, sum_one (declarations_of i) x, k.declarations i, c.declarations i);
  sizes = omega (arith, sum_one statement_size x, k.size, c.sizes);
}
