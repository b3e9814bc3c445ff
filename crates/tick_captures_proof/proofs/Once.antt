-- Each capture of a tick of an accepted text is spliced in at one place.
use Rattle.std.proofs.Common.{◌≡◌, ℕ, zero, suc, ◌+◌, ◌<◌, ◌≤◌, ◌==◌, Bool, true, false, if◌then◌else◌, nat_eq, List}
use Rattle.std.proofs.Common.{[], ◌∷◌, ◌++◌}
use Rattle.std.proofs.Common.{length, slice_get, Option, Some, None, refl, sym, ◌∙◌, subst, length-append, arith}
use Rattle.std.proofs.lemmas.Bool.Decides.{nat_tests}
use Rattle.typed_tree.specs.declared.expression.CaptureKind.{CaptureKind}
use Rattle.typed_tree.specs.declared.expression.CaptureKind.TheVariants as kind
use Rattle.typed_tree.specs.declared.expression.CapturedWord.TheVariants as word
use Rattle.typed_tree.specs.declared.expression.Expr.TheOpen.{Expr-F}
use Rattle.typed_tree.specs.Measures.{together}
use Rattle.typed_tree.specs.Nodes as node
use Rattle.tick_captures.specs.Captures.{Name, Nothing, Names, own}
use Rattle.wellformed.specs.Captured.{again}
use Rattle.wellformed.specs.Program.{named_in}
use Rattle.tick_captures_proof.specs.Laws.{SplicesAreOnce}
use Rattle.tick_captures_proof.specs.Splices.{splice_rule, splices_of_body}
use Rattle.tick_captures_proof.proofs.Rows.{behind, behind_none, again_same, names, names_of, expr_named, stmt_named}
use Rattle.tick_captures_proof.proofs.Counted.{counted, expr_counted, stmt_counted}

-- ---- how often a row of names splices a capture

abbrev pub one_if : Bool → ℕ
one_if b = if b then 1 else 0

abbrev pub spliced : ℕ → Name → ℕ
spliced i (Names (kind.Splice r) j) = one_if (i == j)
spliced i _ = 0

abbrev times : ℕ → List Name → ℕ
times i = counted (spliced i)

-- of those behind some captures, each is spliced once, and none of those
record Once (n : ℕ) (ns : List Name) : Type 0 where
  few : (i : ℕ) → times i ns ≤ 1
  new : (i : ℕ) → i < n → times i ns ≡ 0

-- a name that is no splice
unspliced : (k : CaptureKind) (j n m : ℕ) (ns : List Name) → ((i : ℕ) → spliced i (Names k j) ≡ 0) → n ≤ m → Once m ns →
    Once n (Names k j ∷ ns)
unspliced k j n m ns none le o = record {
  few = λ i. let a = none i in let b = o.few i in omega (arith, a, b);
  new = λ i low. let a = none i in let b = o.new i (omega (arith, low, le)) in omega (arith, a, b);
}

-- a splice of the next capture
next_spliced : (j n : ℕ) (ns : List Name) (i : ℕ) (b : Bool) → nat_eq n j ≡ true → Once (n + 1) ns → (i == j) ≡ b →
    (one_if b + times i ns ≤ 1) × (i < n → one_if b + times i ns ≡ 0)
next_spliced j n ns i true is o e =
    let same : i ≡ j = grind (arith, nat_tests) in
    let here : n ≡ j = grind (arith, nat_tests) in
    let none = o.new i (omega (arith, same, here)) in
    (omega (arith, none), λ low. absurd (omega (arith, low, same, here)))
next_spliced j n ns i false is o e =
    let few = o.few i in
    (omega (arith, few), λ low. let none = o.new i (omega (arith, low)) in omega (arith, none))

splice_once : (j n : ℕ) (ns : List Name) (k : CaptureKind) → nat_eq n j ≡ true → Once (n + 1) ns →
    Once n (Names k j ∷ ns)
splice_once j n ns kind.Dollar is o = unspliced kind.Dollar j n (n + 1) ns (λ i. refl) (omega arith) o
splice_once j n ns kind.Address is o = unspliced kind.Address j n (n + 1) ns (λ i. refl) (omega arith) o
splice_once j n ns kind.Variable is o = unspliced kind.Variable j n (n + 1) ns (λ i. refl) (omega arith) o
splice_once j n ns (kind.Splice r) is o = record {
  few = λ i. (next_spliced j n ns i (i == j) is o refl).0;
  new = λ i low. (next_spliced j n ns i (i == j) is o refl).1 low;
}

-- a name of one that was named is no splice
old_once : (k : CaptureKind) (j : ℕ) (ns : List Name) (ks kinds : List CaptureKind) →
    behind ns (again k ks) ≡ Some kinds → Once (length ks) ns → Once (length ks) (Names k j ∷ ns)
old_once kind.Dollar j ns ks kinds h o =
    unspliced kind.Dollar j (length ks) (length ks) ns (λ i. refl) (omega arith) o
old_once kind.Address j ns ks kinds h o =
    unspliced kind.Address j (length ks) (length ks) ns (λ i. refl) (omega arith) o
old_once kind.Variable j ns ks kinds h o =
    unspliced kind.Variable j (length ks) (length ks) ns (λ i. refl) (omega arith) o
old_once (kind.Splice r) j ns ks kinds h o =
    let no : None ≡ Some kinds = sym (behind_none ns) ∙ h in absurd cc

one_name : (k : CaptureKind) (j : ℕ) (ns : List Name) (ks kinds : List CaptureKind) (b : Bool) →
    nat_eq (length ks) j ≡ b → behind ns (if b then Some (ks ++ k ∷ []) else again k ks) ≡ Some kinds →
    ((ms : List CaptureKind) → behind ns (Some ms) ≡ Some kinds → Once (length ms) ns)
    → Once (length ks) (Names k j ∷ ns)
one_name k j ns ks kinds true is h rest =
    let l : length (ks ++ k ∷ []) ≡ length ks + 1 = length-append ks (k ∷ []) in
    splice_once j (length ks) ns k is (subst (λ z. Once z ns) l (rest (ks ++ k ∷ []) h))
one_name k j ns ks kinds false is h rest = old_once k j ns ks kinds h (rest ks (again_same k ns ks kinds h))

all_once : (ns : List Name) (ks kinds : List CaptureKind) → behind ns (Some ks) ≡ Some kinds → Once (length ks) ns
all_once [] ks kinds h = record { few = λ i. omega arith; new = λ i low. refl }
all_once (Nothing ∷ ns) ks kinds h =
    let o = all_once ns ks kinds h in record {
      few = λ i. let a = o.few i in omega (arith, a);
      new = λ i low. let a = o.new i low in omega (arith, a);
    }
all_once (Names k j ∷ ns) ks kinds h =
    one_name k j ns ks kinds (nat_eq (length ks) j) refl h (λ ms g. all_once ns ms kinds g)

-- ---- trees

pub by_splices : (i : ℕ) (e : Expr-F ℕ) → splice_rule i e ≡ spliced i (own e) + together e
by_splices i (Expr-F.Captured word.Dollar j) = omega arith
by_splices i (Expr-F.Captured word.Address j) = omega arith
by_splices i (Expr-F.Splice r j) = omega arith
by_splices i _ = omega arith

-- ---- ticks

body_once : (t : node.TickBody) (kinds : List CaptureKind) → named_in t (Some []) ≡ Some kinds → (i : ℕ) →
    splices_of_body i t ≤ 1
body_once (node.Expression e) kinds h i =
    let o = all_once (names e) [] kinds (sym (expr_named e (Some [])) ∙ h) in
    let few = o.few i in omega (arith, few, expr_counted (spliced i) refl (splice_rule i) (by_splices i) e)
body_once (node.Statement s) kinds h i =
    let o = all_once (names_of s) [] kinds (sym (stmt_named s (Some [])) ∙ h) in
    let few = o.few i in omega (arith, few, stmt_counted (spliced i) refl (splice_rule i) (by_splices i) s)

kinds_missing : {A B : Type 0} (xs : List A) (ys : List B) (n : ℕ) (x : A) → length ys ≡ length xs →
    slice_get xs n ≡ Some x → slice_get ys n ≡ None → ⊥
kinds_missing [] ys n x same h none = absurd cc
kinds_missing (x ∷ xs) [] n y same h none = absurd (omega (arith, same))
kinds_missing (x ∷ xs) (y ∷ ys) zero z same h none = absurd cc
kinds_missing (x ∷ xs) (y ∷ ys) (suc n) z same h none = kinds_missing xs ys n z (omega (arith, same)) h none

pub splices_once : SplicesAreOnce
splices_once p accepted n t at i = by (slice_get accepted.captures n) refl
  where
    by : (o : Option (List CaptureKind)) → slice_get accepted.captures n ≡ o → splices_of_body i t ≤ 1
    by None own = absurd (kinds_missing p.ticks accepted.captures n t accepted.each at own)
    by (Some kinds) own = body_once t kinds (accepted.ticks n t kinds at own).captures i
