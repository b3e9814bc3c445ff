-- Pieces that a body's builder takes with so many operands before and behind, and how often each label stands in them.
use Rattle.std.proofs.Common.{◌≡◌, ℕ, suc, ◌+◌, ◌-◌, ◌<◌, ◌≤◌, ◌==◌, Bool, true, false, List, [], ◌∷◌, ◌++◌}
use Rattle.std.proofs.Common.{Option, Some, None, refl, sym, ap, ◌∙◌, subst, arith}
use Rattle.std.specs.Prelude.{nat_le}
use Rattle.std.proofs.lemmas.Bool.Decides.{nat_tests}
use Rattle.word32.specs.declared.width.Width.{Width}
use Rattle.word32.specs.declared.width.Width.TheVariants as width
use Rattle.icode_ir.specs.declared.build_op.BuildOp.{BuildOp}
use Rattle.icode_ir.specs.declared.build_op.BuildOp.TheVariants as build
use Rattle.typed_tree.specs.declared.expression.Answer.{Answer}
use Rattle.typed_tree.specs.declared.expression.Answer.TheVariants as answer
use Rattle.typed_tree.specs.declared.expression.CaptureKind.{CaptureKind}
use Rattle.typed_tree.specs.declared.expression.CaptureKind.TheVariants as kind
use Rattle.typed_tree.specs.Sizes.{is_value}
use Rattle.wellformed.specs.Places.{kind_at, is_splice}
use Rattle.tick_lower_spec.specs.Lower.{narrowing, dropping, dropping_call, keeping, kept, joins}
use Rattle.tick_lower_spec.specs.declared.piece.Piece.{Piece}
use Rattle.tick_lower_spec.specs.declared.piece.Piece.TheVariants.{Plain, Nothing}
use Rattle.tick_lower_spec.specs.TickPieces.{plain, own}
use Rattle.generated_ops_proof.proofs.Goes.{rise, raised, one_if, piece_mark, times, times_both, Allows, piece_height}
use Rattle.generated_ops_proof.proofs.Goes.{Goes}
use Rattle.generated_ops_proof.proofs.Goes.{goes_both}

-- ---- each number of a range once

-- 1 from l on
abbrev pub begun : (l i : ℕ) → ℕ
begun l i = one_if (nat_le l i)

-- 1 at the j numbers from l on
abbrev pub span : (l j i : ℕ) → ℕ
span l j i = begun l i - begun (l + j) i

fewer : (l j i : ℕ) → begun (l + j) i ≤ begun l i
fewer l j i = by (nat_le (l + j) i) (nat_le l i) refl refl
  where
    by : (b c : Bool) → nat_le (l + j) i ≡ b → nat_le l i ≡ c → one_if b ≤ one_if c
    by true true p q = omega arith
    by false c p q = omega arith
    by true false p q = absurd (let low : l ≤ i = grind (arith, nat_tests) in
        let no : nat_le l i ≡ true = grind (arith, nat_tests) in cc)

pub tele : (l j i : ℕ) → span l j i + begun (l + j) i ≡ begun l i
tele l j i = omega (arith, fewer l j i)

first : (l i : ℕ) → one_if (i == l) + begun (l + 1) i ≡ begun l i
first l i = by (i == l) (nat_le (l + 1) i) (nat_le l i) refl refl refl
  where
    by : (b c d : Bool) → (i == l) ≡ b → nat_le (l + 1) i ≡ c → nat_le l i ≡ d → one_if b + one_if c ≡ one_if d
    by true false true p q r = refl
    by false true true p q r = refl
    by false false false p q r = refl
    by true true d p q r = absurd (grind (arith, nat_tests))
    by true false false p q r = absurd (grind (arith, nat_tests))
    by false true false p q r = absurd (grind (arith, nat_tests))
    by false false true p q r = absurd (grind (arith, nat_tests))

pub span_none : (l i : ℕ) → span l 0 i ≡ 0
span_none l i = omega (arith, ap (λ z. begun z i) (let same : l + 0 ≡ l = omega arith in same))

-- one more before, and others behind
pub span_first : (l l' j i : ℕ) → l' ≡ l + 1 → one_if (i == l) + span l' j i ≡ span l (1 + j) i
span_first l l' j i e =
    omega (
      arith,
      first l i,
      tele l' j i,
      tele l (1 + j) i,
      ap (λ z. begun z i) e,
      ap (λ z. begun z i) (let same : l' + j ≡ l + (1 + j) = omega (arith, e) in same),
    )

pub span_both : (l l' j j' i : ℕ) → l' ≡ l + j → span l j i + span l' j' i ≡ span l (j + j') i
span_both l l' j j' i e =
    omega (
      arith,
      tele l j i,
      tele l' j' i,
      tele l (j + j') i,
      ap (λ z. begun z i) e,
      ap (λ z. begun z i) (let same : l' + j' ≡ l + (j + j') = omega (arith, e) in same),
    )

pub span_in : (m i : ℕ) → i < m → span 0 m i ≡ 1
span_in m i low =
    let whole : begun 0 i ≡ 1 = ap one_if (let all : nat_le 0 i ≡ true = grind (arith, nat_tests) in all) in
    let rest : begun (0 + m) i ≡ 0 = ap one_if (let past : nat_le (0 + m) i ≡ false = grind (arith, nat_tests) in
    past) in
    omega (arith, whole, rest)

-- ---- pieces

pub splice_raised : (r : Answer) (o : Option CaptureKind) (h : ℕ) → kind_at (is_splice r) o ≡ true
    → raised o h ≡ rise (is_value r) h
splice_raised answer.Value (Some (kind.Splice answer.Value)) h e = refl
splice_raised answer.Void (Some (kind.Splice answer.Void)) h e = refl
splice_raised answer.Value (Some (kind.Splice answer.Void)) h e = absurd cc
splice_raised answer.Void (Some (kind.Splice answer.Value)) h e = absurd cc
splice_raised answer.Value (Some kind.Dollar) h e = absurd cc
splice_raised answer.Value (Some kind.Address) h e = absurd cc
splice_raised answer.Value (Some kind.Variable) h e = absurd cc
splice_raised answer.Void (Some kind.Dollar) h e = absurd cc
splice_raised answer.Void (Some kind.Address) h e = absurd cc
splice_raised answer.Void (Some kind.Variable) h e = absurd cc
splice_raised r None h e = absurd cc

plain_both : (xs ys : List BuildOp) → plain (xs ++ ys) ≡ plain xs ++ plain ys
plain_both [] ys = refl
plain_both (x ∷ xs) ys = ap (λ z. Plain x ∷ z) (plain_both xs ys)

module _ (k n m : ℕ) (kinds : List CaptureKind) where
  pub record Good (marks : ℕ → ℕ) (h h' : ℕ) (ps : List Piece) : Type 0 where
    pub goes : Goes k n m kinds ps h h'
    pub marked : (i : ℕ) → times i ps ≡ marks i

  pub ends : (h : ℕ) → Good (λ i. 0) h h []
  ends h = record { goes = refl; marked = λ i. refl }

  pub next : {c : ℕ → ℕ} {h h' : ℕ} {ps : List Piece} (p : Piece) → Allows k n m kinds p h
      → Good c (piece_height k n m kinds p h) h' ps → Good (λ i. piece_mark i p + c i) h h' (p ∷ ps)
  next {c} {h} {h'} {ps} p may rest = record {
    goes = (may, rest.goes);
    marked = λ i. ap (λ z. piece_mark i p + z) (rest.marked i);
  }

  pub beside : {c d : ℕ → ℕ} {h h1 h' : ℕ} {ps qs : List Piece} → Good c h h1 ps → Good d h1 h' qs
      → Good (λ i. c i + d i) h h' (ps ++ qs)
  beside {c} {d} {h} {h1} {h'} {ps} {qs} f g = record {
    goes = goes_both k n m kinds ps qs h h1 h' f.goes g.goes;
    marked = λ i. omega (arith, times_both i ps qs, f.marked i, g.marked i);
  }

  -- the same by other numbers
  pub counts : {c : ℕ → ℕ} {h h' : ℕ} {ps : List Piece} (d : ℕ → ℕ) → Good c h h' ps → ((i : ℕ) → c i ≡ d i)
      → Good d h h' ps
  counts {c} {h} {h'} {ps} d f e = record { goes = f.goes; marked = λ i. f.marked i ∙ e i }

  pub from : {c : ℕ → ℕ} {h h' : ℕ} {ps : List Piece} (g : ℕ) → g ≡ h → Good c h h' ps → Good c g h' ps
  from {c} {h} {h'} {ps} g e f = subst (λ z. Good c z h' ps) (sym e) f

  pub upto : {c : ℕ → ℕ} {h h' : ℕ} {ps : List Piece} (g : ℕ) → h' ≡ g → Good c h h' ps → Good c h g ps
  upto {c} {h} {h'} {ps} g e f = subst (λ z. Good c h z ps) e f

  -- a value that is there
  pub valued : {c : ℕ → ℕ} {h : ℕ} {ps : List Piece} (b : Bool) → b ≡ true → Good c h (rise b h) ps
      → Good c h (suc h) ps
  valued {c} {h} {ps} b e f = subst (λ z. Good c h (rise z h) ps) e f

  pub narrow : (w : Width) (h : ℕ) → Good (λ i. 0) (suc h) (suc h) (plain (narrowing w))
  narrow width.SignedByte h = counts (λ i. 0) (next (Plain (build.Un _)) tt (ends (suc h))) (λ i. omega arith)
  narrow width.Byte h = counts (λ i. 0) (next (Plain (build.Un _)) tt (ends (suc h))) (λ i. omega arith)
  narrow width.SignedHalf h = counts (λ i. 0) (next (Plain (build.Un _)) tt (ends (suc h))) (λ i. omega arith)
  narrow width.Half h = counts (λ i. 0) (next (Plain (build.Un _)) tt (ends (suc h))) (λ i. omega arith)
  narrow width.Word h = ends (suc h)

  pub drops : (b : Bool) (h : ℕ) → Good (λ i. 0) (rise b h) h (plain (dropping b))
  drops true h = counts (λ i. 0) (next (Plain build.Drop) tt (ends h)) (λ i. omega arith)
  drops false h = ends h

  pub own_drops : (b : Bool) (h : ℕ) → Good (λ i. 0) (rise b h) h (own (dropping b))
  own_drops true h = counts (λ i. 0) (next (Plain build.Drop) tt (ends h)) (λ i. omega arith)
  own_drops false h = counts (λ i. 0) (next Nothing tt (ends h)) (λ i. omega arith)

  pub call_drops : (r : Answer) (h : ℕ) → Good (λ i. 0) (suc h) (rise (is_value r) h) (plain (dropping_call r))
  call_drops answer.Value h = ends (suc h)
  call_drops answer.Void h = counts (λ i. 0) (next (Plain build.Drop) tt (ends h)) (λ i. omega arith)

  pub keeps : (b : Bool) (t h : ℕ) → t < n → Good (λ i. 0) (rise b h) h (plain (keeping b t))
  keeps true t h low =
      counts (λ i. 0) (next (Plain (build.SetVariable t)) (tt, low) (next (Plain build.Drop) tt (ends h)))
      (λ i. omega arith)
  keeps false t h low = ends h

  pub back : (b : Bool) (t h : ℕ) → t < n → Good (λ i. 0) h (rise b h) (plain (kept b t))
  back true t h low = counts (λ i. 0) (next (Plain (build.GetVariable t)) low (ends (suc h))) (λ i. omega arith)
  back false t h low = ends h

  pub meets : (x y l j t h : ℕ) → l < m → j < m → t < n
      → Good (λ i. one_if (i == l) + one_if (i == j)) h (suc h) (plain (joins x y l j t))
  meets x y l j t h low high in_it =
      counts (λ i. one_if (i == l) + one_if (i == j))
      (next (Plain (build.Const x)) tt
      (next (Plain (build.SetVariable t)) (tt, in_it)
      (next (Plain build.Drop) tt
      (next (Plain (build.Jump j)) high
      (next (Plain (build.Label l)) low
      (next (Plain (build.Const y)) tt
      (next (Plain (build.SetVariable t)) (tt, in_it)
      (next (Plain build.Drop) tt
      (next (Plain (build.Label j)) high
      (next (Plain (build.GetVariable t)) in_it (ends (suc h))))))))))))
      (λ i. omega arith)

  pub plain_beside : {c d : ℕ → ℕ} {h h1 h' : ℕ} (xs ys : List BuildOp) → Good c h h1 (plain xs)
      → Good d h1 h' (plain ys)
      → Good (λ i. c i + d i) h h' (plain (xs ++ ys))
  plain_beside {c} {d} {h} {h1} {h'} xs ys f g =
      subst (λ z. Good (λ i. c i + d i) h h' z) (sym (plain_both xs ys)) (beside f g)
