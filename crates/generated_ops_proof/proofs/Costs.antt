-- What pieces add to a builder besides what is spliced in, and how often they splice each capture.
use Rattle.std.proofs.Common.{◌≡◌, ℕ, ◌+◌, ◌*◌, ◌≤◌, ◌==◌, Bool, true, false, List, [], ◌∷◌, ◌++◌, refl, sym, ap, subst}
use Rattle.std.proofs.Common.{suc, length, slice_get, Option, Some, None, arith}
use Rattle.word32.specs.declared.width.Width.{Width}
use Rattle.word32.specs.declared.width.Width.TheVariants as width
use Rattle.icode_ir.specs.declared.build_op.BuildOp.{BuildOp}
use Rattle.icode_ir.specs.declared.build_op.BuildOp.TheVariants.{Const, GetSpec, SetSpec, New}
use Rattle.icode_ops.specs.declared.kind.RunKind.{RunKind}
use Rattle.typed_tree.specs.declared.expression.Answer.{Answer}
use Rattle.typed_tree.specs.declared.expression.Answer.TheVariants as answer
use Rattle.typed_tree.specs.declared.expression.CaptureKind.{CaptureKind}
use Rattle.typed_tree.specs.Nodes as node
use Rattle.typed_tree.specs.Nodes.{Args, count}
use Rattle.staged_meaning.specs.Program.{is_expression}
use Rattle.staged_meaning.specs.Specifications.{kinds_of}
use Rattle.tick_lower_spec.specs.Lower.{Addresses, check_run, checking, checking_all, putting, nipping, making_ops}
use Rattle.tick_lower_spec.specs.Lower.{kind_of_tick}
use Rattle.tick_lower_spec.specs.Lower.{narrowing, dropping, dropping_call, keeping, kept, joins}
use Rattle.tick_lower_spec.specs.declared.piece.Piece.{Piece}
use Rattle.tick_lower_spec.specs.declared.piece.Piece.TheVariants.{Plain, Captured, GetKey, SetKey, Splice, Nothing}
use Rattle.tick_lower_spec.specs.TickPieces.{plain, own}
use Rattle.generated_ops_proof.specs.Room.{more_ops, more_operands}
use Rattle.routine_spec.proofs.Captured.{new_and_words}
use Rattle.generated_ops_proof.proofs.Goes.{one_if}

abbrev pub piece_adds : (BuildOp → ℕ) → Piece → ℕ
piece_adds more (Plain op) = more op
piece_adds more (Captured i) = more (Const 0)
piece_adds more (GetKey i) = more (GetSpec 0)
piece_adds more (SetKey i) = more (SetSpec 0)
piece_adds more (Splice i) = 0
piece_adds more Nothing = 0

abbrev pub adds : (BuildOp → ℕ) → List Piece → ℕ
adds more [] = 0
adds more (p ∷ ps) = piece_adds more p + adds more ps

abbrev pub piece_splices : ℕ → Piece → ℕ
piece_splices i (Splice j) = one_if (i == j)
piece_splices i _ = 0

abbrev pub splices : ℕ → List Piece → ℕ
splices i [] = 0
splices i (p ∷ ps) = piece_splices i p + splices i ps

pub adds_both : (more : BuildOp → ℕ) (ps qs : List Piece) → adds more (ps ++ qs) ≡ adds more ps + adds more qs
adds_both more [] qs = omega arith
adds_both more (p ∷ ps) qs = omega (arith, adds_both more ps qs)

pub splices_both : (i : ℕ) (ps qs : List Piece) → splices i (ps ++ qs) ≡ splices i ps + splices i qs
splices_both i [] qs = omega arith
splices_both i (p ∷ ps) qs = omega (arith, splices_both i ps qs)

-- at most so many ops and operands, and exactly these splices
pub record Few (c d : ℕ) (s : ℕ → ℕ) (ps : List Piece) : Type 0 where
  pub ops : adds more_ops ps ≤ c
  pub operands : adds more_operands ps ≤ d
  pub splices : (i : ℕ) → splices i ps ≡ s i

pub none : Few 0 0 (λ i. 0) []
none = record { ops = omega arith; operands = omega arith; splices = λ i. refl }

pub put : {c d : ℕ} {s : ℕ → ℕ} {ps : List Piece} (p : Piece) → Few c d s ps
    → Few (piece_adds more_ops p + c) (piece_adds more_operands p + d) (λ i. piece_splices i p + s i) (p ∷ ps)
put {c} {d} {s} {ps} p f = record {
  ops = omega (arith, f.ops);
  operands = omega (arith, f.operands);
  splices = λ i. omega (arith, f.splices i);
}

pub pair : {c d c' d' : ℕ} {s s' : ℕ → ℕ} {ps qs : List Piece} → Few c d s ps → Few c' d' s' qs
    → Few (c + c') (d + d') (λ i. s i + s' i) (ps ++ qs)
pair {c} {d} {c'} {d'} {s} {s'} {ps} {qs} f g = record {
  ops = omega (arith, f.ops, g.ops, adds_both more_ops ps qs);
  operands = omega (arith, f.operands, g.operands, adds_both more_operands ps qs);
  splices = λ i. omega (arith, f.splices i, g.splices i, splices_both i ps qs);
}

pub at_most : {c d : ℕ} {s : ℕ → ℕ} {ps : List Piece} (c' d' : ℕ) (s' : ℕ → ℕ) → c ≤ c' → d ≤ d'
    → ((i : ℕ) → s i ≡ s' i) → Few c d s ps → Few c' d' s' ps
at_most {c} {d} {s} {ps} c' d' s' le le' e f = record {
  ops = omega (arith, f.ops, le);
  operands = omega (arith, f.operands, le');
  splices = λ i. omega (arith, f.splices i, e i);
}

-- a tree of n nodes adds at most twelve of each a node, and two less
pub record Small (n : ℕ) (s : ℕ → ℕ) (ps : List Piece) : Type 0 where
  pub ops : adds more_ops ps + 2 ≤ 12 * n
  pub operands : adds more_operands ps + 2 ≤ 12 * n
  pub splices : (i : ℕ) → splices i ps ≡ s i

pub small : {c d : ℕ} {s : ℕ → ℕ} {ps : List Piece} (n : ℕ) (s' : ℕ → ℕ) → Few c d s ps → c + 2 ≤ 12 * n
    → d + 2 ≤ 12 * n → ((i : ℕ) → s i ≡ s' i) → Small n s' ps
small {c} {d} {s} {ps} n s' f le le' e = record {
  ops = omega (arith, f.ops, le);
  operands = omega (arith, f.operands, le');
  splices = λ i. omega (arith, f.splices i, e i);
}

pub of : {n : ℕ} {s : ℕ → ℕ} {ps : List Piece} → Small n s ps → Few (12 * n) (12 * n) s ps
of {n} {s} {ps} f =
    record { ops = omega (arith, f.ops); operands = omega (arith, f.operands); splices = f.splices }

-- ---- ops of a node's own

pub narrow : (w : Width) → Few 1 0 (λ i. 0) (plain (narrowing w))
narrow width.SignedByte = at_most 1 0 (λ i. 0) (omega arith) (omega arith) (λ i. omega arith) (put (Plain _) none)
narrow width.Byte = at_most 1 0 (λ i. 0) (omega arith) (omega arith) (λ i. omega arith) (put (Plain _) none)
narrow width.SignedHalf = at_most 1 0 (λ i. 0) (omega arith) (omega arith) (λ i. omega arith) (put (Plain _) none)
narrow width.Half = at_most 1 0 (λ i. 0) (omega arith) (omega arith) (λ i. omega arith) (put (Plain _) none)
narrow width.Word = at_most 1 0 (λ i. 0) (omega arith) (omega arith) (λ i. refl) none

pub drops : (b : Bool) → Few 0 0 (λ i. 0) (plain (dropping b))
drops true = at_most 0 0 (λ i. 0) (omega arith) (omega arith) (λ i. omega arith) (put (Plain _) none)
drops false = none

pub own_drops : (b : Bool) → Few 0 0 (λ i. 0) (own (dropping b))
own_drops true = at_most 0 0 (λ i. 0) (omega arith) (omega arith) (λ i. omega arith) (put (Plain _) none)
own_drops false = at_most 0 0 (λ i. 0) (omega arith) (omega arith) (λ i. omega arith) (put Nothing none)

pub call_drops : (r : Answer) → Few 0 0 (λ i. 0) (plain (dropping_call r))
call_drops answer.Value = none
call_drops answer.Void = at_most 0 0 (λ i. 0) (omega arith) (omega arith) (λ i. omega arith) (put (Plain _) none)

pub keeps : (b : Bool) (t : ℕ) → Few 1 0 (λ i. 0) (plain (keeping b t))
keeps true t = at_most 1 0 (λ i. 0) (omega arith) (omega arith) (λ i. omega arith) (put (Plain _) (put (Plain _) none))
keeps false t = at_most 1 0 (λ i. 0) (omega arith) (omega arith) (λ i. refl) none

pub back : (b : Bool) (t : ℕ) → Few 1 1 (λ i. 0) (plain (kept b t))
back true t = at_most 1 1 (λ i. 0) (omega arith) (omega arith) (λ i. omega arith) (put (Plain _) none)
back false t = at_most 1 1 (λ i. 0) (omega arith) (omega arith) (λ i. refl) none

pub meets : (x y l j t : ℕ) → Few 8 3 (λ i. 0) (plain (joins x y l j t))
meets x y l j t =
    at_most 8 3 (λ i. 0) (omega arith) (omega arith) (λ i. omega arith)
    (put (Plain _) (put (Plain _) (put (Plain _) (put (Plain _) (put (Plain _) (put (Plain _) (put (Plain _)
    (put (Plain _) (put (Plain _) (put (Plain _) none))))))))))

pub plain_both : (xs ys : List BuildOp) → plain (xs ++ ys) ≡ plain xs ++ plain ys
plain_both [] ys = refl
plain_both (x ∷ xs) ys = ap (λ z. Plain x ∷ z) (plain_both xs ys)

pub plain_pair : {c d c' d' : ℕ} {s s' : ℕ → ℕ} (xs ys : List BuildOp) → Few c d s (plain xs) → Few c' d' s' (plain ys)
    → Few (c + c') (d + d') (λ i. s i + s' i) (plain (xs ++ ys))
plain_pair {c} {d} {c'} {d'} {s} {s'} xs ys f g =
    subst (λ z. Few (c + c') (d + d') (λ i. s i + s' i) z) (sym (plain_both xs ys)) (pair f g)

-- ---- the making of a specification: at most two of each for a capture, besides its word

check_few : (r : Option RunKind) (depth : ℕ) → Few 1 1 (λ i. 0) (plain (checking r depth))
check_few None depth = at_most 1 1 (λ i. 0) (omega arith) (omega arith) (λ i. refl) none
check_few (Some r) depth =
    at_most 1 1 (λ i. 0) (omega arith) (omega arith) (λ i. omega arith)
    (put (Plain _) (put (Plain _) (put (Plain _) none)))

checks_few : (kinds : List CaptureKind) → Few (length kinds) (length kinds) (λ i. 0) (plain (checking_all kinds))
checks_few [] = none
checks_few (k ∷ kinds) =
    at_most _ _ (λ i. 0) (omega arith) (omega arith) (λ i. omega arith)
    (plain_pair (checking (check_run k) (length kinds)) (checking_all kinds) (check_few (check_run k) (length kinds))
    (checks_few kinds))

puts_few : (i : ℕ) (kinds : List CaptureKind) → Few (length kinds) (length kinds) (λ i. 0) (plain (putting i kinds))
puts_few i [] = none
puts_few i (k ∷ kinds) =
    at_most _ _ (λ i. 0) (omega arith) (omega arith) (λ i. omega arith)
    (put (Plain _) (put (Plain _) (puts_few (suc i) kinds)))

nips_few : (kinds : List CaptureKind) → Few 0 0 (λ i. 0) (plain (nipping kinds))
nips_few [] = none
nips_few (k ∷ kinds) =
    at_most 0 0 (λ i. 0) (omega arith) (omega arith) (λ i. omega arith) (put (Plain _) (nips_few kinds))

pub making_few : (addresses : Addresses) (tick : ℕ) (kinds : List CaptureKind)
    → Few (3 + 2 * length kinds) (2 + 2 * length kinds) (λ i. 0) (plain (making_ops addresses tick kinds))
making_few addresses tick kinds =
    at_most _ _ (λ i. 0) (omega arith) (omega arith) (λ i. omega arith)
    (put (Plain _) (put (Plain _) (put (Plain _) (plain_pair (checking_all kinds) (new_and_words addresses tick kinds)
    (checks_few kinds)
    (put (Plain _) (plain_pair (putting 0 kinds) (nipping kinds) (puts_few 0 kinds) (nips_few kinds)))))))
