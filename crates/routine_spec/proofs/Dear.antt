-- How many instructions the function of a tick takes for its pieces, besides those of what is spliced in: at most 98
-- for each node of the body, and 14 less.
use Rattle.std.proofs.Common.{◌≡◌, ℕ, ◌+◌, ◌*◌, ◌≤◌, Bool, true, false, List, [], ◌∷◌, ◌++◌, refl, sym, ap, subst}
use Rattle.std.proofs.Common.{arith}
use Rattle.std.proofs.Common.{suc, length, Option, Some, None}
use Rattle.word32.specs.declared.width.Width.{Width}
use Rattle.word32.specs.declared.width.Width.TheVariants as width
use Rattle.icode_ir.specs.declared.build_op.BuildOp.{BuildOp}
use Rattle.typed_tree.specs.declared.expression.Answer.{Answer}
use Rattle.typed_tree.specs.declared.expression.Answer.TheVariants as answer
use Rattle.icode_ops.specs.declared.kind.RunKind.{RunKind}
use Rattle.typed_tree.specs.declared.expression.CaptureKind.{CaptureKind}
use Rattle.tick_lower_spec.specs.Lower.{Addresses, check_run, checking, checking_all, putting, nipping, making_ops}
use Rattle.tick_lower_spec.specs.Lower.{narrowing, dropping, dropping_call, keeping, kept, joins}
use Rattle.tick_lower_spec.specs.declared.piece.Piece.{Piece}
use Rattle.tick_lower_spec.specs.declared.piece.Piece.TheVariants.{Plain, Nothing}
use Rattle.routine_spec.specs.Generator.{piece_cost, pieces_cost}
use Rattle.tick_lower_spec.specs.TickPieces.{plain, own}
use Rattle.routine_spec.proofs.Captured.{new_and_words}

-- without what is spliced in
abbrev pub none_spliced : ℕ → ℕ
none_spliced i = 0

abbrev pub own_cost : List Piece → ℕ
own_cost ps = pieces_cost none_spliced ps

pub cost_both : (ps qs : List Piece) → own_cost (ps ++ qs) ≡ own_cost ps + own_cost qs
cost_both [] qs = omega arith
cost_both (p ∷ ps) qs = omega (arith, cost_both ps qs)

-- at most so many
pub record Few (c : ℕ) (ps : List Piece) : Type 0 where
  pub cost : own_cost ps ≤ c

pub none : Few 0 []
none = record { cost = omega arith }

pub put : {c : ℕ} {ps : List Piece} (p : Piece) → Few c ps → Few (piece_cost none_spliced p + c) (p ∷ ps)
put {c} {ps} p f = record { cost = omega (arith, f.cost) }

pub pair : {c c' : ℕ} {ps qs : List Piece} → Few c ps → Few c' qs → Few (c + c') (ps ++ qs)
pair {c} {c'} {ps} {qs} f g = record { cost = omega (arith, f.cost, g.cost, cost_both ps qs) }

pub at_most : {c : ℕ} {ps : List Piece} (c' : ℕ) → c ≤ c' → Few c ps → Few c' ps
at_most {c} {ps} c' le f = record { cost = omega (arith, f.cost, le) }

pub exactly : (ps : List Piece) → Few (own_cost ps) ps
exactly ps = record { cost = omega arith }

-- a tree of n nodes
pub record Small (n : ℕ) (ps : List Piece) : Type 0 where
  pub cost : own_cost ps + 14 ≤ 98 * n

pub small : {c : ℕ} {ps : List Piece} (n : ℕ) → Few c ps → c + 14 ≤ 98 * n → Small n ps
small {c} {ps} n f le = record { cost = omega (arith, f.cost, le) }

pub of : {n : ℕ} {ps : List Piece} → Small n ps → Few (98 * n) ps
of {n} {ps} f = record { cost = omega (arith, f.cost) }

-- of an expression, which a tick may capture by six ops
pub record Smaller (n : ℕ) (ps : List Piece) : Type 0 where
  pub cost : own_cost ps + 42 ≤ 98 * n

pub smaller : {c : ℕ} {ps : List Piece} (n : ℕ) → Few c ps → c + 42 ≤ 98 * n → Smaller n ps
smaller {c} {ps} n f le = record { cost = omega (arith, f.cost, le) }

pub as_small : {n : ℕ} {ps : List Piece} → Smaller n ps → Small n ps
as_small {n} {ps} f = record { cost = omega (arith, f.cost) }

pub narrow : (w : Width) → Few 7 (plain (narrowing w))
narrow width.SignedByte = at_most 7 (omega arith) (put (Plain _) none)
narrow width.Byte = at_most 7 (omega arith) (put (Plain _) none)
narrow width.SignedHalf = at_most 7 (omega arith) (put (Plain _) none)
narrow width.Half = at_most 7 (omega arith) (put (Plain _) none)
narrow width.Word = at_most 7 (omega arith) none

pub drops : (b : Bool) → Few 7 (plain (dropping b))
drops true = at_most 7 (omega arith) (put (Plain _) none)
drops false = at_most 7 (omega arith) none

pub own_drops : (b : Bool) → Few 7 (own (dropping b))
own_drops true = at_most 7 (omega arith) (put (Plain _) none)
own_drops false = at_most 7 (omega arith) (put Nothing none)

pub call_drops : (r : Answer) → Few 7 (plain (dropping_call r))
call_drops answer.Value = at_most 7 (omega arith) none
call_drops answer.Void = at_most 7 (omega arith) (put (Plain _) none)

pub keeps : (b : Bool) (t : ℕ) → Few 14 (plain (keeping b t))
keeps true t = at_most 14 (omega arith) (put (Plain _) (put (Plain _) none))
keeps false t = at_most 14 (omega arith) none

pub back : (b : Bool) (t : ℕ) → Few 7 (plain (kept b t))
back true t = at_most 7 (omega arith) (put (Plain _) none)
back false t = at_most 7 (omega arith) none

pub meets : (x y l j t : ℕ) → Few 70 (plain (joins x y l j t))
meets x y l j t =
    at_most 70 (omega arith)
    (put (Plain _) (put (Plain _) (put (Plain _) (put (Plain _) (put (Plain _) (put (Plain _) (put (Plain _)
    (put (Plain _) (put (Plain _) (put (Plain _) none))))))))))

pub plain_both : (xs ys : List BuildOp) → plain (xs ++ ys) ≡ plain xs ++ plain ys
plain_both [] ys = refl
plain_both (x ∷ xs) ys = ap (λ z. Plain x ∷ z) (plain_both xs ys)

pub plain_pair : {c c' : ℕ} (xs ys : List BuildOp) → Few c (plain xs) → Few c' (plain ys) →
    Few (c + c') (plain (xs ++ ys))
plain_pair {c} {c'} xs ys f g = subst (λ z. Few (c + c') z) (sym (plain_both xs ys)) (pair f g)

-- ---- the making of a specification

check_dear : (r : Option RunKind) (depth : ℕ) → Few 21 (plain (checking r depth))
check_dear None depth = at_most 21 (omega arith) none
check_dear (Some r) depth = put (Plain _) (put (Plain _) (put (Plain _) none))

checks_dear : (kinds : List CaptureKind) → Few (21 * length kinds) (plain (checking_all kinds))
checks_dear [] = at_most _ (omega arith) none
checks_dear (k ∷ kinds) =
    at_most _ (omega arith)
    (plain_pair (checking (check_run k) (length kinds)) (checking_all kinds) (check_dear (check_run k) (length kinds))
    (checks_dear kinds))

puts_dear : (i : ℕ) (kinds : List CaptureKind) → Few (14 * length kinds) (plain (putting i kinds))
puts_dear i [] = at_most _ (omega arith) none
puts_dear i (k ∷ kinds) = at_most _ (omega arith) (put (Plain _) (put (Plain _) (puts_dear (suc i) kinds)))

nips_dear : (kinds : List CaptureKind) → Few (7 * length kinds) (plain (nipping kinds))
nips_dear [] = at_most _ (omega arith) none
nips_dear (k ∷ kinds) = at_most _ (omega arith) (put (Plain _) (nips_dear kinds))

pub making_dear : (addresses : Addresses) (tick : ℕ) (kinds : List CaptureKind)
    → Few (28 + 42 * length kinds) (plain (making_ops addresses tick kinds))
making_dear addresses tick kinds =
    at_most _ (omega arith)
    (put (Plain _) (put (Plain _) (put (Plain _) (plain_pair (checking_all kinds) (new_and_words addresses tick kinds)
    (checks_dear kinds)
    (put (Plain _) (plain_pair (putting 0 kinds) (nipping kinds) (puts_dear 0 kinds) (nips_dear kinds)))))))
