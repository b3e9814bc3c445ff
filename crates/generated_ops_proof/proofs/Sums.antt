-- What the ops of a specification add, where each capture is spliced in at one place at most: what the pieces of its
-- ticks add, each once.
use Rattle.std.proofs.Common.{◌≡◌, ℕ, zero, suc, ◌+◌, ◌<◌, ◌≤◌, ◌==◌, Bool, true, false, List, [], ◌∷◌, refl, sym}
use Rattle.std.proofs.Common.{ap, ◌∙◌, arith}
use Rattle.std.specs.Prelude.{if◌then◌else◌}
use Rattle.std.proofs.lemmas.Bool.Decides.{nat_tests}
use Rattle.history.specs.Syntax.{Captures}
use Rattle.icode_ir.specs.declared.build_op.BuildOp.{BuildOp}
use Rattle.icode_ir.specs.declared.build_op.BuildOp.TheVariants.{Const, GetSpec, SetSpec}
use Rattle.tick_lower_spec.specs.declared.piece.Piece.{Piece}
use Rattle.tick_lower_spec.specs.declared.piece.Piece.TheVariants.{Plain, Captured, GetKey, SetKey, Splice, Nothing}
use Rattle.generator_laws.specs.Pieces.{capture_at, word_in, key_in_capture, piece_ops, pieces_ops}
use Rattle.generated_ops_proof.specs.Room.{in_all}
use Rattle.generated_ops_proof.proofs.Rooms.{in_both}
use Rattle.generated_ops_proof.proofs.Goes.{one_if}
use Rattle.generated_ops_proof.proofs.Costs.{piece_adds, adds, piece_splices, splices}

-- ---- sums over splices

abbrev pub piece_sum : (ℕ → ℕ) → Piece → ℕ
piece_sum f (Splice j) = f j
piece_sum f _ = 0

abbrev pub spliced_sum : (ℕ → ℕ) → List Piece → ℕ
spliced_sum f [] = 0
spliced_sum f (p ∷ ps) = piece_sum f p + spliced_sum f ps

abbrev pub sum_to : (ℕ → ℕ) → ℕ → ℕ
sum_to f zero = 0
sum_to f (suc n) = sum_to f n + f n

-- 0 at one number
abbrev pub but : ℕ → (ℕ → ℕ) → ℕ → ℕ
but n f i = if i == n then 0 else f i

-- a piece that doesn't splice n
pub not_there : (n : ℕ) (f : ℕ → ℕ) (p : Piece) → piece_splices n p ≡ 0 → piece_sum f p ≡ piece_sum (but n f) p
not_there n f (Splice j) e = by (j == n) refl
  where
    by : (b : Bool) → (j == n) ≡ b → f j ≡ (if b then 0 else f j)
    by true h =
        let same : (n == j) ≡ true = grind (arith, nat_tests) in
        let no : 1 ≡ 0 = sym (ap one_if same) ∙ e in absurd (omega (arith, no))
    by false h = refl
not_there n f (Plain op) e = refl
not_there n f (Captured j) e = refl
not_there n f (GetKey j) e = refl
not_there n f (SetKey j) e = refl
not_there n f Nothing e = refl

pub none_there : (n : ℕ) (f : ℕ → ℕ) (ps : List Piece) → splices n ps ≡ 0 → spliced_sum f ps ≡ spliced_sum (but n f) ps
none_there n f [] e = refl
none_there n f (p ∷ ps) e =
    omega (arith, not_there n f p (omega (arith, e)), none_there n f ps (omega (arith, e)))

-- one that does is the capture's
one_there : (n : ℕ) (f : ℕ → ℕ) (p : Piece) → piece_sum f p ≤ f n + piece_sum (but n f) p
one_there n f (Splice j) = by (j == n) refl
  where
    by : (b : Bool) → (j == n) ≡ b → f j ≤ f n + (if b then 0 else f j)
    by true h = let same : j ≡ n = grind (arith, nat_tests) in omega (arith, ap f same)
    by false h = omega arith
one_there n f (Plain op) = omega arith
one_there n f (Captured j) = omega arith
one_there n f (GetKey j) = omega arith
one_there n f (SetKey j) = omega arith
one_there n f Nothing = omega arith

once_there : (n : ℕ) (f : ℕ → ℕ) (ps : List Piece) → splices n ps ≤ 1
    → spliced_sum f ps ≤ f n + spliced_sum (but n f) ps
once_there n f [] one = omega arith
once_there n f (p ∷ ps) one = by (piece_splices n p) refl (once_there n f ps (omega (arith, one)))
  where
    by : (c : ℕ) → piece_splices n p ≡ c → spliced_sum f ps ≤ f n + spliced_sum (but n f) ps
        → piece_sum f p + spliced_sum f ps ≤ f n + (piece_sum (but n f) p + spliced_sum (but n f) ps)
    by zero e rest = omega (arith, not_there n f p e, rest)
    by (suc c) e rest = omega (arith, one_there n f p, none_there n f ps (omega (arith, one, e)))

-- sums of numbers that agree
pub sums_agree : (f g : ℕ → ℕ) (n : ℕ) → ((i : ℕ) → i < n → f i ≡ g i) → sum_to f n ≡ sum_to g n
sums_agree f g zero e = refl
sums_agree f g (suc n) e =
    omega (arith, sums_agree f g n (λ i low. e i (omega (arith, low))), e n (omega arith))

pub but_other : (n : ℕ) (f : ℕ → ℕ) (i : ℕ) → i < n → but n f i ≡ f i
but_other n f i low = ap (λ z. if z then 0 else f i) (let apart : (i == n) ≡ false = grind (arith, nat_tests) in apart)

but_zero : (n : ℕ) (f : ℕ → ℕ) → ((i : ℕ) → suc n ≤ i → f i ≡ 0) → (i : ℕ) → n ≤ i → but n f i ≡ 0
but_zero n f none i high = by (i == n) refl
  where
    by : (b : Bool) → (i == n) ≡ b → (if b then 0 else f i) ≡ 0
    by true h = refl
    by false h = none i (let apart : n < i = grind (arith, nat_tests) in omega (arith, apart))

no_sum : (f : ℕ → ℕ) (ps : List Piece) → ((i : ℕ) → f i ≡ 0) → spliced_sum f ps ≡ 0
no_sum f [] none = refl
no_sum f (Splice j ∷ ps) none = omega (arith, none j, no_sum f ps none)
no_sum f (Plain op ∷ ps) none = omega (arith, no_sum f ps none)
no_sum f (Captured j ∷ ps) none = omega (arith, no_sum f ps none)
no_sum f (GetKey j ∷ ps) none = omega (arith, no_sum f ps none)
no_sum f (SetKey j ∷ ps) none = omega (arith, no_sum f ps none)
no_sum f (Nothing ∷ ps) none = omega (arith, no_sum f ps none)

-- where each is spliced once at most, and none from n on
pub within : (n : ℕ) (f : ℕ → ℕ) (ps : List Piece) → ((i : ℕ) → n ≤ i → f i ≡ 0) → ((i : ℕ) → splices i ps ≤ 1)
    → spliced_sum f ps ≤ sum_to f n
within zero f ps none once = omega (arith, no_sum f ps (λ i. none i (omega arith)))
within (suc n) f ps none once =
    omega (
      arith,
      once_there n f ps (once n),
      within n (but n f) ps (but_zero n f none) once,
      sums_agree (but n f) f n (but_other n f),
    )

pub sum_first : (f : ℕ → ℕ) (n : ℕ) → sum_to f (suc n) ≡ f 0 + sum_to (λ i. f (suc i)) n
sum_first f zero = omega arith
sum_first f (suc n) = omega (arith, sum_first f n)

-- ---- the ops of pieces

-- a count that no argument changes
pub record Uniform (more : BuildOp → ℕ) : Type 0 where
  pub const : (word : ℕ) → more (Const word) ≡ more (Const 0)
  pub get : (key : ℕ) → more (GetSpec key) ≡ more (GetSpec 0)
  pub set : (key : ℕ) → more (SetSpec key) ≡ more (SetSpec 0)

module _ (more : BuildOp → ℕ) (same : Uniform more) (captures : Captures) (splice : ℕ → List BuildOp) where
  piece_counts : (p : Piece)
      → in_all more (piece_ops captures splice p) ≡ piece_adds more p + piece_sum (λ i. in_all more (splice i)) p
  piece_counts (Plain op) = omega arith
  piece_counts (Captured i) = omega (arith, same.const (word_in (capture_at captures i)))
  piece_counts (GetKey i) = omega (arith, same.get (key_in_capture (capture_at captures i)))
  piece_counts (SetKey i) = omega (arith, same.set (key_in_capture (capture_at captures i)))
  piece_counts (Splice i) = omega arith
  piece_counts Nothing = omega arith

  pub pieces_count : (ps : List Piece)
      → in_all more (pieces_ops captures splice ps) ≡ adds more ps + spliced_sum (λ i. in_all more (splice i)) ps
  pieces_count [] = omega arith
  pieces_count (p ∷ ps) =
      omega (
        arith,
        in_both more (piece_ops captures splice p) (pieces_ops captures splice ps),
        piece_counts p,
        pieces_count ps,
      )
