-- What the functions of a specification's ticks take, by its size: an instruction for each node at least, and 105 at
-- most. Both need that each captured specification is spliced in at one place.
use Rattle.std.proofs.Common.{◌≡◌, ◌⊎◌, inl, inr, ⊎_elim, ℕ, zero, suc, ◌+◌, ◌*◌, ◌<◌, ◌≤◌, Bool, true, false, List, []}
use Rattle.std.proofs.Common.{◌∷◌, refl}
use Rattle.std.proofs.Common.{slice_get, ap, ◌∙◌, arith}
use Rattle.std.specs.Prelude.{if◌then◌else◌, ◌==◌}
use Rattle.std.proofs.lemmas.Bool.Decides.{nat_tests}
use Rattle.history.specs.Syntax.{Syntax, Ticked, Captures, NoCapture, Word, Named, Spliced}
use Rattle.staged_meaning.specs.Program.{Program, tick_size, syntax_size, captures_size}
use Rattle.tick_lower_spec.specs.declared.piece.Piece.{Piece}
use Rattle.tick_lower_spec.specs.declared.piece.Piece.TheVariants.{Plain, Captured, GetKey, SetKey, Splice, Nothing}
use Rattle.routine_spec.specs.Generator.{piece_cost, pieces_cost, syntax_cost, spliced_cost}
use Rattle.routine_spec.proofs.Dear.{own_cost, none_spliced}
use Rattle.generated_ops_proof.proofs.Costs.{piece_splices, splices}
use Rattle.generated_ops_proof.proofs.Goes.{one_if}
use Rattle.generated_ops_proof.proofs.Sums.{piece_sum, spliced_sum, sum_to, sum_first, within, but, but_other}
use Rattle.generated_ops_proof.proofs.Sums.{sums_agree}

-- a piece's own, and what it splices in
piece_parts : (f : ℕ → ℕ) (p : Piece) → piece_cost f p ≡ piece_cost none_spliced p + piece_sum f p
piece_parts f (Plain op) = refl
piece_parts f (Captured i) = refl
piece_parts f (GetKey i) = refl
piece_parts f (SetKey i) = refl
piece_parts f (Splice i) = omega arith
piece_parts f Nothing = refl

cost_parts : (f : ℕ → ℕ) (ps : List Piece) → pieces_cost f ps ≡ own_cost ps + spliced_sum f ps
cost_parts f [] = refl
cost_parts f (p ∷ ps) = omega (arith, piece_parts f p, cost_parts f ps)

-- one that splices n takes what is spliced there
one_takes : (n : ℕ) (f : ℕ → ℕ) (p : Piece) → 1 ≤ piece_splices n p → f n + piece_sum (but n f) p ≤ piece_sum f p
one_takes n f (Splice j) some = by (n == j) (j == n) refl refl some
  where
    by : (a b : Bool) → (n == j) ≡ a → (j == n) ≡ b → 1 ≤ piece_splices n (Splice j) →
        f n + (if b then 0 else f j) ≤ f j
    by true true h k le = let same : j ≡ n = grind (arith, nat_tests) in omega (arith, ap f same)
    by true false h k le = absurd (grind (arith, nat_tests))
    by false b h k le =
        let none : one_if (n == j) ≡ 0 = ap one_if h in absurd (omega (arith, le, none))
one_takes n f (Plain op) some = absurd (omega (arith, some))
one_takes n f (Captured j) some = absurd (omega (arith, some))
one_takes n f (GetKey j) some = absurd (omega (arith, some))
one_takes n f (SetKey j) some = absurd (omega (arith, some))
one_takes n f Nothing some = absurd (omega (arith, some))

-- no piece takes more without n
less_takes : (n : ℕ) (f : ℕ → ℕ) (p : Piece) → piece_sum (but n f) p ≤ piece_sum f p
less_takes n f (Splice j) = by (j == n)
  where
    by : (b : Bool) → (if b then 0 else f j) ≤ f j
    by true = omega arith
    by false = omega arith
less_takes n f (Plain op) = omega arith
less_takes n f (Captured j) = omega arith
less_takes n f (GetKey j) = omega arith
less_takes n f (SetKey j) = omega arith
less_takes n f Nothing = omega arith

less_all : (n : ℕ) (f : ℕ → ℕ) (ps : List Piece) → spliced_sum (but n f) ps ≤ spliced_sum f ps
less_all n f [] = omega arith
less_all n f (p ∷ ps) = omega (arith, less_takes n f p, less_all n f ps)

some_takes : (n : ℕ) (f : ℕ → ℕ) (ps : List Piece) → 1 ≤ splices n ps →
    f n + spliced_sum (but n f) ps ≤ spliced_sum f ps
some_takes n f [] some = absurd (omega (arith, some))
some_takes n f (p ∷ ps) some = by (piece_splices n p) refl (some_takes n f ps)
  where
    by : (c : ℕ) → piece_splices n p ≡ c →
        (1 ≤ splices n ps → f n + spliced_sum (but n f) ps ≤ spliced_sum f ps) →
        f n + (piece_sum (but n f) p + spliced_sum (but n f) ps) ≤ piece_sum f p + spliced_sum f ps
    by zero e rest =
        let more = rest (omega (arith, some, e)) in omega (arith, more, less_takes n f p)
    by (suc c) e rest =
        let here = one_takes n f p (omega (arith, e)) in omega (arith, here, less_all n f ps)

-- where each that takes something is spliced in somewhere
at_least : (n : ℕ) (f : ℕ → ℕ) (ps : List Piece) → ((i : ℕ) → i < n → (f i ≡ 0) ⊎ (1 ≤ splices i ps)) →
    sum_to f n ≤ spliced_sum f ps
at_least zero f ps some = omega arith
at_least (suc n) f ps some =
    let rest = at_least n (but n f) ps (λ i lt. ⊎_elim
    (λ e. inl (but_other n f i lt ∙ e))
    (λ h. inr h)
    (some i (omega (arith, lt)))) in
    let same = sums_agree (but n f) f n (but_other n f) in
    ⊎_elim
    (λ e. omega (arith, e, rest, same, less_all n f ps))
    (λ h. omega (arith, rest, same, some_takes n f ps h))
    (some n (omega arith))

-- ---- whole specifications
module _ (program : Program) (pieces : ℕ → List Piece) where
  abbrev many : Captures → ℕ
  many NoCapture = 0
  many (Word word captures) = suc (many captures)
  many (Named key captures) = suc (many captures)
  many (Spliced syntax captures) = suc (many captures)

  -- each tick of a specification has a node at least, and its pieces this cost
  abbrev mutual
    pub AreDear : Syntax → Type 0
    AreDear (Ticked tick captures) =
        (tick_size (slice_get program.ticks tick) ≤ own_cost (pieces tick))
        × (own_cost (pieces tick) ≤ 98 * tick_size (slice_get program.ticks tick))
        × (1 ≤ tick_size (slice_get program.ticks tick))
        × ((i : ℕ) → splices i (pieces tick) ≤ 1)
        × ((i : ℕ) → i < many captures → (spliced_cost pieces captures i ≡ 0) ⊎ (1 ≤ splices i (pieces tick)))
        × CapturesAreDear captures

    pub CapturesAreDear : Captures → Type 0
    CapturesAreDear NoCapture = Unit {0}
    CapturesAreDear (Word word captures) = CapturesAreDear captures
    CapturesAreDear (Named key captures) = CapturesAreDear captures
    CapturesAreDear (Spliced syntax captures) = AreDear syntax × CapturesAreDear captures

  beyond : (captures : Captures) (i : ℕ) → many captures ≤ i → spliced_cost pieces captures i ≡ 0
  beyond NoCapture i high = refl
  beyond (Word word captures) zero high = absurd (omega (arith, high))
  beyond (Named key captures) zero high = absurd (omega (arith, high))
  beyond (Spliced syntax captures) zero high = absurd (omega (arith, high))
  beyond (Word word captures) (suc i) high = beyond captures i (omega (arith, high))
  beyond (Named key captures) (suc i) high = beyond captures i (omega (arith, high))
  beyond (Spliced syntax captures) (suc i) high = beyond captures i (omega (arith, high))

  abbrev sums : Captures → ℕ
  sums captures = sum_to (spliced_cost pieces captures) (many captures)

  mutual
    pub costs_high : (syntax : Syntax) → AreDear syntax →
        syntax_cost pieces syntax ≤ 105 * syntax_size program syntax
    costs_high (Ticked tick captures) h =
        let f = spliced_cost pieces captures in
        let ps = pieces tick in
        let over = within (many captures) f ps (beyond captures) h.3 in
        let rest = captures_high captures h.5 in
        omega (arith, cost_parts f ps, over, rest, h.1, h.2)

    captures_high : (captures : Captures) → CapturesAreDear captures →
        sums captures ≤ 105 * captures_size program captures
    captures_high NoCapture h = omega arith
    captures_high (Word word captures) h =
        omega (arith, sum_first (spliced_cost pieces (Word word captures)) (many captures), captures_high captures h)
    captures_high (Named key captures) h =
        omega (arith, sum_first (spliced_cost pieces (Named key captures)) (many captures), captures_high captures h)
    captures_high (Spliced syntax captures) h =
        omega (
          arith,
          sum_first (spliced_cost pieces (Spliced syntax captures)) (many captures),
          costs_high syntax h.0,
          captures_high captures h.1,
        )

  mutual
    pub costs_low : (syntax : Syntax) → AreDear syntax → syntax_size program syntax ≤ syntax_cost pieces syntax
    costs_low (Ticked tick captures) h =
        let f = spliced_cost pieces captures in
        let ps = pieces tick in
        let under = at_least (many captures) f ps h.4 in
        let rest = captures_low captures h.5 in
        omega (arith, cost_parts f ps, under, rest, h.0)

    captures_low : (captures : Captures) → CapturesAreDear captures → captures_size program captures ≤ sums captures
    captures_low NoCapture h = omega arith
    captures_low (Word word captures) h =
        omega (arith, sum_first (spliced_cost pieces (Word word captures)) (many captures), captures_low captures h)
    captures_low (Named key captures) h =
        omega (arith, sum_first (spliced_cost pieces (Named key captures)) (many captures), captures_low captures h)
    captures_low (Spliced syntax captures) h =
        omega (
          arith,
          sum_first (spliced_cost pieces (Spliced syntax captures)) (many captures),
          costs_low syntax h.0,
          captures_low captures h.1,
        )
