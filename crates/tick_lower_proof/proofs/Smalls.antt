-- The sizes of the specifications of a run.
use Rattle.std.proofs.Common.{ℕ, zero, suc, ◌≤◌, List, [], ◌∷◌, ◌++◌, Some, arith}
use Rattle.std.specs.Prelude.{slice_get}
use Rattle.meaning_state.specs.Shared.{Specification}
use Rattle.meaning_state.specs.Rows.{numbered}
use Rattle.icode_meaning.specs.State.{Program}
use Rattle.icode_meaning.specs.Steps.{size_in}

-- each specification has at most so many nodes
abbrev pub AreSmall : Program → (most : ℕ) → List Specification → Type 0
AreSmall P most rows = (number : ℕ) → size_in P (numbered number rows) ≤ most

module _ (P : Program) (most : ℕ) where
  no_size : (n : ℕ) → size_in P (slice_get [] n) ≤ most
  no_size zero = omega arith
  no_size (suc n) = omega arith

  small_at : (rows : List Specification) (row : Specification) → ((n : ℕ) → size_in P (slice_get rows n) ≤ most) →
      size_in P (Some row) ≤ most → (n : ℕ) → size_in P (slice_get (rows ++ row ∷ []) n) ≤ most
  small_at [] row h is zero = is
  small_at [] row h is (suc n) = no_size n
  small_at (r ∷ rows) row h is zero = h zero
  small_at (r ∷ rows) row h is (suc n) = small_at rows row (λ m. h (suc m)) is n

  pub none_small : AreSmall P most []
  none_small zero = omega arith
  none_small (suc n) = no_size n

  -- and one more
  pub one_small : (rows : List Specification) (row : Specification) → AreSmall P most rows →
      size_in P (Some row) ≤ most → AreSmall P most (rows ++ row ∷ [])
  one_small rows row h is zero = omega arith
  one_small rows row h is (suc n) = small_at rows row (λ m. h (suc m)) is n
