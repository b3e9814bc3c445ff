-- The rows of the image's functions are published as a run begins, and no others; each has the address of its function,
-- and how many parameters it has.
use Rattle.std.proofs.Common.{◌≡◌, ℕ, zero, suc, ◌-◌, ◌<◌, ◌≤◌, List, [], ◌∷◌, length, map, None, Some, refl}
use Rattle.std.proofs.Common.{sym}
use Rattle.std.proofs.Common.{ap, ◌∙◌, arith, slice_get, slice_index, slice_index_or}
use Rattle.limits.specs.declared.program.TheConstants.{MOST_FUNCTIONS}
use Rattle.word32.specs.declared.map.TheConstants.{ARENA, FUNCTION_ROWS, UNPUBLISHED}
use Rattle.code_arena.specs.Rows as table
use Rattle.meaning_state.specs.Rows.{numbered}
use Rattle.icode_meaning.specs.State.{Program}
use Rattle.icode_expand_proof.specs.Settings.{Published}
use Rattle.mips_model.specs.Run.{row_of}
use Rattle.tick_lower_proof.specs.Laws.{row_for}
use Rattle.static_image.specs.Layout.{Placed, behind, starts, rows_of, functions_of}

row_there : (at : ℕ) (xs : List Placed) (k : ℕ) →
    slice_get (map row_of (rows_of at xs)) k ≡ row_for (slice_index (starts at xs) k) (slice_get (functions_of xs) k)
row_there at [] k = refl
row_there at (x ∷ xs) zero = refl
row_there at (x ∷ xs) (suc k) = row_there (behind at x) xs k

-- the row of a number
pub row_is : (at : ℕ) (xs : List Placed) (number : ℕ) →
    numbered number (map row_of (rows_of at xs)) ≡
    row_for (slice_index (starts at xs) (number - 1)) (numbered number (functions_of xs))
row_is at xs zero = refl
row_is at xs (suc k) =
    let same : k ≡ suc k - 1 = omega arith in
    row_there at xs k
    ∙ ap (λ (n : ℕ). row_for (slice_index (starts at xs) n) (slice_get (functions_of xs) k)) same

there : (rs : List (ℕ × ℕ)) (m : ℕ) (r z : ℕ × ℕ) → slice_get rs m ≡ Some r →
    (m < length rs) × (slice_index_or rs m z ≡ r)
there [] m r z e = absurd cc
there (s ∷ rs) zero r z e = (omega arith, cc)
there (s ∷ rs) (suc m) r z e = let h = there rs m r z e in (omega (arith, h.0), h.1)

not_there : (rs : List (ℕ × ℕ)) (m : ℕ) (z : ℕ × ℕ) → slice_get rs m ≡ None → slice_index_or rs m z ≡ z
not_there [] m z e = refl
not_there (s ∷ rs) zero z e = absurd cc
not_there (s ∷ rs) (suc m) z e = not_there rs m z e

module _ (rs : List (ℕ × ℕ)) (few : length rs ≤ MOST_FUNCTIONS) (program : Program)
    (same : (n : ℕ) → program.row n ≡ numbered n rs) where
  published_row : (n a k : ℕ) → numbered n rs ≡ Some (a, k) → (n < FUNCTION_ROWS) × (table.numbered rs n ≡ (a, k))
  published_row zero a k e = absurd cc
  published_row (suc m) a k e = let h = there rs m (a, k) (table.first (suc m)) e in (omega (arith, h.0, few), h.1)

  other_row : (n : ℕ) → n < FUNCTION_ROWS → numbered n rs ≡ None
      → ((table.numbered rs n).0 < ARENA) × ((table.numbered rs n).1 ≡ UNPUBLISHED)
  other_row zero low e = (omega arith, refl)
  other_row (suc m) low e =
      let same = not_there rs m (table.first (suc m)) e in
      let none = ap (λ (r : ℕ × ℕ). r.0) same in
      (omega (arith, none), ap (λ (r : ℕ × ℕ). r.1) same)

  pub published : Published program (table.numbered rs)
  published = record {
    rows = λ n a k e. published_row n a k (sym (same n) ∙ e);
    others = λ n low e. other_row n low (sym (same n) ∙ e);
  }
