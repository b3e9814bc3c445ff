-- Functions one behind another: what one more adds.
use Rattle.std.proofs.Common.{◌≡◌, ℕ, zero, suc, ◌<◌, List, [], ◌∷◌, ◌++◌, length, map, take}
use Rattle.std.proofs.Common.{refl, sym, ap, ◌∙◌, arith, append_assoc, append-nil, slice_index}
use Rattle.image_file.specs.declared.image.FunctionEntry.{FunctionEntry}
use Rattle.tick_lower_spec.specs.Lower.{Addresses}
use Rattle.static_image.specs.Layout.{Placed, words_of, behind, starts, rows_of, words_from, functions_of}
use Rattle.static_image.specs.Layout.{ends}

abbrev pub entry : (at count : ℕ) → FunctionEntry
entry at count = record { address = at; count = count }

pub functions_more : (xs : List Placed) (x : Placed) → functions_of (xs ++ x ∷ []) ≡ functions_of xs ++ x.function ∷ []
functions_more [] x = refl
functions_more (y ∷ ys) x = ap (λ fs. y.function ∷ fs) (functions_more ys x)

pub places_more : (xs : List Placed) (x : Placed) →
    map (λ (y : Placed). y.places) (xs ++ x ∷ []) ≡ map (λ (y : Placed). y.places) xs ++ x.places ∷ []
places_more [] x = refl
places_more (y ∷ ys) x = ap (λ ps. y.places ∷ ps) (places_more ys x)

pub starts_more : (at : ℕ) (xs : List Placed) (x : Placed) → starts at (xs ++ x ∷ []) ≡ starts at xs ++ ends at xs ∷ []
starts_more at [] x = refl
starts_more at (y ∷ ys) x = ap (λ (ss : List ℕ). at ∷ ss) (starts_more (behind at y) ys x)

pub ends_more : (at : ℕ) (xs : List Placed) (x : Placed) → ends at (xs ++ x ∷ []) ≡ behind (ends at xs) x
ends_more at [] x = refl
ends_more at (y ∷ ys) x = ends_more (behind at y) ys x

pub words_more : (d : Addresses) (at : ℕ) (xs : List Placed) (x : Placed) →
    words_from d at (xs ++ x ∷ []) ≡ words_from d at xs ++ words_of d (ends at xs) x
words_more d at [] x = append-nil (words_of d at x)
words_more d at (y ∷ ys) x =
    ap (λ ws. words_of d at y ++ ws) (words_more d (behind at y) ys x)
    ∙ sym (append_assoc (words_of d at y) (words_from d (behind at y) ys) (words_of d (ends (behind at y) ys) x))

pub rows_more : (at : ℕ) (xs : List Placed) (x : Placed) →
    rows_of at (xs ++ x ∷ []) ≡ rows_of at xs ++ entry (ends at xs) x.function.parameters ∷ []
rows_more at [] x = refl
rows_more at (y ∷ ys) x = ap (λ rs. entry at y.function.parameters ∷ rs) (rows_more (behind at y) ys x)

-- one of them stands where those before it end
pub start_at : (at : ℕ) (xs : List Placed) (i : ℕ) → i < length xs → slice_index (starts at xs) i ≡ ends at (take i xs)
start_at at [] i low = absurd (omega (arith, low))
start_at at (x ∷ xs) zero low = refl
start_at at (x ∷ xs) (suc i) low = start_at (behind at x) xs i (omega (arith, low))

pub length_starts : (at : ℕ) (xs : List Placed) → length (starts at xs) ≡ length xs
length_starts at [] = refl
length_starts at (x ∷ xs) = ap suc (length_starts (behind at x) xs)

pub length_rows : (at : ℕ) (xs : List Placed) → length (rows_of at xs) ≡ length xs
length_rows at [] = refl
length_rows at (x ∷ xs) = ap suc (length_rows (behind at x) xs)

pub length_functions : (xs : List Placed) → length (functions_of xs) ≡ length xs
length_functions [] = refl
length_functions (x ∷ xs) = ap suc (length_functions xs)
