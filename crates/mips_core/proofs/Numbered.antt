-- A function table that is published row by row.
use Rattle.std.proofs.Common.{◌≡◌, ℕ, zero, suc, ◌+◌, ◌<◌, Bool, true, false, List, [], ◌∷◌, ◌++◌, length, map, take}
use Rattle.std.proofs.Common.{refl, sym, ap, ◌∙◌, arith, nat_eq, if◌then◌else◌}
use Rattle.std.specs.Prelude.{slice_index_or}
use Rattle.std.proofs.lemmas.List.{length-map, length-take-le, map-append}
use Rattle.std.proofs.lemmas.Bool.Decides.{nat_tests}
use Rattle.std.proofs.Math.Seq.{take-suc}
use Rattle.code_arena.specs.Rows.{first, published, numbered}
use Rattle.image_file.specs.declared.image.FunctionEntry.{FunctionEntry}
use Rattle.mips_model.specs.Run.{row_of}

-- no row is published
pub numbered_none : first ≡ numbered []
numbered_none = λ i n. none n i
  where
    none : (n : ℕ) → first n ≡ numbered [] n
    none zero = refl
    none (suc n) = refl

-- one more at a list's end
suc_eq : (n m : ℕ) (b : Bool) → nat_eq n m ≡ b → nat_eq (suc n) (suc m) ≡ b
suc_eq n m true is = grind (arith, nat_tests, is)
suc_eq n m false is = grind (arith, nat_tests, is)

one_more : (xs : List (ℕ × ℕ)) (v : ℕ × ℕ) (n : ℕ) (d : ℕ × ℕ) →
    (if nat_eq n (length xs) then v else slice_index_or xs n d) ≡ slice_index_or (xs ++ v ∷ []) n d
one_more [] v zero d = refl
one_more [] v (suc n) d = let e : nat_eq (suc n) 0 ≡ false = grind (arith, nat_tests) in
    ap (λ (b : Bool). if b then v else d) e
one_more (x ∷ xs) v zero d =
    let long : length (x ∷ xs) ≡ length xs + 1 = omega arith in
    let e : nat_eq 0 (length (x ∷ xs)) ≡ false = grind (arith, nat_tests, long) in
    ap (λ (b : Bool). if b then v else x) e
one_more (x ∷ xs) v (suc n) d =
    ap (λ (b : Bool). if b then v else slice_index_or xs n d) (suc_eq n (length xs) (nat_eq n (length xs)) refl)
    ∙ one_more xs v n d

pub numbered_more : (functions : List FunctionEntry) (i : ℕ) (d : FunctionEntry) → i < length functions
    → published (i + 1) (slice_index_or functions i d).address (slice_index_or functions i d).count
    (numbered (map row_of (take i functions)))
    ≡ numbered (map row_of (take (i + 1) functions))
numbered_more functions i d lt =
    let f = slice_index_or functions i d in
    let before = map row_of (take i functions) in
    let long : length before ≡ i =
    length-map (take i functions) row_of ∙ length-take-le i functions (omega (arith, lt)) in
    let next : i + 1 ≡ suc i = omega arith in
    let whole : take (i + 1) functions ≡ take i functions ++ (f ∷ []) =
    ap (λ k. take k functions) next ∙ take-suc functions i d lt in
    let rows : map row_of (take (i + 1) functions) ≡ before ++ (row_of f ∷ []) =
    ap (map row_of) whole ∙ map-append row_of (take i functions) (f ∷ []) in
    let here : length (first 0 ∷ before) ≡ i + 1 = omega (arith, long) in
    (λ j n. ap (λ k. if nat_eq n k then row_of f else slice_index_or (first 0 ∷ before) n (first n)) (sym here) j)
    ∙ (λ j n. one_more (first 0 ∷ before) (row_of f) n (first n) j)
    ∙ ap numbered (sym rows)
