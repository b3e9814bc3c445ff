-- Which places are saved.
use Rattle.std.proofs.Common.{ℕ, suc, ◌≡◌, ◌<◌, ◌≤◌, Bool, true, false, cond, ◌||◌, nat_eq, List, [], ◌∷◌, refl}
use Rattle.std.proofs.Common.{ap, sym, ◌∙◌, arith}
use Rattle.std.specs.List.{filter}
use Rattle.std.proofs.lemmas.Bool.Decides.{nat_tests}
use Rattle.icode_saves.specs.Places.{has, register_places, saved}
use Rattle.icode_saves.proofs.Marked.{all_places}
use Rattle.icode_saves.specs.Laws.{AllPlaces, Rising, AreSaved}

one_low : (f : ℕ → Bool) (x : ℕ) (xs : List ℕ) (b : Bool) → x < 12 → AllPlaces (filter f xs) →
    AllPlaces (cond b (x ∷ filter f xs) (filter f xs))
one_low f x xs true l h = (l, h)
one_low f x xs false l h = h

kept_low : (f : ℕ → Bool) (xs : List ℕ) → AllPlaces xs → AllPlaces (filter f xs)
kept_low f [] h = tt
kept_low f (x ∷ xs) h = one_low f x xs (f x) h.0 (kept_low f xs h.1)

lower : (n m : ℕ) (xs : List ℕ) → n ≤ m → Rising m xs → Rising n xs
lower n m [] h r = tt
lower n m (x ∷ xs) h r = (omega (arith, h, r.0), r.1)

one_rising : (f : ℕ → Bool) (n x : ℕ) (xs : List ℕ) (b : Bool) → n ≤ x → Rising (suc x) (filter f xs) →
    Rising n (cond b (x ∷ filter f xs) (filter f xs))
one_rising f n x xs true l h = (l, h)
one_rising f n x xs false l h = lower n (suc x) (filter f xs) (omega (arith, l)) h

kept_rising : (f : ℕ → Bool) (n : ℕ) (xs : List ℕ) → Rising n xs → Rising n (filter f xs)
kept_rising f n [] h = tt
kept_rising f n (x ∷ xs) h = one_rising f n x xs (f x) h.0 (kept_rising f (suc x) xs h.1)

one_covers : (f : ℕ → Bool) (p x : ℕ) (xs : List ℕ) (b e : Bool) → f x ≡ b → nat_eq x p ≡ e → f p ≡ true →
    e || has xs p ≡ true
    → (has xs p ≡ true → has (filter f xs) p ≡ true) → has (cond b (x ∷ filter f xs) (filter f xs)) p ≡ true
one_covers f p x xs true true d s t h k = rw s refl
one_covers f p x xs true false d s t h k = rw s (k h)
one_covers f p x xs false true d s t h k =
    let same : x ≡ p = grind (arith, nat_tests, s) in
    let z : true ≡ false = sym t ∙ (ap f (sym same) ∙ d) in
    absurd cc
one_covers f p x xs false false d s t h k = k h

-- what passes the test and stands in the list is kept
kept_covers : (f : ℕ → Bool) (p : ℕ) (xs : List ℕ) → f p ≡ true → has xs p ≡ true → has (filter f xs) p ≡ true
kept_covers f p [] t h = h
kept_covers f p (x ∷ xs) t h = one_covers f p x xs (f x) (nat_eq x p) refl refl t h (kept_covers f p xs t)

pub saved_are : (ps : List ℕ) → AreSaved ps (saved ps)
unfolding saved
saved_are ps = record {
  low = kept_low (has ps) register_places (
    omega arith,
    (
      omega arith,
      (
        omega arith,
        (
          omega arith,
          (
            omega arith,
            (
              omega arith,
              (omega arith, (omega arith, (omega arith, (omega arith, (omega arith, (omega arith, tt)))))),
            ),
          ),
        ),
      ),
    ),
  );
  rising = kept_rising (has ps) 0 register_places (
    omega arith,
    (
      omega arith,
      (
        omega arith,
        (
          omega arith,
          (
            omega arith,
            (
              omega arith,
              (omega arith, (omega arith, (omega arith, (omega arith, (omega arith, (omega arith, tt)))))),
            ),
          ),
        ),
      ),
    ),
  );
  covers = λ (p : ℕ) (l : p < 12) (h : has ps p ≡ true). kept_covers (has ps) p register_places h (all_places p l);
}
