-- What is so of ranges in units is so in words.
use Rattle.std.proofs.Common.{◌≡◌, inl, inr, ℕ, ◌+◌, ◌*◌, Bool, true, false, List, [], ◌∷◌}
use Rattle.std.proofs.Common.{arith, refl, nat_le, nat_lt, nat_eq, if◌then◌else◌, sym, ap, ◌∙◌, Some, None}
use Rattle.std.proofs.lemmas.Bool.{leb-true, leb-false, le-leb, ltb-true, lt-ltb, eqb-true, eq-eqb, cases_Bool}
use Rattle.std.proofs.lemmas.Bool.{false_from_ne_true}
use Rattle.free_ranges.specs.Ranges.{first_fit, with_range, without_range, range_at}
use Rattle.free_ranges.specs.Units.{in_words, words_of_unit, UnitsAreWords}

le_units : (a b c : ℕ) → nat_le (64 * a + 64 * b) (64 * c) ≡ nat_le (a + b) c
le_units a b c = elim (cases_Bool (nat_le (a + b) c)) [
  | inl t ↦ (let l = leb-true (a + b) c t in le-leb (64 * a + 64 * b) (64 * c) (omega (arith, l))) ∙ sym t
  | inr f ↦ false_from_ne_true (nat_le (64 * a + 64 * b) (64 * c)) (λ t. (
      let l = leb-true (64 * a + 64 * b) (64 * c) t in let m = leb-false (a + b) c f in omega (arith, l, m))) ∙ sym f
]

lt_units : (a b : ℕ) → nat_lt (64 * a) (64 * b) ≡ nat_lt a b
lt_units a b = elim (cases_Bool (nat_lt a b)) [
  | inl t ↦ (let l = ltb-true a b t in lt-ltb (64 * a) (64 * b) (omega (arith, l))) ∙ sym t
  | inr f ↦ false_from_ne_true (nat_lt (64 * a) (64 * b)) (λ t. (let l = ltb-true (64 * a) (64 * b) t in
      let z : true ≡ false = sym (lt-ltb a b (omega (arith, l))) ∙ f in absurd cc)) ∙ sym f
]

eq_units : (a b : ℕ) → nat_eq (64 * a) (64 * b) ≡ nat_eq a b
eq_units a b = elim (cases_Bool (nat_eq a b)) [
  | inl t ↦ (let l = eqb-true a b t in eq-eqb (64 * a) (64 * b) (omega (arith, l))) ∙ sym t
  | inr f ↦ false_from_ne_true (nat_eq (64 * a) (64 * b)) (λ t. (let l = eqb-true (64 * a) (64 * b) t in
      let z : true ≡ false = sym (eq-eqb a b (omega (arith, l))) ∙ f in absurd cc)) ∙ sym f
]

fit_units : (taken : List (ℕ × ℕ)) (count from total : ℕ)
    → first_fit (64 * count) (64 * from) (64 * total) (in_words taken) ≡ words_of_unit
    (first_fit count from total taken)
fit_units [] count from total = ap (λ b. if b then Some (64 * from) else None) (le_units from count total)
    ∙ by (nat_le (from + count) total)
  where
    by : (b : Bool) → (if b then Some (64 * from) else None) ≡ words_of_unit (if b then Some from else None)
    by true = refl
    by false = refl
fit_units (r ∷ rs) count from total =
    ap (λ b. if b then Some (64 * from) else first_fit (64 * count) (64 * r.0 + 64 * r.1) (64 * total) (in_words rs))
    (le_units from count r.0)
    ∙ by (let s : 64 * r.0 + 64 * r.1 ≡ 64 * (r.0 + r.1) = omega arith in
    ap (λ f. first_fit (64 * count) f (64 * total) (in_words rs)) s ∙ fit_units rs count (r.0 + r.1) total)
    (nat_le (from + count) r.0)
  where
    by : first_fit (64 * count) (64 * r.0 + 64 * r.1) (64 * total) (in_words rs)
        ≡ words_of_unit (first_fit count (r.0 + r.1) total rs) → (b : Bool)
        → (if b then Some (64 * from) else first_fit (64 * count) (64 * r.0 + 64 * r.1) (64 * total) (in_words rs))
        ≡ words_of_unit (if b then Some from else first_fit count (r.0 + r.1) total rs)
    by ih true = refl
    by ih false = ih

with_units : (taken : List (ℕ × ℕ)) (first count : ℕ)
    → with_range (64 * first, 64 * count) (in_words taken) ≡ in_words (with_range (first, count) taken)
with_units [] first count = refl
with_units (r ∷ rs) first count =
    ap (λ b. if b then (64 * first, 64 * count) ∷ in_words (r ∷ rs) else
    (64 * r.0, 64 * r.1) ∷ with_range (64 * first, 64 * count) (in_words rs)) (lt_units first r.0)
    ∙ by (with_units rs first count) (nat_lt first r.0)
  where
    by : with_range (64 * first, 64 * count) (in_words rs) ≡ in_words (with_range (first, count) rs) → (b : Bool)
        → (if b then (64 * first, 64 * count) ∷ in_words (r ∷ rs) else
        (64 * r.0, 64 * r.1) ∷ with_range (64 * first, 64 * count) (in_words rs))
        ≡ in_words (if b then (first, count) ∷ r ∷ rs else r ∷ with_range (first, count) rs)
    by ih true = refl
    by ih false = ap (λ l. (64 * r.0, 64 * r.1) ∷ l) ih

without_units : (taken : List (ℕ × ℕ)) (first : ℕ)
    → without_range (64 * first) (in_words taken) ≡ in_words (without_range first taken)
without_units [] first = refl
without_units (r ∷ rs) first =
    ap (λ b. if b then in_words rs else (64 * r.0, 64 * r.1) ∷ without_range (64 * first) (in_words rs))
    (eq_units r.0 first) ∙ by (without_units rs first) (nat_eq r.0 first)
  where
    by : without_range (64 * first) (in_words rs) ≡ in_words (without_range first rs) → (b : Bool)
        → (if b then in_words rs else (64 * r.0, 64 * r.1) ∷ without_range (64 * first) (in_words rs))
        ≡ in_words (if b then rs else r ∷ without_range first rs)
    by ih true = refl
    by ih false = ap (λ l. (64 * r.0, 64 * r.1) ∷ l) ih

at_units : (taken : List (ℕ × ℕ)) (first : ℕ)
    → range_at (64 * first) (in_words taken) ≡ words_of_unit (range_at first taken)
at_units [] first = refl
at_units (r ∷ rs) first =
    ap (λ b. if b then Some (64 * r.1) else range_at (64 * first) (in_words rs)) (eq_units r.0 first)
    ∙ by (at_units rs first) (nat_eq r.0 first)
  where
    by : range_at (64 * first) (in_words rs) ≡ words_of_unit (range_at first rs) → (b : Bool)
        → (if b then Some (64 * r.1) else range_at (64 * first) (in_words rs))
        ≡ words_of_unit (if b then Some r.1 else range_at first rs)
    by ih true = refl
    by ih false = ih

pub units_are_words : UnitsAreWords
units_are_words taken count from total first = (
  fit_units taken count from total,
  with_units taken first count,
  without_units taken first,
  at_units taken first,
)
