-- First fit finds the least word where so many are free.
use Rattle.std.proofs.Common.{◌≡◌, inl, inr, ℕ, ◌+◌, ◌<◌, ◌≤◌, Bool, true, false, List, [], ◌∷◌, arith, refl}
use Rattle.std.proofs.Common.{nat_le, if◌then◌else◌, Option, Some, None}
use Rattle.std.proofs.lemmas.Bool.{leb-true, leb-false, cases_lt}
use Rattle.free_ranges.specs.Ranges.{IsTaken, AreRanges, IsFree, first_fit, IsLeast}
use Rattle.free_ranges.specs.Laws.{FirstFitIsLeast}

-- ranges from a word on end no earlier, and nothing before that word is taken
pub ends_behind : (from total : ℕ) (taken : List (ℕ × ℕ)) → AreRanges from total taken → from ≤ total
ends_behind from total [] a = a
ends_behind from total (r ∷ rs) a =
    let l = ends_behind (r.0 + r.1) total rs a.2 in
    let x = a.0 in omega (arith, l, x)

pub taken_behind : (from total k : ℕ) (taken : List (ℕ × ℕ)) → AreRanges from total taken → IsTaken k taken → from ≤ k
taken_behind from total k [] a t = absurd t
taken_behind from total k (r ∷ rs) a (inl t) = let x = a.0 in let y = t.0 in omega (arith, x, y)
taken_behind from total k (r ∷ rs) a (inr t) =
    let l = taken_behind (r.0 + r.1) total k rs a.2 t in
    let x = a.0 in omega (arith, l, x)

module _ (count from total : ℕ) (r : ℕ × ℕ) (rs : List (ℕ × ℕ)) (some : 0 < count) (a : AreRanges from total (r ∷ rs))
  where
    first_free : from + count ≤ r.0 → IsFree count from total (r ∷ rs)
    first_free fits = record {
      within = (let e = ends_behind (r.0 + r.1) total rs a.2 in omega (arith, fits, e));
      free = λ k l m t. elim t [
        | inl u ↦ (let u0 = u.0 in absurd (omega (arith, fits, m, u0)))
        | inr u ↦ (let b = taken_behind (r.0 + r.1) total k rs a.2 u in absurd (omega (arith, fits, m, b)))
      ];
    }

    -- what is free and isn't before the range is behind it
    is_behind : r.0 < from + count → (v : ℕ) → from ≤ v → IsFree count v total (r ∷ rs) → r.0 + r.1 ≤ v
    is_behind over v l f = elim (cases_lt v (r.0 + r.1)) [
      | inr behind ↦ behind
      | inl before ↦ elim (cases_lt v r.0) [
        | inl low ↦ (let p = a.1 in absurd (f.free r.0 (omega (arith, low)) (omega (arith, over, l))
            (inl (omega arith, omega (arith, p)))))
        | inr high ↦ absurd (f.free v (omega arith) (omega (arith, some)) (inl (high, before)))
      ]
    ]

    less : (v : ℕ) → IsFree count v total (r ∷ rs) → IsFree count v total rs
    less v f = record { within = f.within; free = λ k l m t. f.free k l m (inr t) }

    more : (v : ℕ) → r.0 + r.1 ≤ v → IsFree count v total rs → IsFree count v total (r ∷ rs)
    more v b f = record {
      within = f.within;
      free = λ k l m t. elim t [
        | inl u ↦ (let u1 = u.1 in absurd (omega (arith, b, l, u1)))
        | inr u ↦ f.free k l m u
      ];
    }

    least_on : r.0 < from + count → (o : Option ℕ) → IsLeast count (r.0 + r.1) total rs o
        → IsLeast count from total (r ∷ rs) o
    least_on over None h = λ v l f. h v (is_behind over v l f) (less v f)
    least_on over (Some w) h = (
      (let x = a.0 in let y = h.0 in omega (arith, x, y)),
      more w h.0 h.1,
      λ v l f. h.2 v (is_behind over v l f) (less v f),
    )

pub first_fit_is_least : FirstFitIsLeast
first_fit_is_least count from total [] some a = by (nat_le (from + count) total) refl
  where
    by : (b : Bool) → nat_le (from + count) total ≡ b → IsLeast count from total [] (if b then Some from else None)
    by true t = (
      omega arith,
      record { within = leb-true (from + count) total t; free = λ k l m n. absurd n },
      λ v l f. l,
    )
    by false t = λ v l f. (let w = f.within in let x = leb-false (from + count) total t in omega (arith, w, x, l))
first_fit_is_least count from total (r ∷ rs) some a =
    by (first_fit_is_least count (r.0 + r.1) total rs some a.2) (nat_le (from + count) r.0) refl
  where
    by : IsLeast count (r.0 + r.1) total rs (first_fit count (r.0 + r.1) total rs) → (b : Bool)
        → nat_le (from + count) r.0 ≡ b →
        IsLeast count from total (r ∷ rs) (if b then Some from else first_fit count (r.0 + r.1) total rs)
    by ih true t = (omega arith, first_free count from total r rs some a (leb-true (from + count) r.0 t), λ v l f. l)
    by ih false t = least_on count from total r rs some a (leb-false (from + count) r.0 t)
        (first_fit count (r.0 + r.1) total rs) ih
