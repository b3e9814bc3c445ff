-- Lists of pairs of a number and an end.
use Rattle.std.proofs.Common.{ℕ, zero, suc, ◌+◌, ◌-◌, ◌≡◌, ◌≢◌, ◌<◌, ◌≤◌, ◌||◌, true, false, eqb, ltb, List, [], ◌∷◌}
use Rattle.std.proofs.Common.{length, Some, None, refl, sym, ap, subst, arith}
use Rattle.std.proofs.lemmas.Bool.Decides.{nat_tests}
use Rattle.std.specs.List.{list_any}
use Rattle.linked_row.specs.Sorted.{has, without, first_of}
use Rattle.linear_scan_spec.specs.Scan.{least_free}
use Rattle.linear_scan_spec.specs.Lists.{Each}
use Rattle.linear_scan.specs.Held.{ids, from_end, ApartIds}

pub without-other : (id : ℕ) (ps : List (ℕ × ℕ)) → Each (λ q. id ≢ q.0) ps → without id ps ≡ ps
without-other id [] h = refl
without-other id (p ∷ ps) h =
    let e : eqb id p.0 ≡ false = grind (arith, nat_tests, h.0) in rw e
    (ap (λ zs. p ∷ zs) (without-other id ps h.1))

pub without-first : (p : ℕ × ℕ) (ps : List (ℕ × ℕ)) → Each (λ q. p.0 ≢ q.0) ps
    → without p.0 (p ∷ ps) ≡ ps
without-first p ps h =
    let e : eqb p.0 p.0 ≡ true = grind (arith, nat_tests) in rw e (without-other p.0 ps h)

-- the first pair is taken out
pub record FirstOut (start : ℕ) (old new : List (ℕ × ℕ)) : Type 0 where
  pub same : from_end start new ≡ from_end start old
  pub apart : ApartIds new
  pub fewer : length new < length old

pub first-out : (start : ℕ) (items : List (ℕ × ℕ)) (p : ℕ × ℕ) → first_of items ≡ Some p
    → ApartIds items → p.1 < start → FirstOut start items (without p.0 items)
first-out start [] p e a h = absurd (cc)
first-out start (q ∷ qs) p e a h =
    let qp : q ≡ p = cc in
    let out : without p.0 (q ∷ qs) ≡ qs = subst (λ (z : ℕ × ℕ). without z.0 (q ∷ qs) ≡ qs) qp
    (without-first q qs a.0) in
    let less : q.1 < start = subst (λ (z : ℕ × ℕ). z.1 < start) (sym qp) h in
    let t : ltb q.1 start ≡ true = grind (arith, nat_tests) in
    record {
      same = rw (out, t) refl;
      apart = subst ApartIds (sym out) a.1;
      fewer = subst
          (λ (zs : List (ℕ × ℕ)). length zs < length (q ∷ qs)) (sym out) (omega arith);
    }

-- nothing more is to be taken out
pub first-stays : (start : ℕ) (items : List (ℕ × ℕ)) (p : ℕ × ℕ) → first_of items ≡ Some p
    → start ≤ p.1 → from_end start items ≡ items
first-stays start [] p e h = absurd (cc)
first-stays start (q ∷ qs) p e h =
    let qp : q ≡ p = cc in
    let less : start ≤ q.1 = subst (λ (z : ℕ × ℕ). start ≤ z.1) (sym qp) h in
    let t : ltb q.1 start ≡ false = grind (arith, nat_tests) in
    rw t refl

pub none-left : (start : ℕ) (items : List (ℕ × ℕ)) → first_of items ≡ None → from_end start items
    ≡ items
none-left start [] e = refl
none-left start (q ∷ qs) e = absurd (cc)

pub has-ids : (n : ℕ) (items : List (ℕ × ℕ)) → has n items ≡ list_any (λ t. eqb n t) (ids items)
has-ids n [] = refl
has-ids n (p ∷ ps) = ap (λ b. eqb n p.0 || b) (has-ids n ps)

-- the search for a free number
pub free-here : (fuel n : ℕ) (taken : List ℕ) → list_any (λ t. eqb n t) taken ≡ false
    → least_free fuel n taken ≡ n
unfolding least_free
free-here zero n taken h = refl
free-here (suc fuel) n taken h = rw h refl

pub free-later : (fuel n : ℕ) (taken : List ℕ) → list_any (λ t. eqb n t) taken ≡ true
    → least_free (suc fuel) n taken ≡ least_free fuel (suc n) taken
unfolding least_free
free-later fuel n taken h = rw h refl

pub free-end : (n : ℕ) (taken : List ℕ) → least_free 0 n taken ≡ n
unfolding least_free
free-end n taken = refl

pub free-more : (n : ℕ) (taken : List ℕ) → n < 12 → list_any (λ t. eqb n t) taken ≡ true
    → least_free (12 - n) n taken ≡ least_free (12 - (n + 1)) (n + 1) taken
free-more n taken h t =
    let a : 12 - n ≡ suc (12 - (n + 1)) = omega arith in
    let b : n + 1 ≡ suc n = omega arith in
    rw (a, b) (subst (λ k. least_free (suc (12 - k)) n taken ≡ least_free (12 - k) (suc n) taken) b
    (free-later (12 - (n + 1)) n taken t))
