-- What the positions say of the members, and what one more member makes of them.
use Rattle.std.proofs.Common.{ℕ, zero, suc, ◌+◌, ◌≡◌, ◌≢◌, ◌<◌, ◌≤◌, ◌++◌, ◌⊎◌, inl, inr, Bool, true, false, eqb, List}
use Rattle.std.proofs.Common.{[], ◌∷◌, length, take, get_or, set, refl, sym, ◌∙◌, ap, subst, arith, get_or-set_other}
use Rattle.std.proofs.Common.{get_or-set_same, length-append, nat_eq, nat_lt, ◌||◌}
use Rattle.std.proofs.Math.ListN.{length-set}
use Rattle.std.proofs.lemmas.Bool.Decides.{nat_tests}
use Rattle.std.proofs.lemmas.Bool.{cases_lt}
use Rattle.std.proofs.lemmas.List.{get_or-take, length-take}
use Rattle.std.proofs.lemmas.Map.Steps.{length-le_from_distinct_below}
use Rattle.std.proofs.lemmas.Map.Keys.{IsDistinct-push}
use Rattle.std.proofs.lemmas.Cmp.{nat_eq_equiv}
use Rattle.std.proofs.lemmas.List.Folds.{list_any-append}
use Rattle.std.specs.List.{list_any, IsDistinct, AllByRecursion}
use Rattle.collections.specs.Members.{is_in}
use Rattle.collections.specs.Positions.{IsSparse}

pub is_in-at : (x : ℕ) (xs : List ℕ) (i : ℕ) → i < length xs → get_or xs i 0 ≡ x → is_in x xs ≡ true
is_in-at x [] i h e = absurd (omega arith)
is_in-at x (y ∷ ys) zero h e = grind (arith, nat_tests)
is_in-at x (y ∷ ys) (suc i) h e = grind (arith, nat_tests, is_in-at x ys i (omega arith) e)

pub place-of : (x : ℕ) (xs : List ℕ) → is_in x xs ≡ true → (i : ℕ) × (i < length xs)
    × (get_or xs i 0 ≡ x)
place-of x [] h = absurd (cc)
place-of x (y ∷ ys) h = by-case (eqb x y) refl (place-of x ys)
  where
    by-case : (b : Bool) → eqb x y ≡ b
        → (is_in x ys ≡ true → (i : ℕ) × (i < length ys) × (get_or ys i 0 ≡ x))
        → (i : ℕ) × (i < length (y ∷ ys)) × (get_or (y ∷ ys) i 0 ≡ x)
    by-case true e later = (0, omega arith, grind (arith, nat_tests))
    by-case false e later =
        let r = later (grind (arith, nat_tests)) in
        (suc r.0, omega (arith, r.1), r.2)

-- numbers that are told apart by what g has for them are distinct
apart : (g : List ℕ) (k : ℕ) (xs : List ℕ)
    → ((i : ℕ) → i < length xs → get_or g (get_or xs i 0) 0 ≡ k + i) → IsDistinct eqb xs
unfolding IsDistinct
apart g k [] h = tt
apart g k (x ∷ xs) h = (
  others xs (k + 1) (λ i l. h (suc i) (omega arith) ∙ omega arith) (omega arith),
  apart g (k + 1) xs (λ i l. h (suc i) (omega arith) ∙ omega arith),
)
  where
    here : get_or g x 0 ≡ k
    here = h 0 (omega arith) ∙ omega arith

    others : (ys : List ℕ) (n : ℕ) → ((i : ℕ) → i < length ys → get_or g (get_or ys i 0) 0 ≡ n + i)
        → k < n → AllByRecursion (λ y. eqb x y ≡ false) ys
    others [] n f l = tt
    others (y ∷ ys) n f l =
        let gy : get_or g y 0 ≡ n = f 0 (omega arith) ∙ omega arith in
        let ne : x ≢ y = λ e. omega (arith, here, gy, ap (λ z. get_or g z 0) e) in (
          grind (arith, nat_tests),
          others ys (n + 1) (λ i h. f (suc i) (omega arith) ∙ omega arith) (omega arith),
        )

module _ (count : ℕ) (members positions : List ℕ) (s : IsSparse count members positions) (x : ℕ)
  where
    -- a member's position leads back to it
    back : is_in x (take count members) ≡ true
        → (get_or positions x 0 < count) × (get_or members (get_or positions x 0) 0 ≡ x)
    back h =
        let r = place-of x (take count members) h in
        let i : r.0 < count = omega (arith, simp length-take at r.1) in
        let m : get_or members r.0 0 ≡ x = sym (get_or-take count members r.0 0 i) ∙ r.2 in
        let p : get_or positions x 0 ≡ r.0 =
        ap (λ z. get_or positions z 0) (sym m) ∙ s.back r.0 i in
        (omega (arith, p, i), ap (λ z. get_or members z 0) p ∙ m)

    pub is_in-back : (at m : ℕ) → at ≡ get_or positions x 0 → at < count → m ≡ get_or members at 0
        → nat_eq m x ≡ is_in x (take count members)
    is_in-back at m e l d = by-case (is_in x (take count members)) refl
      where
        by-case : (b : Bool) → is_in x (take count members) ≡ b → nat_eq m x ≡ b
        by-case true h =
            let r = back h in
            let same : m ≡ x = d ∙ (ap (λ z. get_or members z 0) e ∙ r.1) in
            grind (arith, nat_tests)
        by-case false h = grind (arith, nat_tests, other)
          where
            other : m ≢ x
            other q =
                let w : at < length (take count members) = simp length-take (omega (arith, s.within))
                in
                let i = is_in-at x (take count members) at w
                (get_or-take count members at 0 l ∙ (sym d ∙ q)) in
                cc

    pub not_in-back : (at : ℕ) → at ≡ get_or positions x 0 → count ≤ at
        → nat_lt at count ≡ is_in x (take count members)
    not_in-back at e l = by-case (is_in x (take count members)) refl
      where
        by-case : (b : Bool) → is_in x (take count members) ≡ b → nat_lt at count ≡ b
        by-case true h = absurd (omega (arith, (back h).0, e))
        by-case false h = grind (arith, nat_tests)

    module _ (below : x < length positions) (new : is_in x (take count members) ≡ false) where
      -- there is room for one more
      pub room-left : count < length members
      room-left =
          let old : IsDistinct eqb (take count members) = apart positions 0 (take count members) at in
          let d = IsDistinct-push nat_eq_equiv (take count members) x old new in
          let l = length-le_from_distinct_below (take count members ++ x ∷ []) (length positions) d
          within in
          omega (arith, simp (length-append, length-take) at l, s.within, s.room)
        where
          at : (i : ℕ) → i < length (take count members)
              → get_or positions (get_or (take count members) i 0) 0 ≡ 0 + i
          at i h =
              let l : i < count = omega (arith, simp length-take at h) in
              ap (λ z. get_or positions z 0) (get_or-take count members i 0 l) ∙
              (s.back i l ∙ omega arith)

          within : (q : ℕ) → list_any (eqb q) (take count members ++ x ∷ []) ≡ true
              → q < length positions
          within q h =
              by-case (is_in q (take count members)) refl
              (sym (list_any-append (eqb q) (take count members) (x ∷ [])) ∙ h)
            where
              by-case : (b : Bool) → is_in q (take count members) ≡ b
                  → (is_in q (take count members) || (eqb q x || false)) ≡ true → q < length positions
              by-case true e g =
                  let r = place-of q (take count members) e in
                  let i : r.0 < count = omega (arith, simp length-take at r.1) in
                  let m : get_or members r.0 0 ≡ q = sym (get_or-take count members r.0 0 i) ∙ r.2 in
                  omega (arith, m, s.below r.0 i)
              by-case false e g =
                  let same : q ≡ x = grind (arith, nat_tests) in
                  omega arith

      pub one-more : IsSparse (count + 1) (set members count x) (set positions x count)
      one-more =
          let r = room-left in
          record {
            room = simp length-set s.room;
            low = simp length-set s.low;
            within = simp length-set (omega (arith, r));
            below = λ i h. (by-case i h (cases_lt i count)).0;
            back = λ i h. (by-case i h (cases_lt i count)).1;
          }
        where
          by-case : (i : ℕ) → i < count + 1 → (i < count) ⊎ (count ≤ i)
              → (get_or (set members count x) i 0 < length (set positions x count))
              × (get_or (set positions x count) (get_or (set members count x) i 0) 0 ≡ i)
          by-case i h (inl l) =
              let o : i ≢ count = λ e. omega arith in
              let m = get_or-set_other members count i x 0 o in
              let there = is_in-at (get_or members i 0) (take count members) i
              (simp length-take (omega (arith, s.within))) (get_or-take count members i 0 l) in
              let ne : get_or members i 0 ≢ x =
              λ e. absurd (cc (there, new, ap (λ z. is_in z (take count members)) e)) in (
                subst (λ z. z < length (set positions x count)) (sym m)
                    (simp length-set (s.below i l)),
                subst (λ z. get_or (set positions x count) z 0 ≡ i) (sym m)
                    (get_or-set_other positions x (get_or members i 0) count 0 ne ∙ s.back i l),
              )
          by-case i h (inr l) =
              let same : i ≡ count = omega arith in
              let r : count < length members = room-left in
              let m : get_or (set members count x) i 0 ≡ x =
              ap (λ z. get_or (set members count x) z 0) same ∙ get_or-set_same members count x 0
              r in (
                subst (λ z. z < length (set positions x count)) (sym m) (simp length-set below),
                subst (λ z. get_or (set positions x count) z 0 ≡ i) (sym m)
                    (get_or-set_same positions x count 0 below ∙ sym same),
              )
