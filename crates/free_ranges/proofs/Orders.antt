-- The order in which ranges are put in makes no difference, and one that is taken out again is as if it had never been
-- in.
use Rattle.std.proofs.Common.{◌≡◌, ◌≢◌, ℕ, Bool, true, false, List, [], ◌∷◌}
use Rattle.std.proofs.Common.{arith, refl, nat_lt, nat_eq, if◌then◌else◌, sym, ap, ◌∙◌, Some, None}
use Rattle.std.proofs.lemmas.Bool.{ltb-true, ltb-false, eq-eqb}
use Rattle.free_ranges.specs.Ranges.{with_range, without_range, range_at}

-- put in, by the answer of the test
abbrev put : Bool → ℕ × ℕ → ℕ × ℕ → List (ℕ × ℕ) → List (ℕ × ℕ)
put b p r rs = if b then p ∷ r ∷ rs else r ∷ with_range p rs

module _ (p q : ℕ × ℕ) (apart : p.0 ≢ q.0) where
  two : (x y : Bool) → nat_lt p.0 q.0 ≡ x → nat_lt q.0 p.0 ≡ y
      → (if x then p ∷ q ∷ [] else q ∷ p ∷ []) ≡ (if y then q ∷ p ∷ [] else p ∷ q ∷ [])
  two true true s t = (let a = ltb-true p.0 q.0 s in let b = ltb-true q.0 p.0 t in absurd (omega (arith, a, b)))
  two true false s t = refl
  two false true s t = refl
  two false false s t = (let a = ltb-false p.0 q.0 s in let b = ltb-false q.0 p.0 t in
      absurd (apart (omega (arith, a, b))))

  module _ (r : ℕ × ℕ) (rs : List (ℕ × ℕ)) (ih : with_range p (with_range q rs) ≡ with_range q (with_range p rs)) where
    -- p in front of q or behind it, where q goes in front of r
    both : (x y u v : Bool) → nat_lt p.0 q.0 ≡ x → nat_lt q.0 p.0 ≡ y → nat_lt p.0 r.0 ≡ u → nat_lt q.0 r.0 ≡ v
        → with_range p (put v q r rs) ≡ with_range q (put u p r rs)
    both x y true true s t e f =
        ap (λ b. if b then p ∷ q ∷ r ∷ rs else q ∷ with_range p (r ∷ rs)) s
        ∙ ap (λ b. if x then p ∷ q ∷ r ∷ rs else q ∷ put b p r rs) e
        ∙ three x y s t
        ∙ sym (ap (λ b. if y then q ∷ p ∷ r ∷ rs else p ∷ put b q r rs) f)
        ∙ sym (ap (λ b. if b then q ∷ p ∷ r ∷ rs else p ∷ with_range q (r ∷ rs)) t)
      where
        three : (x y : Bool) → nat_lt p.0 q.0 ≡ x → nat_lt q.0 p.0 ≡ y
            → (if x then p ∷ q ∷ r ∷ rs else q ∷ p ∷ r ∷ rs) ≡ (if y then q ∷ p ∷ r ∷ rs else p ∷ q ∷ r ∷ rs)
        three true true s t = (let a = ltb-true p.0 q.0 s in let b = ltb-true q.0 p.0 t in absurd (omega (arith, a, b)))
        three true false s t = refl
        three false true s t = refl
        three false false s t = (let a = ltb-false p.0 q.0 s in let b = ltb-false q.0 p.0 t in
            absurd (apart (omega (arith, a, b))))
    both x true true false s t e f =
        (let a = ltb-true q.0 p.0 t in let b = ltb-true p.0 r.0 e in let c = ltb-false q.0 r.0 f in
        absurd (omega (arith, a, b, c)))
    both x false true false s t e f =
        ap (λ b. put b p r (with_range q rs)) e
        ∙ sym (ap (λ b. if b then q ∷ p ∷ r ∷ rs else p ∷ with_range q (r ∷ rs)) t ∙ ap (λ b. p ∷ put b q r rs) f)
    both true y false true s t e f =
        (let a = ltb-true p.0 q.0 s in let b = ltb-true q.0 r.0 f in let c = ltb-false p.0 r.0 e in
        absurd (omega (arith, a, b, c)))
    both false y false true s t e f =
        ap (λ b. if b then p ∷ q ∷ r ∷ rs else q ∷ with_range p (r ∷ rs)) s ∙ ap (λ b. q ∷ put b p r rs) e
        ∙ sym (ap (λ b. put b q r (with_range p rs)) f)
    both x y false false s t e f =
        ap (λ b. put b p r (with_range q rs)) e ∙ ap (λ l. r ∷ l) ih
        ∙ sym (ap (λ b. put b q r (with_range p rs)) f)

pub either_order : (p q : ℕ × ℕ) → p.0 ≢ q.0 → (l : List (ℕ × ℕ))
    → with_range p (with_range q l) ≡ with_range q (with_range p l)
either_order p q apart [] = two p q apart (nat_lt p.0 q.0) (nat_lt q.0 p.0) refl refl
either_order p q apart (r ∷ rs) =
    both p q apart r rs (either_order p q apart rs) (nat_lt p.0 q.0) (nat_lt q.0 p.0) (nat_lt p.0 r.0) (nat_lt q.0 r.0)
    refl refl refl refl

-- ---- out again

pub out_again : (p : ℕ × ℕ) (l : List (ℕ × ℕ)) → range_at p.0 l ≡ None → without_range p.0 (with_range p l) ≡ l
out_again p [] e = ap (λ b. if b then [] else p ∷ []) (eq-eqb p.0 p.0 refl)
out_again p (r ∷ rs) e =
    by (λ h. out_again p rs h) (nat_lt p.0 r.0) (nat_eq r.0 p.0) refl e
  where
    by : (range_at p.0 rs ≡ None → without_range p.0 (with_range p rs) ≡ rs) → (b n : Bool) → nat_eq r.0 p.0 ≡ n
        → (if n then Some r.1 else range_at p.0 rs) ≡ None
        → without_range p.0 (put b p r rs) ≡ r ∷ rs
    by ih true n t h = ap (λ b. if b then r ∷ rs else p ∷ without_range p.0 (r ∷ rs)) (eq-eqb p.0 p.0 refl)
    by ih false true t h = absurd cc
    by ih false false t h = ap (λ b. if b then with_range p rs else r ∷ without_range p.0 (with_range p rs)) t
        ∙ ap (λ l. r ∷ l) (ih h)
