-- The words inside of live bodies, which alone can be executed on a setting's code.
use Rattle.std.proofs.Common.{◌≡◌, ◌⊎◌, inl, inr, ℕ, zero, suc, ◌+◌, ◌<◌, ◌≤◌, Bool, true, false, ◌&&◌, ◌||◌}
use Rattle.std.proofs.Common.{List, [], ◌∷◌, ◌++◌, Some, refl, sym, ap, ◌∙◌, arith, slice_get, nat_lt}
use Rattle.std.proofs.lemmas.Bool.{cases_Bool, and_parts, lt-ltb}
use Rattle.std.proofs.lemmas.Bool.Decides.{nat_tests}
use Rattle.meaning_state.specs.Bodies.{Body}
use Rattle.icode_run_proof.specs.Relation.{is_inside}

abbrev pub in_body : Body → ℕ → Bool
in_body x k = x.live && (nat_lt x.first k && nat_lt k (x.first + x.count))

-- the body that has the word
pub record Inside (bodies : List Body) (k : ℕ) : Type 0 where
  pub place : ℕ
  pub body : Body
  pub there : slice_get bodies place ≡ Some body
  pub live : body.live ≡ true
  pub low : body.first < k
  pub high : k < body.first + body.count

pub inside_of : (bodies : List Body) (k : ℕ) → is_inside bodies k ≡ true → Inside bodies k
inside_of [] k e = absurd cc
inside_of (x ∷ xs) k e = elim (cases_Bool (in_body x k)) [
  | inl t ↦ (let p = and_parts x.live (nat_lt x.first k && nat_lt k (x.first + x.count)) t in
      let q = and_parts (nat_lt x.first k) (nat_lt k (x.first + x.count)) p.1 in
      record {
        place = 0;
        body = x;
        there = refl;
        live = p.0;
        low = grind (arith, nat_tests, q.0);
        high = grind (arith, nat_tests, q.1);
      })
  | inr f ↦ (let r = inside_of xs k (ap (λ (b : Bool). b || is_inside xs k) (sym f) ∙ e) in
      record {
        place = suc r.place;
        body = r.body;
        there = r.there;
        live = r.live;
        low = r.low;
        high = r.high;
      })
]

or_true : (b : Bool) → b || true ≡ true
or_true true = refl
or_true false = refl

pub is_in : (bodies : List Body) (place : ℕ) (x : Body) (k : ℕ) → slice_get bodies place ≡ Some x → x.live ≡ true
    → x.first < k → k < x.first + x.count → is_inside bodies k ≡ true
is_in [] place x k e live low high = absurd cc
is_in (y ∷ ys) zero x k e live low high =
    let same : y ≡ x = cc in
    let l = lt-ltb x.first k low in
    let h = lt-ltb k (x.first + x.count) high in
    ap (λ (z : Body). in_body z k || is_inside ys k) same
    ∙ ap (λ (b : Bool). (b && (nat_lt x.first k && nat_lt k (x.first + x.count))) || is_inside ys k) live
    ∙ ap (λ (b : Bool). (b && nat_lt k (x.first + x.count)) || is_inside ys k) l
    ∙ ap (λ (b : Bool). b || is_inside ys k) h
is_in (y ∷ ys) (suc place) x k e live low high =
    ap (λ (b : Bool). in_body y k || b) (is_in ys place x k e live low high) ∙ or_true (in_body y k)

or_assoc : (a b c : Bool) → a || (b || c) ≡ (a || b) || c
or_assoc true b c = refl
or_assoc false b c = refl

or_false : (b : Bool) → b || false ≡ b
or_false true = refl
or_false false = refl

-- with a body more
pub inside_more : (bodies : List Body) (x : Body) (k : ℕ)
    → is_inside (bodies ++ x ∷ []) k ≡ is_inside bodies k || in_body x k
inside_more [] x k = or_false (in_body x k)
inside_more (y ∷ ys) x k =
    ap (λ (b : Bool). in_body y k || b) (inside_more ys x k) ∙ or_assoc (in_body y k) (is_inside ys k) (in_body x k)

-- outside of a range nothing is in a body of it
pub not_in_body : (x : Body) (k : ℕ) → (k < x.first + 1) ⊎ (x.first + x.count ≤ k) → in_body x k ≡ false
not_in_body x k out = elim (cases_Bool (in_body x k)) [
  | inr f ↦ f
  | inl t ↦ (let p = and_parts x.live (nat_lt x.first k && nat_lt k (x.first + x.count)) t in
      let q = and_parts (nat_lt x.first k) (nat_lt k (x.first + x.count)) p.1 in
      let low : x.first < k = grind (arith, nat_tests, q.0) in
      let high : k < x.first + x.count = grind (arith, nat_tests, q.1) in
      absurd (by low high out))
]
  where
    by : x.first < k → k < x.first + x.count → (k < x.first + 1) ⊎ (x.first + x.count ≤ k) → ⊥
    by low high (inl l) = omega (arith, low, l)
    by low high (inr l) = omega (arith, high, l)

-- so outside of a new one all is as it was
pub inside_outside : (bodies : List Body) (x : Body) (k : ℕ) → (k < x.first + 1) ⊎ (x.first + x.count ≤ k)
    → is_inside (bodies ++ x ∷ []) k ≡ is_inside bodies k
inside_outside bodies x k out =
    inside_more bodies x k ∙ ap (λ (b : Bool). is_inside bodies k || b) (not_in_body x k out)
    ∙ or_false (is_inside bodies k)
