-- Numbers of names.
use Rattle.std.proofs.Common.{◌≡◌, ℕ, suc, ◌+◌, ◌<◌, Bool, true, false, cond, List, [], ◌∷◌, ◌++◌, length}
use Rattle.std.proofs.Common.{Option, Some, None, refl, sym, ap, ◌∙◌, arith, get_or}
use Rattle.std.specs.Option.{option_or}
use Rattle.std.specs.Str.{bytes_eq}
use Rattle.std.specs.Cmp.Lexicographic.{bytes_decides, nat_list_eq_equiv}
use Rattle.name_numbers.specs.Numbers.{Name, number_from, number_of}

pub otherwise : {X : Type 0} (b : Bool) (m : X) (r : Option X) → cond b (Some m) None ≡ None → cond b (Some m) r ≡ r
otherwise true m r h = cc
otherwise false m r h = refl

or_else : (is : Bool) (n : ℕ) (rest more both : Option ℕ) → both ≡ option_or rest more →
    cond is (Some n) both ≡ option_or (cond is (Some n) rest) more
or_else true n rest more both h = refl
or_else false n rest more both h = h

both_from : (k : ℕ) (names more : List Name) (q : Name) →
    number_from k (names ++ more) q ≡ option_or (number_from k names q) (number_from (k + length names) more q)
both_from k [] more q = ap (λ n. number_from n more q) (omega arith)
both_from k (x ∷ names) more q =
    or_else (bytes_eq q x) k (number_from (k + 1) names q) (number_from (k + length (x ∷ names)) more q)
    (number_from (k + 1) (names ++ more) q)
    (both_from (k + 1) names more q
    ∙ ap (λ n. option_or (number_from (k + 1) names q) (number_from n more q)) (omega arith))

-- a name behind the others
pub one_more : (names : List Name) (name q : Name) →
    number_of (names ++ name ∷ []) q ≡
    option_or (number_of names q) (cond (bytes_eq q name) (Some (length names)) None)
one_more names name q =
    both_from 0 names (name ∷ []) q
    ∙ ap (λ n. option_or (number_of names q) (cond (bytes_eq q name) (Some n) None)) (omega arith)

-- a number stays
pub stays : (names more : List Name) (q : Name) (n : ℕ) → number_of names q ≡ Some n →
    number_of (names ++ more) q ≡ Some n
stays names more q n h =
    both_from 0 names more q ∙ ap (λ o. option_or o (number_from (0 + length names) more q)) h

-- the name of a number is that at its place
named_from : (k : ℕ) (names : List Name) (q : Name) (n : ℕ) → number_from k names q ≡ Some n →
    (j : ℕ) × (n ≡ k + j) × (j < length names) × (get_or names j [] ≡ q)
named_from k [] q n h = absurd cc
named_from k (x ∷ names) q n h = by (named_from (k + 1) names q n) (bytes_eq q x) refl h
  where
    by : (number_from (k + 1) names q ≡ Some n →
        (j : ℕ) × (n ≡ k + 1 + j) × (j < length names) × (get_or names j [] ≡ q)) → (b : Bool) → bytes_eq q x ≡ b →
        cond b (Some k) (number_from (k + 1) names q) ≡ Some n →
        (j : ℕ) × (n ≡ k + j) × (j < length (x ∷ names)) × (get_or (x ∷ names) j [] ≡ q)
    by more true e h =
        let is : k ≡ n = cc in
        (0, omega (arith, is), omega arith, sym ((bytes_decides q x).0 e))
    by more false e h =
        let rest = more h in
        (suc rest.0, omega (arith, rest.1), omega (arith, rest.2), rest.3)

pub at_number : (names : List Name) (q : Name) (n : ℕ) → number_of names q ≡ Some n →
    (n < length names) × (get_or names n [] ≡ q)
at_number names q n h =
    let it = named_from 0 names q n h in
    let is : it.0 ≡ n = omega (arith, it.1) in
    (omega (arith, is, it.2), ap (λ j. get_or names j []) (sym is) ∙ it.3)

pub new_number : (names : List Name) (name : Name) (n : ℕ) → number_of names name ≡ None → n ≡ length names →
    number_of (names ++ name ∷ []) name ≡ Some n
new_number names name n none h =
    one_more names name name
    ∙ ap (λ o. option_or o (cond (bytes_eq name name) (Some (length names)) None)) none
    ∙ ap (λ b. cond b (Some (length names)) None) (nat_list_eq_equiv.refl name)
    ∙ ap Some (sym h)
