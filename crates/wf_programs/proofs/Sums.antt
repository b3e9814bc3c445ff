-- Lists with one more at the end, and the equations of what is asked of the nodes of parameters.
use Rattle.std.proofs.Common.{◌≡◌, ℕ, zero, suc, ◌+◌, ◌≤◌, ◌==◌, Bool, true, false, ◌&&◌, nat_lt, refl, ap, sym, ◌∙◌}
use Rattle.std.proofs.Common.{List, [], ◌∷◌, ◌++◌, length, map, sum, sum_by, arith, take, drop}
use Rattle.std.proofs.lemmas.Bool.Decides.{nat_tests}
use Rattle.std.proofs.lemmas.List.Sums.{sum-map, sum_by-append}
use Rattle.word32.specs.declared.width.Width.{Width}
use Rattle.typed_tree.specs.declared.expression.Stmt.{Stmt}
use Rattle.typed_tree.specs.declared.expression.Stmt.TheVariants as st
use Rattle.wellformed.specs.Counts.{one_if, is_in}
use Rattle.wellformed.specs.Places.{Around, Act, are_parameters}
use Rattle.wellformed.specs.Values.{uses_values, all_true}
use Rattle.wellformed.proofs.Uses.{uses_values_block, uses_values_parameter, uses_values_parameterobject}

pub map_both : {A B : Type 0} (f : A → B) (xs ys : List A) → map f (xs ++ ys) ≡ map f xs ++ map f ys
map_both f [] ys = refl
map_both f (x ∷ xs) ys = ap (λ l. f x ∷ l) (map_both f xs ys)

pub sum_map_both : {A : Type 0} (f : A → ℕ) (xs ys : List A) → sum (map f (xs ++ ys)) ≡ sum (map f xs) + sum (map f ys)
sum_map_both f xs ys =
    let a : sum (map f (xs ++ ys)) ≡ sum_by f (xs ++ ys) = sum-map f (xs ++ ys) in
    let b : sum_by f (xs ++ ys) ≡ sum_by f xs + sum_by f ys = sum_by-append f xs ys in
    let c : sum (map f xs) ≡ sum_by f xs = sum-map f xs in
    let d : sum (map f ys) ≡ sum_by f ys = sum-map f ys in
    omega arith

pub all_both : (xs ys : List Bool) → all_true xs ≡ true → all_true ys ≡ true → all_true (xs ++ ys) ≡ true
all_both [] ys h k = k
all_both (true ∷ xs) ys h k = all_both xs ys h k
all_both (false ∷ xs) ys h k = absurd (cc)

pub all_map_both : {A : Type 0} (f : A → Bool) (xs ys : List A) → all_true (map f xs) ≡ true →
    all_true (map f ys) ≡ true → all_true (map f (xs ++ ys)) ≡ true
all_map_both f xs ys h k = ap all_true (map_both f xs ys) ∙ all_both (map f xs) (map f ys) h k

-- ---- register variables

-- ---- parameters

parameters_by : (b c d : Bool) → (c ≡ true → d ≡ true) → (b && c) ≡ true → (b && d) ≡ true
parameters_by true c d f h = f h
parameters_by false c d f h = h

one_by : (b : Bool) → b ≡ true → (b && true) ≡ true
one_by true h = refl
one_by false h = h

pub parameters_more : (j n : ℕ) (vs : List Act) (v : Act) (a : Around) → n ≡ j + length vs →
    are_parameters j vs a ≡ true → v.is_parameter n a ≡ true → are_parameters j (vs ++ v ∷ []) a ≡ true
parameters_more j n [] v a e h k =
    one_by (v.is_parameter j a) (ap (λ i. v.is_parameter i a) (let z : j ≡ n = omega arith in z) ∙ k)
parameters_more j n (x ∷ vs) v a e h k =
    parameters_by (x.is_parameter j a) (are_parameters (j + 1) vs a) (are_parameters (j + 1) (vs ++ v ∷ []) a)
    (λ p. parameters_more (j + 1) n vs v a (omega arith) p k) h

-- ---- bytes and numbers

pub bytes_more : (byte o : ℕ) → one_if (nat_lt byte o) + one_if (is_in byte o 1) ≡ one_if (nat_lt byte (o + 4))
bytes_more byte o = grind (arith, nat_tests)

pub number_more : (i k x : ℕ) → x ≤ one_if (nat_lt i k) → x + one_if (i == k) ≤ one_if (nat_lt i (suc k))
number_more i k x h = grind (arith, nat_tests)

pub number_same : (i k x : ℕ) → x ≤ one_if (nat_lt i k) → x ≤ one_if (nat_lt i (suc k))
number_same i k x h = grind (arith, nat_tests)

-- ---- used values

pub values_parameter : (k : ℕ) (w : Width) → uses_values (st.Parameter k w) ≡ true
values_parameter k w = uses_values_parameter k w

pub values_object : (k : ℕ) (w : Width) (off : ℕ) → uses_values (st.ParameterObject k w off) ≡ true
values_object k w off = uses_values_parameterobject k w off

pub values_block : (vs xs : List Stmt) →
    uses_values (st.Block vs xs) ≡ (all_true (map uses_values vs) && all_true (map uses_values xs))
values_block vs xs = uses_values_block vs xs

-- ---- the front of a list

pub take_front : {A : Type 0} (n : ℕ) (xs ys : List A) → length xs ≡ n → take n (xs ++ ys) ≡ xs
take_front zero [] ys e = refl
take_front zero (x ∷ xs) ys e = absurd (omega arith)
take_front (suc n) [] ys e = absurd (omega arith)
take_front (suc n) (x ∷ xs) ys e = ap (λ l. x ∷ l) (take_front n xs ys (omega arith))

pub drop_front : {A : Type 0} (n : ℕ) (xs ys : List A) → length xs ≡ n → drop n (xs ++ ys) ≡ ys
drop_front zero [] ys e = refl
drop_front zero (x ∷ xs) ys e = absurd (omega arith)
drop_front (suc n) [] ys e = absurd (omega arith)
drop_front (suc n) (x ∷ xs) ys e = drop_front n xs ys (omega arith)
