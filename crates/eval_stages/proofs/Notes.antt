-- The keys that are noted in order are as many as there are different local variables among them.
use Rattle.std.proofs.Common.{◌≡◌, ℕ, zero, suc, ◌<◌, ◌≤◌, length, List, [], ◌∷◌, refl, ap, sym, ◌∙◌, subst, arith}
use Rattle.std.proofs.Common.{Bool, true}
use Rattle.std.proofs.Common.{false, nat_lt, nat_eq, if◌then◌else◌, ◌⊎◌, inl, inr, cond}
use Rattle.std.proofs.lemmas.Bool.Decides.{nat_tests}
use Rattle.std.specs.BTreeSet.{insert_key}
use Rattle.std.specs.Ordering.{nat_cmp, match_ordering}
use Rattle.std.proofs.Common.{Less, Equal, Greater}
use Rattle.limits.specs.declared.program.TheConstants.{MOST_ARGUMENTS}
use Rattle.meaning_state.specs.Rows.{count_locals, is_among}
use Rattle.eval_state.specs.Numbered.{noted}

-- ---- a key at its place

abbrev put : List ℕ → ℕ → List ℕ
put xs k = insert_key nat_cmp xs k

order : (a b : ℕ) → (a < b) ⊎ ((a ≡ b) ⊎ (b < a))
order zero zero = inr (inl refl)
order zero (suc b) = inl (omega arith)
order (suc a) zero = inr (inr (omega arith))
order (suc a) (suc b) = go (order a b)
  where
    go : (a < b) ⊎ ((a ≡ b) ⊎ (b < a)) → (suc a < suc b) ⊎ ((suc a ≡ suc b) ⊎ (suc b < suc a))
    go (inl h) = inl (omega (arith, h))
    go (inr (inl h)) = inr (inl (ap suc h))
    go (inr (inr h)) = inr (inr (omega (arith, h)))

less_is : (a b : ℕ) → a < b → nat_lt a b ≡ true
less_is a b h = grind (arith, nat_tests)

not_less : (a b : ℕ) → b ≤ a → nat_lt a b ≡ false
not_less a b h = grind (arith, nat_tests)

same_is : (a b : ℕ) → a ≡ b → nat_eq a b ≡ true
same_is a b h = grind (arith, nat_tests)

other_is : (a b : ℕ) → (a ≡ b → ⊥) → nat_eq a b ≡ false
other_is a b h = grind (arith, nat_tests)

put_less : (x k : ℕ) (xs : List ℕ) → k < x → put (x ∷ xs) k ≡ k ∷ x ∷ xs
put_less x k xs h =
    ap (λ b. match_ordering (cond b Less (cond (nat_eq k x) Equal Greater)) (k ∷ x ∷ xs) (x ∷ xs) (x ∷ put xs k))
    (less_is k x h)

put_same : (x k : ℕ) (xs : List ℕ) → k ≡ x → put (x ∷ xs) k ≡ x ∷ xs
put_same x k xs h =
    ap (λ b. match_ordering (cond b Less (cond (nat_eq k x) Equal Greater)) (k ∷ x ∷ xs) (x ∷ xs) (x ∷ put xs k))
    (not_less k x (omega (arith, h)))
    ∙ ap (λ b. match_ordering (cond b Equal Greater) (k ∷ x ∷ xs) (x ∷ xs) (x ∷ put xs k)) (same_is k x h)

put_more : (x k : ℕ) (xs : List ℕ) → x < k → put (x ∷ xs) k ≡ x ∷ put xs k
put_more x k xs h =
    ap (λ b. match_ordering (cond b Less (cond (nat_eq k x) Equal Greater)) (k ∷ x ∷ xs) (x ∷ xs) (x ∷ put xs k))
    (not_less k x (omega (arith, h)))
    ∙ ap (λ b. match_ordering (cond b Equal Greater) (k ∷ x ∷ xs) (x ∷ xs) (x ∷ put xs k))
    (other_is k x (λ e. omega (arith, e, h)))

-- ---- keys that ascend

abbrev IsAbove : ℕ → List ℕ → Type 0
IsAbove b [] = Unit {0}
IsAbove b (x ∷ xs) = (b < x) × IsAbove b xs

abbrev Ascends : List ℕ → Type 0
Ascends [] = Unit {0}
Ascends (x ∷ xs) = IsAbove x xs × Ascends xs

above_down : (a b : ℕ) (xs : List ℕ) → a < b → IsAbove b xs → IsAbove a xs
above_down a b [] h k = tt
above_down a b (x ∷ xs) h k = (omega (arith, h, k.0), above_down a b xs h k.1)

above_put : (b k : ℕ) (xs : List ℕ) → b < k → IsAbove b xs → IsAbove b (put xs k)
above_put b k [] h a = (h, tt)
above_put b k (x ∷ xs) h a = go (order k x) (above_put b k xs h a.1)
  where
    go : (k < x) ⊎ ((k ≡ x) ⊎ (x < k)) → IsAbove b (put xs k) → IsAbove b (put (x ∷ xs) k)
    go (inl e) rest = subst (IsAbove b) (sym (put_less x k xs e)) (h, a)
    go (inr (inl e)) rest = subst (IsAbove b) (sym (put_same x k xs e)) a
    go (inr (inr e)) rest = subst (IsAbove b) (sym (put_more x k xs e)) (a.0, rest)

ascends_put : (k : ℕ) (xs : List ℕ) → Ascends xs → Ascends (put xs k)
ascends_put k [] a = (tt, tt)
ascends_put k (x ∷ xs) a = go (order k x) (ascends_put k xs a.1)
  where
    go : (k < x) ⊎ ((k ≡ x) ⊎ (x < k)) → Ascends (put xs k) → Ascends (put (x ∷ xs) k)
    go (inl e) rest = subst Ascends (sym (put_less x k xs e)) ((e, above_down k x xs e a.0), a)
    go (inr (inl e)) rest = subst Ascends (sym (put_same x k xs e)) a
    go (inr (inr e)) rest = subst Ascends (sym (put_more x k xs e)) (above_put x k xs e a.0, rest)

not_above : (k : ℕ) (xs : List ℕ) → IsAbove k xs → is_among k xs ≡ false
not_above k [] h = refl
not_above k (x ∷ xs) h =
    ap (λ b. if b then true else is_among k xs) (other_is k x (λ e. let l = h.0 in omega (arith, e, l)))
    ∙ not_above k xs h.1

-- ---- which keys there are, and how many

either_twice : (b a : Bool) → (if b then true else a) ≡ (if b then true else (if b then true else a))
either_twice true a = refl
either_twice false a = refl

either_swapped : (b c a : Bool) → (if b then true else (if c then true else a))
    ≡ (if c then true else (if b then true else a))
either_swapped true true a = refl
either_swapped true false a = refl
either_swapped false true a = refl
either_swapped false false a = refl

among_put : (j k : ℕ) (xs : List ℕ) → is_among j (put xs k) ≡ (if nat_eq j k then true else is_among j xs)
among_put j k [] = refl
among_put j k (x ∷ xs) = go (order k x) (among_put j k xs)
  where
    go : (k < x) ⊎ ((k ≡ x) ⊎ (x < k)) → is_among j (put xs k) ≡ (if nat_eq j k then true else is_among j xs)
        → is_among j (put (x ∷ xs) k) ≡ (if nat_eq j k then true else is_among j (x ∷ xs))
    go (inl e) rest = ap (is_among j) (put_less x k xs e)
    go (inr (inl e)) rest =
        ap (is_among j) (put_same x k xs e)
        ∙ either_twice (nat_eq j x) (is_among j xs)
        ∙ ap (λ m. if nat_eq j m then true else (if nat_eq j x then true else is_among j xs)) (sym e)
    go (inr (inr e)) rest =
        ap (is_among j) (put_more x k xs e)
        ∙ ap (λ b. if nat_eq j x then true else b) rest
        ∙ either_swapped (nat_eq j x) (nat_eq j k) (is_among j xs)

count_put : (k : ℕ) (xs : List ℕ) → Ascends xs
    → length (put xs k) ≡ (if is_among k xs then length xs else suc (length xs))
count_put k [] a = refl
count_put k (x ∷ xs) a = go (order k x) (count_put k xs a.1)
  where
    counted : Bool → ℕ → ℕ
    counted b n = if b then n else suc n

    one_more : (b : Bool) (n : ℕ) → suc (counted b n) ≡ counted b (suc n)
    one_more true n = refl
    one_more false n = refl

    go : (k < x) ⊎ ((k ≡ x) ⊎ (x < k)) → length (put xs k) ≡ counted (is_among k xs) (length xs)
        → length (put (x ∷ xs) k) ≡ counted (is_among k (x ∷ xs)) (suc (length xs))
    go (inl e) rest =
        ap length (put_less x k xs e)
        ∙ ap (λ b. counted b (suc (length xs))) (sym (not_above k (x ∷ xs) (e, above_down k x xs e a.0)))
    go (inr (inl e)) rest =
        ap length (put_same x k xs e)
        ∙ ap (λ b. counted (if b then true else is_among k xs) (suc (length xs))) (sym (same_is k x e))
    go (inr (inr e)) rest =
        ap length (put_more x k xs e)
        ∙ ap suc rest
        ∙ one_more (is_among k xs) (length xs)
        ∙ ap (λ b. counted (if b then true else is_among k xs) (suc (length xs)))
        (sym (other_is k x (λ f. omega (arith, e, f))))

-- ---- all keys, noted from the last to the first

abbrev pub noted_all : List ℕ → List ℕ
noted_all [] = []
noted_all (k ∷ keys) = noted k (noted_all keys)

either_key : (k : ℕ) → (nat_lt k MOST_ARGUMENTS ≡ true) ⊎ (nat_lt k MOST_ARGUMENTS ≡ false)
either_key k = go (nat_lt k MOST_ARGUMENTS) refl
  where
    go : (b : Bool) → nat_lt k MOST_ARGUMENTS ≡ b
        → (nat_lt k MOST_ARGUMENTS ≡ true) ⊎ (nat_lt k MOST_ARGUMENTS ≡ false)
    go true e = inl e
    go false e = inr e

noted_ascends : (keys : List ℕ) → Ascends (noted_all keys)
noted_ascends [] = tt
noted_ascends (k ∷ keys) = go (nat_lt k MOST_ARGUMENTS) (noted_all keys) (noted_ascends keys)
  where
    go : (b : Bool) (xs : List ℕ) → Ascends xs → Ascends (if b then xs else put xs k)
    go true xs a = a
    go false xs a = ascends_put k xs a

noted_among : (j : ℕ) (keys : List ℕ) → MOST_ARGUMENTS ≤ j → is_among j (noted_all keys) ≡ is_among j keys
noted_among j [] h = refl
noted_among j (k ∷ keys) h = go (either_key k) (noted_among j keys h)
  where
    low : (k : ℕ) → nat_lt k MOST_ARGUMENTS ≡ true → k < MOST_ARGUMENTS
    low k e = grind (arith, nat_tests)

    go : (nat_lt k MOST_ARGUMENTS ≡ true) ⊎ (nat_lt k MOST_ARGUMENTS ≡ false)
        → is_among j (noted_all keys) ≡ is_among j keys → is_among j (noted_all (k ∷ keys)) ≡ is_among j (k ∷ keys)
    go (inl e) rest =
        ap (λ b. is_among j (if b then noted_all keys else put (noted_all keys) k)) e
        ∙ rest
        ∙ ap (λ b. if b then true else is_among j keys)
        (sym (other_is j k (λ f. let l = low k e in omega (arith, f, l, h))))
    go (inr e) rest =
        ap (λ b. is_among j (if b then noted_all keys else put (noted_all keys) k)) e
        ∙ among_put j k (noted_all keys)
        ∙ ap (λ b. if nat_eq j k then true else b) rest

pub noted_count : (keys : List ℕ) → length (noted_all keys) ≡ count_locals keys
noted_count [] = refl
noted_count (k ∷ keys) = go (either_key k) (noted_count keys)
  where
    high : (k : ℕ) → nat_lt k MOST_ARGUMENTS ≡ false → MOST_ARGUMENTS ≤ k
    high k e = grind (arith, nat_tests)

    go : (nat_lt k MOST_ARGUMENTS ≡ true) ⊎ (nat_lt k MOST_ARGUMENTS ≡ false)
        → length (noted_all keys) ≡ count_locals keys → length (noted_all (k ∷ keys)) ≡ count_locals (k ∷ keys)
    go (inl e) rest =
        ap (λ b. length (if b then noted_all keys else put (noted_all keys) k)) e
        ∙ rest
        ∙ ap (λ b. if b then count_locals keys
        else (if is_among k keys then count_locals keys else suc (count_locals keys))) (sym e)
    go (inr e) rest =
        ap (λ b. length (if b then noted_all keys else put (noted_all keys) k)) e
        ∙ count_put k (noted_all keys) (noted_ascends keys)
        ∙ ap (λ b. if b then length (noted_all keys) else suc (length (noted_all keys)))
        (noted_among k keys (high k e))
        ∙ ap (λ n. if is_among k keys then n else suc n) rest
        ∙ ap (λ b. if b then count_locals keys
        else (if is_among k keys then count_locals keys else suc (count_locals keys))) (sym e)
