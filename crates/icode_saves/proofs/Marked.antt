-- A table of the places that are used, filled place by place, and read in rising order.
use Rattle.std.proofs.Common.{ℕ, zero, suc, ◌≡◌, ◌≢◌, ◌<◌, ◌≤◌, Bool, true, false, cond, ◌||◌, nat_eq, List, []}
use Rattle.std.proofs.Common.{◌∷◌, ◌++◌, length, get_or, set, refl, ap, sym, ◌∙◌, arith}
use Rattle.std.specs.List.{filter}
use Rattle.std.proofs.lemmas.List.{get_or-set_same, get_or-set_other}
use Rattle.std.proofs.lemmas.Bool.Decides.{nat_tests}
use Rattle.icode_saves.specs.Places.{has, register_places, saved}
use Rattle.icode_saves.specs.Used.{marked}

swap : (a b c : Bool) → a || (b || c) ≡ b || (a || c)
swap true true c = refl
swap true false c = refl
swap false true c = refl
swap false false c = refl

-- one more place in the list
has-append : (ps : List ℕ) (q p : ℕ) → has (ps ++ q ∷ []) p ≡ nat_eq q p || has ps p
has-append [] q p = refl
has-append (x ∷ ps) q p =
    ap (λ (b : Bool). nat_eq x p || b) (has-append ps q p) ∙ swap (nat_eq x p) (nat_eq q p) (has ps p)

nat_eq-same : (n : ℕ) → nat_eq n n ≡ true
nat_eq-same n = grind (arith, nat_tests)

nat_eq-other : (m n : ℕ) → m ≢ n → nat_eq m n ≡ false
nat_eq-other m n h = grind (arith, nat_tests)

abbrev pub Marks : List Bool → List ℕ → Type 0
Marks table ps = (p : ℕ) → p < 12 → get_or table p false ≡ has ps p

marks_one : (table : List Bool) (ps : List ℕ) (q p : ℕ) → q < length table → (get_or table p false ≡ has ps p)
    → (nat_eq p q ≡ true → p ≡ q) → (b : Bool) → nat_eq p q ≡ b →
    get_or (set table q true) p false ≡ has (ps ++ q ∷ []) p
marks_one table ps q p l h t true e =
    rw (t e, get_or-set_same table q true false l, has-append ps q q, nat_eq-same q) refl
marks_one table ps q p l h t false e =
    let n : p ≢ q = λ (s : p ≡ q). grind (arith, nat_tests, s, e) in
    let n' : q ≢ p = λ (s : q ≡ p). n (sym s) in
    rw (get_or-set_other table q p true false n, has-append ps q p, nat_eq-other q p n') h

-- a place below 12 is marked
pub marks_more : (table : List Bool) (ps : List ℕ) (q : ℕ) → q < length table → Marks table ps →
    Marks (set table q true) (ps ++ q ∷ [])
marks_more table ps q l h p b =
    marks_one table ps q p l (h p b) (λ (e : nat_eq p q ≡ true). grind (arith, nat_tests, e)) (nat_eq p q) refl

-- another place isn't
pub marks_still : (table : List Bool) (ps : List ℕ) (q : ℕ) → 12 ≤ q → Marks table ps → Marks table (ps ++ q ∷ [])
marks_still table ps q l h p b =
    let n : q ≢ p = λ (s : q ≡ p). omega (arith, s) in
    rw (has-append ps q p, nat_eq-other q p n) (h p b)

AllLow : List ℕ → Type 0
AllLow [] = Unit {0}
AllLow (x ∷ xs) = (x < 12) × AllLow xs

filter_same : (f g : ℕ → Bool) → ((p : ℕ) → p < 12 → f p ≡ g p) → (xs : List ℕ) → AllLow xs → filter f xs ≡ filter g xs
unfolding AllLow
filter_same f g h [] a = refl
filter_same f g h (x ∷ xs) a = rw (h x a.0, filter_same f g h xs a.1) refl

-- what is marked is what has to be saved
pub marks_are : (table : List Bool) (ps : List ℕ) → Marks table ps → marked table ≡ saved ps
unfolding AllLow marked saved
marks_are table ps h =
    filter_same (λ (p : ℕ). get_or table p false) (has ps) h register_places (
      omega arith,
      (
        omega arith,
        (
          omega arith,
          (
            omega arith,
            (
              omega arith,
              (
                omega arith,
                (omega arith, (omega arith, (omega arith, (omega arith, (omega arith, (omega arith, tt)))))),
              ),
            ),
          ),
        ),
      ),
    )

-- a place below 12 is a register's
pub all_places : (p : ℕ) → p < 12 → has register_places p ≡ true
all_places zero h = refl
all_places (suc zero) h = refl
all_places (suc (suc zero)) h = refl
all_places (suc (suc (suc zero))) h = refl
all_places (suc (suc (suc (suc zero)))) h = refl
all_places (suc (suc (suc (suc (suc zero))))) h = refl
all_places (suc (suc (suc (suc (suc (suc zero)))))) h = refl
all_places (suc (suc (suc (suc (suc (suc (suc zero))))))) h = refl
all_places (suc (suc (suc (suc (suc (suc (suc (suc zero)))))))) h = refl
all_places (suc (suc (suc (suc (suc (suc (suc (suc (suc zero))))))))) h = refl
all_places (suc (suc (suc (suc (suc (suc (suc (suc (suc (suc zero)))))))))) h = refl
all_places (suc (suc (suc (suc (suc (suc (suc (suc (suc (suc (suc zero))))))))))) h = refl
all_places (suc (suc (suc (suc (suc (suc (suc (suc (suc (suc (suc (suc p)))))))))))) h = absurd (omega arith)

one_has : (f : ℕ → Bool) (p x : ℕ) (xs : List ℕ) (b e : Bool) → f x ≡ b → nat_eq x p ≡ e
    → has (filter f xs) p ≡ cond (f p) (has xs p) false
    → has (cond b (x ∷ filter f xs) (filter f xs)) p ≡ cond (f p) (e || has xs p) false
one_has f p x xs true true d s ih =
    let same : x ≡ p = grind (arith, nat_tests, s) in
    rw (s, sym (ap f same) ∙ d) refl
one_has f p x xs true false d s ih = rw s ih
one_has f p x xs false true d s ih =
    let same : x ≡ p = grind (arith, nat_tests, s) in
    let z : f p ≡ false = sym (ap f same) ∙ d in
    rw (ih, z) refl
one_has f p x xs false false d s ih = ih

false_or_false : (b : Bool) → false ≡ cond b false false
false_or_false true = refl
false_or_false false = refl

-- a place passes the test and stands in the list, or isn't kept
has-filter : (f : ℕ → Bool) (p : ℕ) (xs : List ℕ) → has (filter f xs) p ≡ cond (f p) (has xs p) false
has-filter f p [] = false_or_false (f p)
has-filter f p (x ∷ xs) = one_has f p x xs (f x) (nat_eq x p) refl refl (has-filter f p xs)

if_or_false : (b : Bool) → b ≡ cond b true false
if_or_false true = refl
if_or_false false = refl

-- whether a place is saved is what the table says
pub has_marked : (table : List Bool) (p : ℕ) → p < 12 → get_or table p false ≡ has (marked table) p
unfolding marked
has_marked table p l =
    rw (has-filter (λ (q : ℕ). get_or table q false) p register_places, all_places p l)
    (if_or_false (get_or table p false))

-- what a table saves are the places that stand in it
pub marked_are_saved : (table : List Bool) → saved (marked table) ≡ marked table
marked_are_saved table = sym (marks_are table (marked table) (λ (p : ℕ) (l : p < 12). has_marked table p l))
