-- The places of names in the table.
use Rattle.std.proofs.Common.{◌≡◌, ℕ, ◌+◌, Bool, true, false, cond, ◌||◌, List, [], ◌∷◌, ◌++◌, position, Some}
use Rattle.std.proofs.Common.{None, refl, sym, ap, subst, ◌∙◌, append_assoc, append-nil}
use Rattle.std.proofs.lemmas.Iterator.Adapters.{position_from-zero}
use Rattle.std.specs.Cmp.Lexicographic.{nat_list_eq_equiv}
use Rattle.std.specs.List.{IsDistinct, AllByRecursion, list_any, position_from}
use Rattle.std.specs.Prelude.{fold}
use Rattle.std.specs.Str.{bytes_eq}
use Rattle.indexmap.specs.IndexSet.{insert_key, insert_all}
use Rattle.name_numbers.specs.Numbers.{Name, number_from, number_of}

from_place : (n : ℕ) (names : List Name) (q : Name) → position_from (bytes_eq q) n names ≡ number_from n names q
from_place n [] q = refl
from_place n (x ∷ names) q = ap (cond (bytes_eq q x) (Some n)) (from_place (n + 1) names q)

-- the place of a name is its number
pub number_is : (names : List Name) (q : Name) → position (bytes_eq q) names ≡ number_of names q
number_is names q = position_from-zero (bytes_eq q) names ∙ from_place 0 names q

-- a name that has no number is none of them
absent_from : (n : ℕ) (names : List Name) (q : Name) → number_from n names q ≡ None →
    list_any (bytes_eq q) names ≡ false
absent_from n [] q h = refl
absent_from n (x ∷ names) q h = by (absent_from (n + 1) names q) (bytes_eq q x) refl h
  where
    by : (number_from (n + 1) names q ≡ None → list_any (bytes_eq q) names ≡ false) → (b : Bool) → bytes_eq q x ≡ b →
        cond b (Some n) (number_from (n + 1) names q) ≡ None → list_any (bytes_eq q) (x ∷ names) ≡ false
    by rest true e h = absurd cc
    by rest false e h = ap (λ b. b || list_any (bytes_eq q) names) e ∙ rest h

pub added_last : (names : List Name) (name : Name) → number_of names name ≡ None →
    insert_key bytes_eq names name ≡ names ++ name ∷ []
added_last names name none =
    ap (λ b. cond b names (names ++ name ∷ [])) (absent_from 0 names name none)

one_of : (P : Name → Type 0) (before : List Name) (k : Name) (ks : List Name) → AllByRecursion P (before ++ k ∷ ks) →
    P k
one_of P [] k ks h = h.0
one_of P (x ∷ before) k ks h = one_of P before k ks h.1

none_before : (before : List Name) (k : Name) (ks : List Name) → IsDistinct bytes_eq (before ++ k ∷ ks) →
    list_any (bytes_eq k) before ≡ false
unfolding IsDistinct
none_before [] k ks h = refl
none_before (x ∷ before) k ks h =
    ap (λ b. b || list_any (bytes_eq k) before)
    (nat_list_eq_equiv.symm k x ∙ one_of (λ y. bytes_eq x y ≡ false) before k ks h.0)
    ∙ none_before before k ks h.1

inserted : (before ks : List Name) → IsDistinct bytes_eq (before ++ ks) →
    fold (insert_key bytes_eq) before ks ≡ before ++ ks
inserted before [] h = sym (append-nil before)
inserted before (k ∷ ks) h =
    ap (λ l. fold (insert_key bytes_eq) l ks)
    (ap (λ b. cond b before (before ++ k ∷ [])) (none_before before k ks h))
    ∙ inserted (before ++ k ∷ []) ks (subst (IsDistinct bytes_eq) (sym (append_assoc before (k ∷ []) ks)) h)
    ∙ append_assoc before (k ∷ []) ks

-- names that are put into an empty table one after the other keep their order
pub settled : (names : List Name) → IsDistinct bytes_eq names → insert_all bytes_eq [] names ≡ names
settled names h = inserted [] names h
