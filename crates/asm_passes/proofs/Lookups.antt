-- The labels as a list of names and as a map, and what is found after one more.
use Rattle.std.proofs.Common.{◌≡◌, ℕ, suc, ◌+◌, Bool, true, false, cond, List, [], ◌∷◌, ◌++◌, Option, Some, None}
use Rattle.std.proofs.Common.{is_some}
use Rattle.std.proofs.Common.{length, slice_get, refl, ap, sym, ◌∙◌, arith}
use mathlib.Core.Path.{fun_ext}
use Rattle.std.specs.Str.{bytes_eq}
use Rattle.std.specs.List.{zip}
use Rattle.std.specs.Option.{option_or}
use Rattle.std.proofs.lemmas.Slice.Eq.{bytes_eq-Decides}
use Rattle.asm_passes.specs.LabelPlace.{LabelPlace}
use Rattle.asm_passes.specs.Labels.{Names, find}
use Rattle.name_numbers.specs.Numbers.{Name, number_from, number_of}

pub absent_is : (k : ℕ) (names : List Name) (places : List LabelPlace) (name : Name) →
    number_from k names name ≡ None → find (zip names places) name ≡ None
absent_is k [] places name h = refl
absent_is k (x ∷ names) [] name h = refl
absent_is k (x ∷ names) (l ∷ places) name h = by (absent_is (k + 1) names places name) (bytes_eq name x) refl h
  where
    by : (number_from (k + 1) names name ≡ None → find (zip names places) name ≡ None) → (b : Bool) →
        bytes_eq name x ≡ b → cond b (Some k) (number_from (k + 1) names name) ≡ None →
        find (zip (x ∷ names) (l ∷ places)) name ≡ None
    by rest true e h = absurd cc
    by rest false e h = ap (λ b. cond b (Some l) (find (zip names places) name)) e ∙ rest h

-- the place of a name that has a number
abbrev pub IsAt : List Name → List LabelPlace → Name → ℕ → ℕ → Type 0
IsAt names places name k n = record {
  at : ℕ;
  number : n ≡ k + at;
  place : slice_get places at ≡ find (zip names places) name;
  some : is_some (find (zip names places) name) ≡ true;
}

found_from : (k : ℕ) (names : List Name) (places : List LabelPlace) (name : Name) (n : ℕ) →
    length names ≡ length places → number_from k names name ≡ Some n → IsAt names places name k n
found_from k [] places name n e h = absurd cc
found_from k (x ∷ names) [] name n e h = absurd cc
found_from k (x ∷ names) (l ∷ places) name n e h =
    by (found_from (k + 1) names places name n (omega (arith, e))) (bytes_eq name x) refl h
  where
    by : (number_from (k + 1) names name ≡ Some n → IsAt names places name (k + 1) n) → (b : Bool) →
        bytes_eq name x ≡ b → cond b (Some k) (number_from (k + 1) names name) ≡ Some n →
        IsAt (x ∷ names) (l ∷ places) name k n
    by rest true e h =
        let is : k ≡ n = cc in
        record {
          at = 0;
          number = omega (arith, is);
          place = ap (λ b. cond b (Some l) (find (zip names places) name)) (sym e);
          some = ap (λ b. is_some (cond b (Some l) (find (zip names places) name))) e;
        }
    by rest false e h =
        let it = rest h in
        record {
          at = suc it.at;
          number = omega (arith, it.number);
          place = it.place ∙ ap (λ b. cond b (Some l) (find (zip names places) name)) (sym e);
          some = ap (λ b. is_some (cond b (Some l) (find (zip names places) name))) e ∙ it.some;
        }

pub found_at : (names : List Name) (places : List LabelPlace) (name : Name) (n : ℕ) → length names ≡ length places →
    number_of names name ≡ Some n → slice_get places n ≡ find (zip names places) name
found_at names places name n e h =
    let it = found_from 0 names places name n e h in
    ap (slice_get places) (omega (arith, it.number)) ∙ it.place

pub found_some : (names : List Name) (places : List LabelPlace) (name : Name) (n : ℕ) →
    length names ≡ length places → number_of names name ≡ Some n → is_some (find (zip names places) name) ≡ true
found_some names places name n e h = (found_from 0 names places name n e h).some

pub zip_more : (names : List Name) (places : List LabelPlace) (name : Name) (l : LabelPlace) →
    length names ≡ length places → zip (names ++ name ∷ []) (places ++ l ∷ []) ≡ zip names places ++ (name, l) ∷ []
zip_more [] [] name l e = refl
zip_more [] (m ∷ places) name l e = absurd cc
zip_more (x ∷ names) [] name l e = absurd cc
zip_more (x ∷ names) (m ∷ places) name l e = ap (λ r. (x, m) ∷ r) (zip_more names places name l (omega (arith, e)))

-- ---- what is found in two lists

or_cond : (t : Bool) (a : LabelPlace) (o p : Option LabelPlace) →
    cond t (Some a) (option_or o p) ≡ option_or (cond t (Some a) o) p
or_cond true a o p = refl
or_cond false a o p = refl

pub find_append : (xs ys : Names) (name : List ℕ) → find (xs ++ ys) name ≡ option_or (find xs name) (find ys name)
find_append [] ys name = refl
find_append (x ∷ xs) ys name =
    ap (λ o. cond (bytes_eq name x.0) (Some x.1) o) (find_append xs ys name)
    ∙ or_cond (bytes_eq name x.0) x.1 (find xs name) (find ys name)

-- Names that find the same find the same with more behind them.
pub find_same : (xs ys zs : Names) → find xs ≡ find ys → find (xs ++ zs) ≡ find (ys ++ zs)
find_same xs ys zs e =
    fun_ext (λ name. find_append xs zs name ∙ ap (λ f. option_or (f name) (find zs name)) e ∙
    sym (find_append ys zs name))

some_or : (o p : Option LabelPlace) → is_some o ≡ true → o ≡ option_or o p
some_or None p h = cc
some_or (Some x) p h = refl

or_none : (o : Option LabelPlace) → o ≡ option_or o None
or_none None = refl
or_none (Some x) = refl

again_by : (xs : Names) (name : List ℕ) (l : LabelPlace) (x : List ℕ) (t : Bool) → bytes_eq x name ≡ t →
    is_some (find xs name) ≡ true → find xs x ≡ option_or (find xs x) (cond t (Some l) None)
again_by xs name l x true e h =
    let same : x ≡ name = (bytes_eq-Decides x name).0 e in
    some_or (find xs x) (Some l) (ap (λ n. is_some (find xs n)) same ∙ h)
again_by xs name l x false e h = or_none (find xs x)

-- A name that is there stands for its first place.
pub find_again : (xs : Names) (name : List ℕ) (l : LabelPlace) → is_some (find xs name) ≡ true →
    find xs ≡ find (xs ++ (name, l) ∷ [])
find_again xs name l h =
    fun_ext (λ x. again_by xs name l x (bytes_eq x name) refl h ∙ sym (find_append xs ((name, l) ∷ []) x))
