-- Both walks define the same functions: after a walk the table of those that are defined is told by their names alone.
use Rattle.std.proofs.Common.{◌≡◌, ℕ, zero, suc, ◌+◌, ◌≤◌, ◌<◌, min, Bool, true, false, if◌then◌else◌, refl, ap, sym}
use Rattle.std.proofs.Common.{◌∙◌, subst, List, [], ◌∷◌, ◌++◌, length, Option, Some, None, is_some, Ok, slice_get}
use Rattle.std.proofs.Common.{arith, bytes_eq, append-nil}
use Rattle.std.proofs.lemmas.Slice.Eq.{bytes_eq-Decides}
use Rattle.check_scopes.specs.declared.names.Meaning.{Meaning}
use Rattle.check_scopes.specs.Scopes.{Name, Scope, Scopes, in_scope, find, innermost, declared}
use Rattle.check_rules.specs.declared.functions.Functions.{Functions}
use Rattle.check_rules.specs.declared.functions.Prototype.{Prototype}
use Rattle.check_rules.specs.Functions.{define, defined_by, next, number, number_by, is_defined, meaning, lacking}
use Rattle.check_rules.specs.Functions.{undefined}
use Rattle.wf_walk.proofs.Walks.{pure_same}

-- the number of the function that so many stand before
abbrev pub number_at : ℕ → ℕ
number_at n = min (min n 4294967295 + 1) 4294967295

-- one function more, that so many stand before
abbrev pub with_name : ℕ → Name → Scope → Scope
with_name n name sc = sc ++ (name, meaning (number_at n)) ∷ []

-- functions of these names more, that so many stand before
abbrev pub with_names : ℕ → List Name → Scope → Scope
with_names n [] sc = sc
with_names n (x ∷ xs) sc = with_names (suc n) xs (with_name n x sc)

-- ---- a function is defined

defined_case : (line : ℕ) (name : Name) (s new : Functions) (u : Unit {0}) (sc : Scope) (o : Option Meaning) →
    s.defined ≡ sc ∷ []
    → defined_by line name s o ≡ Ok (u, new) → new ≡ record s { defined = with_name (length s.all) name sc ∷ [] }
defined_case line name s new u sc None one is =
    sym (pure_same tt u (record s { defined = declared s.defined name (meaning (next s)) }) new is) ∙
    ap (λ (d : Scopes). record s { defined = declared d name (meaning (next s)) }) one
defined_case line name s new u sc (Some m) one is = absurd (cc)

pub define_gives : (line : ℕ) (name : Name) (s new : Functions) (u : Unit {0}) (sc : Scope) → s.defined ≡ sc ∷ []
    → define line name s ≡ Ok (u, new) → new ≡ record s { defined = with_name (length s.all) name sc ∷ [] }
unfolding define
define_gives line name s new u sc one is =
    defined_case line name s new u sc (in_scope (innermost s.defined) name) one is

-- ---- the numbers

-- among functions of these names, this is the number of the one of this name
pub record HasNumber (ns : List Name) (name : Name) (n : ℕ) : Type 0 where
  pub place : ℕ
  pub is : slice_get ns place ≡ Some name
  pub number : n ≡ number_at place

abbrev pub EachNumber : List Name → Scope → Type 0
EachNumber ns [] = Unit {0}
EachNumber ns (e ∷ es) = HasNumber ns e.0 e.1.index × EachNumber ns es

each_more : (ns : List Name) (sc : Scope) (e : Name × Meaning) → EachNumber ns sc → HasNumber ns e.0 e.1.index →
    EachNumber ns (sc ++ e ∷ [])
each_more ns [] e h k = (k, tt)
each_more ns (x ∷ sc) e h k = (h.0, each_more ns sc e h.1 k)

pub numbered : (ns : List Name) (n : ℕ) (xs : List Name) (sc : Scope) →
    ((i : ℕ) (x : Name) → slice_get xs i ≡ Some x → slice_get ns (n + i) ≡ Some x)
    → EachNumber ns sc → EachNumber ns (with_names n xs sc)
numbered ns n [] sc h k = k
numbered ns n (x ∷ xs) sc h k =
    let at : slice_get ns n ≡ Some x =
    ap (λ (i : ℕ). slice_get ns i) (let e : n ≡ n + 0 = omega arith in e) ∙ h 0 x refl in
    numbered ns (suc n) xs (with_name n x sc)
    (λ i y is. ap (λ (j : ℕ). slice_get ns j) (let e : suc n + i ≡ n + suc i = omega arith in e) ∙ h (suc i) y is)
    (each_more ns sc (x, meaning (number_at n)) k (record { place = n; is = at; number = refl }))

found_case : (ns : List Name) (e : Name × Meaning) (sc : Scope) (name : Name) (m : Meaning) (b : Bool) →
    (b ≡ true → name ≡ e.0) → HasNumber ns e.0 e.1.index
    → (in_scope sc name ≡ Some m → HasNumber ns name m.index) → (if b then Some e.1 else in_scope sc name) ≡ Some m →
    HasNumber ns name m.index
found_case ns e sc name m true eq h k is =
    let same : e.1 ≡ m = cc in
    record {
      place = h.place;
      is = h.is ∙ ap Some (sym (eq refl));
      number =
          ap (λ (x : Meaning). x.index) (sym same) ∙ h.number;
    }
found_case ns e sc name m false eq h k is = k is

found_number : (ns : List Name) (sc : Scope) (name : Name) (m : Meaning) → EachNumber ns sc →
    in_scope sc name ≡ Some m → HasNumber ns name m.index
found_number ns [] name m h is = absurd (cc)
found_number ns (e ∷ sc) name m h is =
    found_case ns e sc name m (bytes_eq name e.0) (bytes_eq-Decides name e.0).0 h.0 (found_number ns sc name m h.1) is

-- ---- prototypes

lacks_case : (p : Prototype) (ps : List Prototype) (s : Functions) (b : Bool) →
    (if b then lacking ps s else Some p) ≡ None → (b ≡ true) × (lacking ps s ≡ None)
lacks_case p ps s true is = (refl, is)
lacks_case p ps s false is = absurd (cc)

none_lacks : (ps : List Prototype) (s : Functions) → lacking ps s ≡ None → (i : ℕ) (p : Prototype) →
    slice_get ps i ≡ Some p → is_defined p.name s ≡ true
none_lacks [] s is i p at = absurd (cc)
none_lacks (q ∷ ps) s is zero p at = let same : q ≡ p = cc in
    ap (λ (x : Prototype). is_defined x.name s) (sym same) ∙ (lacks_case q ps s (is_defined q.name s) is).0
none_lacks (q ∷ ps) s is (suc i) p at = none_lacks ps s (lacks_case q ps s (is_defined q.name s) is).1 i p at

is_some_found : (ns : List Name) (sc : Scope) (name : Name) (o : Option Meaning) → EachNumber ns sc →
    in_scope sc name ≡ o → is_some o ≡ true → HasNumber ns name (number_by o)
is_some_found ns sc name None h is some = absurd (cc)
is_some_found ns sc name (Some m) h is some = found_number ns sc name m h is

-- each prototype has the number of a function
pub prototypes_numbered : (ns : List Name) (s : Functions) (sc : Scope) → s.defined ≡ sc ∷ [] → s.earlier ≡ sc ∷ [] →
    EachNumber ns sc → undefined s ≡ None
    → (i : ℕ) (p : Prototype) → slice_get s.prototypes i ≡ Some p → HasNumber ns p.name (number p.name s)
unfolding undefined
prototypes_numbered ns s sc one two h none i p at =
    let is : is_defined p.name s ≡ true = none_lacks s.prototypes s none i p at in
    let some : is_some (find (sc ∷ []) p.name) ≡ true = ap (λ (d : Scopes). is_some (find d p.name)) (sym one) ∙ is in
    subst (λ (d : Scopes). HasNumber ns p.name (number_by (find d p.name))) (sym two)
    (is_some_found ns sc p.name (in_scope sc p.name) h refl some)

-- ---- the names

abbrev pub keys : Scope → List Name
keys [] = []
keys (e ∷ es) = e.0 ∷ keys es

keys_more : (sc : Scope) (e : Name × Meaning) → keys (sc ++ e ∷ []) ≡ keys sc ++ e.0 ∷ []
keys_more [] e = refl
keys_more (x ∷ sc) e = ap (λ l. x.0 ∷ l) (keys_more sc e)

append_one : {A : Type 0} (xs : List A) (x : A) (ys : List A) → (xs ++ x ∷ []) ++ ys ≡ xs ++ x ∷ ys
append_one [] x ys = refl
append_one (z ∷ xs) x ys = ap (λ l. z ∷ l) (append_one xs x ys)

pub keys_of : (n : ℕ) (xs : List Name) (sc : Scope) → keys (with_names n xs sc) ≡ keys sc ++ xs
keys_of n [] sc = sym (append-nil (keys sc))
keys_of n (x ∷ xs) sc = keys_of (suc n) xs (with_name n x sc) ∙
    ap (λ l. l ++ xs) (keys_more sc (x, meaning (number_at n))) ∙ append_one (keys sc) x xs

-- a name that is found stands among the names
pub record Stands (name : Name) (xs : List Name) : Type 0 where
  pub place : ℕ
  pub is : slice_get xs place ≡ Some name

key_case : (e : Name × Meaning) (sc : Scope) (name : Name) (b : Bool) → (b ≡ true → name ≡ e.0) →
    is_some (if b then Some e.1 else in_scope sc name) ≡ true
    → (is_some (in_scope sc name) ≡ true → Stands name (keys sc)) → Stands name (e.0 ∷ keys sc)
key_case e sc name true same is rest = record { place = 0; is = ap Some (sym (same refl)) }
key_case e sc name false same is rest = let r : Stands name (keys sc) = rest is in
    record { place = suc r.place; is = r.is }

pub key_found : (sc : Scope) (name : Name) → is_some (in_scope sc name) ≡ true → Stands name (keys sc)
key_found [] name is = absurd (cc)
key_found (e ∷ sc) name is = key_case e sc name (bytes_eq name e.0) (bytes_eq-Decides name e.0).0 is (key_found sc name)
