-- The open scopes, cut from the declarations of all of them.
use Rattle.std.proofs.Common.{◌≡◌, ℕ, suc, ◌+◌, ◌-◌, ◌<◌, ◌≤◌, Bool, true, false, cond, List, [], ◌∷◌, ◌++◌, length}
use Rattle.std.proofs.Common.{Option, Some, None, is_some, refl, sym, ap, ◌∙◌, subst, arith, get_or, set, take, drop}
use Rattle.std.proofs.Common.{nat_eq, length-append, length-drop}
use Rattle.std.proofs.lemmas.List.{take-append-le, drop-append-le, take-append-drop, get_or_append_left, length-take-le}
use Rattle.std.proofs.lemmas.List.{drop-drop, take-map, drop-map, length-map, map_push, get_or_push}
use Rattle.std.proofs.lemmas.List.Elements.{All-head, All-tail, All-nil, All-push, All-pop, All-take, All-drop}
use Rattle.std.proofs.Math.Seq.{take-append_seam, take-length}
use Rattle.std.proofs.lemmas.List.Sums.{sum_by-cons, sum_by_push}
use Rattle.std.specs.Prelude.{sum}
use Rattle.std.specs.List.{All}
use Rattle.std.specs.Option.{option_or}
use Rattle.std.specs.Str.{bytes_eq}
use Rattle.std.specs.Cmp.Lexicographic.{bytes_decides, nat_list_eq_equiv}
use Rattle.check_scopes.specs.Kept.{named, cut, scopes, last_in, Once, IsNumbered, Kept}
use Rattle.name_numbers.specs.Numbers.{number_of, Grows}
use Rattle.check_scopes.specs.Scopes.{Name, Scope, Scopes, in_scope, find, innermost, declared}
use Rattle.check_scopes.specs.Stack.{Numbered, last_of}
use Rattle.check_scopes.specs.declared.names.Meaning.{Meaning}
use Rattle.name_numbers.proofs.Numbered.{at_number, stays}

-- ---- names in place of numbers

abbrev entry : List Name → ℕ × Meaning → Name × Meaning
entry names e = (get_or names e.0 [], e.1)

length_named : (names : List Name) (es : Numbered) → length (named names es) ≡ length es
length_named names es = length-map es (entry names)

pub named_more : (names more : List Name) (es : Numbered) → All (IsNumbered names) es →
    named (names ++ more) es ≡ named names es
named_more names more [] all = refl
named_more names more (e ∷ es) all =
    let at = at_number names (get_or names e.0 []) e.0 (All-head (IsNumbered names) e es all) in
    ap (λ n. (n, e.1) ∷ named (names ++ more) es) (get_or_append_left names more [] e.0 at.0)
    ∙ ap (λ l. (get_or names e.0 [], e.1) ∷ l)
    (named_more names more es (All-tail (IsNumbered names) e es all))

pub numbered_more : (names more : List Name) (es : Numbered) → All (IsNumbered names) es →
    All (IsNumbered (names ++ more)) es
numbered_more names more es all k d h =
    let e = get_or es k d in
    let is = all k d h in
    let at = at_number names (get_or names e.0 []) e.0 is in
    subst (λ n. number_of (names ++ more) n ≡ Some e.0) (sym (get_or_append_left names more [] e.0 at.0))
    (stays names more (get_or names e.0 []) e.0 is)

-- a declaration has a name just where it has its number
matches : (names : List Name) (e : ℕ × Meaning) (q : Name) (n : ℕ) → IsNumbered names e → number_of names q ≡ Some n →
    bytes_eq q (get_or names e.0 []) ≡ nat_eq e.0 n
matches names e q n is h = by (nat_eq e.0 n) refl (bytes_eq q (get_or names e.0 [])) refl
  where
    by : (b : Bool) → nat_eq e.0 n ≡ b → (c : Bool) → bytes_eq q (get_or names e.0 []) ≡ c → c ≡ b
    by true same true other = refl
    by false same false other = refl
    by true same false other =
        let number : e.0 ≡ n = grind (arith, same) in
        let name : q ≡ get_or names e.0 [] = sym (at_number names q n h).1 ∙ ap (λ i. get_or names i []) (sym number) in
        sym other ∙ ap (bytes_eq q) (sym name) ∙ nat_list_eq_equiv.refl q
    by false same true other =
        let name : q ≡ get_or names e.0 [] = (bytes_decides q (get_or names e.0 [])).0 other in
        let both : Some e.0 ≡ Some n = sym is ∙ ap (number_of names) (sym name) ∙ h in
        let number : e.0 ≡ n = cc in
        absurd (grind (arith, same, number))

pub last_named : (names : List Name) (es : Numbered) (q : Name) (n : ℕ) → All (IsNumbered names) es →
    number_of names q ≡ Some n → last_in (named names es) q ≡ last_of es n
last_named names [] q n all h = refl
last_named names (e ∷ es) q n all h =
    ap (λ o. option_or o (cond (bytes_eq q (get_or names e.0 [])) (Some e.1) None))
    (last_named names es q n (All-tail (IsNumbered names) e es all) h)
    ∙ ap (λ b. option_or (last_of es n) (cond b (Some e.1) None))
    (matches names e q n (All-head (IsNumbered names) e es all) h)

-- a name without a number isn't declared
pub not_named : (names : List Name) (es : Numbered) (q : Name) → All (IsNumbered names) es →
    number_of names q ≡ None → last_in (named names es) q ≡ None
not_named names [] q all h = refl
not_named names (e ∷ es) q all h =
    ap (λ o. option_or o (cond (bytes_eq q (get_or names e.0 [])) (Some e.1) None))
    (not_named names es q (All-tail (IsNumbered names) e es all) h)
    ∙ by (bytes_eq q (get_or names e.0 [])) refl
  where
    by : (b : Bool) → bytes_eq q (get_or names e.0 []) ≡ b → cond b (Some e.1) None ≡ None
    by false is = refl
    by true is =
        let name : q ≡ get_or names e.0 [] = (bytes_decides q (get_or names e.0 [])).0 is in
        let both : Some e.0 ≡ None =
        sym (All-head (IsNumbered names) e es all) ∙ ap (number_of names) (sym name) ∙ h in
        absurd cc

-- ---- the last declaration of a name

or_assoc : (a b c : Option Meaning) → option_or (option_or a b) c ≡ option_or a (option_or b c)
or_assoc None b c = refl
or_assoc (Some x) b c = refl

or_none : (o : Option Meaning) → option_or o None ≡ o
or_none None = refl
or_none (Some x) = refl

pub last_both : (s t : Scope) (q : Name) → last_in (s ++ t) q ≡ option_or (last_in t q) (last_in s q)
last_both [] t q = sym (or_none (last_in t q))
last_both (e ∷ s) t q =
    ap (λ o. option_or o (cond (bytes_eq q e.0) (Some e.1) None)) (last_both s t q) ∙
    or_assoc (last_in t q) (last_in s q) (cond (bytes_eq q e.0) (Some e.1) None)

or_else : (is : Bool) (what : Meaning) (rest more both : Option Meaning) → both ≡ option_or rest more →
    cond is (Some what) both ≡ option_or (cond is (Some what) rest) more
or_else true what rest more both h = refl
or_else false what rest more both h = h

pub in_both : (s more : Scope) (name : Name) →
    in_scope (s ++ more) name ≡ option_or (in_scope s name) (in_scope more name)
in_both [] more name = refl
in_both (e ∷ s) more name =
    or_else (bytes_eq name e.0) e.1 (in_scope s name) (in_scope more name) (in_scope (s ++ more) name)
    (in_both s more name)

-- a scope in which each name is declared once, and one name more
once_more : (s : Scope) (name : Name) (what : Meaning) → Once s → in_scope s name ≡ None → Once (s ++ (name, what) ∷ [])
once_more s name what once free q =
    in_both s ((name, what) ∷ []) q
    ∙ by (bytes_eq q name) refl
    ∙ ap (λ o. option_or (cond (bytes_eq q name) (Some what) None) o) (once q)
    ∙ sym (last_both s ((name, what) ∷ []) q)
  where
    by : (b : Bool) → bytes_eq q name ≡ b →
        option_or (in_scope s q) (cond b (Some what) None) ≡ option_or (cond b (Some what) None) (in_scope s q)
    by false e = or_none (in_scope s q)
    by true e = ap (λ o. option_or o (Some what)) (ap (in_scope s) ((bytes_decides q name).0 e) ∙ free)

sum_first : (n : ℕ) (ns : List ℕ) → sum (n ∷ ns) ≡ n + sum ns
sum_first n ns = sum_by-cons (λ x. x) n ns

-- what is found is what the last declaration says
pub found : (sizes : List ℕ) (es : Scope) (q : Name) → sum sizes ≡ length es → All Once (cut sizes es) →
    find (cut sizes es) q ≡ last_in es q
found [] [] q whole once = refl
found [] (e ∷ es) q whole once = absurd (omega (arith, whole))
found (size ∷ sizes) es q whole once =
    ap (λ o. option_or o (in_scope (take size es) q)) (found sizes (drop size es) q
    (omega (arith, whole, length-drop size es, sum_first size sizes))
    (All-tail Once (take size es) (cut sizes (drop size es)) once))
    ∙ ap (option_or (last_in (drop size es) q)) (All-head Once (take size es) (cut sizes (drop size es)) once q)
    ∙ sym (last_both (take size es) (drop size es) q)
    ∙ ap (λ l. last_in l q) (take-append-drop size es)

-- ---- cuts

pub cut_more : (sizes : List ℕ) (es fs : Scope) → sum sizes ≤ length es → cut sizes (es ++ fs) ≡ cut sizes es
cut_more [] es fs h = refl
cut_more (size ∷ sizes) es fs h =
    let fits : size ≤ length es = omega (arith, h, sum_first size sizes) in
    ap (λ s. s ∷ cut sizes (drop size (es ++ fs))) (take-append-le size es fs fits)
    ∙ ap (λ l. take size es ∷ cut sizes l) (drop-append-le size es fs fits)
    ∙ ap (λ l. take size es ∷ l) (cut_more sizes (drop size es) fs
    (omega (arith, h, length-drop size es, sum_first size sizes)))

pub cut_last : (sizes : List ℕ) (size : ℕ) (es : Scope) →
    cut (sizes ++ size ∷ []) es ≡ cut sizes es ++ take size (drop (sum sizes) es) ∷ []
cut_last [] size es = refl
cut_last (n ∷ sizes) size es =
    ap (λ l. take n es ∷ l) (cut_last sizes size (drop n es))
    ∙ ap (λ l. take n es ∷ cut sizes (drop n es) ++ take size l ∷ [])
    (drop-drop (sum sizes) n es ∙ ap (λ k. drop k es) (sym (sum_first n sizes)))

pub length_cut : (sizes : List ℕ) (es : Scope) → length (cut sizes es) ≡ length sizes
length_cut [] es = refl
length_cut (n ∷ sizes) es = ap suc (length_cut sizes (drop n es))

-- ---- the last of a list

at_end : {X : Type 0} (xs : List X) (y : X) → length (xs ++ y ∷ []) - 1 ≡ length xs
at_end xs y = omega (arith, length-append xs (y ∷ []))

pub last_item : {X : Type 0} (xs : List X) (y d : X) → get_or (xs ++ y ∷ []) (length (xs ++ y ∷ []) - 1) d ≡ y
last_item xs y d = get_or_push xs y d (length (xs ++ y ∷ []) - 1) (sym (at_end xs y))

pub last_set : {X : Type 0} (xs : List X) (y z : X) → set (xs ++ y ∷ []) (length (xs ++ y ∷ []) - 1) z ≡ xs ++ z ∷ []
last_set {X = X} xs y z = ap (λ i. set (xs ++ y ∷ []) i z) (at_end xs y) ∙ at xs
  where
    at : (l : List X) → set (l ++ y ∷ []) (length l) z ≡ l ++ z ∷ []
    at [] = refl
    at (x ∷ l) = ap (λ r. x ∷ r) (at l)

pub all_but_last : {X : Type 0} (xs : List X) (y : X) → take (length (xs ++ y ∷ []) - 1) (xs ++ y ∷ []) ≡ xs
all_but_last xs y = ap (λ i. take i (xs ++ y ∷ [])) (at_end xs y) ∙ take-append_seam xs (y ∷ [])

pub apart : (ns : List ℕ) → 0 < length ns → (init : List ℕ) × (n : ℕ) × (ns ≡ init ++ n ∷ [])
apart [] h = absurd (omega (arith, h))
apart (n ∷ []) h = ([], n, refl)
apart (n ∷ m ∷ ns) h =
    let rest = apart (m ∷ ns) (omega arith) in
    (n ∷ rest.0, rest.1, ap (λ l. n ∷ l) rest.2)

-- ---- what keeps the scopes

pub none_kept : Kept [] [] (0 ∷ [])
none_kept = record {
  some = omega arith;
  whole = refl;
  numbered = All-nil (IsNumbered []);
  once = All-push Once [] [] (All-nil Once) (λ q. refl);
}

module _ (names : List Name) (es : Numbered) (sizes : List ℕ) (kept : Kept names es sizes) where
  -- more names
  pub same_scopes : (more : List Name) → scopes (names ++ more) es sizes ≡ scopes names es sizes
  same_scopes more = ap (cut sizes) (named_more names more es kept.numbered)

  pub more_kept : (more : List Name) → Kept (names ++ more) es sizes
  more_kept more = record {
    some = kept.some;
    whole = kept.whole;
    numbered = numbered_more names more es kept.numbered;
    once = subst (All Once) (sym (same_scopes more)) kept.once;
  }

  -- a scope more
  pub opened : scopes names es (sizes ++ 0 ∷ []) ≡ scopes names es sizes ++ [] ∷ []
  opened = cut_last sizes 0 (named names es)

  pub open_kept : Kept names es (sizes ++ 0 ∷ [])
  open_kept = record {
    some = omega (arith, length-append sizes (0 ∷ []));
    whole = sum_by_push (λ x. x) sizes 0 ∙ omega (arith, kept.whole);
    numbered = kept.numbered;
    once = subst (All Once) (sym opened) (All-push Once (scopes names es sizes) [] kept.once (λ q. refl));
  }

  all_named : sum sizes ≡ length (named names es)
  all_named = kept.whole ∙ sym (length_named names es)

  -- a name is found by its number
  pub found_number : (q : Name) (n : ℕ) → number_of names q ≡ Some n → find (scopes names es sizes) q ≡ last_of es n
  found_number q n h =
      found sizes (named names es) q all_named kept.once ∙ last_named names es q n kept.numbered h

  pub found_none : (q : Name) → number_of names q ≡ None → find (scopes names es sizes) q ≡ None
  found_none q h = found sizes (named names es) q all_named kept.once ∙ not_named names es q kept.numbered h

module _ (names : List Name) (es : Numbered) (sizes : List ℕ) (size : ℕ)
    (kept : Kept names es (sizes ++ size ∷ [])) where
  abbrev ss : Scopes
  ss = scopes names es (sizes ++ size ∷ [])

  abbrev outer : Scopes
  outer = scopes names es sizes

  abbrev inner : Scope
  inner = drop (sum sizes) (named names es)

  pub sum_is : sum sizes + size ≡ length es
  sum_is = sym (sum_by_push (λ x. x) sizes size) ∙ kept.whole

  length_inner : length inner ≡ size
  length_inner = omega (arith, sum_is, length-drop (sum sizes) (named names es), length_named names es)

  ends : ss ≡ outer ++ inner ∷ []
  ends =
      cut_last sizes size (named names es) ∙
      ap (λ s. outer ++ s ∷ []) (ap (λ n. take n inner) (sym length_inner) ∙ take-length inner)

  each_once : All Once outer × Once inner
  each_once = All-pop Once ss outer (Some inner) ends kept.once

  -- the innermost scope less
  pub closed : scopes names (take (sum sizes) es) sizes ≡ take (length ss - 1) ss
  closed =
      ap (cut sizes) (sym (take-map (entry names) (sum sizes) es))
      ∙ sym (cut_more sizes (take (sum sizes) (named names es)) inner
      (omega (arith, length-take-le (sum sizes) (named names es) (omega (arith, sum_is, length_named names es)))))
      ∙ ap (cut sizes) (take-append-drop (sum sizes) (named names es))
      ∙ sym (ap (λ l. take (length l - 1) l) ends ∙ all_but_last outer inner)

  pub close_kept : 0 < length sizes → Kept names (take (sum sizes) es) sizes
  close_kept some = record {
    some = some;
    whole = sym (length-take-le (sum sizes) es (omega (arith, sum_is)));
    numbered = All-take (IsNumbered names) (sum sizes) es kept.numbered;
    once = subst (All Once) (sym (closed ∙ ap (λ l. take (length l - 1) l) ends ∙ all_but_last outer inner))
        each_once.0;
  }

  innermost_is : innermost ss ≡ inner
  innermost_is = ap (λ l. get_or l (length l - 1) []) ends ∙ last_item outer inner []

  module _ (q : Name) (n : ℕ) (is : number_of names q ≡ Some n) where
    -- whether the innermost scope has a name
    pub in_innermost : in_scope (innermost ss) q ≡ last_of (drop (sum sizes) es) n
    in_innermost =
        ap (λ s. in_scope s q) innermost_is
        ∙ each_once.1 q
        ∙ ap (λ s. last_in s q) (drop-map (entry names) (sum sizes) es)
        ∙ last_named names (drop (sum sizes) es) q n (All-drop (IsNumbered names) (sum sizes) es kept.numbered) is

    -- a declaration more
    module _ (what : Meaning) where
      abbrev es' : Numbered
      es' = es ++ (n, what) ∷ []

      named_is : named names es' ≡ named names es ++ (q, what) ∷ []
      named_is =
          map_push (entry names) es (n, what) ∙
          ap (λ name. named names es ++ (name, what) ∷ []) (at_number names q n is).1

      fits : sum sizes ≤ length (named names es)
      fits = omega (arith, sum_is, length_named names es)

      longer : scopes names es' (sizes ++ (size + 1) ∷ []) ≡ outer ++ (inner ++ (q, what) ∷ []) ∷ []
      longer =
          ap (cut (sizes ++ (size + 1) ∷ [])) named_is
          ∙ cut_last sizes (size + 1) (named names es ++ (q, what) ∷ [])
          ∙ ap (λ l. l ++ take (size + 1) (drop (sum sizes) (named names es ++ (q, what) ∷ [])) ∷ [])
          (cut_more sizes (named names es) ((q, what) ∷ []) fits)
          ∙ ap (λ l. outer ++ take (size + 1) l ∷ [])
          (drop-append-le (sum sizes) (named names es) ((q, what) ∷ []) fits)
          ∙ ap (λ l. outer ++ l ∷ []) (ap (λ k. take k (inner ++ (q, what) ∷ []))
          (omega (arith, length_inner, length-append inner ((q, what) ∷ []))) ∙ take-length (inner ++ (q, what) ∷ []))

      pub declared_is : scopes names es' (sizes ++ (size + 1) ∷ []) ≡ declared ss q what
      declared_is =
          longer ∙ sym (ap (λ l. set l (length l - 1) (innermost l ++ (q, what) ∷ [])) ends ∙
          last_set outer inner (innermost (outer ++ inner ∷ []) ++ (q, what) ∷ []) ∙
          ap (λ s. outer ++ (s ++ (q, what) ∷ []) ∷ []) (last_item outer inner []))

      pub declared_kept : last_of (drop (sum sizes) es) n ≡ None → Kept names es' (sizes ++ (size + 1) ∷ [])
      declared_kept free = record {
        some = omega (arith, length-append sizes ((size + 1) ∷ []));
        whole = sum_by_push (λ x. x) sizes (size + 1) ∙ omega (arith, sum_is, length-append es ((n, what) ∷ []));
        numbered = All-push (IsNumbered names) es (n, what) kept.numbered
            (ap (number_of names) (at_number names q n is).1 ∙ is);
        once = subst (All Once) (sym longer) (All-push Once outer (inner ++ (q, what) ∷ []) each_once.0
            (once_more inner q what each_once.1 (ap (λ s. in_scope s q) (sym innermost_is) ∙ in_innermost ∙ free)));
      }

-- ---- steps

pub none_of : (o : Option Meaning) → is_some o ≡ false → o ≡ None
none_of None h = refl
none_of (Some x) h = cc

-- more names
module _ (names names' : List Name) (es : Numbered) (sizes : List ℕ) (kept : Kept names es sizes)
    (grows : Grows names names') where
  pub grown_kept : Kept names' es sizes
  grown_kept = subst (λ n. Kept n es sizes) (sym grows.1) (more_kept names es sizes kept grows.0)

  pub grown_same : scopes names' es sizes ≡ scopes names es sizes
  grown_same = ap (λ n. scopes n es sizes) grows.1 ∙ same_scopes names es sizes kept grows.0

-- where the innermost scope has its size, and where its declarations begin
pub record Innermost (es : Numbered) (sizes : List ℕ) (at size start : ℕ) : Type 0 where
  pub last : at ≡ length sizes - 1
  pub there : size ≡ get_or sizes at size
  pub begins : start ≡ length es - size

split : (sizes : List ℕ) (at size : ℕ) → 0 < length sizes → at ≡ length sizes - 1 → size ≡ get_or sizes at size →
    (init : List ℕ) × (sizes ≡ init ++ size ∷ [])
split sizes at size some last there =
    let it = apart sizes some in
    let same : it.1 ≡ size =
    sym (last_item it.0 it.1 size) ∙ ap (λ l. get_or l (length l - 1) size) (sym it.2) ∙
    ap (λ i. get_or sizes i size) (sym last) ∙ sym there in
    (it.0, it.2 ∙ ap (λ n. it.0 ++ n ∷ []) same)

module _ (names : List Name) {es : Numbered} {sizes : List ℕ} {at size start : ℕ}
    (it : Innermost es sizes at size start) (kept : Kept names es sizes) where
  outers : (init : List ℕ) × (sizes ≡ init ++ size ∷ [])
  outers = split sizes at size kept.some it.last it.there

  apart_kept : Kept names es (outers.0 ++ size ∷ [])
  apart_kept = subst (Kept names es) outers.1 kept

  start_is : sum outers.0 ≡ start
  start_is = omega (arith, sum_is names es outers.0 size apart_kept, it.begins)

  -- a scope has no more declarations than all
  pub size_within : size ≤ length es
  size_within = omega (arith, sum_is names es outers.0 size apart_kept)

  last_less : take (length sizes - 1) sizes ≡ outers.0
  last_less = ap (λ l. take (length l - 1) l) outers.1 ∙ all_but_last outers.0 size

  pub close_last : scopes names (take start es) (take (length sizes - 1) sizes) ≡
      take (length (scopes names es sizes) - 1) (scopes names es sizes)
  close_last =
      ap (scopes names (take start es)) last_less
      ∙ ap (λ k. scopes names (take k es) outers.0) (sym start_is)
      ∙ closed names es outers.0 size apart_kept
      ∙ ap (λ l. take (length (scopes names es l) - 1) (scopes names es l)) (sym outers.1)

  pub close_last_kept : 1 < length sizes → Kept names (take start es) (take (length sizes - 1) sizes)
  close_last_kept some =
      subst (Kept names (take start es)) (sym last_less) (subst (λ k. Kept names (take k es) outers.0) start_is
      (close_kept names es outers.0 size apart_kept
      (omega (arith, some, ap length outers.1, length-append outers.0 (size ∷ [])))))

  module _ (q : Name) (n : ℕ) (is : number_of names q ≡ Some n) where
    pub in_last : in_scope (innermost (scopes names es sizes)) q ≡ last_of (drop start es) n
    in_last =
        ap (λ l. in_scope (innermost (scopes names es l)) q) outers.1
        ∙ in_innermost names es outers.0 size apart_kept q n is
        ∙ ap (λ k. last_of (drop k es) n) start_is

    module _ (what : Meaning) (size' : ℕ) (more : size' ≡ size + 1) where
      more_last : set sizes at size' ≡ outers.0 ++ (size + 1) ∷ []
      more_last =
          ap (set sizes at) more
          ∙ ap (λ i. set sizes i (size + 1)) it.last
          ∙ ap (λ l. set l (length l - 1) (size + 1)) outers.1
          ∙ last_set outers.0 size (size + 1)

      pub declare_last : scopes names (es ++ (n, what) ∷ []) (set sizes at size') ≡
          declared (scopes names es sizes) q what
      declare_last =
          ap (scopes names (es ++ (n, what) ∷ [])) more_last
          ∙ declared_is names es outers.0 size apart_kept q n is what
          ∙ ap (λ l. declared (scopes names es l) q what) (sym outers.1)

      pub declare_last_kept : last_of (drop start es) n ≡ None →
          Kept names (es ++ (n, what) ∷ []) (set sizes at size')
      declare_last_kept free =
          subst (Kept names (es ++ (n, what) ∷ [])) (sym more_last)
          (declared_kept names es outers.0 size apart_kept q n is what
          (ap (λ k. last_of (drop k es) n) start_is ∙ free))
