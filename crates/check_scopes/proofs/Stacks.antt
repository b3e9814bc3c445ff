-- A stack of declarations by numbers: the last of each, a declaration more, and one less.
use Rattle.std.proofs.Common.{◌≡◌, ℕ, zero, suc, ◌-◌, ◌<◌, ◌≤◌, Bool, true, false, cond, List, [], ◌∷◌, ◌++◌, length}
use Rattle.std.proofs.Common.{Option, Some, None, is_some, refl, sym, ap, ◌∙◌, subst, arith, get_or, set, take, drop}
use Rattle.std.proofs.Common.{nat_eq, nat_le, ◌⊎◌, inl, inr}
use Rattle.std.proofs.lemmas.List.{take-append-le, take-take, get_or-set_same, get_or-set_other, get_or_past}
use Rattle.std.proofs.lemmas.List.{length-take-le, length-map, map_push, take_all}
use Rattle.std.proofs.Math.Seq.{take-append_seam}
use Rattle.std.specs.Prelude.{slice_get}
use Rattle.std.specs.Option.{option_map, option_or}
use Rattle.check_scopes.specs.Stack.{Numbered, last_of, last_place, said, Linked}
use Rattle.check_scopes.specs.declared.names.Declared.{Declared}
use Rattle.check_scopes.specs.declared.names.Meaning.{Meaning}

-- a place among the declarations behind one, or else that one
abbrev behind : Option ℕ → Bool → Option ℕ
behind place here = option_or (option_map suc place) (cond here (Some zero) None)

-- ---- lists of declarations

abbrev pub entry : Declared → ℕ × Meaning
entry d = (d.number, d.what)

pub length_said : (ds : List Declared) → length (said ds) ≡ length ds
length_said ds = length-map ds entry

-- a place stays where a declaration more stands behind it
get_left : (ds : List Declared) (e : Declared) (p : ℕ) → p < length ds → slice_get (ds ++ e ∷ []) p ≡ slice_get ds p
get_left [] e p h = absurd (omega (arith, h))
get_left (d ∷ ds) e zero h = refl
get_left (d ∷ ds) e (suc p) h = get_left ds e p (omega (arith, h))

get_last : (ds : List Declared) (e : Declared) → slice_get (ds ++ e ∷ []) (length ds) ≡ Some e
get_last [] e = refl
get_last (d ∷ ds) e = get_last ds e

get_within : (ds : List Declared) (p : ℕ) (d : Declared) → slice_get ds p ≡ Some d → p < length ds
get_within [] p d h = absurd cc
get_within (e ∷ ds) zero d h = omega arith
get_within (e ∷ ds) (suc p) d h = omega (arith, get_within ds p d h)

-- ---- the last of a number

-- it stands at its place
pub record Stands (es : Numbered) (n place : ℕ) : Type 0 where
  pub within : place < length es
  pub what : Meaning
  pub there : slice_get es place ≡ Some (n, what)
  pub last : last_of es n ≡ Some what

is_same : (i j : ℕ) → nat_eq i j ≡ true → i ≡ j
is_same i j h = grind (arith)

pub none : (es : Numbered) (n : ℕ) → last_place es n ≡ None → last_of es n ≡ None
none [] n h = refl
none (e ∷ es) n h = by (none es n) (last_place es n) (nat_eq e.0 n) refl h
  where
    by : (last_place es n ≡ None → last_of es n ≡ None) → (o : Option ℕ) (b : Bool) → last_place es n ≡ o →
        behind o b ≡ None →
        option_or (last_of es n) (cond b (Some e.1) None) ≡ None
    by more (Some p) b is h = absurd cc
    by more None true is h = absurd cc
    by more None false is h = ap (λ o. option_or o None) (more is)

pub stands : (es : Numbered) (n place : ℕ) → last_place es n ≡ Some place → Stands es n place
stands [] n place h = absurd cc
stands (e ∷ es) n place h = by (stands es n) (last_place es n) (nat_eq e.0 n) refl refl h
  where
    by : ((p : ℕ) → last_place es n ≡ Some p → Stands es n p) → (o : Option ℕ) (b : Bool) → last_place es n ≡ o →
        nat_eq e.0 n ≡ b → behind o b ≡ Some place →
        Stands (e ∷ es) n place
    by more (Some p) b is same h =
        let it = more p is in
        let at : suc p ≡ place = cc in
        subst (λ q. Stands (e ∷ es) n q) at record {
          within = omega (arith, it.within);
          what = it.what;
          there = it.there;
          last = ap (λ o. option_or o (cond (nat_eq e.0 n) (Some e.1) None)) it.last;
        }
    by more None true is same h =
        let at : zero ≡ place = cc in
        subst (λ q. Stands (e ∷ es) n q) at record {
          within = omega arith;
          what = e.1;
          there = ap (λ m. Some (m, e.1)) (is_same e.0 n same);
          last = ap (λ o. option_or o (cond (nat_eq e.0 n) (Some e.1) None)) (none es n is) ∙
              ap (λ b. cond b (Some e.1) None) same;
        }
    by more None false is same h = absurd cc

-- whether it stands at a place or behind it
pub none_from : (k : ℕ) (es : Numbered) (n : ℕ) → last_place es n ≡ None → last_of (drop k es) n ≡ None
none_from zero es n h = none es n h
none_from (suc k) [] n h = refl
none_from (suc k) (e ∷ es) n h = by (none_from k es n) (last_place es n) (nat_eq e.0 n) refl h
  where
    by : (last_place es n ≡ None → last_of (drop k es) n ≡ None) → (o : Option ℕ) (b : Bool) →
        last_place es n ≡ o → behind o b ≡ None → last_of (drop k es) n ≡ None
    by more (Some p) b is h = absurd cc
    by more None true is h = absurd cc
    by more None false is h = more is

pub some_from : (k : ℕ) (es : Numbered) (n place : ℕ) → last_place es n ≡ Some place →
    is_some (last_of (drop k es) n) ≡ nat_le k place
some_from zero es n place h = ap is_some (stands es n place h).last ∙ grind arith
some_from (suc k) [] n place h = absurd cc
some_from (suc k) (e ∷ es) n place h = by (some_from k es n) (last_place es n) (nat_eq e.0 n) refl h
  where
    by : ((p : ℕ) → last_place es n ≡ Some p → is_some (last_of (drop k es) n) ≡ nat_le k p) →
        (o : Option ℕ) (b : Bool) → last_place es n ≡ o → behind o b ≡ Some place →
        is_some (last_of (drop k es) n) ≡ nat_le (suc k) place
    by more (Some p) b is h =
        let at : suc p ≡ place = cc in
        more p is ∙ grind (arith, at)
    by more None true is h =
        let at : zero ≡ place = cc in
        ap is_some (none_from k es n is) ∙ grind (arith, at)
    by more None false is h = absurd cc

-- what is read at its place
said_at : (ds : List Declared) (p : ℕ) (d : Declared) → p < length ds → d ≡ get_or ds p d →
    slice_get (said ds) p ≡ Some (d.number, d.what)
said_at [] p d h e = absurd (omega (arith, h))
said_at (x ∷ ds) zero d h e = ap (λ y. Some (y.number, y.what)) (sym e)
said_at (x ∷ ds) (suc p) d h e = said_at ds p d (omega (arith, h)) e

same_what : (m n : ℕ) (x y : Meaning) → ◌≡◌ {A = Option (ℕ × Meaning)} (Some (m, x)) (Some (n, y)) → x ≡ y
same_what m n x y h =
    let both : ◌≡◌ {A = ℕ × Meaning} (m, x) (n, y) = cc in
    ap (λ e. e.1) both

pub read : (ds : List Declared) (n p : ℕ) (d : Declared) → last_place (said ds) n ≡ Some p → d ≡ get_or ds p d →
    Some d.what ≡ last_of (said ds) n
read ds n p d h e =
    let it = stands (said ds) n p h in
    ap Some (same_what d.number n d.what it.what
    (sym (said_at ds p d (omega (arith, it.within, length_said ds)) e) ∙ it.there))
    ∙ sym it.last

-- a declaration more
pub last_more : (es : Numbered) (n : ℕ) (what : Meaning) (m : ℕ) →
    last_place (es ++ (n, what) ∷ []) m ≡ cond (nat_eq n m) (Some (length es)) (last_place es m)
last_more [] n what m = by (nat_eq n m)
  where
    by : (b : Bool) → behind None b ≡ cond b (Some zero) None
    by true = refl
    by false = refl
last_more (e ∷ es) n what m =
    ap (λ o. behind o (nat_eq e.0 m)) (last_more es n what m) ∙ by (nat_eq n m)
  where
    by : (b : Bool) → behind (cond b (Some (length es)) (last_place es m)) (nat_eq e.0 m) ≡
        cond b (Some (suc (length es))) (behind (last_place es m) (nat_eq e.0 m))
    by true = refl
    by false = refl

-- ---- heads

is_other : (i j : ℕ) → nat_eq i j ≡ false → j ≡ i → ⊥
is_other i j h e = grind (arith)

pub no_heads : Linked [] []
no_heads = record { heads = λ n. get_or_past [] n None (omega arith); hides = λ place d h. absurd cc }

-- which declaration of a longer list stands at a place
which : (ds : List Declared) (e : Declared) (p : ℕ) (d : Declared) → slice_get (ds ++ e ∷ []) p ≡ Some d →
    ((p < length ds) × (slice_get ds p ≡ Some d)) ⊎ ((p ≡ length ds) × (e ≡ d))
which [] e zero d h = inr (refl, cc)
which [] e (suc p) d h = absurd cc
which (x ∷ ds) e zero d h = inl (omega arith, h)
which (x ∷ ds) e (suc p) d h = elim (which ds e p d h) [
  | inl it ↦ inl (omega (arith, it.0), it.1)
  | inr it ↦ inr (omega (arith, it.0), it.1)
]

module _ (ds : List Declared) (heads : List (Option ℕ)) (linked : Linked ds heads) (d : Declared) where
  pub pushed : (heads' : List (Option ℕ)) → d.number < length heads' →
      ((n : ℕ) → get_or heads' n None ≡ get_or heads n None) → d.hides ≡ get_or heads' d.number None →
      Linked (ds ++ d ∷ []) (set heads' d.number (Some (length ds)))
  pushed heads' room same hides = record {
    heads = λ n. head n (nat_eq d.number n) refl;
    hides = λ place e h. hidden place e (which ds d place e h);
  }
    where
      head : (n : ℕ) (b : Bool) → nat_eq d.number n ≡ b →
          get_or (set heads' d.number (Some (length ds))) n None ≡ last_place (said (ds ++ d ∷ [])) n
      head n true e =
          let is : d.number ≡ n = is_same d.number n e in
          ap (λ m. get_or (set heads' d.number (Some (length ds))) m None) (sym is)
          ∙ get_or-set_same heads' d.number (Some (length ds)) None room
          ∙ ap Some (sym (length_said ds))
          ∙ sym (ap (λ l. last_place l n) (map_push entry ds d) ∙ last_more (said ds) d.number d.what n ∙
          ap (λ b. cond b (Some (length (said ds))) (last_place (said ds) n)) e)
      head n false e =
          get_or-set_other heads' d.number n (Some (length ds)) None (is_other d.number n e)
          ∙ same n
          ∙ linked.heads n
          ∙ sym (ap (λ l. last_place l n) (map_push entry ds d) ∙ last_more (said ds) d.number d.what n ∙
          ap (λ b. cond b (Some (length (said ds))) (last_place (said ds) n)) e)

      hidden : (place : ℕ) (e : Declared) →
          ((place < length ds) × (slice_get ds place ≡ Some e)) ⊎ ((place ≡ length ds) × (d ≡ e)) →
          e.hides ≡ last_place (said (take place (ds ++ d ∷ []))) e.number
      hidden place e (inl it) =
          linked.hides place e it.1 ∙
          ap (λ l. last_place (said l) e.number) (sym (take-append-le place ds (d ∷ []) (omega (arith, it.0))))
      hidden place e (inr it) =
          subst (λ x. x.hides ≡ last_place (said (take place (ds ++ d ∷ []))) x.number) it.1
          (hides ∙ same d.number ∙ linked.heads d.number ∙
          ap (λ l. last_place (said l) d.number) (sym (ap (λ n. take n (ds ++ d ∷ [])) it.0 ∙
          take-append_seam ds (d ∷ []))))

module _ (ds : List Declared) (heads : List (Option ℕ)) (d : Declared) (linked : Linked (ds ++ d ∷ []) heads) where
  last_head : get_or heads d.number None ≡ Some (length (said ds))
  last_head =
      linked.heads d.number ∙ ap (λ l. last_place l d.number) (map_push entry ds d) ∙
      last_more (said ds) d.number d.what d.number ∙ same (nat_eq d.number d.number) (grind arith)
    where
      same : (b : Bool) → b ≡ true →
          cond b (Some (length (said ds))) (last_place (said ds) d.number) ≡ Some (length (said ds))
      same true h = refl
      same false h = absurd cc

  -- the number of a declaration has a head
  pub has_head : d.number < length heads
  has_head = by (nat_le (length heads) d.number) refl
    where
      by : (b : Bool) → nat_le (length heads) d.number ≡ b → d.number < length heads
      by true h =
          let none : get_or heads d.number None ≡ None = get_or_past heads d.number None (grind (arith, h)) in
          let some : Some (length (said ds)) ≡ None = sym last_head ∙ none in
          absurd cc
      by false h = grind (arith, h)

  pub popped : Linked ds (set heads d.number d.hides)
  popped = record {
    heads = λ n. head n (nat_eq d.number n) refl;
    hides = λ place e h.
        let within : place < length ds = get_within ds place e h in
        linked.hides place e (get_left ds d place within ∙ h) ∙
        ap (λ l. last_place (said l) e.number) (take-append-le place ds (d ∷ []) (omega (arith, within)));
  }
    where
      head : (n : ℕ) (b : Bool) → nat_eq d.number n ≡ b →
          get_or (set heads d.number d.hides) n None ≡ last_place (said ds) n
      head n true e =
          let is : d.number ≡ n = is_same d.number n e in
          subst (λ m. get_or (set heads d.number d.hides) m None ≡ last_place (said ds) m) is
          (get_or-set_same heads d.number d.hides None has_head
          ∙ linked.hides (length ds) d (get_last ds d)
          ∙ ap (λ l. last_place (said l) d.number) (take-append_seam ds (d ∷ [])))
      head n false e =
          get_or-set_other heads d.number n d.hides None (is_other d.number n e)
          ∙ linked.heads n
          ∙ ap (λ l. last_place l n) (map_push entry ds d)
          ∙ last_more (said ds) d.number d.what n
          ∙ ap (λ b. cond b (Some (length (said ds))) (last_place (said ds) n)) e

-- room for a head
pub no_head_more : (heads : List (Option ℕ)) (n : ℕ) → get_or (heads ++ None ∷ []) n None ≡ get_or heads n None
no_head_more [] zero = refl
no_head_more [] (suc n) = refl
no_head_more (h ∷ heads) zero = refl
no_head_more (h ∷ heads) (suc n) = no_head_more heads n

-- ---- a list from the end

pub take_less : {X : Type 0} (k : ℕ) (xs : List X) → k < length xs → take k (take (length xs - 1) xs) ≡ take k xs
take_less k xs h = take-take k (length xs - 1) xs (omega (arith, h))

pub one_less : {X : Type 0} (xs : List X) → length (take (length xs - 1) xs) ≡ length xs - 1
one_less xs = length-take-le (length xs - 1) xs (omega arith)

pub ruleset shorter = (take_less, one_less, take_all)
