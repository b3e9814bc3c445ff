-- Facts on lists of keepers.
use Rattle.std.proofs.Common.{ℕ, suc, ◌≡◌, ◌≤◌, inl, inr, Bool, true, false, cond, ltb, leb, List, [], ◌∷◌, length}
use Rattle.std.proofs.Common.{Some, None, refl, sym, ap, subst, arith}
use Rattle.std.proofs.lemmas.Bool.Decides.{nat_tests}
use Rattle.linear_scan_spec.specs.Scan.{Keeper, alive, insert, last_of, but_last}
use Rattle.linear_scan_spec.specs.Lists.{In, Each, Pairs}

pub Each-weaker : {X : Type 0} (P Q : X → Type 0) → ((x : X) → P x → Q x) → (xs : List X)
    → Each P xs → Each Q xs
Each-weaker P Q f [] h = tt
Each-weaker P Q f (x ∷ xs) h = (f x h.0, Each-weaker P Q f xs h.1)

pub Each-both : {X : Type 0} (P Q R : X → Type 0) → ((x : X) → P x → Q x → R x) → (xs : List X)
    → Each P xs → Each Q xs → Each R xs
Each-both P Q R f [] g h = tt
Each-both P Q R f (x ∷ xs) g h = (f x g.0 h.0, Each-both P Q R f xs g.1 h.1)

pub Each-In : {X : Type 0} (P : X → Type 0) (xs : List X) → Each P xs → (x : X) → In x xs → P x
Each-In P [] h x i = absurd i
Each-In P (y ∷ ys) h x (inl e) = subst P (sym e) h.0
Each-In P (y ∷ ys) h x (inr i) = Each-In P ys h.1 x i

pub Each-alive : (P : Keeper → Type 0) (s : ℕ) (ks : List Keeper) → Each P ks → Each P (alive s ks)
Each-alive P s [] h = tt
Each-alive P s (k ∷ ks) h = by-case (leb s k.interval.end) (Each-alive P s ks h.1)
  where
    by-case : (b : Bool) → Each P (alive s ks) → Each P (cond b (k ∷ alive s ks) (alive s ks))
    by-case true r = (h.0, r)
    by-case false r = r

pub alive-ends : (s : ℕ) (ks : List Keeper) → Each (λ k. s ≤ k.interval.end) (alive s ks)
alive-ends s [] = tt
alive-ends s (k ∷ ks) = by-case (leb s k.interval.end) refl (alive-ends s ks)
  where
    by-case : (b : Bool) → leb s k.interval.end ≡ b → Each (λ u. s ≤ u.interval.end) (alive s ks)
        → Each (λ u. s ≤ u.interval.end) (cond b (k ∷ alive s ks) (alive s ks))
    by-case true e r = (grind (arith, nat_tests), r)
    by-case false e r = r

pub Each-insert : (P : Keeper → Type 0) (k : Keeper) (ks : List Keeper) → P k → Each P ks
    → Each P (insert k ks)
Each-insert P k [] p h = (p, tt)
Each-insert P k (u ∷ us) p h =
    by-case (ltb k.interval.end u.interval.end) (Each-insert P k us p h.1)
  where
    by-case : (b : Bool) → Each P (insert k us) → Each P (cond b (k ∷ u ∷ us) (u ∷ insert k us))
    by-case true r = (p, h)
    by-case false r = (h.0, r)

pub Each-but_last : (P : Keeper → Type 0) (ks : List Keeper) → Each P ks → Each P (but_last ks)
Each-but_last P [] h = tt
Each-but_last P (k ∷ []) h = tt
Each-but_last P (k ∷ u ∷ us) h = (h.0, Each-but_last P (u ∷ us) h.1)

pub Each-last : (P : Keeper → Type 0) (ks : List Keeper) → Each P ks → (w : Keeper) → last_of ks
    ≡ Some w → P w
Each-last P [] h w e = absurd (cc)
Each-last P (k ∷ []) h w e = let kw : k ≡ w = cc in subst P kw h.0
Each-last P (k ∷ u ∷ us) h w e = Each-last P (u ∷ us) h.1 w e

pub Pairs-alive : (R : Keeper → Keeper → Type 0) (s : ℕ) (ks : List Keeper) → Pairs R ks
    → Pairs R (alive s ks)
Pairs-alive R s [] h = tt
Pairs-alive R s (k ∷ ks) h =
    by-case (leb s k.interval.end) (Each-alive (R k) s ks h.0) (Pairs-alive R s ks h.1)
  where
    by-case : (b : Bool) → Each (R k) (alive s ks) → Pairs R (alive s ks)
        → Pairs R (cond b (k ∷ alive s ks) (alive s ks))
    by-case true g r = (g, r)
    by-case false g r = r

pub Pairs-but_last : (R : Keeper → Keeper → Type 0) (ks : List Keeper) → Pairs R ks
    → Pairs R (but_last ks)
Pairs-but_last R [] h = tt
Pairs-but_last R (k ∷ []) h = tt
Pairs-but_last R (k ∷ u ∷ us) h = (Each-but_last (R k) (u ∷ us) h.0, Pairs-but_last R (u ∷ us) h.1)

-- where R goes both ways with each of ks
pub Pairs-insert : (R : Keeper → Keeper → Type 0) (k : Keeper) (ks : List Keeper) → Each (R k) ks
    → Each (λ u. R u k) ks → Pairs R ks → Pairs R (insert k ks)
Pairs-insert R k [] f g h = (tt, tt)
Pairs-insert R k (u ∷ us) f g h =
    by-case (ltb k.interval.end u.interval.end) (Each-insert (R u) k us g.0 h.0)
    (Pairs-insert R k us f.1 g.1 h.1)
  where
    by-case : (b : Bool) → Each (R u) (insert k us) → Pairs R (insert k us)
        → Pairs R (cond b (k ∷ u ∷ us) (u ∷ insert k us))
    by-case true r q = (f, h)
    by-case false r q = (r, q)

-- by end
abbrev pub Ordered : List Keeper → Type 0
Ordered ks = Pairs (λ k u. k.interval.end ≤ u.interval.end) ks

pub Ordered-insert : (k : Keeper) (ks : List Keeper) → Ordered ks → Ordered (insert k ks)
Ordered-insert k [] h = (tt, tt)
Ordered-insert k (u ∷ us) h =
    by-case (ltb k.interval.end u.interval.end) refl (Ordered-insert k us h.1)
  where
    by-case : (b : Bool) → ltb k.interval.end u.interval.end ≡ b → Ordered (insert k us)
        → Ordered (cond b (k ∷ u ∷ us) (u ∷ insert k us))
    by-case true e r =
        let ku : k.interval.end ≤ u.interval.end = grind (arith, nat_tests) in
        ((ku, Each-weaker _ _ (λ v l. omega arith) us h.0), h)
    by-case false e r =
        let uk : u.interval.end ≤ k.interval.end = grind (arith, nat_tests) in
        (Each-insert (λ v. u.interval.end ≤ v.interval.end) k us uk h.0, r)

pub Ordered-last : (ks : List Keeper) → Ordered ks → (w : Keeper) → last_of ks ≡ Some w
    → Each (λ u. u.interval.end ≤ w.interval.end) ks
Ordered-last [] o w e = tt
Ordered-last (k ∷ []) o w e =
    let kw : k ≡ w = cc in
    (subst (λ (v : Keeper). k.interval.end ≤ v.interval.end) kw (omega arith), tt)
Ordered-last (k ∷ u ∷ us) o w e = (
  Each-last (λ v. k.interval.end ≤ v.interval.end) (u ∷ us) o.0 w e,
  Ordered-last (u ∷ us) o.1 w
      e,
)

pub length-alive : (s : ℕ) (ks : List Keeper) → length (alive s ks) ≤ length ks
length-alive s [] = omega arith
length-alive s (k ∷ ks) = by-case (leb s k.interval.end) (length-alive s ks)
  where
    by-case : (b : Bool) → length (alive s ks) ≤ length ks
        → length (cond b (k ∷ alive s ks) (alive s ks)) ≤ length (k ∷ ks)
    by-case true r = omega arith
    by-case false r = omega arith

pub length-insert : (k : Keeper) (ks : List Keeper) → length (insert k ks) ≡ suc (length ks)
length-insert k [] = refl
length-insert k (u ∷ us) = by-case (ltb k.interval.end u.interval.end) (length-insert k us)
  where
    by-case : (b : Bool) → length (insert k us) ≡ suc (length us)
        → length (cond b (k ∷ u ∷ us) (u ∷ insert k us)) ≡ suc (length (u ∷ us))
    by-case true r = refl
    by-case false r = ap suc r

pub length-but_last : (ks : List Keeper) (w : Keeper) → last_of ks ≡ Some w → length ks
    ≡ suc (length (but_last ks))
length-but_last [] w e = absurd (cc)
length-but_last (k ∷ []) w e = refl
length-but_last (k ∷ u ∷ us) w e = ap suc (length-but_last (u ∷ us) w e)

pub some-last : (ks : List Keeper) → last_of ks ≡ None → length ks ≡ 0
some-last [] e = refl
some-last (k ∷ []) e = absurd (cc)
some-last (k ∷ u ∷ us) e = absurd (omega (arith, some-last (u ∷ us) e))

pub Pairs-last : (R : Keeper → Keeper → Type 0) (ks : List Keeper) → Pairs R ks → (w : Keeper)
    → last_of ks ≡ Some w → Each (λ u. R u w) (but_last ks)
Pairs-last R [] h w e = tt
Pairs-last R (k ∷ []) h w e = tt
Pairs-last R (k ∷ u ∷ us) h w e = (Each-last (R k) (u ∷ us) h.0 w e, Pairs-last R (u ∷ us) h.1 w e)
