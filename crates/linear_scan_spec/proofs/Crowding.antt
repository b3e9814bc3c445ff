-- An interval whose register has a slot was spilled: each interval is spilled or given a number below 12.
use Rattle.std.proofs.Common.{ℕ, ◌≡◌, ◌<◌, ◌⊎◌, inl, inr, Bool, true, false, cond, eqb, ltb, List, [], ◌∷◌, length}
use Rattle.std.proofs.Common.{Option, Some, None, refl, sym, ◌∙◌, ap, subst, arith}
use Rattle.std.proofs.lemmas.Bool.Decides.{nat_tests}
use Rattle.std.specs.List.{list_any}
use Rattle.icode_ops.specs.declared.interval.Interval.{Interval}
use Rattle.linear_scan_spec.specs.Lists.{In, Each}
use Rattle.linear_scan_spec.specs.Scan.{Keeper, ScanState, alive, last_of, but_last, keep, crowd, visit, visit_all}
use Rattle.linear_scan_spec.specs.Scan.{scan, number_of}
use Rattle.linear_scan_spec.specs.Laws.{IsCrowded, SpillsAreCrowded}
use Rattle.linear_scan_spec.proofs.Order.{InOrder, in-order, in-any}
use Rattle.linear_scan_spec.proofs.Keepers.{Each-In}
use Rattle.linear_scan_spec.proofs.Places.{scan-spread, same-interval}
use Rattle.linear_scan_spec.proofs.Spill.{Crowded, spilled-crowded, is-crowded}

-- x was spilled or given a number
abbrev Met : ScanState → Interval → Type 0
Met s x = In x s.spilled ⊎ ((k : Keeper) × In k s.numbered × (k.interval ≡ x))

-- t has what s has
record Grows (s t : ScanState) : Type 0 where
  spilled : (y : Interval) → In y s.spilled → In y t.spilled
  numbered : (k : Keeper) → In k s.numbered → In k t.numbered

Met-grows : (s t : ScanState) → Grows s t → (x : Interval) → Met s x → Met t x
Met-grows s t g x (inl i) = inl (g.spilled x i)
Met-grows s t g x (inr m) = inr (m.0, g.numbered m.0 m.1, m.2)

keep-met : (s : ScanState) (x : Interval) (others : List Keeper) (spilled : List Interval) →
    ((y : Interval) → In y s.spilled → In y spilled) →
    Grows s (keep x others s.numbered spilled) × Met (keep x others s.numbered spilled) x
keep-met s x others spilled f =
    (record { spilled = f; numbered = λ k i. inr i }, inr (_, inl refl, refl))

visit-met : (s : ScanState) (x : Interval) → Grows s (visit s x) × Met (visit s x) x
visit-met s x = by-few (ltb (length live) 12)
  where
    live : List Keeper
    live = alive x.start s.keepers

    by-crowd : (o : Option Keeper) → Grows s (crowd x live o s) × Met (crowd x live o s) x
    by-crowd None = keep-met s x live s.spilled (λ y i. i)
    by-crowd (Some w) = by-end (ltb x.end w.interval.end)
      where
        spill-w : ScanState
        spill-w = keep x (but_last live) s.numbered (w.interval ∷ s.spilled)

        spill-x : ScanState
        spill-x = record { keepers = live; numbered = s.numbered; spilled = x ∷ s.spilled }

        by-end : (b : Bool) → Grows s (cond b spill-w spill-x) × Met (cond b spill-w spill-x) x
        by-end true = keep-met s x (but_last live) (w.interval ∷ s.spilled) (λ y i. inr i)
        by-end false = (record { spilled = λ y i. inr i; numbered = λ k i. i }, inl (inl refl))

    by-few : (b : Bool) →
        Grows s (cond b (keep x live s.numbered s.spilled) (crowd x live (last_of live) s)) ×
        Met (cond b (keep x live s.numbered s.spilled) (crowd x live (last_of live) s)) x
    by-few true = keep-met s x live s.spilled (λ y i. i)
    by-few false = by-crowd (last_of live)

Grows-then : (s t u : ScanState) → Grows s t → Grows t u → Grows s u
Grows-then s t u g h =
    record {
      spilled = λ y i. h.spilled y (g.spilled y i);
      numbered = λ k i. h.numbered k (g.numbered k i);
    }

all-grows : (xs : List Interval) (s : ScanState) → Grows s (visit_all s xs)
all-grows [] s = record { spilled = λ y i. i; numbered = λ k i. i }
all-grows (x ∷ xs) s =
    Grows-then s (visit s x) (visit_all (visit s x) xs) (visit-met s x).0 (all-grows xs (visit s x))

all-met : (xs : List Interval) (s : ScanState) (x : Interval) → In x xs → Met (visit_all s xs) x
all-met [] s x i = absurd i
all-met (y ∷ ys) s x (inl e) =
    subst (λ z. Met (visit_all (visit s y) ys) z) (sym e)
    (Met-grows (visit s y) (visit_all (visit s y) ys) (all-grows ys (visit s y)) y
    (visit-met s y).1)
all-met (y ∷ ys) s x (inr i) = all-met ys (visit s y) x i

any-found : (reg : ℕ) (ds : List Interval) → list_any (λ x. eqb reg x.reg) ds ≡ true →
    (d : Interval) × In d ds × (d.reg ≡ reg)
any-found reg [] e = absurd (cc)
any-found reg (d ∷ ds) e = by-case (eqb reg d.reg) refl (any-found reg ds)
  where
    by-case : (b : Bool) → eqb reg d.reg ≡ b →
        (list_any (λ x. eqb reg x.reg) ds ≡ true → (u : Interval) × In u ds × (u.reg ≡ reg)) →
        (u : Interval) × In u (d ∷ ds) × (u.reg ≡ reg)
    by-case true t r = let same : d.reg ≡ reg = grind (arith, nat_tests) in (d, inl refl, same)
    by-case false t r = let f = r (grind arith) in (f.0, inr f.1, f.2)

in-found : (x : Interval) (ds : List Interval) → In x ds → list_any (λ y. eqb x.reg y.reg) ds ≡ true
in-found x [] i = absurd i
in-found x (d ∷ ds) (inl e) =
    let same : eqb x.reg d.reg ≡ true = subst (λ (y : Interval). eqb x.reg y.reg ≡ true) e
    (grind (arith, nat_tests)) in
    rw same refl
in-found x (d ∷ ds) (inr i) = let r = in-found x ds i in grind arith

number-low : (reg : ℕ) (ks : List Keeper) → Each (λ k. k.number < 12) ks → (k : Keeper) → In k ks →
    k.interval.reg ≡ reg → number_of reg ks < 12
number-low reg [] h k i e = absurd i
number-low reg (u ∷ us) h k i e =
    by-case (eqb reg u.interval.reg) refl i (λ j. number-low reg us h.1 k j e)
  where
    by-case : (b : Bool) → eqb reg u.interval.reg ≡ b → (k ≡ u) ⊎ In k us →
        (In k us → number_of reg us < 12) → cond b u.number (number_of reg us) < 12
    by-case true t j r = h.0
    by-case false t (inl q) r =
        let same : reg ≡ u.interval.reg = sym e ∙ ap (λ (v : Keeper). v.interval.reg) q in
        absurd (grind (arith, nat_tests))
    by-case false t (inr j) r = r j

pub spills-are-crowded : SpillsAreCrowded
spills-are-crowded xs s x i e = by-case (list_any (λ y. eqb x.reg y.reg) (scan xs).spilled) refl e
  where
    ordered : InOrder xs
    ordered = in-order xs s

    crowded : (d : Interval) → In d (scan xs).spilled → d.reg ≡ x.reg → IsCrowded xs x
    crowded d j r =
        let c = Each-In (Crowded xs) (scan xs).spilled (spilled-crowded xs ordered) d j in
        subst (IsCrowded xs) (same-interval xs ordered d x c.seen (in-any x xs i) r)
        (is-crowded xs d c)

    not-spilled : list_any (λ y. eqb x.reg y.reg) (scan xs).spilled ≡ false
        → number_of x.reg (scan xs).numbered ≡ 12 →
        Met (scan xs) x → ⊥
    not-spilled f n (inl j) = let t = in-found x (scan xs).spilled j in absurd (cc)
    not-spilled f n (inr m) =
        let r : m.0.interval.reg ≡ x.reg = ap (λ (v : Interval). v.reg) m.2 in
        omega (arith, number-low x.reg (scan xs).numbered (scan-spread xs ordered).low m.0 m.1 r)

    by-case : (b : Bool) → list_any (λ y. eqb x.reg y.reg) (scan xs).spilled ≡ b →
        cond b 12 (number_of x.reg (scan xs).numbered) ≡ 12 → IsCrowded xs x
    by-case true f n = let d = any-found x.reg (scan xs).spilled f in crowded d.0 d.1 d.2
    by-case false f n =
        absurd (not-spilled f n
        (all-met xs (record { keepers = []; numbered = []; spilled = [] }) x (in-any x xs i)))
