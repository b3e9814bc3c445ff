-- Two intervals with one place below 12 do not overlap.
use Rattle.std.proofs.Common.{ℕ, suc, ◌≡◌, ◌≢◌, ◌<◌, ◌≤◌, ◌⊎◌, inl, inr, Bool, true, false, cond, eqb, ltb, leb, List}
use Rattle.std.proofs.Common.{[], ◌∷◌, length, Option, Some, None, refl, sym, ◌∙◌, ap, subst, arith}
use Rattle.std.proofs.lemmas.Bool.Decides.{nat_tests}
use Rattle.std.specs.List.{list_any}
use Rattle.linear_scan_spec.specs.Scan.{Keeper, ScanState, alive, insert, numbers, least_free, last_of, but_last, keep}
use Rattle.linear_scan_spec.specs.Scan.{crowd, visit, visit_all, scan, number_of, place}
use Rattle.icode_ops.specs.declared.interval.Interval.{Interval}
use Rattle.linear_scan_spec.specs.Lists.{In, Each, Pairs}
use Rattle.linear_scan_spec.specs.Laws.{PlacesAreApart}
use Rattle.linear_scan_spec.proofs.Order.{InOrder, in-order, in-any}
use Rattle.linear_scan_spec.proofs.Keepers.{Each-weaker, Each-In, Pairs-alive, Pairs-but_last, Pairs-insert}
use Rattle.linear_scan_spec.proofs.Keepers.{length-alive, length-insert, length-but_last, some-last}
use Rattle.linear_scan_spec.proofs.Free.{least_free-free}

pub In-alive : (s : ℕ) (ks : List Keeper) (k : Keeper) → In k ks → In k (alive s ks)
    ⊎ (k.interval.end < s)
In-alive s [] k i = absurd i
In-alive s (u ∷ us) k i = by-case (leb s u.interval.end) refl i (In-alive s us k)
  where
    by-case : (b : Bool) → leb s u.interval.end ≡ b → (k ≡ u) ⊎ In k us
        → (In k us → In k (alive s us) ⊎ (k.interval.end < s))
        → In k (cond b (u ∷ alive s us) (alive s us)) ⊎ (k.interval.end < s)
    by-case true e (inl q) r = inl (inl q)
    by-case true e (inr j) r = in-more (r j)
      where
        in-more : In k (alive s us) ⊎ (k.interval.end < s) → ((k ≡ u) ⊎ In k (alive s us))
            ⊎ (k.interval.end < s)
        in-more (inl g) = inl (inr g)
        in-more (inr g) = inr g
    by-case false e (inl q) r =
        let l : u.interval.end < s = grind (arith, nat_tests) in inr
        (subst (λ (v : Keeper). v.interval.end < s) (sym q) l)
    by-case false e (inr j) r = r j

pub In-but_last : (ks : List Keeper) (w : Keeper) → last_of ks ≡ Some w → (k : Keeper) → In k ks
    → In k (but_last ks) ⊎ (k ≡ w)
In-but_last [] w e k i = absurd i
In-but_last (u ∷ []) w e k (inl q) = let uw : u ≡ w = cc in inr (q ∙ uw)
In-but_last (u ∷ []) w e k (inr i) = absurd i
In-but_last (u ∷ v ∷ vs) w e k (inl q) = inl (inl q)
In-but_last (u ∷ v ∷ vs) w e k (inr i) = in-more (In-but_last (v ∷ vs) w e k i)
  where
    in-more : In k (but_last (v ∷ vs)) ⊎ (k ≡ w) → ((k ≡ u) ⊎ In k (but_last (v ∷ vs))) ⊎ (k ≡ w)
    in-more (inl g) = inl (inr g)
    in-more (inr g) = inr g

pub In-insert : (x : Keeper) (ks : List Keeper) (k : Keeper) → In k ks → In k (insert x ks)
In-insert x [] k i = absurd i
In-insert x (u ∷ us) k i = by-case (ltb x.interval.end u.interval.end) i (In-insert x us k)
  where
    by-case : (b : Bool) → (k ≡ u) ⊎ In k us → (In k us → In k (insert x us))
        → In k (cond b (x ∷ u ∷ us) (u ∷ insert x us))
    by-case true j r = inr j
    by-case false (inl q) r = inl q
    by-case false (inr j) r = inr (r j)

pub In-inserted : (x : Keeper) (ks : List Keeper) → In x (insert x ks)
In-inserted x [] = inl refl
In-inserted x (u ∷ us) = by-case (ltb x.interval.end u.interval.end) (In-inserted x us)
  where
    by-case : (b : Bool) → In x (insert x us) → In x (cond b (x ∷ u ∷ us) (u ∷ insert x us))
    by-case true r = inl refl
    by-case false r = inr r

-- what has become of an interval that had a number
pub data Fate (s : ScanState) (xs : List Interval) (k : Keeper) : Type 0 where
  Spilled : In k.interval s.spilled → Fate s xs k
  Stays : In k s.keepers → Fate s xs k
  Over : Each (λ y. k.interval.end < y.start) xs → Fate s xs k

-- an earlier holder of the same number was spilled, or ended before
abbrev pub Before : List Interval → Keeper → Keeper → Type 0
Before spilled k u =
    u.number ≡ k.number → In u.interval spilled ⊎ (u.interval.end < k.interval.start)

abbrev pub Differ : Keeper → Keeper → Type 0
Differ k u = u.number ≢ k.number

pub record Spread (all : List Interval) (s : ScanState) (xs : List Interval) : Type 0 where
  pub few : length s.keepers ≤ 12
  pub differ : Pairs Differ s.keepers
  pub fates : Each (Fate s xs) s.numbered
  pub before : Pairs (Before s.spilled) s.numbered
  pub low : Each (λ k. k.number < 12) s.numbered
  pub seen : Each (λ k. In k.interval all) s.numbered

-- the number of each is another than one that is free
numbers-free : (n : ℕ) (ks : List Keeper) → list_any (λ t. eqb n t) (numbers ks) ≡ false
    → Each (λ k. k.number ≢ n) ks
numbers-free n [] h = tt
numbers-free n (k ∷ ks) h =
    let a : eqb n k.number ≡ false = grind arith in
    let b : list_any (λ t. eqb n t) (numbers ks) ≡ false = grind arith in
    (λ e. grind (arith, nat_tests), numbers-free n ks b)

length-numbers : (ks : List Keeper) → length (numbers ks) ≡ length ks
length-numbers [] = refl
length-numbers (k ∷ ks) = ap suc (length-numbers ks)

Pairs-weaker : (R Q : Keeper → Keeper → Type 0) → ((k u : Keeper) → R k u → Q k u)
    → (ks : List Keeper) → Pairs R ks → Pairs Q ks
Pairs-weaker R Q f [] h = tt
Pairs-weaker R Q f (k ∷ ks) h = (Each-weaker (R k) (Q k) (f k) ks h.0, Pairs-weaker R Q f ks h.1)

-- more is spilled
Before-more : (spilled spilled' : List Interval) → ((y : Interval) → In y spilled → In y spilled')
    → (k u : Keeper) → Before spilled k u → Before spilled' k u
Before-more spilled spilled' f k u b e = by-case (b e)
  where
    by-case : In u.interval spilled ⊎ (u.interval.end < k.interval.start) → In u.interval spilled'
        ⊎ (u.interval.end < k.interval.start)
    by-case (inl i) = inl (f u.interval i)
    by-case (inr l) = inr l

module _ (all : List Interval) (x : Interval) (xs : List Interval) (seen : In x all)
    (started : Each (λ y. x.start ≤ y.start) xs) where
  -- the keepers that stay are others; what leaves has ended before x, or is spilled
  abbrev pub Leaves : List Keeper → List Interval → Keeper → Type 0
  Leaves others spilled u = (In u others ⊎ (u.interval.end < x.start)) ⊎ In u.interval spilled

  over : (k : Keeper) → k.interval.end < x.start → Each (λ y. k.interval.end < y.start) xs
  over k l =
      Each-weaker (λ y. x.start ≤ y.start) (λ y. k.interval.end < y.start) (λ y q. omega arith) xs
      started

  keep-spread : (s : ScanState) (others : List Keeper) (spilled : List Interval)
      → Spread all s (x ∷ xs) → length others < 12 → Pairs Differ others
      → ((y : Interval) → In y s.spilled → In y spilled)
      → ((u : Keeper) → In u s.keepers → Leaves others spilled u)
      → Spread all (keep x others s.numbered spilled) xs
  keep-spread s others spilled p few d more leave =
      let free = least_free-free (numbers others) (rw length-numbers few) in
      let k : Keeper = record { number = least_free 12 0 (numbers others); interval = x } in
      let apart = numbers-free k.number others free.0 in
      record {
        few = rw length-insert (omega arith);
        differ = Pairs-insert Differ k others apart
            (Each-weaker (λ u. u.number ≢ k.number) (λ u. k.number ≢ u.number) (λ u h q. h (sym q))
            others apart) d;
        fates = (
          Stays (In-inserted k others),
          Each-weaker (Fate s (x ∷ xs)) _ (λ u f. fate u f)
              s.numbered p.fates,
        );
        before = (
          Each-weaker (Fate s (x ∷ xs)) (Before spilled k) (λ u f e. ended k apart u f e)
              s.numbered p.fates,
          Pairs-weaker (Before s.spilled) (Before spilled)
              (Before-more s.spilled spilled more) s.numbered p.before,
        );
        low = (free.1, p.low);
        seen = (seen, p.seen);
      }
    where
      fate : (u : Keeper) → Fate s (x ∷ xs) u → Fate (keep x others s.numbered spilled) xs u
      fate u (Spilled i) = Spilled (more u.interval i)
      fate u (Over o) = Over o.1
      fate u (Stays i) = by-case (leave u i)
        where
          by-case : Leaves others spilled u → Fate (keep x others s.numbered spilled) xs u
          by-case (inl (inl j)) = Stays (In-insert _ others u j)
          by-case (inl (inr l)) = Over (over u l)
          by-case (inr j) = Spilled j

      ended : (k : Keeper) → Each (λ u. u.number ≢ k.number) others → (u : Keeper)
          → Fate s (x ∷ xs) u → u.number ≡ k.number → In u.interval spilled
          ⊎ (u.interval.end < x.start)
      ended k apart u (Spilled i) e = inl (more u.interval i)
      ended k apart u (Over o) e = inr o.0
      ended k apart u (Stays i) e = by-case (leave u i)
        where
          by-case : Leaves others spilled u → In u.interval spilled ⊎ (u.interval.end < x.start)
          by-case (inl (inl j)) = absurd (Each-In (λ v. v.number ≢ k.number) others apart u j e)
          by-case (inl (inr l)) = inr l
          by-case (inr j) = inl j

  -- x itself is spilled
  drop-spread : (s : ScanState) (live : List Keeper) → Spread all s (x ∷ xs) → length live ≤ 12
      → Pairs Differ live → ((u : Keeper) → In u s.keepers → Leaves live (x ∷ s.spilled) u)
      → Spread all (record { keepers = live; numbered = s.numbered; spilled = x ∷ s.spilled }) xs
  drop-spread s live p few d leave =
      record {
        few = few;
        differ = d;
        fates = Each-weaker (Fate s (x ∷ xs)) _ (λ u f. fate u f) s.numbered p.fates;
        before = Pairs-weaker (Before s.spilled) (Before (x ∷ s.spilled))
            (Before-more s.spilled (x ∷ s.spilled) (λ y i. inr i)) s.numbered p.before;
        low = p.low;
        seen = p.seen;
      }
    where
      fate : (u : Keeper) → Fate s (x ∷ xs) u
          → Fate (record { keepers = live; numbered = s.numbered; spilled = x ∷ s.spilled }) xs u
      fate u (Spilled i) = Spilled (inr i)
      fate u (Over o) = Over o.1
      fate u (Stays i) = by-case (leave u i)
        where
          by-case : Leaves live (x ∷ s.spilled) u
              → Fate (record { keepers = live; numbered = s.numbered; spilled = x ∷ s.spilled }) xs u
          by-case (inl (inl j)) = Stays j
          by-case (inl (inr l)) = Over (over u l)
          by-case (inr j) = Spilled j

  crowd-spread : (s : ScanState) (live : List Keeper) → Spread all s (x ∷ xs) → length live ≡ 12
      → Pairs Differ live → ((u : Keeper) → In u s.keepers → In u live ⊎ (u.interval.end < x.start))
      → (o : Option Keeper) → last_of live ≡ o → Spread all (crowd x live o s) xs
  crowd-spread s live p n d leave None e = absurd (omega (arith, some-last live e))
  crowd-spread s live p n d leave (Some w) e = by-case (ltb x.end w.interval.end)
    where
      by-case : (b : Bool) → Spread all
          (cond b (keep x (but_last live) s.numbered (w.interval ∷ s.spilled))
          (record { keepers = live; numbered = s.numbered; spilled = x ∷ s.spilled })) xs
      by-case true =
          let few : length (but_last live) < 12 = omega (arith, length-but_last live w e) in
          keep-spread s (but_last live) (w.interval ∷ s.spilled) p few
          (Pairs-but_last Differ live d) (λ y i. inr i) (λ u i. go u (leave u i))
        where
          last-case : (u : Keeper) → In u (but_last live) ⊎ (u ≡ w)
              → Leaves (but_last live) (w.interval ∷ s.spilled) u
          last-case u (inl j) = inl (inl j)
          last-case u (inr q) = inr (inl (ap (λ (v : Keeper). v.interval) q))

          go : (u : Keeper) → In u live ⊎ (u.interval.end < x.start)
              → Leaves (but_last live) (w.interval ∷ s.spilled) u
          go u (inl j) = last-case u (In-but_last live w e u j)
          go u (inr l) = inl (inr l)
      by-case false = drop-spread s live p (omega arith) d (λ u i. inl (leave u i))

  visit-spread : (s : ScanState) → Spread all s (x ∷ xs) → Spread all (visit s x) xs
  visit-spread s p = by-case (ltb (length live) 12) refl
    where
      live : List Keeper
      live = alive x.start s.keepers

      d : Pairs Differ live
      d = Pairs-alive Differ x.start s.keepers p.differ

      leave : (u : Keeper) → In u s.keepers → In u live ⊎ (u.interval.end < x.start)
      leave u i = In-alive x.start s.keepers u i

      by-case : (b : Bool) → ltb (length live) 12 ≡ b
          → Spread all (cond b (keep x live s.numbered s.spilled) (crowd x live (last_of live) s)) xs
      by-case true t =
          keep-spread s live s.spilled p (grind (arith, nat_tests)) d (λ y i. i)
          (λ u i. inl (leave u i))
      by-case false t =
          let n : length live ≡ 12 = grind (arith, nat_tests, length-alive x.start s.keepers, p.few)
          in
          crowd-spread s live p n d leave (last_of live) refl

spread : (all xs : List Interval) (s : ScanState) → Each (λ x. In x all) xs → InOrder xs
    → Spread all s xs → Spread all (visit_all s xs) []
spread all [] s i h p = p
spread all (x ∷ xs) s i h p = spread all xs (visit s x) i.1 h.3 (visit-spread all x xs i.0 h.1 s p)

itself : {X : Type 0} (xs ys : List X) → ((x : X) → In x xs → In x ys) → Each (λ x. In x ys) xs
itself [] ys f = tt
itself (x ∷ xs) ys f = (f x (inl refl), itself xs ys (λ y i. f y (inr i)))

pub scan-spread : (xs : List Interval) → InOrder xs → Spread xs (scan xs) []
scan-spread xs h =
    spread xs xs (record { keepers = []; numbered = []; spilled = [] }) (itself xs xs (λ x i. i)) h
    (record { few = omega arith; differ = tt; fates = tt; before = tt; low = tt; seen = tt })

-- a place below 12 is the number of a keeper of that register that was not spilled
has-place : (reg : ℕ) (s : ScanState) → place reg s < 12 → (k : Keeper) × In k s.numbered
    × (k.interval.reg ≡ reg) × (k.number ≡ place reg s)
    × ((y : Interval) → In y s.spilled → y.reg ≢ reg)
has-place reg s h = by-case (list_any (λ x. eqb reg x.reg) s.spilled) refl h
  where
    no-drop : (ds : List Interval) → list_any (λ x. eqb reg x.reg) ds ≡ false → (y : Interval)
        → In y ds → y.reg ≢ reg
    no-drop [] e y i = absurd i
    no-drop (d ∷ ds) e y (inl q) =
        let f : eqb reg d.reg ≡ false = grind arith in
        λ r. let same : reg ≡ d.reg = sym r ∙ ap (λ (v : Interval). v.reg) q in grind
        (arith, nat_tests)
    no-drop (d ∷ ds) e y (inr i) =
        let f : list_any (λ x. eqb reg x.reg) ds ≡ false = grind arith in no-drop ds f y i

    find : (ks : List Keeper) → number_of reg ks < 12 → (k : Keeper) × In k ks
        × (k.interval.reg ≡ reg) × (k.number ≡ number_of reg ks)
    find [] l = absurd (omega arith)
    find (k ∷ ks) l = by (eqb reg k.interval.reg) refl l (find ks)
      where
        by : (b : Bool) → eqb reg k.interval.reg ≡ b → cond b k.number (number_of reg ks) < 12
            → (number_of reg ks < 12 → (u : Keeper) × In u ks × (u.interval.reg ≡ reg)
            × (u.number ≡ number_of reg ks)) → (u : Keeper) × In u (k ∷ ks) × (u.interval.reg ≡ reg)
            × (u.number ≡ cond b k.number (number_of reg ks))
        by true t m r = let same : k.interval.reg ≡ reg = grind (arith, nat_tests) in
            (k, inl refl, same, refl)
        by false t m r = let g = r m in (g.0, inr g.1, g.2, g.3)

    by-case : (b : Bool) → list_any (λ x. eqb reg x.reg) s.spilled ≡ b
        → cond b 12 (number_of reg s.numbered) < 12 → (k : Keeper) × In k s.numbered
        × (k.interval.reg ≡ reg) × (k.number ≡ cond b 12 (number_of reg s.numbered))
        × ((y : Interval) → In y s.spilled → y.reg ≢ reg)
    by-case true t m = absurd (omega arith)
    by-case false t m = let g = find s.numbered m in (g.0, g.1, g.2, g.3, no-drop s.spilled t)

-- one register, one interval
pub same-interval : (xs : List Interval) → InOrder xs → (x y : Interval) → In x xs → In y xs → x.reg
    ≡ y.reg → x ≡ y
same-interval [] h x y i j e = absurd i
same-interval (z ∷ zs) h x y (inl p) (inl q) e = p ∙ sym q
same-interval (z ∷ zs) h x y (inl p) (inr j) e =
    absurd (Each-In (λ v. v.reg ≢ z.reg) zs h.2 y j (sym e ∙ ap (λ (v : Interval). v.reg) p))
same-interval (z ∷ zs) h x y (inr i) (inl q) e =
    absurd (Each-In (λ v. v.reg ≢ z.reg) zs h.2 x i (e ∙ ap (λ (v : Interval). v.reg) q))
same-interval (z ∷ zs) h x y (inr i) (inr j) e = same-interval zs h.3 x y i j e

either-way : (R : Keeper → Keeper → Type 0) (ks : List Keeper) → Pairs R ks → (k u : Keeper)
    → In k ks → In u ks → k ≢ u → R k u ⊎ R u k
either-way R [] h k u i j n = absurd i
either-way R (v ∷ vs) h k u (inl p) (inl q) n = absurd (n (p ∙ sym q))
either-way R (v ∷ vs) h k u (inl p) (inr j) n =
    inl (subst (λ w. R w u) (sym p) (Each-In (R v) vs h.0 u j))
either-way R (v ∷ vs) h k u (inr i) (inl q) n =
    inr (subst (λ w. R w k) (sym q) (Each-In (R v) vs h.0 k i))
either-way R (v ∷ vs) h k u (inr i) (inr j) n = either-way R vs h.1 k u i j n

pub ordered-apart : (xs : List Interval) → InOrder xs → (x y : Interval) → In x xs → In y xs
    → x.reg ≢ y.reg →
    place x.reg (scan xs) ≡ place y.reg (scan xs) → place x.reg (scan xs) < 12 →
    (x.end < y.start) ⊎ (y.end < x.start)
ordered-apart xs h x y ix iy ne e lt =
    let s = scan-spread xs h in
    let a = has-place x.reg (scan xs) lt in
    let b = has-place y.reg (scan xs) (subst (λ n. n < 12) e lt) in
    let ax = same-interval xs h a.0.interval x
    (Each-In (λ k. In k.interval xs) (scan xs).numbered s.seen a.0 a.1) ix a.2 in
    let by' = same-interval xs h b.0.interval y
    (Each-In (λ k. In k.interval xs) (scan xs).numbered s.seen b.0 b.1) iy b.2 in
    let differ : a.0 ≢ b.0 = λ q. ne (sym a.2 ∙ (ap (λ (v : Keeper). v.interval.reg) q ∙ b.2)) in
    let same = a.3 ∙ (e ∙ sym b.3) in
    by-case a.0 b.0 ax by' same a.4 b.4 a.2 b.2
    (either-way (Before (scan xs).spilled) (scan xs).numbered s.before a.0 b.0 a.1 b.1 differ)
  where
    by-case : (k u : Keeper) → k.interval ≡ x → u.interval ≡ y → k.number ≡ u.number
        → ((z : Interval) → In z (scan xs).spilled → z.reg ≢ x.reg)
        → ((z : Interval) → In z (scan xs).spilled → z.reg ≢ y.reg) → k.interval.reg ≡ x.reg
        → u.interval.reg ≡ y.reg → Before (scan xs).spilled k u ⊎ Before (scan xs).spilled u k
        → (x.end < y.start) ⊎ (y.end < x.start)
    by-case k u kx uy n dx dy kr ur (inl b) = ended (b (sym n))
      where
        ended : In u.interval (scan xs).spilled ⊎ (u.interval.end < k.interval.start)
            → (x.end < y.start) ⊎ (y.end < x.start)
        ended (inl i) = absurd (dy u.interval i ur)
        ended (inr l) = inr (subst (λ (v : Interval). y.end < v.start) kx
            (subst (λ (v : Interval). v.end < k.interval.start) uy l))
    by-case k u kx uy n dx dy kr ur (inr b) = ended (b n)
      where
        ended : In k.interval (scan xs).spilled ⊎ (k.interval.end < u.interval.start)
            → (x.end < y.start) ⊎ (y.end < x.start)
        ended (inl i) = absurd (dx k.interval i kr)
        ended (inr l) = inl (subst (λ (v : Interval). x.end < v.start) uy
            (subst (λ (v : Interval). v.end < u.interval.start) kx l))

pub places-are-apart : PlacesAreApart
places-are-apart xs s x y i j = ordered-apart xs (in-order xs s) x y (in-any x xs i) (in-any y xs j)
