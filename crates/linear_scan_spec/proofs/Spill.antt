-- A spilled interval has a point that twelve others have too.
use Rattle.std.proofs.Common.{ℕ, suc, ◌≡◌, ◌≢◌, ◌<◌, ◌≤◌, inl, inr, Bool, true, false, cond, ltb, List, [], ◌∷◌, length}
use Rattle.std.proofs.Common.{map, Option, Some, None, refl, sym, ◌∙◌, ap, arith}
use Rattle.std.proofs.lemmas.Bool.Decides.{nat_tests}
use Rattle.linear_scan_spec.specs.Scan.{Keeper, ScanState, alive, numbers, least_free, last_of, but_last, keep, crowd}
use Rattle.linear_scan_spec.specs.Scan.{visit, visit_all, scan}
use Rattle.icode_ops.specs.declared.interval.Interval.{Interval}
use Rattle.icode_ops.specs.Live.{In as InIntervals}
use Rattle.linear_scan_spec.specs.Lists.{In, Each, Pairs}
use Rattle.linear_scan_spec.specs.Laws.{Apart as ApartIntervals, Covers, IsCrowded}
use Rattle.linear_scan_spec.proofs.Order.{InOrder, in-intervals, each-interval}
use Rattle.linear_scan_spec.proofs.Keepers.{Each-weaker, Each-both, Each-alive, alive-ends, Each-insert, Each-but_last}
use Rattle.linear_scan_spec.proofs.Keepers.{Each-last, Pairs-alive, Pairs-but_last, Pairs-insert, Ordered}
use Rattle.linear_scan_spec.proofs.Keepers.{Ordered-insert, Ordered-last, length-alive, length-insert, length-but_last}
use Rattle.linear_scan_spec.proofs.Keepers.{some-last, Pairs-last}

abbrev Apart : List Interval → Type 0
Apart [] = Unit {0}
Apart (x ∷ xs) = Each (λ y. y.reg ≢ x.reg) xs × Apart xs

-- v is one of the intervals, and a point of it is shared by twelve others that end no later
pub record Crowded (xs : List Interval) (v : Interval) : Type 0 where
  pub seen : In v xs
  pub point : ℕ
  pub others : List Interval
  pub own : Covers point v
  pub twelve : length others ≡ 12
  pub covered : Each (Covers point) others
  pub no_later : Each (λ y. y.end ≤ v.end) others
  pub apart : Apart (v ∷ others)
  pub theirs : Each (λ y. In y xs) others

-- what is known of a keeper before the visits of xs
pub record Good (all xs : List Interval) (k : Keeper) : Type 0 where
  pub seen : In k.interval all
  pub started : Each (λ y. k.interval.start ≤ y.start) xs
  pub fresh : Each (λ y. y.reg ≢ k.interval.reg) xs

Good-tail : (all : List Interval) (x : Interval) (xs : List Interval) (k : Keeper)
    → Good all (x ∷ xs) k → Good all xs k
Good-tail all x xs k g = record { seen = g.seen; started = g.started.1; fresh = g.fresh.1 }

-- two keepers of different registers
abbrev pub Differ : Keeper → Keeper → Type 0
Differ k u = u.interval.reg ≢ k.interval.reg

pub record Spilling (all : List Interval) (s : ScanState) (xs : List Interval) : Type 0 where
  pub few : length s.keepers ≤ 12
  pub ordered : Ordered s.keepers
  pub differ : Pairs Differ s.keepers
  pub good : Each (Good all xs) s.keepers
  pub crowded : Each (Crowded all) s.spilled

intervals-Each : (P : Interval → Type 0) (ks : List Keeper) → Each (λ k. P k.interval) ks
    → Each P (map (λ k. k.interval) ks)
intervals-Each P [] h = tt
intervals-Each P (k ∷ ks) h = (h.0, intervals-Each P ks h.1)

intervals-Apart : (ks : List Keeper) → Pairs Differ ks → Apart (map (λ k. k.interval) ks)
intervals-Apart [] h = tt
intervals-Apart (k ∷ ks) h =
    (intervals-Each (λ y. y.reg ≢ k.interval.reg) ks h.0, intervals-Apart ks h.1)

length-intervals : (ks : List Keeper) → length (map (λ k. k.interval) ks) ≡ length ks
length-intervals [] = refl
length-intervals (k ∷ ks) = ap suc (length-intervals ks)

module _ (all : List Interval) (x : Interval) (xs : List Interval) (seen : In x all)
    (whole : x.start ≤ x.end) (started : Each (λ y. x.start ≤ y.start) xs)
    (fresh : Each (λ y. y.reg ≢ x.reg) xs) where
  kept-spilling : (others numbered : List Keeper) (spilled : List Interval) → length others < 12
      → Ordered others → Pairs Differ others → Each (Good all (x ∷ xs)) others
      → Each (Crowded all) spilled → Spilling all (keep x others numbered spilled) xs
  kept-spilling others numbered spilled few o d g c =
      let k : Keeper = record { number = least_free 12 0 (numbers others); interval = x } in
      record {
        few = rw length-insert (omega arith);
        ordered = Ordered-insert k others o;
        differ = Pairs-insert Differ k others
            (Each-weaker (Good all (x ∷ xs)) (Differ k) (λ u h q. h.fresh.0 (sym q)) others g)
            (Each-weaker (Good all (x ∷ xs)) (λ u. Differ u k) (λ u h. h.fresh.0) others g)
            d;
        good = Each-insert (Good all xs) k others
            (record { seen = seen; started = started; fresh = fresh })
            (Each-weaker (Good all (x ∷ xs)) (Good all xs) (Good-tail all x xs) others g);
        crowded = c;
      }

  -- what holds of the keepers that do not end before x begins
  abbrev pub Live : List Keeper → Type 0
  Live ks = Each (λ k. Good all (x ∷ xs) k × (x.start ≤ k.interval.end)) ks

  covers : (ks : List Keeper) → Live ks → Each (Covers x.start) (map (λ k. k.interval) ks)
  covers ks h =
      intervals-Each (Covers x.start) ks (Each-weaker _ _ (λ k g. (g.0.started.0, g.1)) ks h)

  other : (ks : List Keeper) → Live ks → Each (λ y. y.reg ≢ x.reg) (map (λ k. k.interval) ks)
  other ks h =
      intervals-Each (λ y. y.reg ≢ x.reg) ks (Each-weaker _ _ (λ k g q. g.0.fresh.0 (sym q)) ks h)

  theirs : (ks : List Keeper) → Live ks → Each (λ y. In y all) (map (λ k. k.interval) ks)
  theirs ks h = intervals-Each (λ y. In y all) ks (Each-weaker _ _ (λ k g. g.0.seen) ks h)

  -- x itself is spilled
  crowded-x : (live : List Keeper) (w : Keeper) → length live ≡ 12 → last_of live ≡ Some w
      → Ordered live → Pairs Differ live → Live live → w.interval.end ≤ x.end → Crowded all x
  crowded-x live w n e o d h le =
      record {
        seen = seen;
        point = x.start;
        others = map (λ k. k.interval) live;
        own =
            (omega arith, whole);
        twelve = length-intervals live ∙ n;
        covered = covers live h;
        no_later = intervals-Each (λ y. y.end ≤ x.end) live
            (Each-weaker (λ u. u.interval.end ≤ w.interval.end) (λ u. u.interval.end ≤ x.end)
            (λ u q. omega arith) live (Ordered-last live o w e));
        apart = (other live h, intervals-Apart live d);
        theirs = theirs live h;
      }

  -- the last keeper is spilled
  crowded-w : (live : List Keeper) (w : Keeper) → length live ≡ 12 → last_of live ≡ Some w
      → Ordered live → Pairs Differ live → Live live → x.end < w.interval.end
      → Crowded all w.interval
  crowded-w live w n e o d h lt =
      let front = but_last live in
      let hw = Each-last _ live h w e in
      let hf = Each-but_last _ live h in
      let m : suc (length (but_last live)) ≡ 12 = sym (length-but_last live w e) ∙ n in
      record {
        seen = hw.0.seen;
        point = x.start;
        others = x ∷ map (λ k. k.interval) front;
        own =
            (hw.0.started.0, hw.1);
        twelve = ap suc (length-intervals front) ∙ m;
        covered = ((omega arith, whole), covers front hf);
        no_later = (
          omega arith,
          intervals-Each (λ y. y.end ≤ w.interval.end) front
              (Each-but_last (λ u. u.interval.end ≤ w.interval.end) live (Ordered-last live o w e)),
        );
        apart = (
          (
            hw.0.fresh.0,
            intervals-Each (λ y. y.reg ≢ w.interval.reg) front
                (Each-weaker (λ u. Differ u w) (λ u. u.interval.reg ≢ w.interval.reg) (λ u h q. h (sym q))
                front (Pairs-last Differ live d w e)),
          ),
          (
            other front hf,
            intervals-Apart front
                (Pairs-but_last Differ live d),
          ),
        );
        theirs = (seen, theirs front hf);
      }

  full : (live : List Keeper) (s : ScanState) → length live ≡ 12 → Ordered live → Pairs Differ live
      → Live live → Each (Crowded all) s.spilled → (o : Option Keeper) → last_of live ≡ o
      → Spilling all (crowd x live o s) xs
  full live s n o d h c None e = absurd (omega (arith, some-last live e))
  full live s n o d h c (Some w) e = by-case (ltb x.end w.interval.end) refl
    where
      by-case : (b : Bool) → ltb x.end w.interval.end ≡ b
          → Spilling all (cond b (keep x (but_last live) s.numbered (w.interval ∷ s.spilled))
          (record { keepers = live; numbered = s.numbered; spilled = x ∷ s.spilled })) xs
      by-case true t =
          let few : length (but_last live) < 12 = omega (arith, length-but_last live w e) in
          kept-spilling (but_last live) s.numbered (w.interval ∷ s.spilled) few
          (Pairs-but_last _ live o) (Pairs-but_last Differ live d)
          (Each-but_last (Good all (x ∷ xs)) live (Each-weaker _ _ (λ k g. g.0) live h))
          (crowded-w live w n e o d h (grind (arith, nat_tests)), c)
      by-case false t =
          record {
            few = omega arith;
            ordered = o;
            differ = d;
            good = Each-weaker _ _ (λ k g. Good-tail all x xs k g.0) live h;
            crowded = (crowded-x live w n e o d h (grind (arith, nat_tests)), c);
          }

  visited : (s : ScanState) → Spilling all s (x ∷ xs) → Spilling all (visit s x) xs
  visited s p = by-case (ltb (length live) 12) refl
    where
      live : List Keeper
      live = alive x.start s.keepers

      o : Ordered live
      o = Pairs-alive _ x.start s.keepers p.ordered

      d : Pairs Differ live
      d = Pairs-alive Differ x.start s.keepers p.differ

      h : Live live
      h =
          Each-both _ _ _ (λ k g q. (g, q)) live
          (Each-alive (Good all (x ∷ xs)) x.start s.keepers p.good) (alive-ends x.start s.keepers)

      by-case : (b : Bool) → ltb (length live) 12 ≡ b
          → Spilling all (cond b (keep x live s.numbered s.spilled) (crowd x live (last_of live) s)) xs
      by-case true t =
          kept-spilling live s.numbered s.spilled (grind (arith, nat_tests)) o d
          (Each-weaker _ _ (λ k g. g.0) live h) p.crowded
      by-case false t =
          let n : length live ≡ 12 = grind (arith, nat_tests, length-alive x.start s.keepers, p.few)
          in
          full live s n o d h p.crowded (last_of live) refl

pub all-crowded : (all xs : List Interval) (s : ScanState) → Each (λ x. In x all) xs → InOrder xs
    → Spilling all s xs → Each (Crowded all) (visit_all s xs).spilled
all-crowded all [] s i h p = p.crowded
all-crowded all (x ∷ xs) s i h p =
    all-crowded all xs (visit s x) i.1 h.3 (visited all x xs i.0 h.0 h.1 h.2 s p)

itself : {X : Type 0} (xs ys : List X) → ((x : X) → In x xs → In x ys) → Each (λ x. In x ys) xs
itself [] ys f = tt
itself (x ∷ xs) ys f = (f x (inl refl), itself xs ys (λ y i. f y (inr i)))

-- each interval that the scan spills is crowded out
pub spilled-crowded : (xs : List Interval) → InOrder xs → Each (Crowded xs) (scan xs).spilled
spilled-crowded xs h =
    all-crowded xs xs (record { keepers = []; numbered = []; spilled = [] })
    (itself xs xs (λ x i. i)) h
    (record { few = omega arith; ordered = tt; differ = tt; good = tt; crowded = tt })

Apart-intervals : (xs : List Interval) → Apart xs → ApartIntervals xs
Apart-intervals [] a = tt
Apart-intervals (x ∷ xs) a = (
  each-interval (λ y. y.reg ≢ x.reg) (λ y. y.reg ≢ x.reg) (λ y h. h) xs a.0,
  Apart-intervals xs
      a.1,
)

pub is-crowded : (xs : List Interval) (v : Interval) → Crowded xs v → IsCrowded xs v
is-crowded xs v c =
    record {
      point = c.point;
      others = c.others;
      own = c.own;
      twelve = c.twelve;
      covered = each-interval (Covers c.point) (Covers c.point) (λ y h. h) c.others c.covered;
      no_later =
          each-interval (λ y. y.end ≤ v.end) (λ y. y.end ≤ v.end) (λ y h. h) c.others c.no_later;
      apart = Apart-intervals (v ∷ c.others) c.apart;
      theirs =
          each-interval (λ y. In y xs) (λ y. InIntervals y xs) (λ y h. in-intervals y xs h) c.others
          c.theirs;
    }
