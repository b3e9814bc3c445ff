-- What the steps of the scan make of the row, the owners and the places.
use Rattle.std.proofs.Common.{ℕ, suc, ◌≡◌, ◌≢◌, ◌<◌, ◌≤◌, ◌⊎◌, inl, inr, Bool, true, false, cond, eqb, ltb, leb, List}
use Rattle.std.proofs.Common.{[], ◌∷◌, length, get_or, set, Some, None, refl, sym, ◌∙◌, ap, subst, arith}
use Rattle.std.proofs.Common.{get_or-set_other, get_or-set_same}
use Rattle.std.proofs.Math.ListN.{length-set}
use Rattle.std.proofs.lemmas.Bool.Decides.{nat_tests}
use Rattle.std.specs.List.{list_any, IsDistinct, AllByRecursion}
use Rattle.std.proofs.lemmas.Map.Steps.{length-le_from_distinct_below}
use Rattle.std.proofs.lemmas.Bool.{cases_lt}
use Rattle.linked_row.specs.Sorted.{SortedList, has, without, insert as insert_entry}
use Rattle.linked_row.specs.Sorted.{last_of as last_pair}
use Rattle.icode_ops.specs.declared.interval.Interval.{Interval}
use Rattle.linear_scan_spec.specs.Scan.{Keeper, ScanState, alive, insert, numbers, least_free, last_of, but_last, keep}
use Rattle.linear_scan_spec.specs.Scan.{visit, place}
use Rattle.linear_scan_spec.specs.Lists.{Each, Pairs}
use Rattle.linear_scan_spec.proofs.Keepers.{Each-weaker, Each-both, Each-alive, Each-insert, Each-but_last, Each-last}
use Rattle.linear_scan_spec.proofs.Keepers.{Pairs-alive, Pairs-but_last, Pairs-insert, Ordered, Ordered-insert}
use Rattle.linear_scan_spec.proofs.Keepers.{length-alive, length-insert, length-but_last}
use Rattle.linear_scan_spec.proofs.Free.{least_free-free, is-free}
use Rattle.linear_scan.specs.Held.{ids, from_end, ApartIds, pairs, Holds, IsFresh}
use Rattle.linear_scan.proofs.Pairs.{without-first, has-ids}

pub ids-pairs : (ks : List Keeper) → ids (pairs ks) ≡ numbers ks
ids-pairs [] = refl
ids-pairs (k ∷ ks) = ap (λ zs. k.number ∷ zs) (ids-pairs ks)

put-pairs : (k : Keeper) (ks : List Keeper) → insert_entry (k.number, k.interval.end) (pairs ks)
    ≡ pairs (insert k ks)
put-pairs k [] = refl
put-pairs k (u ∷ us) = by-case (ltb k.interval.end u.interval.end) (put-pairs k us)
  where
    by-case : (b : Bool) → insert_entry (k.number, k.interval.end) (pairs us) ≡ pairs (insert k us)
        → cond b ((k.number, k.interval.end) ∷ pairs (u ∷ us))
        ((u.number, u.interval.end) ∷ insert_entry (k.number, k.interval.end) (pairs us)) ≡ pairs
        (cond b (k ∷ u ∷ us) (u ∷ insert k us))
    by-case true r = refl
    by-case false r = ap (λ zs. (u.number, u.interval.end) ∷ zs) r

alive-all : (s : ℕ) (ks : List Keeper) → Each (λ k. s ≤ k.interval.end) ks → alive s ks ≡ ks
alive-all s [] h = refl
alive-all s (k ∷ ks) h =
    let t : leb s k.interval.end ≡ true = grind (arith, nat_tests, h.0) in rw t
    (ap (λ zs. k ∷ zs) (alive-all s ks h.1))

from_end-pairs : (s : ℕ) (ks : List Keeper) → Ordered ks → from_end s (pairs ks)
    ≡ pairs (alive s ks)
from_end-pairs s [] o = refl
from_end-pairs s (k ∷ ks) o = by-case (ltb k.interval.end s) refl (from_end-pairs s ks o.1)
  where
    by-case : (b : Bool) → ltb k.interval.end s ≡ b → from_end s (pairs ks) ≡ pairs (alive s ks)
        → cond b (from_end s (pairs ks)) (pairs (k ∷ ks)) ≡ pairs (alive s (k ∷ ks))
    by-case true e r = let t : leb s k.interval.end ≡ false = grind (arith, nat_tests) in rw t r
    by-case false e r =
        let l : s ≤ k.interval.end = grind (arith, nat_tests) in
        ap pairs (sym (alive-all s (k ∷ ks) (l, Each-weaker _ _ (λ u h. omega arith) ks o.0)))

pub apart-pairs : (ks : List Keeper) → Pairs (λ k u. u.number ≢ k.number) ks → ApartIds (pairs ks)
apart-pairs [] d = tt
apart-pairs (k ∷ ks) d = (each ks d.0, apart-pairs ks d.1)
  where
    each : (us : List Keeper) → Each (λ u. u.number ≢ k.number) us
        → Each (λ q. k.number ≢ q.0) (pairs us)
    each [] h = tt
    each (u ∷ us) h = ((λ q. h.0 (sym q)), each us h.1)

-- after the pairs that end early are gone
pub alive-holds : (start : ℕ) (s : ScanState) (row : SortedList) (owners places : List ℕ)
    → Holds s row owners places
    → Holds (record { keepers = alive start s.keepers; numbered = s.numbered; spilled = s.spilled })
    (record { room = row.room; items = from_end start row.items }) owners places
alive-holds start s row owners places h =
    record {
      room = h.room;
      items = ap (from_end start) h.items ∙ from_end-pairs start s.keepers h.ordered;
      owners_length = h.owners_length;
      owned = Each-alive (λ k. get_or owners k.number 0 ≡ k.interval.reg) start s.keepers h.owned;
      placed = h.placed;
      few = omega (arith, length-alive start s.keepers, h.few);
      ordered = Pairs-alive _ start s.keepers h.ordered;
      differ = Pairs-alive (λ k u. u.number ≢ k.number) start s.keepers h.differ;
      low = Each-alive (λ k. k.number < 12) start s.keepers h.low;
      regs = Each-alive (λ k. k.interval.reg < length places) start s.keepers h.regs;
    }

numbers-free : (n : ℕ) (ks : List Keeper) → list_any (λ t. eqb n t) (numbers ks) ≡ false
    → Each (λ k. k.number ≢ n) ks
numbers-free n [] h = tt
numbers-free n (k ∷ ks) h =
    let a : eqb n k.number ≡ false = grind arith in
    let b : list_any (λ t. eqb n t) (numbers ks) ≡ false = grind arith in
    (λ e. grind (arith, nat_tests), numbers-free n ks b)

length-numbers : (ks : List Keeper) → length (numbers ks) ≡ length ks
length-numbers [] = refl
length-numbers (k ∷ ks) = ap suc (length-numbers ks)

-- the number that the row lacks
pub free-number : (s : ScanState) (row : SortedList) (owners places : List ℕ) (n : ℕ)
    → Holds s row owners places → length s.keepers < 12 → n ≡ least_free 12 0 (ids row.items)
    → (n ≡ least_free 12 0 (numbers s.keepers)) × (n < 12) × (has n row.items ≡ false)
    × Each (λ k. k.number ≢ n) s.keepers
free-number s row owners places n h few e =
    let same : ids row.items ≡ numbers s.keepers = ap ids h.items ∙ ids-pairs s.keepers in
    let e' : n ≡ least_free 12 0 (numbers s.keepers) = e ∙ ap (least_free 12 0) same in
    let f = least_free-free (numbers s.keepers) (rw length-numbers few) in
    let none : list_any (λ t. eqb n t) (numbers s.keepers) ≡ false = subst
    (λ m. list_any (λ t. eqb m t) (numbers s.keepers) ≡ false) (sym e') f.0 in (
      e',
      subst (λ m. m < 12) (sym e') f.1,
      has-ids n row.items ∙
          (ap (λ zs. list_any (λ t. eqb n t) zs) same ∙ none),
      numbers-free n s.keepers none,
    )

-- after x has become a keeper
pub keep-holds : (x : Interval) (s : ScanState) (row : SortedList) (owners places : List ℕ) (n : ℕ)
    → Holds s row owners places → length s.keepers < 12 → IsFresh x s → x.reg < length places → n
    ≡ least_free 12 0 (ids row.items)
    → Holds (keep x s.keepers s.numbered s.spilled)
    (record { room = row.room; items = insert_entry (n, x.end) row.items }) (set owners n x.reg) (set places x.reg n)
keep-holds x s row owners places n h few f lt e =
    let g = free-number s row owners places n h few e in
    let k : Keeper = record { number = least_free 12 0 (numbers s.keepers); interval = x } in
    let other = Each-weaker (λ u. u.number ≢ n) (λ u. u.number ≢ k.number)
    (λ u q r. q (r ∙ sym g.0)) s.keepers g.3 in
    record {
      room = h.room;
      items =
          ap (insert_entry (n, x.end)) h.items ∙
          (ap (λ m. insert_entry (m, x.end) (pairs s.keepers)) g.0 ∙ put-pairs k s.keepers);
      owners_length = simp length-set h.owners_length;
      owned =
          Each-insert (λ u. get_or (set owners n x.reg) u.number 0 ≡ u.interval.reg) k s.keepers
          (owned-here g) (Each-both (λ u. u.number ≢ n)
          (λ u. get_or owners u.number 0 ≡ u.interval.reg)
          (λ u. get_or (set owners n x.reg) u.number 0 ≡ u.interval.reg)
          (λ u q r. rw get_or-set_other r) s.keepers g.3 h.owned);
      placed = λ r l. placed g.0 r (simp length-set at l) (eqb r x.reg) refl;
      few = rw length-insert (omega arith);
      ordered = Ordered-insert k s.keepers h.ordered;
      differ =
          Pairs-insert (λ a b. b.number ≢ a.number) k s.keepers other
          (Each-weaker (λ u. u.number ≢ k.number) (λ u. k.number ≢ u.number) (λ u q r. q (sym r))
          s.keepers other) h.differ;
      low = Each-insert (λ u. u.number < 12) k s.keepers (subst (λ m. m < 12) g.0 g.1) h.low;
      regs =
          rw length-set (Each-insert (λ u. u.interval.reg < length places) k s.keepers lt h.regs);
    }
  where
    owned-here : (n ≡ least_free 12 0 (numbers s.keepers)) × (n < 12) × (has n row.items ≡ false)
        × Each (λ k. k.number ≢ n) s.keepers
        → get_or (set owners n x.reg) (least_free 12 0 (numbers s.keepers)) 0 ≡ x.reg
    owned-here g =
        let nl : n < length owners = omega (arith, g.1, h.owners_length) in rw
        (← g.0, get_or-set_same) refl

    placed : n ≡ least_free 12 0 (numbers s.keepers) → (r : ℕ) → r < length places → (b : Bool)
        → eqb r x.reg ≡ b → get_or (set places x.reg n) r 0
        ≡ place r (keep x s.keepers s.numbered s.spilled)
    placed en r l true t =
        let same : r ≡ x.reg = grind (arith, nat_tests) in
        let self : eqb x.reg x.reg ≡ true = grind (arith, nat_tests) in
        rw (same, get_or-set_same, f.spilled, self) en
    placed en r l false t =
        let other : r ≢ x.reg = λ q. grind (arith, nat_tests) in
        rw (get_or-set_other, t) (h.placed r l)

pub last-pairs : (ks : List Keeper) (p : ℕ × ℕ) → last_pair (pairs ks) ≡ Some p → (w : Keeper)
    × (last_of ks ≡ Some w) × (w.number ≡ p.0) × (w.interval.end ≡ p.1)
last-pairs [] p e = absurd (cc)
last-pairs (k ∷ []) p e =
    let q : (k.number, k.interval.end) ≡ p = cc in
    (k, refl, ap (λ (z : ℕ × ℕ). z.0) q, ap (λ (z : ℕ × ℕ). z.1) q)
last-pairs (k ∷ u ∷ us) p e = last-pairs (u ∷ us) p e

pub last-none : (ks : List Keeper) → last_pair (pairs ks) ≡ None → length ks ≡ 0
last-none [] e = refl
last-none (k ∷ []) e = absurd (cc)
last-none (k ∷ u ∷ us) e = absurd (omega (arith, last-none (u ∷ us) e))

without-last : (ks : List Keeper) (w : Keeper) → Pairs (λ k u. u.number ≢ k.number) ks → last_of ks
    ≡ Some w → without w.number (pairs ks) ≡ pairs (but_last ks)
without-last [] w d e = absurd (cc)
without-last (k ∷ []) w d e =
    let kw : k ≡ w = cc in subst (λ (z : Keeper). without z.number (pairs (k ∷ [])) ≡ []) kw
    (without-first (k.number, k.interval.end) [] tt)
without-last (k ∷ u ∷ us) w d e =
    let n = Each-last (λ v. v.number ≢ k.number) (u ∷ us) d.0 w e in
    let t : eqb w.number k.number ≡ false = grind (arith, nat_tests) in
    rw t (ap (λ zs. (k.number, k.interval.end) ∷ zs) (without-last (u ∷ us) w d.1 e))

pub has-last : (ks : List Keeper) (w : Keeper) → last_of ks ≡ Some w → has w.number (pairs ks)
    ≡ true
has-last [] w e = absurd (cc)
has-last (k ∷ []) w e =
    let kw : k ≡ w = cc in subst (λ (z : Keeper). has z.number (pairs (k ∷ [])) ≡ true) kw
    (let t : eqb k.number k.number ≡ true = grind (arith, nat_tests) in rw t refl)
has-last (k ∷ u ∷ us) w e = let r = has-last (u ∷ us) w e in rw r (grind arith)

abbrev pub dropping : ScanState → Keeper → ScanState
dropping s w =
    record { keepers = but_last s.keepers; numbered = s.numbered; spilled = w.interval ∷ s.spilled }

pub drop-holds : (s : ScanState) (w : Keeper) (row : SortedList) (owners places : List ℕ)
    → Holds s row owners places → last_of s.keepers ≡ Some w
    → Holds (dropping s w) (record { room = row.room; items = without w.number row.items }) owners
    (set places w.interval.reg 12)
drop-holds s w row owners places h e =
    record {
      room = h.room;
      items = ap (without w.number) h.items ∙ without-last s.keepers w h.differ e;
      owners_length = h.owners_length;
      owned = Each-but_last (λ k. get_or owners k.number 0 ≡ k.interval.reg) s.keepers h.owned;
      placed = λ r l. placed r (simp length-set at l) (eqb r w.interval.reg) refl;
      few = omega (arith, length-but_last s.keepers w e, h.few);
      ordered = Pairs-but_last _ s.keepers h.ordered;
      differ = Pairs-but_last (λ k u. u.number ≢ k.number) s.keepers h.differ;
      low = Each-but_last (λ k. k.number < 12) s.keepers h.low;
      regs = rw length-set (Each-but_last (λ k. k.interval.reg < length places) s.keepers h.regs);
    }
  where
    placed : (r : ℕ) → r < length places → (b : Bool) → eqb r w.interval.reg ≡ b
        → get_or (set places w.interval.reg 12) r 0 ≡ place r (dropping s w)
    placed r l true t =
        let same : r ≡ w.interval.reg = grind (arith, nat_tests) in
        let self : eqb w.interval.reg w.interval.reg ≡ true = grind (arith, nat_tests) in
        let lw : w.interval.reg < length places = omega arith in
        rw (same, get_or-set_same, self) refl
    placed r l false t =
        let other : r ≢ w.interval.reg = λ q. grind (arith, nat_tests) in
        rw (get_or-set_other, t) (h.placed r l)

pub pass-holds : (x : Interval) (s : ScanState) (row : SortedList) (owners places : List ℕ)
    → Holds s row owners places
    → Holds (record { keepers = s.keepers; numbered = s.numbered; spilled = x ∷ s.spilled }) row owners
    (set places x.reg 12)
pass-holds x s row owners places h =
    record {
      room = h.room;
      items = h.items;
      owners_length = h.owners_length;
      owned = h.owned;
      placed = λ r l. placed r (simp length-set at l) (eqb r x.reg) refl;
      few = h.few;
      ordered = h.ordered;
      differ = h.differ;
      low = h.low;
      regs = rw length-set h.regs;
    }
  where
    placed : (r : ℕ) → r < length places → (b : Bool) → eqb r x.reg ≡ b
        → get_or (set places x.reg 12) r 0
        ≡ place r (record { keepers = s.keepers; numbered = s.numbered; spilled = x ∷ s.spilled })
    placed r l true t =
        let same : r ≡ x.reg = grind (arith, nat_tests) in
        let self : eqb x.reg x.reg ≡ true = grind (arith, nat_tests) in
        let lw : x.reg < length places = omega arith in
        rw (same, get_or-set_same, self) refl
    placed r l false t =
        let other : r ≢ x.reg = λ q. grind (arith, nat_tests) in
        rw (get_or-set_other, t) (h.placed r l)

numbers-below : (ks : List Keeper) → Each (λ k. k.number < 12) ks → (q : ℕ)
    → list_any (eqb q) (numbers ks) ≡ true → q < 12
numbers-below [] l q h = absurd (cc)
numbers-below (k ∷ ks) l q h = grind (arith, nat_tests, l.0, numbers-below ks l.1 q)

numbers-apart : (m : ℕ) (ks : List Keeper) → Each (λ k. k.number ≢ m) ks
    → AllByRecursion (λ y. eqb m y ≡ false) (numbers ks)
numbers-apart m [] h = tt
numbers-apart m (k ∷ ks) h = (grind (arith, nat_tests, h.0), numbers-apart m ks h.1)

numbers-distinct : (ks : List Keeper) → Pairs (λ k u. u.number ≢ k.number) ks
    → IsDistinct eqb (numbers ks)
unfolding IsDistinct
numbers-distinct [] d = tt
numbers-distinct (k ∷ ks) d = (numbers-apart k.number ks d.0, numbers-distinct ks d.1)

more-distinct : (n : ℕ) (ks : List Keeper) → Each (λ k. k.number ≢ n) ks
    → Pairs (λ k u. u.number ≢ k.number) ks → IsDistinct eqb (n ∷ numbers ks)
unfolding IsDistinct
more-distinct n ks h d = (numbers-apart n ks h, numbers-distinct ks d)

-- a free number below 12 tells that there are fewer than 12 keepers
pub room-left : (n : ℕ) (ks : List Keeper) → n < 12 → list_any (λ t. eqb n t) (numbers ks) ≡ false
    → Pairs (λ k u. u.number ≢ k.number) ks → Each (λ k. k.number < 12) ks → length ks < 12
room-left n ks h f d l =
    let r = length-le_from_distinct_below (n ∷ numbers ks) 12
    (more-distinct n ks (numbers-free n ks f) d) (λ q t. below q t) in
    omega (arith, r, length-numbers ks)
  where
    below : (q : ℕ) → list_any (eqb q) (n ∷ numbers ks) ≡ true → q < 12
    below q t = grind (arith, nat_tests, numbers-below ks l q)

pub few-keepers : (s : ScanState) (row : SortedList) (owners places : List ℕ) (n : ℕ)
    → Holds s row owners places → n ≡ least_free 12 0 (ids row.items) → n < 12
    → length s.keepers < 12
few-keepers s row owners places n h e l =
    let same : ids row.items ≡ numbers s.keepers = ap ids h.items ∙ ids-pairs s.keepers in
    let e' : n ≡ least_free 12 0 (numbers s.keepers) = e ∙ ap (least_free 12 0) same in
    room-left n s.keepers l
    (subst (λ m. list_any (λ t. eqb m t) (numbers s.keepers) ≡ false) (sym e')
    (is-free (numbers s.keepers) (subst (λ m. m < 12) e' l))) h.differ h.low

pub twelve-keepers : (s : ScanState) (row : SortedList) (owners places : List ℕ) (n : ℕ)
    → Holds s row owners places → n ≡ least_free 12 0 (ids row.items) → 12 ≤ n → length s.keepers
    ≡ 12
twelve-keepers s row owners places n h e l = by-case (cases_lt (length s.keepers) 12)
  where
    by-case : (length s.keepers < 12) ⊎ (12 ≤ length s.keepers) → length s.keepers ≡ 12
    by-case (inl f) = absurd (let g = free-number s row owners places n h f e in omega (arith, g.1))
    by-case (inr f) = omega (arith, h.few)

-- the three ways of a visit
pub visit-few : (s : ScanState) (x : Interval) → length (alive x.start s.keepers) < 12 → visit s x
    ≡ keep x (alive x.start s.keepers) s.numbered s.spilled
visit-few s x h =
    let t : ltb (length (alive x.start s.keepers)) 12 ≡ true = grind (arith, nat_tests) in rw t refl

pub visit-last : (s : ScanState) (x : Interval) (w : Keeper) → length (alive x.start s.keepers) ≡ 12
    → last_of (alive x.start s.keepers) ≡ Some w → x.end < w.interval.end → visit s x
    ≡ keep x (but_last (alive x.start s.keepers)) s.numbered (w.interval ∷ s.spilled)
visit-last s x w n e h =
    let t : ltb (length (alive x.start s.keepers)) 12 ≡ false = grind (arith, nat_tests) in
    let u : ltb x.end w.interval.end ≡ true = grind (arith, nat_tests) in
    rw (t, e, u) refl

pub visit-pass : (s : ScanState) (x : Interval) (w : Keeper) → length (alive x.start s.keepers) ≡ 12
    → last_of (alive x.start s.keepers) ≡ Some w → w.interval.end ≤ x.end → visit s x
    ≡ record { keepers = alive x.start s.keepers; numbered = s.numbered; spilled = x ∷ s.spilled }
visit-pass s x w n e h =
    let t : ltb (length (alive x.start s.keepers)) 12 ≡ false = grind (arith, nat_tests) in
    let u : ltb x.end w.interval.end ≡ false = grind (arith, nat_tests) in
    rw (t, e, u) refl

abbrev pub living : ℕ → ScanState → ScanState
living start s =
    record { keepers = alive start s.keepers; numbered = s.numbered; spilled = s.spilled }

pub fresh-living : (x : Interval) (start : ℕ) (s : ScanState) → IsFresh x s
    → IsFresh x (living start s)
fresh-living x start s f =
    record {
      keepers = Each-alive (λ k. k.interval.reg ≢ x.reg) start s.keepers f.keepers;
      spilled =
          f.spilled;
    }

pub fresh-dropping : (x : Interval) (s : ScanState) (w : Keeper) → last_of s.keepers ≡ Some w
    → IsFresh x s → IsFresh x (dropping s w)
fresh-dropping x s w e f =
    let n = Each-last (λ k. k.interval.reg ≢ x.reg) s.keepers f.keepers w e in
    let t : eqb x.reg w.interval.reg ≡ false = grind (arith, nat_tests) in
    record {
      keepers = Each-but_last (λ k. k.interval.reg ≢ x.reg) s.keepers f.keepers;
      spilled = rw
          t f.spilled;
    }

-- what holds of all keepers but the last, and of the last, holds of each
each-whole : (P : Keeper → Type 0) (ks : List Keeper) (w : Keeper) → last_of ks ≡ Some w → Each P (but_last ks) → P w
    → Each P ks
each-whole P [] w e h p = tt
each-whole P (k ∷ []) w e h p = let kw : k ≡ w = cc in (subst P (sym kw) p, tt)
each-whole P (k ∷ u ∷ us) w e h p = (h.0, each-whole P (u ∷ us) w e h.1 p)

numbers-lack : (n : ℕ) (ks : List Keeper) → Each (λ k. k.number ≢ n) ks
    → list_any (λ t. eqb n t) (numbers ks) ≡ false
numbers-lack n [] h = refl
numbers-lack n (k ∷ ks) h =
    let a : eqb n k.number ≡ false = grind (arith, nat_tests, h.0) in rw a (numbers-lack n ks h.1)

only-free : (ks : List Keeper) (w : Keeper) (m : ℕ) → length ks ≡ 12 → last_of ks ≡ Some w
    → Pairs (λ k u. u.number ≢ k.number) ks → Each (λ k. k.number < 12) ks → m < 12
    → Each (λ k. k.number ≢ m) (but_last ks) → (b : Bool) → eqb w.number m ≡ b → w.number ≡ m
only-free ks w m n e differ low lt others true t = grind (arith, nat_tests)
only-free ks w m n e differ low lt others false t =
    let other : w.number ≢ m = λ q. grind (arith, nat_tests) in
    let all = each-whole (λ k. k.number ≢ m) ks w e others other in
    absurd (omega (arith, n, room-left m ks lt (numbers-lack m ks all) differ low))

-- the number of the last of twelve keepers is the least that is free once that is spilled
pub freed : (s : ScanState) (w : Keeper) (row : SortedList) (owners places : List ℕ) → length s.keepers ≡ 12
    → last_of s.keepers ≡ Some w → Pairs (λ k u. u.number ≢ k.number) s.keepers
    → Each (λ k. k.number < 12) s.keepers → Holds (dropping s w) row owners places
    → w.number ≡ least_free 12 0 (ids row.items)
freed s w row owners places n e differ low h =
    let m = least_free 12 0 (ids row.items) in
    let g = free-number (dropping s w) row owners places m h (omega (arith, n, length-but_last s.keepers w e)) refl in
    only-free s.keepers w m n e differ low g.1 g.3 (eqb w.number m) refl
