-- The keepers stand by their ends, and those with equal ends in the order of their visits.
use Rattle.std.proofs.Common.{◌≡◌, ◌<◌, ◌≤◌, ◌⊎◌, inl, inr, Bool, true, false, cond, ltb, List, [], ◌∷◌, length, Option}
use Rattle.std.proofs.Common.{Some, None, refl, arith}
use Rattle.std.proofs.lemmas.Bool.{cases_lt}
use Rattle.std.proofs.lemmas.Bool.Decides.{nat_tests}
use Rattle.icode_ops.specs.declared.interval.Interval.{Interval}
use Rattle.icode_ops.specs.Live.{Before, Sorted}
use Rattle.linear_scan_spec.specs.Lists.{Each, Pairs}
use Rattle.linear_scan_spec.specs.Scan.{Keeper, ScanState, alive, insert, last_of, but_last, keep, crowd, visit}
use Rattle.linear_scan_spec.specs.Scan.{visit_all}
use Rattle.linear_scan_spec.specs.Laws.{EndsBefore, KeepersAreByEnd}
use Rattle.linear_scan_spec.proofs.Order.{each-any}
use Rattle.linear_scan_spec.proofs.Keepers.{Each-weaker, Each-alive, Each-insert, Each-but_last, Pairs-alive}
use Rattle.linear_scan_spec.proofs.Keepers.{Pairs-but_last}

-- k was visited before an interval
abbrev Earlier : Interval → Keeper → Type 0
Earlier x k = Before k.interval x

insert-by-end : (k : Keeper) (ks : List Keeper) → Each (Earlier k.interval) ks → Pairs EndsBefore ks →
    Pairs EndsBefore (insert k ks)
insert-by-end k [] e h = (tt, tt)
insert-by-end k (u ∷ us) e h =
    by-case (ltb k.interval.end u.interval.end) refl (insert-by-end k us e.1 h.1)
  where
    later : k.interval.end < u.interval.end → (v : Keeper) → EndsBefore u v → EndsBefore k v
    later l v (inl f) = inl (omega arith)
    later l v (inr f) = inl (omega (arith, f.0))

    before : u.interval.end ≤ k.interval.end → EndsBefore u k
    before l = by-end (cases_lt u.interval.end k.interval.end)
      where
        by-end : (u.interval.end < k.interval.end) ⊎ (k.interval.end ≤ u.interval.end) → EndsBefore u k
        by-end (inl f) = inl f
        by-end (inr f) = inr (omega arith, e.0)

    by-case : (b : Bool) → ltb k.interval.end u.interval.end ≡ b → Pairs EndsBefore (insert k us) →
        Pairs EndsBefore (cond b (k ∷ u ∷ us) (u ∷ insert k us))
    by-case true t r =
        let l : k.interval.end < u.interval.end = grind (arith, nat_tests) in
        ((inl l, Each-weaker (EndsBefore u) (EndsBefore k) (later l) us h.0), h)
    by-case false t r =
        let l : u.interval.end ≤ k.interval.end = grind (arith, nat_tests) in
        (Each-insert (EndsBefore u) k us (before l) h.0, r)

-- the keepers stand so, and each was visited before all intervals to come
record Standing (s : ScanState) (rest : List Interval) : Type 0 where
  by_end : Pairs EndsBefore s.keepers
  earlier : Each (λ k. Each (Before k.interval) rest) s.keepers

module _ (x : Interval) (xs : List Interval) (later : Each (Before x) xs) where
  abbrev AllEarlier : List Keeper → Type 0
  AllEarlier ks = Each (λ k. Before k.interval x × Each (Before k.interval) xs) ks

  kept : (others numbered : List Keeper) (spilled : List Interval) → Pairs EndsBefore others → AllEarlier others →
      Standing (keep x others numbered spilled) xs
  kept others numbered spilled h e =
      record {
        by_end =
            insert-by-end _ others
            (Each-weaker (λ k. Before k.interval x × Each (Before k.interval) xs) (Earlier x) (λ k f. f.0) others e) h;
        earlier =
            Each-insert (λ k. Each (Before k.interval) xs) _ others later
            (Each-weaker (λ k. Before k.interval x × Each (Before k.interval) xs) (λ k. Each (Before k.interval) xs)
            (λ k f. f.1) others e);
      }

  visited : (s : ScanState) → Standing s (x ∷ xs) → Standing (visit s x) xs
  visited s p = by-few (ltb (length live) 12)
    where
      live : List Keeper
      live = alive x.start s.keepers

      h : Pairs EndsBefore live
      h = Pairs-alive EndsBefore x.start s.keepers p.by_end

      e : AllEarlier live
      e = Each-alive (λ k. Before k.interval x × Each (Before k.interval) xs) x.start s.keepers p.earlier

      stays : Standing (record { keepers = live; numbered = s.numbered; spilled = x ∷ s.spilled }) xs
      stays =
          record {
            by_end = h;
            earlier =
                Each-weaker (λ k. Before k.interval x × Each (Before k.interval) xs) (λ k. Each (Before k.interval) xs)
                (λ k f. f.1) live e;
          }

      by-crowd : (o : Option Keeper) → Standing (crowd x live o s) xs
      by-crowd None = kept live s.numbered s.spilled h e
      by-crowd (Some w) = by-end (ltb x.end w.interval.end)
        where
          by-end : (b : Bool) → Standing (cond b (keep x (but_last live) s.numbered (w.interval ∷ s.spilled))
              (record { keepers = live; numbered = s.numbered; spilled = x ∷ s.spilled })) xs
          by-end true =
              kept (but_last live) s.numbered (w.interval ∷ s.spilled) (Pairs-but_last EndsBefore live h)
              (Each-but_last (λ k. Before k.interval x × Each (Before k.interval) xs) live e)
          by-end false = stays

      by-few : (b : Bool) → Standing (cond b (keep x live s.numbered s.spilled) (crowd x live (last_of live) s)) xs
      by-few true = kept live s.numbered s.spilled h e
      by-few false = by-crowd (last_of live)

all-visited : (xs : List Interval) (s : ScanState) → Sorted xs → Standing s xs → Standing (visit_all s xs) []
all-visited [] s o p = p
all-visited (x ∷ xs) s o p =
    all-visited xs (visit s x) o.1 (visited x xs (each-any (Before x) (Before x) (λ y h. h) xs o.0) s p)

pub keepers-are-by-end : KeepersAreByEnd
keepers-are-by-end xs s =
    (all-visited xs (record { keepers = []; numbered = []; spilled = [] }) s.sorted
    (record { by_end = tt; earlier = tt })).by_end
