-- What the scan of places promises: an interval is spilled only where twelve others crowd it out, two intervals that
-- overlap never share a number, and so the places are legal for the ops whose intervals were scanned. The first is
-- the cause of a spill that Poletto and Sarkar give (TOPLAS 21(5), 1999); the others say that the scan is correct.
use Rattle.std.specs.Prelude.{ℕ, ◌≡◌, ◌≢◌, ◌<◌, ◌≤◌, ◌⊎◌, List, [], ◌∷◌, length}
use Rattle.icode_ops.specs.declared.interval.Interval.{Interval}
use Rattle.icode_ops.specs.declared.op.Op.{Op}
use Rattle.icode_ops.specs.Live.{In, Each, Before, Sorted, AreIntervals}
use Rattle.icode_ops.specs.Finished.{IsFinished}
use Rattle.icode_ops.specs.Places.{IsLegal}
use Rattle.linear_scan_spec.specs.Lists.{Pairs}
use Rattle.linear_scan_spec.specs.Scan.{Keeper, scan, place, places_of}

-- no two intervals are of one register
abbrev pub Apart : List Interval → Type 0
Apart [] = Unit {0}
Apart (x ∷ xs) = Each (λ y. y.reg ≢ x.reg) xs × Apart xs

-- intervals that can be scanned: by start, then by register; none ends before its start; no two of one register
pub record AreScannable (xs : List Interval) : Type 0 where
  pub sorted : Sorted xs
  pub whole : Each (λ x. x.start ≤ x.end) xs
  pub apart : Apart xs

-- the interval has this point
abbrev pub Covers : ℕ → Interval → Type 0
Covers point x = (x.start ≤ point) × (point ≤ x.end)

-- a point of v that twelve others of the intervals also have, each of which ends no later than v
pub record IsCrowded (xs : List Interval) (v : Interval) : Type 0 where
  pub point : ℕ
  pub others : List Interval
  pub own : Covers point v
  pub twelve : length others ≡ 12
  pub covered : Each (Covers point) others
  pub no_later : Each (λ y. y.end ≤ v.end) others
  pub apart : Apart (v ∷ others)
  pub theirs : Each (λ y. In y xs) others

-- k ends before u, or with it and was visited before it
abbrev pub EndsBefore : Keeper → Keeper → Type 0
EndsBefore k u =
    (k.interval.end < u.interval.end) ⊎
    ((k.interval.end ≡ u.interval.end) × Before k.interval u.interval)

-- after the visits of any intervals the keepers stand by their ends, and those with equal ends in the order of their
-- visits: so the last of them is the one with the greatest end, and of equal ends the one visited last
abbrev pub KeepersAreByEnd : Type 0
KeepersAreByEnd = (xs : List Interval) → AreScannable xs → Pairs EndsBefore (scan xs).keepers

-- an interval whose register has a slot is crowded out by twelve others
abbrev pub SpillsAreCrowded : Type 0
SpillsAreCrowded =
    (xs : List Interval) → AreScannable xs →
    (x : Interval) → In x xs → place x.reg (scan xs) ≡ 12 → IsCrowded xs x

-- two intervals with one place below 12 do not overlap
abbrev pub PlacesAreApart : Type 0
PlacesAreApart =
    (xs : List Interval) → AreScannable xs →
    (x y : Interval) → In x xs → In y xs → x.reg ≢ y.reg →
    place x.reg (scan xs) ≡ place y.reg (scan xs) → place x.reg (scan xs) < 12 →
    (x.end < y.start) ⊎ (y.end < x.start)

-- the intervals of the registers of a list of ops can be scanned
abbrev pub IntervalsAreScannable : Type 0
IntervalsAreScannable = (ops : List Op) (xs : List Interval) → AreIntervals ops xs → AreScannable xs

-- the intervals of a finished list of ops are those of its registers
abbrev pub IntervalsAreInRange : Type 0
IntervalsAreInRange =
    (ops : List Op) (registers : ℕ) (xs : List Interval) → IsFinished ops registers → AreIntervals ops xs →
    Each (λ x. x.reg < registers) xs

-- the places of the intervals of a list of ops are legal for it
abbrev pub PlacesAreLegal : Type 0
PlacesAreLegal =
    (ops : List Op) (registers : ℕ) (xs : List Interval) → AreIntervals ops xs →
    IsLegal ops registers (places_of registers xs)
