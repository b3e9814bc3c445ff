-- How the scanner's tables hold the state of the scan: a row of numbers by their intervals' ends, the register that
-- owns each number, and the places as far as they are known. These are this crate's own invariants.
use Rattle.std.specs.Prelude.{ℕ, ◌≡◌, ◌≢◌, ◌<◌, ◌≤◌, nat_lt, List, [], ◌∷◌, length, map, slice_index, false, ◌==◌}
use Rattle.std.specs.Prelude.{if◌then◌else◌}
use Rattle.std.specs.List.{list_any}
use Rattle.linked_row.specs.Sorted.{SortedList}
use Rattle.icode_ops.specs.declared.interval.Interval.{Interval}
use Rattle.linear_scan_spec.specs.Lists.{Each, Pairs}
use Rattle.linear_scan_spec.specs.Scan.{Keeper, ScanState, place}

-- the ids of a row
abbrev pub ids : List (ℕ × ℕ) → List ℕ
ids items = map (λ p. p.0) items

-- the entries from the first that does not end before the start
abbrev pub from_end : ℕ → List (ℕ × ℕ) → List (ℕ × ℕ)
from_end start [] = []
from_end start (p ∷ ps) = if nat_lt p.1 start then from_end start ps else p ∷ ps

-- no id stands twice
abbrev pub ApartIds : List (ℕ × ℕ) → Type 0
ApartIds items = Pairs (λ p q. p.0 ≢ q.0) items

-- the row of keepers: their numbers, by their ends
abbrev pub pairs : List Keeper → List (ℕ × ℕ)
pairs ks = map (λ k. (k.number, k.interval.end)) ks

-- the row, the owners and the places are those of s
pub record Holds (s : ScanState) (row : SortedList) (owners places : List ℕ) : Type 0 where
  pub room : 13 ≤ row.room
  pub items : row.items ≡ pairs s.keepers
  pub owners_length : 13 ≤ length owners
  pub owned : Each (λ k. slice_index owners k.number ≡ k.interval.reg) s.keepers
  pub placed : (r : ℕ) → r < length places → slice_index places r ≡ place r s
  pub few : length s.keepers ≤ 12
  pub ordered : Pairs (λ k u. k.interval.end ≤ u.interval.end) s.keepers
  pub differ : Pairs (λ k u. u.number ≢ k.number) s.keepers
  pub low : Each (λ k. k.number < 12) s.keepers
  pub regs : Each (λ k. k.interval.reg < length places) s.keepers

-- no earlier interval has the register of x
pub record IsFresh (x : Interval) (s : ScanState) : Type 0 where
  pub keepers : Each (λ k. k.interval.reg ≢ x.reg) s.keepers
  pub spilled : list_any (λ d. x.reg == d.reg) s.spilled ≡ false
