-- Linear scan: which intervals are given one of twelve numbers, and which number. A number stands for a register of
-- the machine; an interval that is spilled has a slot of the frame instead.
-- The scan is that of Poletto and Sarkar (Linear Scan Register Allocation, TOPLAS 21(5), 1999), who spill the interval
-- that ends last. That of equal ends the one visited last is spilled, that an interval holds its number up to and
-- with its last op, and that a new one takes the least number that is free, are this project's own rules.
use Rattle.std.specs.Prelude.{ℕ, zero, suc, ◌==◌, nat_lt, nat_le, List, [], ◌∷◌, ◌++◌, Option, Some, None, length}
use Rattle.std.specs.Prelude.{if◌then◌else◌, map, filter}
use Rattle.std.specs.List.{list_any}
use Rattle.icode_ops.specs.declared.interval.Interval.{Interval}

-- an interval that holds a number
pub record Keeper : Type 0 where
  pub number : ℕ
  pub interval : Interval

-- where the visits of intervals stand
pub record ScanState : Type 0 where
  -- the keepers by end, and of equal ends in the order of their visits
  pub keepers : List Keeper
  -- each interval that was ever given a number, with that number, the newest first
  pub numbered : List Keeper
  -- each interval that was spilled, the newest first
  pub spilled : List Interval

-- the keepers that do not end before the start
abbrev pub alive : ℕ → List Keeper → List Keeper
alive start ks = filter (λ k. nat_le start k.interval.end) ks

-- the keepers with one more, which goes before the first that ends later
abbrev pub insert : Keeper → List Keeper → List Keeper
insert k [] = k ∷ []
insert k (u ∷ us) = if nat_lt k.interval.end u.interval.end then k ∷ u ∷ us else u ∷ insert k us

-- the numbers that keepers hold
abbrev pub numbers : List Keeper → List ℕ
numbers ks = map (λ k. k.number) ks

-- the least number from n on that is not taken, or n + fuel where the numbers up to it are
unfoldable pub least_free : ℕ → ℕ → List ℕ → ℕ
least_free zero n taken = n
least_free (suc fuel) n taken =
    if list_any (λ t. n == t) taken then least_free fuel (suc n) taken else n

-- the keeper with the greatest end, and of equal ends the one visited last
abbrev pub last_of : List Keeper → Option Keeper
last_of [] = None
last_of (k ∷ []) = Some k
last_of (_ ∷ u ∷ us) = last_of (u ∷ us)

-- the others
abbrev pub but_last : List Keeper → List Keeper
but_last [] = []
but_last (k ∷ []) = []
but_last (k ∷ u ∷ us) = k ∷ but_last (u ∷ us)

-- x becomes a keeper beside others, and takes the least number that none of them holds
abbrev pub keep : Interval → List Keeper → List Keeper → List Interval → ScanState
keep x others numbered spilled =
    let k : Keeper = record { number = least_free 12 0 (numbers others); interval = x } in
    record { keepers = insert k others; numbered = k ∷ numbered; spilled = spilled }

-- x comes to twelve keepers, of which w ends last: of the thirteen, the one with the greatest end is spilled, and of
-- equal ends the one visited last
abbrev pub crowd : Interval → List Keeper → Option Keeper → ScanState → ScanState
crowd x live None s = keep x live s.numbered s.spilled
crowd x live (Some w) s =
    if nat_lt x.end w.interval.end
    then keep x (but_last live) s.numbered (w.interval ∷ s.spilled)
    else record { keepers = live; numbered = s.numbered; spilled = x ∷ s.spilled }

-- x comes to the keepers that are still alive
abbrev pub visit_live : Interval → List Keeper → ScanState → ScanState
visit_live x live s =
    if nat_lt (length live) 12 then keep x live s.numbered s.spilled else crowd x live
    (last_of live) s

-- the visit of x
abbrev pub visit : ScanState → Interval → ScanState
visit s x = visit_live x (alive x.start s.keepers) s

-- the visits of intervals, one after the other
abbrev pub visit_all : ScanState → List Interval → ScanState
visit_all s [] = s
visit_all s (x ∷ xs) = visit_all (visit s x) xs

-- the scan of intervals
abbrev pub scan : List Interval → ScanState
scan xs = visit_all (record { keepers = []; numbered = []; spilled = [] }) xs

-- the number that a register's interval was given, or 12 where it was given none
abbrev pub number_of : ℕ → List Keeper → ℕ
number_of reg [] = 12
number_of reg (k ∷ ks) = if reg == k.interval.reg then k.number else number_of reg ks

-- the place of a register: the number of its interval, or 12 where that is spilled or there is none
abbrev pub place : ℕ → ScanState → ℕ
place reg s = if list_any (λ x. reg == x.reg) s.spilled then 12 else number_of reg s.numbered

-- the places of the registers below the count
unfoldable pub places_of : ℕ → List Interval → List ℕ
places_of zero xs = []
places_of (suc reg) xs = places_of reg xs ++ place reg (scan xs) ∷ []
