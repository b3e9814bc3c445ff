-- The choice of places that a function is finished with: a place for each of its registers, and how many registers
-- that have an interval were given a slot. A run is defined where the places are legal, whatever is counted; the choice
-- that the code makes is that of linear scan over the intervals of the function's ops.
use Rattle.std.specs.Prelude.{ℕ, ◌+◌, ◌≡◌, nat_eq, List, [], ◌∷◌, slice_index, if◌then◌else◌}
use Rattle.icode_ops.specs.declared.op.Op.{Op}
use Rattle.icode_ops.specs.declared.interval.Interval.{Interval}
use Rattle.icode_ops.specs.Live.{AreIntervals}
use Rattle.linear_scan_spec.specs.Scan.{places_of}

pub record Choice : Type 0 where
  pub places : List ℕ
  pub spills : ℕ

-- a slot counts as one, a register of the machine as none
abbrev pub one_spill : ℕ → ℕ
one_spill place = if nat_eq place 12 then 1 else 0

-- how many of the intervals are of a register that has a slot
abbrev pub spilled : List ℕ → List Interval → ℕ
spilled places [] = 0
spilled places (x ∷ xs) = one_spill (slice_index places x.reg) + spilled places xs

-- the places of linear scan, and their slots counted
pub record IsScanned (ops : List Op) (registers : ℕ) (choice : Choice) : Type 0 where
  pub intervals : List Interval
  pub found : AreIntervals ops intervals
  pub same : choice.places ≡ places_of registers intervals
  pub counted : choice.spills ≡ spilled choice.places intervals
