-- What contracts see of the forms in memory: the bytes that they hold, which of their calls fail, and how far
-- their counts are. Tests and examples stand on these forms, so each call is pinned exactly; at which calls
-- they fail is whatever list they were made with.
use Rattle.std.specs.Prelude.{ℕ, ◌+◌, ◌-◌, ◌^◌, Bool, min, max, List, length, ◌==◌, ◌||◌, nat_lt, if◌then◌else◌}
use Rattle.std.specs.List.{list_any}

-- the number of the next call, the numbers at which calls fail, and the count of faults
pub record CallPlan : Type 0 where
  pub number : ℕ
  pub fails : List ℕ
  pub faults : ℕ

-- before the first call
abbrev pub planned : List ℕ → CallPlan
planned numbers = record { number = 0; fails = numbers; faults = 0 }

-- one more, up to 18,446,744,073,709,551,615, where the counts' type ends
abbrev pub one_more : ℕ → ℕ
one_more n = max n (min (n + 1) (2 ^ 64 - 1))

-- the next call is one that fails
abbrev pub next_fails : CallPlan → Bool
next_fails plan = list_any (λ n. n == plan.number) plan.fails

-- a source in memory: the bytes left
pub record SourceView : Type 0 where
  pub left : List ℕ
  pub calls : CallPlan

-- a sink in memory: the bytes taken, how many more it has room for, and whether it takes one at a time
pub record SinkView : Type 0 where
  pub taken : List ℕ
  pub free : ℕ
  pub single : Bool
  pub calls : CallPlan

-- how many bytes of a piece the sink takes
abbrev pub portion : SinkView → List ℕ → ℕ
portion s piece = if s.single then min (length piece) 1 else length piece

-- a write of this piece fails: it is listed, or there is no room
abbrev pub write_fails : SinkView → List ℕ → Bool
write_fails s piece = next_fails s.calls || nat_lt s.free (portion s piece)

-- a call more, without a fault
abbrev pub counted : CallPlan → CallPlan
counted plan = record plan { number = one_more plan.number }

-- a call more, with one
abbrev pub failed : CallPlan → CallPlan
failed plan = record plan { number = one_more plan.number; faults = one_more plan.faults }
