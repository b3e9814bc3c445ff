-- How two vectors keep a set: the first `count` members are the set, and the position of each leads
-- back to it. This is the representation of Briggs and Torczon ("An efficient representation for
-- sparse sets", 1993).
use Rattle.std.specs.Prelude.{ℕ, ◌≡◌, ◌<◌, ◌≤◌, List, length, slice_index}

pub record IsSparse (count : ℕ) (members positions : List ℕ) : Type 0 where
  pub room : length members ≡ length positions
  pub low : length positions < 4294967296
  pub within : count ≤ length members
  pub below : (i : ℕ) → i < count → slice_index members i < length positions
  pub back : (i : ℕ) → i < count → slice_index positions (slice_index members i) ≡ i
