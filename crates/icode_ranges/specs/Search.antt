-- What a step of the search for the blocks that a register is live into adds to what was found.
use Rattle.std.specs.Prelude.{ℕ, ◌/◌, ◌≡◌, ◌<◌, ◌≤◌, ◌⊎◌, Bool, true, false, List, Option, Some, None}
use Rattle.collections.specs.Members.{is_in}
use Rattle.icode_ops.specs.declared.op.Op.{Op}
use Rattle.icode_ops.specs.declared.interval.Interval.{Interval}
use Rattle.icode_ops.specs.Flow.{op_at, Follows}
use Rattle.icode_ops.specs.Live.{IsAt, IsInterval}
use Rattle.icode_ranges.specs.Lists.{In, Each, Extends}
use Rattle.icode_ranges.specs.Blocks.{block_of, DefinedIn}

-- the members are the blocks that define v
pub record AreDefining (ops : List Op) (v : ℕ) (members : List ℕ) : Type 0 where
  pub sound : (b : ℕ) → is_in b members ≡ true → DefinedIn ops v b
  pub complete : (b : ℕ) → DefinedIn ops v b → is_in b members ≡ true

-- op p, after which a register is live, is in the range, and so is its block found where that doesn't define it
abbrev pub Taken : List Op → List ℕ → List ℕ → Interval → ℕ → Type 0
Taken ops defining found x p =
    (p ≤ x.end) × (is_in (block_of ops p) defining ≡ false → In (block_of ops p) found)

-- the block of an op that is Q, one that isn't defining
abbrev pub BlockOf : (ℕ → Type 0) → List Op → List ℕ → ℕ → Type 0
BlockOf Q ops defining b = (p : ℕ) × Q p × (block_of ops p ≡ b) × (is_in b defining ≡ false)

-- the range grew by ops that are Q
pub record Wider (Q : ℕ → Type 0) (old new : Interval) : Type 0 where
  pub reg : new.reg ≡ old.reg
  pub low : new.start ≤ old.start
  pub high : old.end ≤ new.end
  pub start : (new.start ≡ old.start) ⊎ Q new.start
  pub end : (new.end ≡ old.end) ⊎ Q new.end

-- the range and what was found grew by ops that are Q
pub record Grown (Q : ℕ → Type 0) (ops : List Op) (defining : List ℕ) (old new : Interval) (found more : List ℕ) :
    Type 0 where
  pub range : Wider Q old new
  pub blocks : Extends (BlockOf Q ops defining) found more

-- the place of one of the slots
abbrev pub PlaceOf : List ℕ → ℕ → Type 0
PlaceOf slots p = (slot : ℕ) × In slot slots × (slot / 3 ≡ p)

-- the block of one of the slots
abbrev pub BlockIn : List Op → List ℕ → ℕ → Type 0
BlockIn ops slots b = (slot : ℕ) × In slot slots × (block_of ops (slot / 3) ≡ b)

-- the interval of v; none where v is at no op
abbrev pub IsIntervalOf : List Op → ℕ → Option Interval → Type 0
IsIntervalOf ops v None = (p : ℕ) → IsAt ops v p → ⊥
IsIntervalOf ops v (Some x) = (x.reg ≡ v) × IsInterval ops v x.start x.end
