-- When a choice of places is legal. A place below 12 is a register of the machine, 12 is a slot of the frame.
-- Two registers may share a machine register where no definition of one can destroy a value of the other that is still
-- to be used. This is the project's own rule; each correct allocation of registers keeps it.
use Rattle.std.specs.Prelude.{ℕ, ◌≡◌, ◌≢◌, ◌<◌, ◌≤◌, Some, List, length, slice_index_or}
use Rattle.icode_ops.specs.declared.op.Op.{Op}
use Rattle.icode_ops.specs.Flow.{defined, op_at, Follows}
use Rattle.icode_ops.specs.Live.{Live}

-- the register w is live after op p
abbrev pub LiveAfter : List Op → ℕ → ℕ → Type 0
LiveAfter ops w p = (q : ℕ) × Follows ops p q × Live ops w q

-- the place of a register; a register without one has a slot
abbrev pub place_of : List ℕ → ℕ → ℕ
place_of places v = slice_index_or places v 12

-- a place for each register, each at most 12: no definition lands on a place below 12 that is also the place of
-- another register live after it, and the registers live before op 0 have different places among those below 12
pub record IsLegal (ops : List Op) (registers : ℕ) (places : List ℕ) : Type 0 where
  pub one_each : length places ≡ registers
  pub low : (v : ℕ) → place_of places v ≤ 12
  pub kept :
      (p v w : ℕ) → defined (op_at ops p) ≡ Some v → place_of places v < 12 → w ≢ v → LiveAfter ops w p →
      place_of places w ≢ place_of places v
  pub entry :
      (v w : ℕ) → w ≢ v → place_of places v < 12 → Live ops v 0 → Live ops w 0 →
      place_of places w ≢ place_of places v
