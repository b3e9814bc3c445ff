-- Basic blocks: runs of ops that control enters at the first and leaves at the last. A block is named by its first op.
-- That blocks end where ops go to a label, and begin where a label stands, is the usual rule (Aho, Sethi, Ullman).
use Rattle.std.specs.Prelude.{ℕ, zero, suc, ◌≡◌, ◌<◌, ◌≤◌, ◌&&◌, Bool, true, false, List, Option, Some, None}
use Rattle.std.specs.Prelude.{if◌then◌else◌}
use Rattle.icode_ops.specs.declared.op.Op.{Op}
use Rattle.icode_ops.specs.Flow.{defines, uses, falls, goes_to, label_of, op_at, Follows}
use Rattle.icode_ops.specs.Live.{Live}

abbrev pub is_none : Option ℕ → Bool
is_none None = true
is_none (Some x) = false

-- control goes from the op before only to the op, and comes to it only from there
abbrev pub joins : Op → Op → Bool
joins before op = falls before && (is_none (goes_to before) && is_none (label_of op))

-- the first op of the block of op p
abbrev pub block_of : List Op → ℕ → ℕ
block_of ops zero = zero
block_of ops (suc p) = if joins (op_at ops p) (op_at ops (suc p)) then block_of ops p else suc p

-- no op from a to b, without b, defines v
abbrev pub Clear : List Op → ℕ → ℕ → ℕ → Type 0
Clear ops v a b = (d : ℕ) → a ≤ d → d < b → defines v (op_at ops d) ≡ false

-- an op of the block defines v
abbrev pub DefinedIn : List Op → ℕ → ℕ → Type 0
DefinedIn ops v b = (d : ℕ) × (block_of ops d ≡ b) × (defines v (op_at ops d) ≡ true)

-- op p uses v, and nothing in its block before it defines v
abbrev pub Exposed : List Op → ℕ → ℕ → Type 0
Exposed ops v p = (uses v (op_at ops p) ≡ true) × Clear ops v (block_of ops p) p

-- v is live before an op that follows on p
abbrev pub LiveAfter : List Op → ℕ → ℕ → Type 0
LiveAfter ops v p = (q : ℕ) × Follows ops p q × Live ops v q
