-- Where a label stands in a list of ops.
use Rattle.std.specs.Prelude.{ℕ, zero, suc, if◌then◌else◌, List, [], ◌∷◌}
use Rattle.icode_ops.specs.Flow.{label_of, holds}
use Rattle.icode_ops.specs.declared.op.Op.{Op}

-- the index of the op at which the label stands: the first that is it, or the number of ops where none is
abbrev pub label_index : ℕ → List Op → ℕ
label_index label [] = 0
label_index label (op ∷ ops) = if holds label (label_of op) then 0 else suc (label_index label ops)
