-- The value of an operator on words, where it has one: a division that would trap has none. The values and the traps
-- are those of a run.
use Rattle.std.specs.Prelude.{ℕ, Option, Some, None}
use Rattle.host_edge.specs.declared.ending.TrapKind.{TrapKind}
use Rattle.icode_ops.specs.declared.kind.BinKind.{BinKind}
use Rattle.meaning_state.specs.Operators.{bin_value, bin_trap}

abbrev pub unless_trap : Option TrapKind → ℕ → Option ℕ
unless_trap None value = Some value
unless_trap (Some trap) value = None

-- the value of an operator on two words, where it doesn't trap
abbrev pub binary : BinKind → ℕ → ℕ → Option ℕ
binary k a b = unless_trap (bin_trap k a b) (bin_value k a b)
