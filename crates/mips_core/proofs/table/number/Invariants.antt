use Rattle.std.proofs.Common.{◌≡◌, map, take}
use Rattle.code_arena.specs.Kept.{rows_of}
use Rattle.code_arena.specs.Rows as rows
use Rattle.mips_model.specs.Run.{row_of}
use Rattle.mips_core.proofs.table.number.Given as goal

abbrev pub invariant-loop-i : goal.invariant-loop-i
invariant-loop-i l = rows_of l.table ≡ rows.numbered (map row_of (take l.i l.functions))
