-- The faults of assembly texts: the number and the name of each. The list is this project's own rule; on one line the
-- lower number counts.
use Rattle.std.specs.Prelude.{ℕ, List, codes}
use Rattle.asm_passes.specs.declared.fault.AsmFaultKind.{AsmFaultKind}
use Rattle.asm_passes.specs.declared.fault.AsmFaultKind.TheVariants.{BadLine, BadNumber, UnknownLabel, DoubleLabel}

-- a fault's number
abbrev pub number : AsmFaultKind → ℕ
number BadLine = 1
number BadNumber = 2
number UnknownLabel = 3
number DoubleLabel = 4

-- a fault's name
abbrev pub name : AsmFaultKind → List ℕ
name BadLine = codes "BadLine"
name BadNumber = codes "BadNumber"
name UnknownLabel = codes "UnknownLabel"
name DoubleLabel = codes "DoubleLabel"
