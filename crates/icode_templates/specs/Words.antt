-- The words of a list of instructions.
use Rattle.std.specs.Prelude.{ℕ, List, [], ◌∷◌}
use Rattle.mips_encoder.specs.Table.{word_of}
use Rattle.mips_encoder.specs.declared.instruction.Instr.{Instr}

abbrev pub words : List Instr → List ℕ
words [] = []
words (i ∷ is) = word_of i ∷ words is
