-- The words of two stretches of code, for the checks of this crate.
use Rattle.std.proofs.Common.{◌≡◌, List, ◌++◌}
use Rattle.mips_encoder.specs.declared.instruction.Instr.{Instr}
use Rattle.icode_templates.specs.Words.{words}
use Rattle.icode_templates.proofs.Appended.{words_append}

pub more : (xs ys : List Instr) → words (xs ++ ys) ≡ words xs ++ words ys
more xs ys = words_append xs ys
