-- The words of two stretches of code are those of the first and then those of the second.
use Rattle.std.proofs.Common.{ℕ, ◌≡◌, List, [], ◌∷◌, ◌++◌, refl, ap}
use Rattle.mips_encoder.specs.Table.{word_of}
use Rattle.mips_encoder.specs.declared.instruction.Instr.{Instr}
use Rattle.icode_templates.specs.Words.{words}

pub words_append : (xs ys : List Instr) → words (xs ++ ys) ≡ words xs ++ words ys
words_append [] ys = refl
words_append (x ∷ xs) ys = ap (λ (ws : List ℕ). word_of x ∷ ws) (words_append xs ys)
