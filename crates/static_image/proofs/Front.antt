-- The words of the start, as they are written.
use Rattle.std.proofs.Common.{◌≡◌, ℕ, ◌-◌, ◌≤◌, List, ◌++◌, length, drop, ap, ◌∙◌, replicate}
use Rattle.std.proofs.lemmas.List.{drop-replicate}
use Rattle.mips_encoder.specs.Table.{word_of}
use Rattle.mips_assembly.specs.Assembly.{nop}
use Rattle.icode_expand.specs.Labels.{spliced}
use Rattle.icode_expand.proofs.Spliced.{spliced_front}
use Rattle.routine_spec.specs.Blocks.{filled}

-- words at the front of a block of nop
pub one_block : (code all : List ℕ) → all ≡ replicate 64 (word_of nop) → spliced all 0 code ≡ filled code
one_block code all is =
    spliced_front all code ∙ ap (λ (xs : List ℕ). code ++ drop (length code) xs) is
    ∙ ap (λ (xs : List ℕ). code ++ xs) (drop-replicate (length code) 64 (word_of nop))
