use Rattle.std.proofs.Common.{Ok, ap, sym, ◌∙◌}
use Rattle.mips_encoder.specs.Table.{word_of}
use Rattle.asm_passes.specs.declared.item.Item.TheVariants as item
use Rattle.asm_passes.specs.Instructions.{◌>>=◌, pure}
use Rattle.asm_passes.specs.Values as spec
use Rattle.asm_passes.proofs.survey.Survey.item_of.Goals as goal

pub returns-in_ok-instruction_of-in-Instruction-clause-value :
    goal.returns-in_ok-instruction_of-in-Instruction-clause-value
returns-in_ok-instruction_of-in-Instruction-clause-value c =
    ap (λ w. Ok (item.Word w)) c.encode.ensures.word
    ∙ ap (λ r. r >>= (λ i. pure (item.Word (word_of i)))) c.in_ok-instruction_of-in-Instruction.ensures
    ∙ ap (spec.item_of (spec.known_by c.args.self.now.labels c.args.self.now.words) c.args.at) (sym c.in-Instruction.is)
