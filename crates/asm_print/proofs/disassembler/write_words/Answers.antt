use Rattle.std.proofs.Common.{rules, ◌∙◌}
use Rattle.asm_print.specs.Text as spec
use Rattle.asm_print.proofs.Fronts.{front_turn, at_error}
use Rattle.asm_print.proofs.disassembler.write_words.Goals as goal

pub returns-in_err-write_whole-clause-front : goal.returns-in_err-write_whole-clause-front
returns-in_err-write_whole-clause-front g c =
    at_error c.from_residual.result
    (front_turn _ _ _ spec.word_line c.args.words.now c.loop-word.word-index 0 c.as_bytes.result.now (search rules)
    c.loop-word.invariant.taken (c.as_bytes.ensures ∙ c.word_line.ensures) c.in_err-write_whole.ensures.front)
