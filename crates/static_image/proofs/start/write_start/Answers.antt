use Rattle.std.proofs.Common.{◌≡◌, ℕ, List, ap, ◌∙◌, append_assoc, replicate}
use Rattle.mips_encoder.specs.Table.{word_of}
use Rattle.icode_templates.specs.Words.{words}
use Rattle.icode_expand.specs.Labels.{spliced}
use Rattle.static_image.specs.Layout.{start_code}
use Rattle.static_image.proofs.Front.{one_block}
use Rattle.static_image.proofs.start.write_start.Goals as goal

pub returns : goal.returns
returns c =
    let code : c.exit_with_answer.new.code ≡ words (start_code c.args.main c.args.functions) =
    simp (
      c.exit_with_answer.ensures.words,
      c.push-2.ensures.words,
      c.push.ensures.words,
      c.set_up.ensures.words,
      c.new-code.ensures,
      c.jal.ensures,
      c.nop.ensures,
      append_assoc,
    ) in
    let word = c.encode.ensures.word ∙ ap word_of c.nop-2.ensures in
    let all = c.fill.ensures.after (λ y e. e) ∙ ap (λ (n : ℕ). replicate n c.encode.result) c.requires.room ∙
    ap (λ (w : ℕ). replicate 64 w) word in
    c.write_words.ensures
    ∙ ap (λ (xs : List ℕ). spliced c.fill.new.self 0 xs) (c.words.ensures ∙ code)
    ∙ one_block (words (start_code c.args.main c.args.functions)) c.fill.new.self all
