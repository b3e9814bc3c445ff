use Rattle.std.proofs.Common.{arith, ◌++◌, ◌∙◌, ap}
use Rattle.image_file.proofs.Words.{big_words}
use Rattle.image_file.proofs.writer.push_chunk.Goals as goal

pub returns-clause-words : goal.returns-clause-words
returns-clause-words c =
    let same = big_words c.args.words.now (λ i. omega (arith, c.type_inv.words i)) in
    c.in_ok-extend_from_slice.ensures.items
    ∙ ap (λ bytes. c.args.out.now.items ++ bytes) (c.write_u32_into.ensures ∙ same)
