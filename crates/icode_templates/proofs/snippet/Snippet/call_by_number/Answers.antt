use Rattle.std.proofs.Common.{append_assoc}
use Rattle.icode_templates.proofs.Appended.{words_append}
use Rattle.icode_templates.proofs.snippet.Snippet.call_by_number.Goals as goal

pub returns-clause-words : goal.returns-clause-words
returns-clause-words c =
    simp (
      c.push-2.ensures.words,
      c.push.ensures.words,
      c.count_check.ensures.words,
      c.number_row.ensures.words,
      c.bring_in.ensures.words,
      c.jalr_of_t8.ensures,
      c.nop.ensures,
      words_append,
      append_assoc,
    )
