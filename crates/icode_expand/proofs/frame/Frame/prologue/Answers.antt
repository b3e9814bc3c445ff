use Rattle.std.proofs.Common.{append_assoc}
use Rattle.icode_templates.proofs.Appended.{words_append}
use Rattle.icode_expand.proofs.frame.Frame.prologue.Goals as goal

pub returns-clause-words : goal.returns-clause-words
returns-clause-words c =
    simp (
      c.take_objects.ensures.words,
      c.enter_count.ensures.words,
      c.save.ensures.words,
      c.take_frame.ensures.words,
      c.new-code.ensures,
      words_append,
      append_assoc,
    )
