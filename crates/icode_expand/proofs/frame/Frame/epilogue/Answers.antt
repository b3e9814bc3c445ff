use Rattle.std.proofs.Common.{append_assoc}
use Rattle.icode_templates.proofs.Appended.{words_append}
use Rattle.icode_expand.proofs.frame.Frame.epilogue.Goals as goal

pub returns-clause-words : goal.returns-clause-words
returns-clause-words c =
    simp (
      c.free_frame.ensures.words,
      c.free_objects.ensures.words,
      c.push.ensures.words,
      c.lw.ensures,
      c.restore.ensures.words,
      c.leave_count.ensures.words,
      c.new-code.ensures,
      words_append,
      append_assoc,
    )
