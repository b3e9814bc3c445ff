use Rattle.std.proofs.Common.{append_assoc}
use Rattle.static_image.proofs.start.set_up.Goals as goal

pub returns-clause-words : goal.returns-clause-words
returns-clause-words c =
    simp (
      c.set_cell-4.ensures.words,
      c.set_cell-3.ensures.words,
      c.set_cell-2.ensures.words,
      c.set_cell.ensures.words,
      c.push-3.ensures.words,
      c.push-2.ensures.words,
      c.push.ensures.words,
      c.lui-3.ensures,
      c.lui-2.ensures,
      c.lui.ensures,
      append_assoc,
    )
