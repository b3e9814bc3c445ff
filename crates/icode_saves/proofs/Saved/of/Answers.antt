use Rattle.icode_saves.proofs.Marked.{marks_are}
use Rattle.icode_saves.proofs.Saved.of.Goals as goal

pub returns : goal.returns
returns c = marks_are _ _ c.used_places.ensures
