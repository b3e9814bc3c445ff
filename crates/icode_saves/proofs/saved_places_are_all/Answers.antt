use Rattle.icode_saves.proofs.Kept.{saved_are}
use Rattle.icode_saves.proofs.saved_places_are_all.Goals as goal

pub returns : goal.returns
returns c = saved_are
